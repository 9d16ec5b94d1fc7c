use Rattle.std.proofs.Common.{ap}
use Rattle.std.proofs.lemmas.Result.{err_from_is_err_and}
use Rattle.ix_run.specs.ReplyTexts.{items_text, more_items_text}
use Rattle.ix_run.proofs.Listings.{WritesUpTo-next, WritesUpTo-part, WritesUpTo-end}
use Rattle.ix_run.proofs.Writing.{WriterAppendsPart_append}
use Rattle.ix_run.proofs.run.replies.listing.append_items.Goals as goal

pub returns-in_err-append_part : goal.returns-in_err-append_part
returns-in_err-append_part g c = λ texts yields.
    let p = err_from_is_err_and c.from_residual.result c.from_residual.ensures.1 in
    let step = yields _ _ _ c.in-Some.ensures.steps in
    let word = g.I.Item.ListedItem.text c.in-Some.first in
    let rest = more_items_text (λ t. t) (texts c.next.new.self) in
    rw (p.1, p.2, step) (c.in_err-append_part.ensures.0, WriterAppendsPart_append g.W.Write.contents c.args.replies.now c.append_part.new.self word rest c.in_err-append_part.ensures.1)

pub loop-item-init : goal.loop-item-init
loop-item-init g c =
    let goes = c.in-Some.ensures.goes.on c.requires.ends in (
      goes.0,
      goes.1,
      λ texts yields. (g.I.Item.ListedItem.text c.in-Some.first, ap (items_text (λ t. t)) (yields _ _ _ c.in-Some.ensures.steps), c.in_ok-append_part.ensures),
    )

pub loop-item-preserved : goal.loop-item-preserved
loop-item-preserved g c =
    let goes = c.in-Some-next.ensures.goes.on c.loop-item.invariant.1 in (
      goes.0,
      goes.1,
      λ texts yields.
          WritesUpTo-next g.W.Write.contents _ _ _ (g.I.Item.ListedItem.text c.in-Some-next.item) c.args.replies.now c.loop-item.replies c.append_part-in-Some-next.new.self (yields _ _ _ c.in-Some-next.ensures.steps)
          (c.loop-item.invariant.2 texts yields) c.in_ok-append_part-2.ensures,
    )

pub returns-in_err-append_part-2 : goal.returns-in_err-append_part-2
returns-in_err-append_part-2 g c = λ texts yields.
    let p = err_from_is_err_and c.from_residual-in_err-append_part-2.result c.from_residual-in_err-append_part-2.ensures.1 in
    rw (p.1, p.2) (
      c.in_err-append_part-2.ensures.0,
      WritesUpTo-part g.W.Write.contents _ _ (texts c.next-in-loop-item.new.self) (g.I.Item.ListedItem.text c.in-Some-next.item) c.args.replies.now c.loop-item.replies c.append_part-in-Some-next.new.self
          (yields _ _ _ c.in-Some-next.ensures.steps) (c.loop-item.invariant.2 texts yields) c.in_err-append_part-2.ensures.1,
    )

pub returns : goal.returns
returns g c = λ texts yields. WritesUpTo-end g.W.Write.contents _ _ c.args.replies.now c.loop-item.replies (yields _ _ _ c.in_default-next.ensures.steps) (c.loop-item.invariant.2 texts yields)

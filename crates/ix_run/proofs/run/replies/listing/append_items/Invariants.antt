use Rattle.std.proofs.Common.{ℕ, List}
use Rattle.std.specs.Iterator.{IsFinite, size}
use Rattle.ix_run.specs.ReplyTexts.{items_text}
use Rattle.ix_run.specs.inner.Listing.{YieldsTexts}
use Rattle.ix_run.proofs.Listings.{WritesUpTo}
use Rattle.ix_run.proofs.run.replies.listing.append_items.Given as goal

abbrev pub invariant-loop-item : goal.invariant-loop-item
invariant-loop-item g l =
    g.I.Iterator.can_next l.items
    × IsFinite (g.I.Iterator.remaining l.items)
    × ((texts : g.row.I.Denot → List (List ℕ)) → YieldsTexts g.I.Iterator.next_gives g.I.Item.ListedItem.text texts
    → WritesUpTo g.W.Write.contents (items_text (λ t. t) (texts l.fn.items)) (texts l.items) l.fn.replies l.replies)

abbrev pub decreases-loop-item : goal.decreases-loop-item
decreases-loop-item g l = size (g.I.Iterator.remaining l.items)

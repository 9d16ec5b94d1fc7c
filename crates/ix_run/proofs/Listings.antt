-- Items that are shown one after the other.
use Rattle.std.proofs.Common.{ℕ, ◌≡◌, List, [], ◌∷◌, ◌++◌, Option, Some, None, map, length, codes, refl, sym, ap, ◌∙◌, append_assoc, append-nil, subst}
use Rattle.std.specs.Iterator.{YieldsFirstBy}
use Rattle.std.specs.Slice.Iter.{iter_rest, iter_steps}
use Rattle.ix_run.specs.ReplyTexts.{items_text, more_items_text}
use Rattle.ix_run.specs.inner.Listing.{YieldsTexts}
use Rattle.ix_run.specs.inner.Writing.{WriterAppends, WriterAppendsPart}
use Rattle.ix_run.specs.declared.run.devices.reply_writer.ReplyWriter.{ReplyWriter}
use Rattle.ix_run.proofs.Writing.{WriterAppends-append, WriterAppendsPart-WriterAppends, WriterAppendsPart_append, WriterAppendsPart-same}

module _ {X : Type 0} (text : X → List ℕ) where
  more_items_text-map : (items : List X) → more_items_text (λ t. t) (map text items) ≡ more_items_text text items
  more_items_text-map [] = refl
  more_items_text-map (x ∷ items) = ap (λ l. codes " " ++ text x ++ l) (more_items_text-map items)

  -- the text of items by their texts
  pub items_text-map : (items : List X) → items_text (λ t. t) (map text items) ≡ items_text text items
  items_text-map [] = refl
  items_text-map (x ∷ items) = ap (λ l. text x ++ l) (more_items_text-map items)

module _ {I T X : Type 0} (view : T → X) (left : I → List X) (text : X → List ℕ) where
  -- an iterator that shows what is left yields the texts of that
  pub YieldsTexts-first : YieldsTexts (YieldsFirstBy view left) (λ item. text (view item)) (λ items. map text (left items))
  YieldsTexts-first old None new gives = ap (map text) gives.0
  YieldsTexts-first old (Some item) new gives = ap (map text) gives

no-items : {X : Type 0} (items : List X) → length items ≡ 0 → items ≡ []
no-items [] none = refl
no-items (x ∷ items) none = absurd (cc)

-- the iterator of a slice yields the texts of its items
pub YieldsTexts-slice : {X : Type 0} (text : X → List ℕ) → YieldsTexts (iter_steps {A = X}) (λ item. text item.now) (λ items. map text (iter_rest items))
YieldsTexts-slice text old None new (none, same) = ap (map text) (no-items (iter_rest old) none)
YieldsTexts-slice text old (Some item) new gives = ap (map text) gives

module _ {W : Type 0} (contents : W → Option (List ℕ)) where
  -- the text of the items is written or pending, but for that of the items that are left
  abbrev pub WritesUpTo : List ℕ → List (List ℕ) → ReplyWriter W → ReplyWriter W → Type 0
  WritesUpTo all left old new = (so_far : List ℕ) × (all ≡ so_far ++ more_items_text (λ t. t) left) × WriterAppends contents old so_far new

  items_text-next : (all so_far : List ℕ) (left rest : List (List ℕ)) (word : List ℕ) → left ≡ word ∷ rest → all ≡ so_far ++ more_items_text (λ t. t) left
      → all ≡ (so_far ++ (codes " " ++ word)) ++ more_items_text (λ t. t) rest
  items_text-next all so_far left rest word step whole =
      whole ∙ ap (λ l. so_far ++ more_items_text (λ t. t) l) step ∙ sym (append_assoc so_far (codes " " ++ word) (more_items_text (λ t. t) rest))

  -- one more item is written or pending
  pub WritesUpTo-next : (all : List ℕ) (left rest : List (List ℕ)) (word : List ℕ) (a b c : ReplyWriter W) → left ≡ word ∷ rest → WritesUpTo all left a b
      → WriterAppends contents b (codes " " ++ word) c → WritesUpTo all rest a c
  WritesUpTo-next all left rest word a b c step (so_far, whole, before) now =
      (so_far ++ (codes " " ++ word), items_text-next all so_far left rest word step whole, WriterAppends-append contents a b c so_far (codes " " ++ word) before now)

  -- the writer fails at the next item
  pub WritesUpTo-part : (all : List ℕ) (left rest : List (List ℕ)) (word : List ℕ) (a b c : ReplyWriter W) → left ≡ word ∷ rest → WritesUpTo all left a b
      → WriterAppendsPart contents b (codes " " ++ word) c → WriterAppendsPart contents a all c
  WritesUpTo-part all left rest word a b c step (so_far, whole, before) now =
      let next = so_far ++ (codes " " ++ word) in
      WriterAppendsPart-same contents a c (next ++ more_items_text (λ t. t) rest) all (items_text-next all so_far left rest word step whole)
      (WriterAppendsPart_append contents a c next (more_items_text (λ t. t) rest) (WriterAppendsPart-WriterAppends contents a b c so_far (codes " " ++ word) before now))

  -- no item is left
  pub WritesUpTo-end : (all : List ℕ) (left : List (List ℕ)) (a b : ReplyWriter W) → left ≡ [] → WritesUpTo all left a b → WriterAppends contents a all b
  WritesUpTo-end all left a b none (so_far, whole, before) =
      let same : all ≡ so_far = whole ∙ ap (λ l. so_far ++ more_items_text (λ t. t) l) none ∙ append-nil so_far in
      subst (λ l. WriterAppends contents a l b) (sym same) before

-- The item of a held place lies behind its tag. Assumes `Logic`.
--     behind, lies_behind    the offset of the item, as the code finds it and as the layout has it
--     item_apart, item_back  the item is taken out of its place, and an item is put back
use Rattle.std.proofs.Common.{◌≡◌, ℕ, ◌+◌, List, [], ◌∷◌, Option, Some, refl, sym, subst, arith}
use seplogic.Ra.Ura.{Ura}
use base.Fraction.{full_share}
use base.Fml.{fex}
use base.Logic.{SProp, ent, sep}
use mir.Syntax.{Ty, Width, w8, w16, w32, w64, w128}
use prog.Align.{align-bytes}
use prog.Memory.{align, capped, up}
use mir.Val.{Val, bytes}
use types.Kit.{mean}
use types.Logic.{Logic, sem}
use denote.Enum.Declared.{variants, intoss, tag_of}
use denote.Enum.Enum as Enum
use denote.Memory.{part_at}
use denote.Param.{param, layout}
use denote.Param.Laws.{Laws, param_laws}
use denote.RattleType.{RattleType, Valss, owns}
use denote.Struct.Field.{Field, row_field, rows}
use denote.Struct.Loose.{Looses}
use denote.Struct.Values.{Values, intos}
use borrow.Enum.Known.{at, choose}
use borrow.Enum.Lend.{kept_variant, variant_apart, variant_put}
use Rattle.core.specs.contracts.option.Option.{the_row, the_type, enum}
use Rattle.core.proofs.option.Option.TheLaws.{the_loose}

abbrev pub behind : Ty → ℕ → ℕ
behind τ o = capped (align τ) + o

pub lies_behind : (τ : Ty) (o : ℕ) → o + up (align τ) 1 ≡ behind τ o
lies_behind τ o = subst (λ (a : ℕ). o + up a 1 ≡ capped a + o) (sym (align-bytes τ)) (each _)
  where
    each : (w : Width) → o + up (bytes w) 1 ≡ capped (bytes w) + o
    each w8 = omega arith
    each w16 = omega arith
    each w32 = omega arith
    each w64 = omega arith
    each w128 = omega arith

module _ (T : RattleType) (L : Laws T) where
  abbrev pub Item : RattleType
  Item = param 0 T

  abbrev pub Place : RattleType
  Place = the_row Item

  -- the fields of a `Some`, the value that they make, what it owns, and its tag
  abbrev fields : List Field
  fields = row_field Item ∷ []

  abbrev loose : Looses fields
  loose = (the_loose Item (param_laws 0 T L)).1.0

  abbrev made : Values fields → Option Item.Denot
  made = at (enum Item) 1

  abbrev pays : (v : Values fields) (us : List Val)
      → Enum.payload (variants (the_type Item)) ((the_type Item).to (made v)) us ≡ fex (Valss (rows fields)) (Enum.in_a_row (rows fields) (owns (rows fields) (intos fields v)) us)
  pays v us i = Enum.payload (variants (the_type Item)) (intoss (enum Item).parts ((enum Item).beta (choose (enum Item).parts 1 v) i)) us

  abbrev tagged : (v : Values fields) → tag_of (the_type Item) (made v) ≡ 1
  tagged v i = Enum.tag (variants (the_type Item)) (intoss (enum Item).parts ((enum Item).beta (choose (enum Item).parts 1 v) i))

  module _ {M : Type 1} {𝓤 : Ura M} (𝓛 : Logic 𝓤) (x : Item.Denot) (b o : ℕ) where
    abbrev offset : ℕ
    offset = up (align (layout T)) 1

    -- what is left of the place while the item is out
    pub left : SProp 𝓤
    left = mean 𝓛 (kept_variant (the_type Item) 1 fields loose made pays tagged refl 0 offset M 𝓤 𝓛 (x, tt) b o)

    pub item_apart : ent 𝓤 (sem 𝓛 (part_at Place full_share (Some x) b o)) (sep 𝓤 (sem 𝓛 (part_at Item full_share x b (behind (layout T) o))) left)
    unfolding left
    item_apart = subst (λ (k : ℕ). ent 𝓤 (sem 𝓛 (part_at Place full_share (Some x) b o)) (sep 𝓤 (sem 𝓛 (part_at Item full_share x b k)) left)) (lies_behind (layout T) o)
        (variant_apart (the_type Item) 1 fields loose made pays tagged refl 0 offset 𝓛 refl refl refl (x, tt) b o)

    pub item_back : (w : Item.Denot) → ent 𝓤 (sep 𝓤 (sem 𝓛 (part_at Item full_share w b (behind (layout T) o))) left) (sem 𝓛 (part_at Place full_share (Some w) b o))
    unfolding left
    item_back w = subst (λ (k : ℕ). ent 𝓤 (sep 𝓤 (sem 𝓛 (part_at Item full_share w b k)) left) (sem 𝓛 (part_at Place full_share (Some w) b o))) (lies_behind (layout T) o)
        (variant_put (the_type Item) 1 fields loose made pays tagged refl 0 offset 𝓛 refl w (x, tt) b o)

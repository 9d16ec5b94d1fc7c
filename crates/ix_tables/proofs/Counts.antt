-- What a count owns: nothing, since it has no bytes. Assumes `Logic`.
use Rattle.std.proofs.Common.{ℕ, List, [], ◌∷◌, refl}
use seplogic.Ra.Ura.{Ura}
use mir.Val.{Val, vstruct, vnil}
use types.Logic.{Logic}
use types.Kit.{Goal, Step, step, Item, ‵, ◌$◌, fjoin, fpack, feq_i}
use denote.RattleType.{Valss}
use denote.Steps.{nothing}
use denote.Struct.Owning.{shape}
use denote.Struct.Struct.{within}
use Rattle.ix_tables.specs.contracts.cells.counted.Count as count

-- the one machine value of a count
abbrev pub no_bytes : Val
no_bytes = vstruct vnil

-- a count of any number is had for nothing
pub count_made : {M : Type 1} {𝓤 : Ura M} {𝓛 : Logic 𝓤} {K : Type 0} {Γ : List (Item 𝓤)} {G : Goal 𝓤 𝓛.H}
    → K → (n : ℕ) → Step K 𝓛 (‵ (count.the_row.own_val (record { number = n }) (no_bytes ∷ [])) ∷ Γ) G Γ G
count_made t n = step (λ s.
    nothing t $ nothing t $ feq_i t (List Val) (no_bytes ∷ []) (no_bytes ∷ []) refl $ fjoin t $
    fpack t (Valss []) (within (shape count.the_type) tt (no_bytes ∷ [])) tt $ fjoin t $ s)

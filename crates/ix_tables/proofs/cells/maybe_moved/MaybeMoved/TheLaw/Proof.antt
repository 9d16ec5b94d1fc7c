-- A `&` to it reaches the item, or the bytes that it left. Assumes `Logic`.
use Rattle.std.specs.Prelude.{ℕ, [], ◌∷◌, Option, Some, None}
use seplogic.Ra.Ura.{Ura}
use base.Fraction.{full_share}
use base.Fml.{fbor}
use types.Logic.{Logic, lfts}
use types.Kit.{‵, raw, ◌$◌, !, qed, updating, now, done}
use types.Tokens.{bor_fracture}
use denote.Memory.{part_at, part_of}
use denote.Param.Laws.{Laws}
use denote.RattleType.{RattleType}
use denote.Shares.{SharesAt}
use denote.Sharing.{ShrLaws}
use denote.SharingLaws.{one_shr_laws}
use Rattle.ix_tables.specs.contracts.cells.maybe_moved.MaybeMoved.{the_written}
use Rattle.ix_tables.proofs.cells.maybe_moved.MaybeMoved.TheInside.TheLaws.{the_row_laws}
use Rattle.ix_tables.proofs.cells.maybe_moved.MaybeMoved.TheLaw.Statement.{statement}

module _ (T : RattleType) (L : Laws T) where
  copied : (held : Option T.Denot) (b o : ℕ) → ShrLaws ((the_written T).shr_at held b o)
  copied (Some x) b o = (the_row_laws T L).shr_laws (record { item = x }) b o
  copied None b o = one_shr_laws (λ q. part_at (the_written T) q None b o)

  lent : {M : Type 1} {𝓤 : Ura M} (𝓛 : Logic 𝓤) (held : Option T.Denot) → SharesAt 𝓛 (the_written T) held ((the_written T).shr_at held) (the_written T).lives
  unfolding part_of
  lent 𝓛 (Some x) = (the_row_laws T L).shares 𝓛 (record { item = x })
  lent 𝓛 None = λ κ ts b o inc sp. qed 𝓛 (‵ (fbor κ (part_at (the_written T) full_share None b o)) ∷ raw (lfts 𝓛 ts) ∷ []) (
      updating ! $ bor_fracture ! tt (λ q. part_at (the_written T) q None b o) full_share $ now ! $ done !)

  pub shares : statement T L
  shares = record { shr_laws = copied; shares = λ M 𝓤 𝓛. lent 𝓛 }

-- The optional value of a relocatable option, and the effect of its methods on it.
use Rattle.std.specs.Prelude.{◌≡◌, ◌⊎◌, Bool, true, false, Option, None, Some}
use Rattle.std.specs.Fn.{Once, FnOnceReturnsAtMut}
use Rattle.std.specs.Borrow.{Fml, RattleType, MutBor, LendsIf}
use Rattle.ix_relocatable_option.specs.declared.relocatable_option.RelocatableOption.{RelocatableOption}
use Rattle.ix_relocatable_option.specs.declared.relocatable_option.RelocatableOption.TheVariants as relocatable
use Rattle.ix_relocatable_option.specs.contracts.relocatable_option.RelocatableOption as relocatable_option

module _ {T : Type 0} where
  -- the optional value
  abbrev pub option_of : RelocatableOption T → Option T
  option_of relocatable.None = None
  option_of (relocatable.Some x) = Some x

  -- the relocatable option of an optional value
  abbrev pub relocatable_of : Option T → RelocatableOption T
  relocatable_of None = relocatable.None
  relocatable_of (Some x) = relocatable.Some x

  -- the value, as the predicate left it, is `taken` if that returned true, and stays in `new` if not
  abbrev pub TakesIf :
      {P : Type 0} → Once P (MutBor T × Unit {0}) (Bool × (MutBor T × Unit {0})) → P
      → Option T → Option T → Option T → Type 0
  TakesIf calls predicate None new taken = (new ≡ None) × (taken ≡ None)
  TakesIf calls predicate (Some x) new taken =
      (left : T) × ((FnOnceReturnsAtMut calls predicate x true left × (new ≡ None) × (taken ≡ Some left))
      ⊎ (FnOnceReturnsAtMut calls predicate x false left × (new ≡ Some left) × (taken ≡ None)))

-- the option keeps its variant, and a value is the last one behind the reference r
abbrev pub relocatable_lends : (T : RattleType) → MutBor (RelocatableOption T.Denot) → Option (MutBor T.Denot) → Fml
relocatable_lends T option r = LendsIf (relocatable_option.the_row T) T option r relocatable.Some option.now

use Rattle.std.proofs.Common.{refl}
use Rattle.ix_relocatable_option.proofs.relocatable_option.RelocatableOption.inspect.Goals as goal

pub returns-in-Some-clause-called : goal.returns-in-Some-clause-called
returns-in-Some-clause-called g c = rw c.in-Some.is (_, c.f.ensures, refl)

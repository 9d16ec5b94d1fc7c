use Rattle.std.proofs.Common.{rules}
use Rattle.ix_string.proofs.Retaining.{All-Retains, Retains-kept}
use Rattle.ix_string.specs.Text.{IsTextByte}
use Rattle.ix_string.proofs.string.heap_string.HeapStringString.remove_if.Goals as goal

pub retain_in-requires-clause-callable : goal.retain_in-requires-clause-callable
retain_in-requires-clause-callable g c = rw c.self.view_is c.requires

pub invariant_of-self : goal.invariant_of-self
invariant_of-self g c =
    All-Retains (λ b. IsTextByte b) (λ p x b q. goal.F-step g p x b q) c.args.f c.self.inside.bytes.items c.retain_in.new.vector.items c.retain_in.ensures.kept c.self.invariant

pub returns-clause-string : goal.returns-clause-string
returns-clause-string g c = search rules

pub returns-clause-filtered : goal.returns-clause-filtered
returns-clause-filtered g c kept says =
    Retains-kept (λ p x b q. goal.F-step g p x b q) kept c.args.f says _ _ (returns-clause-string g c)

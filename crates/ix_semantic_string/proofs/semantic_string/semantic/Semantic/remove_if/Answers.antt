use Rattle.std.proofs.Common.{rules}
use Rattle.ix_semantic_string.proofs.semantic_string.semantic.Semantic.remove_if.Goals as goal

pub remove_if-requires : goal.remove_if-requires
remove_if-requires g c = (search rules, rw c.self.view_is c.requires)

pub use Rattle.ix_semantic_string.specs.ErrorTexts
pub use Rattle.ix_json.specs.JsonTree
pub use Rattle.ix_relocatable_option.specs.Optional
pub use Rattle.ix_semantic_string.specs.Rules
pub use Rattle.ix_semantic_string.specs.SampleRules
pub use Rattle.ix_semantic_string.specs.SemanticSteps
pub use Rattle.ix_semantic_string.specs.laws

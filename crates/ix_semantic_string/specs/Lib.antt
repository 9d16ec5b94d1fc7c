pub use Rattle.ix_string.specs.Escape
pub use Rattle.ix_string.specs.Retain
pub use Rattle.ix_string.specs.Text
pub mod ErrorTexts
pub mod Rules
pub mod SampleRules
pub mod SemanticSteps
pub mod laws

-- Laws of definitions that contracts cite.
pub mod SampleRulesLaws

-- Laws of definitions that contracts cite.
pub mod NumberLaws
pub mod EncodingLaws
pub mod ArrayLaws
pub mod HistoryLaws

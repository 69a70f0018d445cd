pub mod PlainLaws
pub mod RowLaws

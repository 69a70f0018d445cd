pub mod StrayLaws
pub mod CellLaws
pub mod GridLaws

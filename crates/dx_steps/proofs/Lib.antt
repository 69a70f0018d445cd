pub mod ValueLaws
pub mod PartLaws

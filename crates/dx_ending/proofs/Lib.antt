pub mod CountLaws
pub mod EmptyLaws
pub mod FullLaws
pub mod PutLaws
pub mod ReadyLaws
pub mod SetLaws

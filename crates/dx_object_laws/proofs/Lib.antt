pub mod PutLaws
pub mod TakeLaws
pub mod FindLaws
pub mod PlacedLaws
pub mod OrderLaws

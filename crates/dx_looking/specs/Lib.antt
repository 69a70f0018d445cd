pub mod ToldTags
pub mod Setting
pub mod Looking
pub mod Failing

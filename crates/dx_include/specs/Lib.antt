pub mod Answers
pub mod Computed
pub mod Loading
pub mod ReadFails

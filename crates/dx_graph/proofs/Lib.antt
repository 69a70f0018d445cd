pub mod Earlier
pub mod Walking
pub mod Unfolding
pub mod Growing
pub mod Arguments
pub mod Outcomes
pub mod Taking
pub mod Sites

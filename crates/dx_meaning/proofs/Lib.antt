pub mod Keeping
pub mod SameTerms
pub mod Formed
pub mod FormsStaying
pub mod Terms
pub mod Computed
pub mod MetStaying

pub mod PartsLaws
pub mod PutLaws
pub mod TakeLaws
pub mod MembersLaws
pub mod LawfulLaws
pub mod OrderLaws
pub mod ValuesLaws

pub mod EmptiedLaws
pub mod HeldHere
pub mod LinkLaws
pub mod MapLaws
pub mod Reading
pub mod SettledLaws
pub mod SlotLaws

pub mod SoFar
pub mod NextInput
pub mod NodeInputs
pub mod AllGot
pub mod ValuesCome
pub mod WholeEffect
pub mod Settled

pub mod Few
pub mod StepLaws

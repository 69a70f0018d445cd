mod Found
pub mod StepLaws

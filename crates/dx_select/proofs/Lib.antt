pub mod Answering
pub mod ComponentLaws
pub mod ExtractLaws
pub mod CollectLaws
pub mod SelectLaws
pub mod StepLaws

pub mod GapLaw
pub mod StringLaw
pub mod TokenLaw
pub mod ScriptLaw
pub mod LineLaw
pub mod NumberLaw
pub mod TextLaw

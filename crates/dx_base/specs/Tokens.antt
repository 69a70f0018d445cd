-- The tokens of scripts. Gaps, Spelling, Refusals and Standing say what stands at a place of a text; Reading computes it.
pub mod Ascii
pub mod Places
pub mod Classes
pub mod Gaps
pub mod Spelling
pub mod Refusals
pub mod Standing
pub mod Reading

-- Laws on script tokens: what is read is what stands, and nothing else does; and how places go on.
pub mod Taken
pub mod Reached
pub mod Spans
pub mod GapLaw
pub mod Fronts
pub mod WordLaw
pub mod NumberLaw
pub mod StringLaw
pub mod SignLaw
pub mod FrontLaw
pub mod StandingLaw
pub mod PlaceLaw

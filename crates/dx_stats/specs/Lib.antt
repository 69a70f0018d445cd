pub mod Numbers
pub mod Statistics
pub mod Sums
pub mod Bins
pub mod Tally
pub mod Histogram
pub mod Results
pub mod Laws

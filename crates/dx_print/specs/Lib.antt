pub mod Header
pub mod ItemLines
pub mod Printed
pub mod Nested
pub mod Echoed
pub mod Errors
pub mod Results
pub mod Lines

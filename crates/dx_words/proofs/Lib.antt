mod Found
mod Joining
mod Ranges

pub mod Calls
pub mod Ways
pub mod Kept
pub mod One
pub mod Round

pub mod Layout
pub mod Order
pub mod Composed
pub mod Recorded

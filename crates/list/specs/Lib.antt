pub mod Progress
pub mod One

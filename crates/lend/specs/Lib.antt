pub mod Outcome
pub mod Same

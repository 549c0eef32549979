pub mod Heard
pub mod Answered

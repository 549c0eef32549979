pub mod Said
pub mod Becoming
pub mod Applied
pub mod Waits
pub mod Memory
pub mod Answers
pub mod Calls

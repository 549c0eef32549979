pub mod Tables
pub mod Waits
pub mod Sent
pub mod Learnt
pub mod Heard

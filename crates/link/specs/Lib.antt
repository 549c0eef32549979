pub mod Sends
pub mod Sending
pub mod SetUp
pub mod Beginning
pub mod Resending
pub mod Received
pub mod One

pub mod Place
pub mod Search
pub mod Below
pub mod Bytes
pub mod Places
pub mod Forms
pub mod Stored
pub mod Chunks

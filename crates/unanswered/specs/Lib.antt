pub mod Waiting
pub mod Encoded
pub mod Deciding
pub mod Formed
pub mod Storing

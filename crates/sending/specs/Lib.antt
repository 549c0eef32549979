pub mod Sent
pub mod Asked
pub mod Deciding
pub mod Survey

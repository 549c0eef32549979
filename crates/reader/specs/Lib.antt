pub mod Reading
pub mod Hyphens
pub mod Reader

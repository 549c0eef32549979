pub mod Given
pub mod Forgetting

pub mod Changing
pub mod Performed
pub mod Ready

pub mod End
pub mod Held

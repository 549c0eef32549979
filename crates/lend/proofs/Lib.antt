pub mod Values
pub mod Locals
pub mod Passing
pub mod Onward
pub mod Lent

pub mod Names
pub mod Fields
pub mod Found
pub mod Chosen
pub mod Numbers
pub mod Forth

pub mod Tools
pub mod Kinds
pub mod Views
pub mod Ends

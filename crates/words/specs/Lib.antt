pub mod Blocks
pub mod Tail

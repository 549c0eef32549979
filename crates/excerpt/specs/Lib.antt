pub mod Excerpt
pub mod Pieces
pub mod Said
pub mod ByKind
pub mod Sizes

pub mod Writing
pub mod Writer
pub mod Comparing
pub mod Written
pub mod Draft
pub mod Moved
pub mod Drawn

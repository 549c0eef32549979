pub mod Splice
pub mod Splicing
pub mod Inside

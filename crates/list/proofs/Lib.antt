pub mod Progressing
pub mod Examples

pub mod Numbers
pub mod Packed
pub mod Back
pub mod Laid
pub mod Fits
pub mod Head
pub mod Written

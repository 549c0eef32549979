pub mod Changes
pub mod Found
pub mod Ascend
pub mod Keys
pub mod Numbers
pub mod Ways

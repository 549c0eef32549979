pub mod Messages
pub mod Sound
pub mod Scanned
pub mod Arms
pub mod Picking

pub mod Crosses
pub mod Hearing
pub mod Standings
pub mod Settles

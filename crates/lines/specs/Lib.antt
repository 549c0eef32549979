pub mod Feeds
pub mod One
pub mod Listing
pub mod Numbers
pub mod Telling

pub mod Message
pub mod Deeds
pub mod Tests
pub mod Applying
pub mod Laws
pub mod Deciding

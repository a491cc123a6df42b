pub mod Meanings
pub mod Kept
pub mod Events
pub mod Stores
pub mod Placed
pub mod Hearings

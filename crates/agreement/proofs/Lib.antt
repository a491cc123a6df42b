mod Counting
pub mod Fronts
pub mod Places
pub mod Promised
pub mod Committing

pub mod Decoded
pub mod Ids
pub mod Joined
pub mod Read
pub mod Standing
pub mod Values
pub mod Words

pub mod Steps
pub mod Varint
pub mod Fields
pub mod Walk
pub mod Reading
pub mod Written

pub mod Fields
pub mod Refused

pub mod Stages
pub mod Meanings

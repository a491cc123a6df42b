pub mod Inputs
pub mod Reading
pub mod Checking
pub mod Sound

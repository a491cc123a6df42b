pub mod Course
pub mod Standing
pub mod Pieces
pub mod Turns
pub mod Openings

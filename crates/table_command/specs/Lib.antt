pub mod Course
pub mod Text
pub mod Openings

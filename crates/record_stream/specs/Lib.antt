pub mod Course
pub mod Alone
pub mod Ends
pub mod Steps
pub mod Plain
pub mod Walk
pub mod Cut

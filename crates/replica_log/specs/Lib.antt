pub mod Window
pub mod Grafting
pub mod Chain
pub mod Models
pub mod Stored

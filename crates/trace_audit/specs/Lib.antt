pub mod Books
pub mod Bounds
pub mod Steps
pub mod Stands
pub mod Fronts
pub mod Taking
pub mod Ends

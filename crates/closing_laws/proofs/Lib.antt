pub mod Tells
mod Raised
mod Stepped
pub mod Moved
pub mod Events
pub mod Closing

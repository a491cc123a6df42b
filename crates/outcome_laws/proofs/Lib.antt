pub mod Places
pub mod Tickets
mod Raised
mod Rules
mod Stepped
pub mod Recorded
pub mod Moved
pub mod Events
mod Holding

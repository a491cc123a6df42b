pub mod Lookups
pub mod Good
pub mod Chain
pub mod Leading
pub mod Raising
pub mod Offered
mod Calls
mod Grafting
pub mod Ending
mod Electing
mod Hearing
mod Stepping
pub mod History
mod Enclosed
pub mod Standing
pub mod Moving
pub mod Kept
mod Samples

pub mod RisingIds
pub mod Paths
pub mod Parts
pub mod United
pub mod Greatest
pub mod Bodies
mod Worked
pub mod Counted
pub mod Walk
pub mod Raised
pub mod Answered

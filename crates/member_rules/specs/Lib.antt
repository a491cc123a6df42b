pub mod Faults
pub mod Refusals
pub mod Standings
pub mod InRange

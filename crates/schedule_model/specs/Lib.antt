pub mod Reading
pub mod Records
pub mod Refusals
pub mod Quantities
pub mod Lines
pub mod Client
pub mod Drill
pub mod Written

pub mod Unbroken
pub mod Replays
mod Groups
mod Drilling
mod Ended
pub mod Tables
mod Drives
pub mod Unread
pub mod Parses
pub mod Edging
mod WordExamples
mod EdgeExamples
mod Serves
pub mod Refusals
mod Auditing

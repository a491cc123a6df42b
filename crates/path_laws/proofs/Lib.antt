pub mod Steps
mod Local
mod Hearing
mod Grafting
mod Voters
mod Reigning
pub mod Choosing
mod Kept
mod Recorded
mod Configurations
mod Lawful
pub mod Goes

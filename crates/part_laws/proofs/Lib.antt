mod True
mod Stepped
mod Runs
mod Map
mod Sessions
pub mod Handed
pub mod Played
mod DrivenPlayed

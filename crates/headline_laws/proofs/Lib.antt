pub mod Past
pub mod Played
pub mod Ranged
mod Driving
mod Headlines
mod Calm
pub mod Texts
mod Playing
mod Told

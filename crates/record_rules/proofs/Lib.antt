mod Worked
pub mod Clients
pub mod Rows
mod Turns
mod Numbers
mod Guesses
mod Backups
mod Earned
pub mod Placed
pub mod Sound
mod Prefixes
mod Tables
mod RowsFollow

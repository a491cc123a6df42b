mod Padding
mod Relayed
mod Rows
mod Sameness
mod Sealed
mod Turns

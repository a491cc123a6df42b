pub mod Pushed
pub mod Walk

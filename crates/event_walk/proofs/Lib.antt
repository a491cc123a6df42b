pub mod Enclosed
pub mod Walk

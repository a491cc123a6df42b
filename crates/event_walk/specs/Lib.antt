pub mod Cases
pub mod Enclosed

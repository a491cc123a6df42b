mod Changed
pub mod Ranged

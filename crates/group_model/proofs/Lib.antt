mod Worked
pub mod Cores

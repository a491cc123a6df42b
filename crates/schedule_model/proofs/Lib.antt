mod Worked
pub mod Reading

mod Worked
pub mod Fields
pub mod Numbers
pub mod Bytes

mod Counting
mod Doubles
mod Greatest
pub mod Made
pub mod Inserted
mod Rising
mod Examples
pub mod Sharing

pub mod Bytes
mod Closing
pub mod Laws
pub mod Numbers

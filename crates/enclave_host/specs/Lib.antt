pub mod Words
pub mod Standing
pub mod Handing
pub mod Answers
pub mod Fields

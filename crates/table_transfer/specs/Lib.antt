pub mod SentTable
pub mod TakenParts
pub mod Taken

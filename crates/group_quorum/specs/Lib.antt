pub mod Conf
pub mod Sharing
pub mod Marks
pub mod Stored
pub mod Voters

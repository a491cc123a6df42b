pub mod Words
pub mod Edges
pub mod Run
pub mod Sessions
pub mod Groups
pub mod Texts
pub mod Drills
pub mod Audits

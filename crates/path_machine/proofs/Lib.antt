pub mod Fronts
pub mod Same
pub mod Good
pub mod Completeness
pub mod Grow
pub mod Counted
pub mod Changes
pub mod Rising

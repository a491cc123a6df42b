pub mod Sizes
pub mod Canonical
pub mod Reading
pub mod Strict
pub mod Gathered

pub mod Changes
pub mod Slots
pub mod Trees
pub mod Growths
pub mod Pages
pub mod Numbered

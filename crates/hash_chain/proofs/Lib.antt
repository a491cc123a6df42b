pub mod Fronts
mod Telling

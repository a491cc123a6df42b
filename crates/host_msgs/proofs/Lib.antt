mod Again
mod Configurations
mod Shorts
mod Marks
mod Walks
mod Whole
mod Taken
mod Ranged

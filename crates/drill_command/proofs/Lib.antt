mod Counted
mod Names
mod Steps
mod Whole
mod Written

mod Saved
mod States
mod Taking
mod Answered
mod Linked
mod Runs

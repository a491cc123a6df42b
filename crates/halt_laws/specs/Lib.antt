pub mod Unchanged
pub mod Whole
pub mod Succession
pub mod OldVotes

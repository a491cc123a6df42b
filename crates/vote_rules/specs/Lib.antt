pub mod Ballots
pub mod Elections
pub mod Candidates

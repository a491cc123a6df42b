mod InMemoryRuns
mod Moved
pub mod Prefixes
pub mod Ends
pub mod Rises

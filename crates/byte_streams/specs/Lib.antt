pub mod Causes
pub mod InMemory
pub mod StdStreams
pub mod Streams

mod Chains
mod Standing
mod Splicing
mod Segments
mod Grafts
mod Answering
mod Worked

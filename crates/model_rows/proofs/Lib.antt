pub mod ByRecords
pub mod Computing
pub mod Enough
pub mod Grammar
pub mod Unaccepted
pub mod Premises
pub mod StoredTwice
pub mod Tests

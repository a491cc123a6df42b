pub mod Node
pub mod Machine
pub mod Changes
pub mod Laws
pub mod Jump
pub mod Worked

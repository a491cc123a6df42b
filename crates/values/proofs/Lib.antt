pub mod RisingLists
pub mod Loops

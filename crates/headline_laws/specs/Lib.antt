pub mod Reported
pub mod Printed
pub mod HaltLines
pub mod Bytes

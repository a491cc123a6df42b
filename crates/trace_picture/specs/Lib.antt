pub mod Ends
pub mod Escapes
pub mod Forms
pub mod Places
pub mod Taking

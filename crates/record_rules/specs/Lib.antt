pub mod Clients
pub mod Table
pub mod Rules
pub mod Places
pub mod Valid
pub mod Laws

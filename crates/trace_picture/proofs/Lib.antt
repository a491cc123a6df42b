pub mod Escaping
pub mod Forms
pub mod GivenUp
pub mod Taking
pub mod Pieces

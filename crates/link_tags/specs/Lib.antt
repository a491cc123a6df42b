pub mod Ends
pub mod Hmac
pub mod Keyed
pub mod Passing

-- The lock of an object.
pub mod Far
pub mod Refusals
pub mod Walks
pub mod Builds
pub mod Exchanges
pub mod Begins
pub mod Goes

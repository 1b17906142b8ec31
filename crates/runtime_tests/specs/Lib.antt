pub mod Reads
pub mod Clients

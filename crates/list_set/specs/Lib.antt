pub mod Places
pub mod Calls
pub mod Walks
pub mod Windows
pub mod Filling
pub mod Linked

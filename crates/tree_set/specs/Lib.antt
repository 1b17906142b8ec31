pub mod Places
pub mod Calls
pub mod Paths
pub mod Walks
pub mod Nodes
pub mod Leaves
pub mod Descents
pub mod Filling

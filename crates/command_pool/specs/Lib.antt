pub mod Pool
pub mod Queue
pub mod Turns

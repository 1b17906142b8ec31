pub mod Backs
pub mod Parts
pub mod Untimed
pub mod Tries
pub mod Sweeps
pub mod Holders
pub mod Rounds
pub mod Tidies

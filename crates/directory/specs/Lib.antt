pub mod Layout
pub mod Ring
pub mod Moves
pub mod MoveLaws
pub mod Reads

pub mod Commuting
pub mod Sifting
pub mod Parting

pub mod Left
pub mod Tidied
pub mod Rounded
pub mod Made
pub mod Tabled

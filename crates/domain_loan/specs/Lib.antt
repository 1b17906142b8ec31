pub mod New
pub mod Met
pub mod Lending
pub mod Shown

pub mod Tags
pub mod Met

pub mod Ready
pub mod Working
pub mod Told

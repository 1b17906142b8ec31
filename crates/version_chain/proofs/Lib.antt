pub mod Trails
pub mod SoFar
pub mod Standing
pub mod Bounds
pub mod Going
pub mod Looking

pub mod Drawing
pub mod Generated
pub mod Lengths
pub mod Texts

pub mod Known
pub mod Counted
pub mod Numbered
pub mod Rising
pub mod Owned
pub mod Roomy
pub mod Whole

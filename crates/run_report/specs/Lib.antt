pub mod Order
pub mod InOrder
pub mod Legal
pub mod Worked
pub mod Whole
pub mod Text
pub mod Summary

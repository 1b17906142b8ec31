pub mod Positions
pub mod Vacant
pub mod Calls
pub mod Opening
pub mod Rules

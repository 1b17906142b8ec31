-- compare_exchange STAMP.
pub mod Stampable
pub mod StampStored
pub mod OwnStamp
pub mod SwapStamp
pub mod OwnPlace

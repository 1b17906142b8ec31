pub mod Telling
pub mod Finished
pub mod FinishParts
pub mod Tried
pub mod TriedEnds
pub mod Unlocking
pub mod Aborted
pub mod AbortParts

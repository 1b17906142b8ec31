-- Walking down a version chain, and reading.
pub mod LoadHead
pub mod LoadFirst
pub mod LoadStamp
pub mod LoadPrev
pub mod LoadData
pub mod LoadMaster
pub mod Landing
pub mod WalkOn
pub mod Walks
pub mod EmptyHeads

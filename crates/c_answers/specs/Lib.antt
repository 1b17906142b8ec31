pub mod Statuses
pub mod SetReplies
pub mod TableReplies
pub mod Commands
pub mod Blocks
pub mod Counted
pub mod ObjectsTold
pub mod Closings

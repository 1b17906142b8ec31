pub mod NewSeats
pub mod SingleBlock
pub mod Outcomes
pub mod Staying
pub mod EntriesFrom
pub mod SetEntries
pub mod Filling

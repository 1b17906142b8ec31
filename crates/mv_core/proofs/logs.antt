-- The logs: slots, links, versions, write sets and what is noted of them.
pub mod Slots
pub mod SlotWords
pub mod Counts
pub mod Links
pub mod Versions
pub mod Written
pub mod Finding
pub mod HeldSet
pub mod NewerTops
pub mod OwnTops
pub mod SeenDeaths
pub mod LastWrites
pub mod BelowCommit

-- The history: last writes, states, entries and what seats have seen of it.
pub mod Fronts
pub mod OwnEntries
pub mod Latest
pub mod Longer
pub mod WordsAt
pub mod SectionWords
pub mod LongerSeen
pub mod EntryMakers
pub mod CommitWords

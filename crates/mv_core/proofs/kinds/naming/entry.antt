-- One more entry of the history, for a commit and for a rest.
pub mod CommittedLogs
pub mod NewEntry
pub mod NewHistory
pub mod NewSets
pub mod NewChains
pub mod NewWalks
pub mod NewSections
pub mod NewFacts

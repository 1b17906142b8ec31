-- Naming the next entry of the history.
pub mod NameRest
pub mod LostClock
pub mod StoreSuper
pub mod LinkedNotes
pub mod name_commit
pub mod entry

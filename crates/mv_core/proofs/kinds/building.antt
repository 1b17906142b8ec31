-- Building a version, and timing a dead one.
pub mod StoreBuilt
pub mod BuiltSlot
pub mod StoreData
pub mod LoadDeath
pub mod DeathNotes

-- Entering and leaving a section.
pub mod LoadLow
pub mod StoreMark
pub mod LoadTime
pub mod ClearMark

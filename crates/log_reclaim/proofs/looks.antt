-- A round looks at each version of a log, and writes it back where that is due.
pub mod CutBacks
pub mod EachLook
pub mod FoundSeats
pub mod OneLook
pub mod OneNote
pub mod Picks
pub mod Starting
pub mod StoringAll
pub mod Supers
pub mod Trying
pub mod Visits
pub mod WritingWords

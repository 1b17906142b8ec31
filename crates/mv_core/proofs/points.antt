-- What follows from the rule: chains, walks, write sets, and what a seat knows.
pub mod ChainLengths
pub mod Chaining
pub mod Placing
pub mod Reaching
pub mod PointsHold
pub mod SetsFreed
pub mod SetsWhole
pub mod HelpedStamps
pub mod KnownBounds
pub mod KnownLogs
pub mod KnownSections

-- Moves: that each keeps the rule, and that there is one history.
pub mod LaterHistory
pub mod Kept
pub mod Calls
pub mod Kinds
pub mod Notes
pub mod Moving
pub mod OneHistory

-- The kinds of step: for each its condition, its change of the view, and all facts afterwards.
pub mod opening
pub mod entering
pub mod helping
pub mod walking
pub mod building
pub mod locking
pub mod naming
pub mod reclaiming
pub mod joining

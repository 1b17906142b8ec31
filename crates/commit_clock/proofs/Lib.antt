pub mod NoneHelped
pub mod Views
pub mod HelpedPhase
pub mod HelpKinds
pub mod Hearing
pub mod Answered
pub mod Ending
-- Passed on to the crates above: the lemmas of mv_core.
pub use Rattle.mv_core.proofs as mv_core_lemmas

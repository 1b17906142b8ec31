pub mod PlanTexts
pub mod FitDrafts
pub mod Machines
pub mod MachineLaws
pub mod FirstSteps
pub mod Shown
-- Passed on to the crates above: the definitions of replay_rules.
pub use Rattle.replay_text.specs.replay_rules as replay_rules

pub mod PlanLines
pub mod FirstSteps
pub mod TurnLaws
pub mod MachineLaws
-- Passed on to the crates above: the lemmas of replay_rules.
pub use Rattle.replay_text.proofs.replay_rules_lemmas as replay_rules_lemmas

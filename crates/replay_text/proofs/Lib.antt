-- Passed on to the crates above: the lemmas of replay_rules.
pub use Rattle.replay_rules.proofs as replay_rules_lemmas

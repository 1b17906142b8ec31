-- Passed on to the crates above: the definitions of replay_rules.
pub use Rattle.replay_rules.specs as replay_rules

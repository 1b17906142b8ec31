pub mod Reading
pub mod Scripts
-- Passed on to the crates above: the definitions of block_parser, set_blocks, step_replay and replay_rules.
pub use Rattle.block_parser.specs as block_parser
pub use Rattle.block_parser.specs.set_blocks
pub use Rattle.step_replay.specs as step_replay
pub use Rattle.step_replay.specs.replay_rules

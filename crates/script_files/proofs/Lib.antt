pub mod Refused
pub mod Many
pub mod Failing
pub mod FileTexts
pub mod OneFile
pub mod FewBlocks
pub mod TextParts
-- Passed on to the crates above: the lemmas of block_parser, set_blocks, step_replay and replay_rules.
pub use Rattle.block_parser.proofs as block_parser_lemmas
pub use Rattle.block_parser.proofs.set_blocks_lemmas
pub use Rattle.step_replay.proofs as step_replay_lemmas
pub use Rattle.step_replay.proofs.replay_rules_lemmas

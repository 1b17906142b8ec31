pub mod SetMaps
pub mod Least
pub mod Counting
-- Passed on to the crates above: the lemmas of list_set.
pub use Rattle.list_set.proofs as list_set_lemmas

-- What merged writes are: the lemmas on plans.
pub use Rattle.tree_balance.proofs.Merging.{merged-is, merged-none, merged-distinct, touches-merged, length-merged, merged_next, merged_all}
pub use Rattle.tree_balance.proofs.Merging.{written_there, written_last}

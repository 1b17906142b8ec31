-- The terms of this crate, under one name.
pub use Rattle.std.proofs.Common.{List, [], ◌∷◌, length, ◌≡◌, ℕ, ◌+◌, ◌-◌, ◌≤◌, Some, ◌∙◌, sym}
pub use Rattle.script_workers.specs.Terms.{Seat, Command}
pub use Rattle.domain_loan.specs.Met.{AllContinue, HasMet}
pub use Rattle.domain_lines.proofs.OneHistory.{IsOneHistory, one_history}
pub use Rattle.grow_hash.specs.Grown.{IsGrownOpening, grown_catalogue}
pub use Rattle.grow_hash.specs.GrowRules.{IsGrowCommit}
pub use Rattle.grow_hash.specs.Tables.{grow_levels}
pub use Rattle.domain_loan.proofs.Seats.{new_own, left_for, as_many}

-- The terms of this crate, under one name.
pub use Rattle.std.proofs.Common.{List, length, [], ◌∷◌, drop, ◌≡◌, ℕ, ◌+◌, ◌-◌, ◌≤◌, Some, sym, ◌∙◌}
pub use Rattle.script_workers.specs.Terms.{Seat, IsOpening, IsSetCommit, Command, Line, AllRan, Past}
pub use Rattle.domain_lines.proofs.OneHistory.{IsOneHistory, one_history}
pub use Rattle.domain_loan.specs.Met.{AllContinue, HasMet}
pub use Rattle.domain_loan.proofs.Seats.{as_many, new_own, left_for}

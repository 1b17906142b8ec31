-- What the proofs of this crate speak of and cite, under one name.
pub use Rattle.std.proofs.Common.{◌≡◌, ◌≢◌, ℕ, ◌+◌, ◌-◌, ◌<◌, ◌≤◌, true, List, [], ◌∷◌, length, refl, arith, ap, ◌==◌, ◌∙◌, subst, ◌^◌, ◌++◌, sym, set}
pub use Rattle.std.proofs.Common.{length-set, get_or-set_other, take, length-append, All}
pub use Rattle.std.proofs.lemmas.Bool.Decides.{nat_tests}
pub use Rattle.mv_history.specs.State.{State, Writes, touches, state_at, written, state_after}
pub use Rattle.mv_history.specs.Legal.{are_distinct, AreWithin, IsAllowed}
pub use Rattle.mv_history.specs.Meaning.{Seat, IsSeat, IsWorn, InSection, IsSection, state_of}
pub use Rattle.mv_history.proofs.Steps.{length-seen, Continues-Continues, state_at-later}
pub use Rattle.section_work.proofs.Entering.{reads_snapshot}
pub use Rattle.mv_history.specs.Calls.{Continues, Enters, IsAsBefore, Leaves}
pub use Rattle.accounts.specs.Layout.{words_of, account_of}
pub use Rattle.accounts.specs.Rules.{balance, IsTransfer, balance_of, from_of, to_of, IsOpening, total, amount_of}
pub use Rattle.accounts.specs.Transfers.{transfer_tag, transfer_meaning}
pub use Rattle.accounts.specs.declared.transfer_work.Funds.TheVariants.{Enough, Short, Late}
pub use Rattle.accounts.specs.Repeats.{IsSum, ReadsEach}

-- The terms of the crates below that the definitions of this crate speak of, under one name.
pub use Rattle.std.specs.Prelude.{◌≡◌, ℕ, ◌+◌, ◌-◌, ◌<◌, ◌≤◌, List, [], ◌∷◌, ◌++◌, length, slice_index, All, ◌≢◌, ◌^◌, sum_by, refl, true, Bool}
pub use Rattle.mv_history.specs.State.{state_at, State, Writes, written}
pub use Rattle.mv_history.specs.Meaning.{Seat, InSection, IsWorn, words_at}
pub use Rattle.mv_history.specs.Calls.{Continues, IsEntryAt}
pub use Rattle.accounts.specs.declared.transfer_work.Funds.{Funds}
pub use Rattle.accounts.specs.declared.transfer_work.Funds.TheVariants.{Enough, Short as TooLittle, Late}
pub use Rattle.accounts.specs.declared.rules.TheConstants.{ACCOUNTS}

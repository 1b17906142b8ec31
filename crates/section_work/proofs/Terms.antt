-- What the proofs of this crate speak of and cite, under one name.
pub use Rattle.std.proofs.Common.{◌≡◌, ℕ, ◌+◌, ◌≤◌, ◌==◌, true, [], length, ap, arith, Bool, false, cond, List, ◌∷◌, ◌++◌, refl, sym, ◌∙◌, true≢false}
pub use Rattle.std.proofs.Common.{length-append, ◌≢◌, suc, ◌<◌, eqb, not, ◌||◌, get_or, take, drop, append_assoc, take-suc, set, subst, Result, Ok, Err, ◌⊎◌}
pub use Rattle.std.proofs.Common.{inl, inr, eq-eqb, eqb-true, ◌-◌, append-nil, length-set, get_or-set_same, get_or-set_other}
pub use Rattle.std.proofs.Math.Bool.{or_assoc, or-false, or-true}
pub use Rattle.std.proofs.lemmas.Bool.Decides.{nat_tests}
pub use Rattle.std.proofs.lemmas.List.{take-append-drop, length-take-le, take_all, take_more, set-get_or, get_or_past}
pub use Rattle.std.proofs.lemmas.Bool.{not-true, and_parts, cases_eq, cases_lt, false_from_ne_true}
pub use Rattle.mv_history.specs.State.{written, State, Writes, touches, rewritten, state_after, state_at}
pub use Rattle.mv_history.specs.Meaning.{Seat, InSection, IsWorn, snapshot_of, state_of, words_at, Holds, Lacks, IsSeat, state_of_time}
pub use Rattle.mv_history.specs.Calls.{Continues, IsAsBefore, Enters, Leaves, call_trail, GoesOn, Prepares, NamesNoCommit, Rewrites, Commits, Overtakes}
pub use Rattle.mv_history.specs.Calls.{commit_by, LocksWith}
pub use Rattle.mv_history.proofs.Steps.{IsWorn-later, Continues-Continues, NamesNoCommit-NamesNoCommit, commit_exchanges-call_trail, GoesOn-GoesOn, length-seen}
pub use Rattle.mv_history.proofs.Steps.{state_at-later}
pub use Rattle.mv_history.specs.Trail.{is_commit_exchange, is_clock_exchange, commit_exchanges, clock_exchanges, IsOneLost}
pub use Rattle.mv_history.specs.Legal.{are_distinct, AreWithin}
pub use Rattle.mv_history.proofs.Writing.{touches-append, written-append, touches_at, touches-rewritten, are_distinct-push, are_distinct-rewritten}
pub use Rattle.mv_history.proofs.Writing.{length-written}
pub use Rattle.mv_history.specs.CallLaws.{GoesOn-itself}
pub use Rattle.mv_history.proofs.Holding.{state_of-as_before, state_of-rewrites, written-rewritten, rewritten-last}
pub use Rattle.mv_history.proofs.Snapshots.{snapshot_of-goes_on}
pub use Rattle.mv_history.specs.Drift.{Drifts}
pub use Rattle.section_work.specs.Sections.{TriesOne}
pub use Rattle.section_work.specs.OwnWrites.{with_lock, with_locks, with_writes, objects_of}
pub use Rattle.section_work.specs.Held.{count_unheld, HasRoom, HoldsMore}
pub use Rattle.section_work.specs.Attempts.{HasSpace}
pub use Rattle.section_work.specs.Locking.{Rewritten, IsRefused, Refuses, RefusesWith}
pub use Rattle.section_work.specs.declared.causes.Refusal.{Refusal}

-- The cases of who holds a log: what each of them needs.
use Rattle.std.proofs.Common.{◌≡◌, ◌<◌, ◌≤◌, nat_lt, if◌then◌else◌, Bool, true, false, refl, arith}
use Rattle.std.proofs.lemmas.Bool.{ltb-true, ltb-false}
use Rattle.mv_history.specs.declared.answers.Holder.{Holder}
use Rattle.mv_history.specs.declared.answers.Holder.TheVariants.{Fresh, End}
use Rattle.seat_log.specs.declared.version.Note.{Note}
use Rattle.log_reclaim.specs.declared.settling.HeadHolders.{HeadHolders}
use Rattle.log_reclaim.specs.declared.rounds.RoundScan.{RoundScan}
use Rattle.log_reclaim.specs.Sweeps.{found_at}
use Rattle.log_reclaim.specs.Rounds.{by_mark_of, untimed_holder, holder_of}

module _ (Causes : Holder → Type 0) (first last : RoundScan) (back : Bool) (found : HeadHolders) (n : Note)
    (ends : 35184372088831 < n.dead → Causes End)
    (fresh : last.clock < n.dead → n.dead ≤ 35184372088831 → Causes (Fresh n.dead))
    (marked : 0 < n.dead → n.dead ≤ last.clock → Causes (by_mark_of last.mark))
    (untimed : n.dead ≡ 0 → back ≡ true → Causes (untimed_holder first n (found_at found n.position)))
    (unwritten : n.dead ≡ 0 → back ≡ false → Causes (Fresh n.time)) where
  by_tests : (late above some wrote : Bool) → nat_lt 35184372088831 n.dead ≡ late → nat_lt last.clock n.dead ≡ above → nat_lt 0 n.dead ≡ some → back ≡ wrote
      → Causes (if late then End
      else (if above then Fresh n.dead
      else (if some then by_mark_of last.mark else (if wrote then untimed_holder first n (found_at found n.position) else Fresh n.time))))
  by_tests true above some wrote p q r s = ends (ltb-true 35184372088831 n.dead p)
  by_tests false true some wrote p q r s = fresh (ltb-true last.clock n.dead q) (ltb-false 35184372088831 n.dead p)
  by_tests false false true wrote p q r s = marked (ltb-true 0 n.dead r) (ltb-false last.clock n.dead q)
  by_tests false false false true p q r s = let none = ltb-false 0 n.dead r in untimed (omega arith) s
  by_tests false false false false p q r s = let none = ltb-false 0 n.dead r in unwritten (omega arith) s

  -- the holder has its cause where each case has
  pub by_cases : Causes (holder_of first last back found n)
  by_cases = by_tests (nat_lt 35184372088831 n.dead) (nat_lt last.clock n.dead) (nat_lt 0 n.dead) back refl refl refl refl

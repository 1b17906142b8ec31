-- A call whose condition is false may not begin, by its seat's view.
use Rattle.std.proofs.Common.{◌≡◌, ℕ, ◌-◌, List, length, Bool, true, false, Option, Some, None, refl, arith, inl, inr}
use Rattle.std.specs.Prelude.{not}
use Rattle.mv_core.proofs.Terms.{Config, Checked}
use Rattle.mv_core.specs.declared.view.Knowledge.{Knowledge}
use Rattle.object_lock.proofs.Locked.{noted_is, lacks_is}
use Rattle.replay_rules.specs.declared.plan.Call.{Call}
use Rattle.replay_rules.specs.declared.plan.Call.TheVariants.{Enter, Read, Lock, Write, Commit, Abort, Leave, Tidy}
use Rattle.replay_rules.specs.declared.seats.NotedVersion.{NotedVersion}
use Rattle.replay_rules.specs.declared.seats.Sweep.{Sweep}
use Rattle.replay_rules.specs.declared.seats.Test.TheVariants.{IsOf}
use Rattle.replay_rules.specs.SeatNotes.{first_from}
use Rattle.replay_rules.specs.Begins.{may_begin}
use Rattle.replay_rules.specs.Skips.{MayNotBegin}
use Rattle.replay_rules.proofs.runs.Sections.{InSection, RestsAt}
use Rattle.replay_rules.proofs.runs.Known.{eqb_ne, ltb_lt, ltb_ge}
use Rattle.replay_rules.proofs.runs.LogFacts.{held_are}
use Rattle.replay_rules.proofs.answers.Progress.{state_with}
use Rattle.replay_rules.proofs.answers.HeldObjects.{held_there, none_held}

not_false : (b : Bool) → not b ≡ false → b ≡ true
not_false true e = refl
not_false false e = absurd (cc)

module _ (c : Config) (k : Checked c) (n : ℕ) (v : Knowledge) (log : List NotedVersion) (freed from : ℕ) (call : Call) (sweep : Sweep) where
  outside_not : RestsAt c v log freed from None → (what : Call) → may_begin log (state_with n None from freed call sweep) what ≡ false
      → MayNotBegin c v what
  outside_not rests Enter e = absurd (cc)
  outside_not rests (Read o) e = inl rests.0
  outside_not rests (Lock o) e = rests.0
  outside_not rests (Write o words) e = inl rests.0
  outside_not rests Commit e = inl rests.0
  outside_not rests Abort e = rests.0
  outside_not rests Leave e = inl rests.0
  outside_not rests Tidy e = absurd (cc)

  inside_not : (t : ℕ) → InSection c v log freed from (Some t) → (what : Call)
      → may_begin log (state_with n (Some t) from freed call sweep) what ≡ false → MayNotBegin c v what
  inside_not t inside Enter e = (inside.section, inside.walking.phase)
  inside_not t inside (Read o) e =
      let there = ltb_lt (first_from log from (IsOf o)) (length log) (not_false _ e) in
      let at = held_there c k v log freed from (Some t) inside o there in
      inr (noted_is c v inside.logs.noted o inside.logs.stands (at.place, at.note, at.there, at.held, at.object_is))
  inside_not t inside (Lock o) e = absurd (cc)
  inside_not t inside (Write o words) e =
      let none = ltb_ge (first_from log from (IsOf o)) (length log) e in
      inr (lacks_is c v inside.logs.noted o inside.logs.stands (none_held c k v log freed from (Some t) inside o none))
  inside_not t inside Commit e =
      let held = held_are c k v log freed from inside.logs in
      let none = ltb_ge 0 (length log - from) e in
      inr (omega (arith, held, none))
  inside_not t inside Abort e = absurd (cc)
  inside_not t inside Leave e =
      let held = held_are c k v log freed from inside.logs in
      let some = eqb_ne (length log - from) 0 e in
      inr (omega (arith, held, some))
  inside_not t inside Tidy e = (inside.section, inside.walking.phase)

  -- a call is skipped where it may not begin
  pub may_not : (time : Option ℕ) → RestsAt c v log freed from time → (what : Call)
      → may_begin log (state_with n time from freed call sweep) what ≡ false → MayNotBegin c v what
  may_not None rests what e = outside_not rests what e
  may_not (Some t) inside what e = inside_not t inside what e

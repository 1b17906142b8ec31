-- How a lock of a replay begins: it is answered at once, or its walk begins.
use Rattle.std.proofs.Common.{◌≡◌, ◌≢◌, ℕ, ◌+◌, ◌==◌, true, false, List, [], length, Some, None, refl, ap, arith, eqb-true, if◌then◌else◌}
use Rattle.mv_history.specs.declared.answers.LockAnswer.TheVariants as refusals
use Rattle.mv_core.proofs.Terms.{Config, Checked}
use Rattle.mv_core.specs.declared.view.Knowledge.{Knowledge}
use Rattle.seat_log.specs.Notes.{Noted, built_count}
use Rattle.object_lock.specs.Locks.{HoldsObject}
use Rattle.object_lock.proofs.Looks.{none_tried}
use Rattle.object_lock.proofs.Locked.{held_some, held_none, lacks_is, full_is, not_full, spare_is}
use Rattle.replay_rules.specs.declared.plan.Call.TheVariants.{Lock}
use Rattle.replay_rules.specs.declared.seats.NotedVersion.{NotedVersion}
use Rattle.replay_rules.specs.declared.seats.State.{State}
use Rattle.replay_rules.specs.declared.seats.Walking.TheVariants as walks
use Rattle.replay_rules.specs.declared.seats.NextStep.TheVariants.{Walks}
use Rattle.replay_rules.specs.declared.seats.CallAnswer.TheVariants.{Locked}
use Rattle.replay_rules.specs.declared.seats.Then.TheVariants.{Goes, Ends}
use Rattle.replay_rules.specs.SeatNotes.{place_held, holds, held, live}
use Rattle.replay_rules.specs.Begins.{begin_lock, new_sweep}
use Rattle.replay_rules.specs.States.{state_of}
use Rattle.replay_rules.specs.LockAnswers.{LocksSo}
use Rattle.replay_rules.specs.Answers.{AnswersSo}
use Rattle.replay_rules.proofs.runs.Sections.{InSection}
use Rattle.replay_rules.proofs.runs.Known.{if_so, eqb_ne, ltb_lt, ltb_ge}
use Rattle.replay_rules.proofs.runs.LogFacts.{noted_long}
use Rattle.replay_rules.proofs.answers.Progress.{Comes, state_with, BeginsSo}
use Rattle.replay_rules.proofs.answers.HeldObjects.{from_low, held_there, none_held}
use Rattle.replay_rules.proofs.answers.Locks.Far.{LockFar}

module _ (o : ℕ) (c : Config) (k : Checked c) (n : ℕ) (v : Knowledge) (log : List NotedVersion) (freed from t : ℕ)
    (inside : InSection c v log freed from (Some t)) where
  abbrev l : Noted
  l = inside.logs.noted

  abbrev state : State
  state = state_with n (Some t) from freed (Lock o) (new_sweep freed)

  -- it holds the object
  held_so : holds log (state_with n (Some t) from freed (Lock o) (new_sweep freed)) o ≡ true → LocksSo c v v o refusals.Held
  held_so e =
      let at = held_there c k v log freed from (Some t) inside o (ltb_lt (place_held log state o) (length log) e) in
      let h : HoldsObject inside.logs.noted o = (at.place, at.note, at.there, at.held, at.object_is) in record {
        again = λ _. (refl, refl);
        answers = held_some c v l o inside.logs.stands h;
        refused = λ ne. absurd (ne refl);
        made = 0;
        tries = ([], none_tried v 0, tt);
        few = omega arith;
      }

  module _ (free : holds log (state_with n (Some t) from freed (Lock o) (new_sweep freed)) o ≡ false) where
    none : ¬ (HoldsObject inside.logs.noted o)
    none = none_held c k v log freed from (Some t) inside o (ltb_ge (place_held log state o) (length log) free)

    held_is : held log state ≡ inside.logs.noted.held
    held_is =
        let all = inside.logs.is.held in
        let low = from_low c k v log freed from (Some t) inside o in
        omega (arith, all, low)

    -- it holds as many as it may
    full_so : held log (state_with n (Some t) from freed (Lock o) (new_sweep freed)) ≡ c.write_max → LocksSo c v v o refusals.SetFull
    full_so e = record {
      again = held_none c v l o inside.logs.stands none;
      answers = λ _. full_is c v l o inside.logs.stands (held log state) held_is e;
      refused = λ _. (refl, refl);
      made = 0;
      tries = ([], none_tried v 0, tt);
      few = omega arith;
    }

    -- no slot is free
    spare_so : held log (state_with n (Some t) from freed (Lock o) (new_sweep freed)) ≢ c.write_max
        → live log (state_with n (Some t) from freed (Lock o) (new_sweep freed)) ≡ c.slots → LocksSo c v v o refusals.LogFull
    spare_so some e =
        let long = noted_long c l log freed from inside.logs.is in
        let slots = inside.logs.stands.slots in
        let count : 0 + length l.live + built_count l.built ≡ l.slots =
        (let none_built : built_count l.built ≡ 0 = ap built_count inside.logs.is.unbuilt in omega (arith, long, slots, e, none_built)) in record {
          again = held_none c v l o inside.logs.stands none;
          answers = λ _. (
            not_full c v l o inside.logs.stands (held log state) held_is some,
            spare_is c v l o inside.logs.stands 0 inside.logs.is.unbuilt count,
          );
          refused = λ _. (refl, refl);
          made = 0;
          tries = ([], none_tried v 0, tt);
          few = omega arith;
        }

    -- or its walk begins
    walk_begins : held log (state_with n (Some t) from freed (Lock o) (new_sweep freed)) ≢ c.write_max
        → live log (state_with n (Some t) from freed (Lock o) (new_sweep freed)) ≢ c.slots → LockFar o c n v v log state (Walks o walks.LoadHead)
    walk_begins some room =
        let spare = inside.logs.stands.spare in
        let long = noted_long c l log freed from inside.logs.is in (
          0,
          omega arith,
          record {
            lacks = lacks_is c v l o inside.logs.stands none;
            room = (
              not_full c v l o inside.logs.stands (held log state) held_is some,
              λ e. room (omega (arith, long, spare, e)),
            );
            keeps = (refl, refl);
            tries = none_tried v 0;
          },
        )

  begins_so : Comes (LockFar o c n v v log (state_with n (Some t) from freed (Lock o) (new_sweep freed))) (AnswersSo c (Lock o) v v)
      (begin_lock c log (state_with n (Some t) from freed (Lock o) (new_sweep freed)) o)
  begins_so =
      let P = Comes (LockFar o c n v v log state) (AnswersSo c (Lock o) v v) in
      if_so P (holds log state o) (Ends (Locked refusals.Held))
      (if held log state == c.write_max then Ends (Locked refusals.SetFull)
      else (if live log state == c.slots then Ends (Locked refusals.LogFull) else Goes (Walks o walks.LoadHead)))
      (λ e. held_so e)
      (λ free.
      if_so P (held log state == c.write_max) (Ends (Locked refusals.SetFull))
      (if live log state == c.slots then Ends (Locked refusals.LogFull) else Goes (Walks o walks.LoadHead))
      (λ e. full_so free (eqb-true (held log state) c.write_max e))
      (λ some.
      if_so P (live log state == c.slots) (Ends (Locked refusals.LogFull)) (Goes (Walks o walks.LoadHead))
      (λ e. spare_so free (eqb_ne (held log state) c.write_max some) (eqb-true (live log state) c.slots e))
      (λ room. walk_begins free (eqb_ne (held log state) c.write_max some) (eqb_ne (live log state) c.slots room))))

pub lock_begins : (o : ℕ) → BeginsSo (Lock o) (LockFar o)
lock_begins o c k fit n lt made each log freed from None rests may = absurd (cc)
lock_begins o c k fit n lt made each log freed from (Some t) rests may = begins_so o c k n ((state_of c made).seats n) log freed from t rests

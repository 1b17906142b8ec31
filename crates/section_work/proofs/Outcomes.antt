-- What an attempt of a work leaves, from what its calls do.
use Rattle.mv_history.specs.declared.answers.Room.{Room}
use Rattle.mv_history.specs.declared.answers.Room.TheVariants.{Enough, Short}
use Rattle.mv_history.proofs.Committed.{before_is, after_is, allowed_there, drifts_there}
use Rattle.section_work.proofs.Terms.{◌≡◌, ◌+◌, ◌-◌, ◌<◌, ◌≤◌, ◌==◌, ◌⊎◌, ◌||◌, ◌∷◌, ◌++◌, ℕ, inl, inr, Bool, true, List, [], length, take, refl, sym, ap, ◌∙◌}
use Rattle.section_work.proofs.Terms.{subst, arith, nat_tests, State, Writes, written, touches, state_after, state_at, Drifts, Seat, InSection, Holds, IsWorn}
use Rattle.section_work.proofs.Terms.{IsSeat, snapshot_of, state_of, state_of_time, commit_exchanges, IsOneLost, call_trail, Continues, IsAsBefore, GoesOn}
use Rattle.section_work.proofs.Terms.{Prepares, Enters, Leaves, Commits, Overtakes, commit_by, snapshot_of-goes_on, Continues-Continues, GoesOn-GoesOn}
use Rattle.section_work.proofs.Terms.{length-seen, touches-append, state_at-later, RefusesWith, HasSpace, Refusal}
use Rattle.section_work.specs.Terms.{Holder, RivalEntry, Cause, Lock, Rival, Attempt}
use Rattle.section_work.specs.Causes.{Causes}
use Rattle.section_work.specs.Sections.{IsEntered}
use Rattle.section_work.proofs.Entering.{reads_snapshot}
use Rattle.section_work.specs.Works.{Meaning, IsChange}
use Rattle.section_work.specs.Attempts.{IsDoneAt, IsReadAt, IsWhy, GivesUp, NotedOnce}
use Rattle.section_work.specs.Steps.{IsPrepared, Follows, IsStepped, Looks, LeavesAt}

-- what has room for more has it for fewer
pub space_less : {most less : ℕ} {s : InSection} → HasSpace most s → less ≤ most → HasSpace less s
space_less {most} {less} {s} h le = record { own = h.own; spare = omega (arith, h.spare, le); held = omega (arith, h.held, le) }

-- `prepare` made room, or found a holder
prepared_by : (k : Causes) (old new : Seat) (room : Room) → Prepares old new → (room ≡ Enough → new.write_max ≤ new.spare)
    → ((holder : Holder) → room ≡ Short holder → k.may_refuse × (new.spare < new.write_max) × k.holds_back old new holder) → IsPrepared k old new
prepared_by k old new room p enough short = record { prepares = p; room = by room refl }
  where
    by : (r : Room) → room ≡ r → (new.write_max ≤ new.spare) ⊎ ((holder : Holder) × k.may_refuse × (new.spare < new.write_max) × k.holds_back old new holder)
    by Enough e = inl (enough e)
    by (Short holder) e = let held = short holder e in inr (holder, held.0, held.1, held.2)

-- what was planned is, as other writes that are the same
pub change_as : {R : Type 0} {allowed : List ℕ → State → Writes → Type 0} {m : Meaning R} {s : InSection} {tag : List ℕ} {ws made : Writes} {reply : R}
    → made ≡ ws → IsChange allowed m s tag ws reply → IsChange allowed m s tag made reply
change_as {R} {allowed} {m} {s} {tag} {ws} {made} {reply} e c = subst (λ (w : Writes). IsChange allowed m s tag w reply) (sym e) c

-- the seat that came back is that of its store
pub left_as : {left : InSection} {back new : Seat} → back ≡ new → Leaves left back → Leaves left new
left_as {left} {back} {new} e gone = subst (λ (s : Seat). Leaves left s) e gone

-- What was locked, and the object whose lock was refused, are among the writes.
module _ {may_refuse : Type 0} {found_held : InSection → InSection → ℕ → ℕ → Type 0} {found left : InSection} {ws : Writes} {refusal : Refusal}
    (r : RefusesWith may_refuse found_held found left ws refusal) where
  touches_parts : (o : ℕ) → touches ws o ≡ touches r.held o || touches (r.change ∷ r.rest) o
  touches_parts o = ap (λ (w : Writes). touches w o) r.parts ∙ touches-append r.held (r.change ∷ r.rest) o

  named_refused : touches ws r.change.0 ≡ true
  named_refused = touches_parts r.change.0 ∙ grind (arith, nat_tests)

  named_held : (o : ℕ) → Holds left o → touches ws o ≡ true
  named_held o h =
      let own : left.own ≡ r.held = r.refused.as_before.own ∙ r.holds.own in
      touches_parts o ∙ ap (λ t. t || touches (r.change ∷ r.rest) o) (sym (ap (λ (u : Writes). touches u o) own) ∙ h)

-- What a look leaves that changes nothing, or a change that was given up.
module _ {R : Type 0} (k : Causes) (m : Meaning R) where
  pub read_on : (old before : Seat) (entered found : InSection) (new : Seat) (s : State) (reply : R) (last : Bool) (time : ℕ)
      → Continues old before → before.mine ≡ old.mine → Enters before entered → k.took before entered → entered.at ≤ length entered.seat.seen
      → IsAsBefore entered found → Continues found.seat new → new.mine ≡ found.seat.mine → s ≡ state_of entered → time ≡ entered.seat.base + entered.at
      → last ≡ (time == entered.seat.last) → m.settles s last reply → IsReadAt k m old new reply time
  read_on old before entered found new s reply last time came mine e took le same on still here at is settles =
      let goes : Continues entered.seat new = Continues-Continues same.seat.continues on in
      let there : time - new.base ≡ entered.at = omega (arith, at, goes.base) in
      let state : s ≡ state_of_time new time =
      here ∙ reads_snapshot entered e.own ∙ sym (state_at-later goes entered.at le) ∙ ap (λ (n : ℕ). state_at new.start new.seen n) (sym there) in
      let when : last ≡ (time == new.last) = is ∙ ap (λ (n : ℕ). time == n) (sym goes.last) in
      record {
        mine = still ∙ same.seat.mine ∙ e.seat.mine ∙ mine;
        entered = entered;
        enters = record { before = before; comes = came; mine = mine; enters = record { enters = e; took = took; at = le; continues = goes } };
        time_is = at;
        settles = subst (λ (b : Bool). m.settles (state_of_time new time) b reply) when (subst (λ (u : State). m.settles u last reply) state settles);
      }

  -- where the section is then left
  pub read_at : (old before : Seat) (entered found : InSection) (new : Seat) (s : State) (reply : R) (last : Bool) (time : ℕ)
      → Continues old before → before.mine ≡ old.mine → Enters before entered → k.took before entered → entered.at ≤ length entered.seat.seen
      → IsAsBefore entered found → Leaves found new → s ≡ state_of entered → time ≡ entered.seat.base + entered.at
      → last ≡ (time == entered.seat.last) → m.settles s last reply → IsReadAt k m old new reply time
  read_at old before entered found new s reply last time came mine e took le same left here at is settles =
      read_on old before entered found new s reply last time came mine e took le same left.continues left.mine here at is settles

-- What follows a look.
module _ {Open : Type 0} {section : Open → InSection} {as_before : Open → Open → Type 0} {k : Causes} {before : Seat} {found : Open} {time : ℕ}
    (l : Looks section as_before k before found time) where
  found_at : (section found).at ≤ length (section found).seat.seen
  found_at = omega (arith, l.at, l.goes_on.at, length-seen l.goes_on.continues)

  -- the snapshot is that of the section that was entered, which holds nothing
  pub snapshot_found : snapshot_of (section found) ≡ snapshot_of (section l.entered)
  snapshot_found = snapshot_of-goes_on (section l.entered) (section found) l.goes_on l.at

  entered_in : {new : Seat} → Continues (section found).seat new → IsEntered k before (section l.entered) new
  entered_in {new} on = record { enters = l.into.enters; took = l.into.took; at = l.at; continues = Continues-Continues l.goes_on.continues on }

  -- there is room, where enough was made
  pub space_found : (most : ℕ) → most ≤ before.write_max → before.write_max ≤ before.spare → HasSpace most (section found)
  space_found most le enough = record {
    own = l.same.own ∙ l.into.enters.own;
    spare = omega (arith, le, enough, l.same.seat.spare, l.into.enters.seat.spare);
    held = omega (arith, le, l.same.seat.continues.write_max, l.into.enters.seat.continues.write_max);
  }

  -- what is remembered after the look
  pub noted_in : {Memo : Type 0} {notes : Memo → Memo → State → Type 0} {old new : Seat} {was is : Memo} → Continues old before
      → Continues (section found).seat new → notes was is (snapshot_of (section found)) → NotedOnce notes old new was is
  noted_in {Memo} {notes} {old} {new} {was} {is} came on n = record {
    at = (section found).at;
    from = omega (arith, length-seen came, l.into.enters.at, l.goes_on.at);
    seen = omega (arith, found_at, length-seen on);
    notes_is = subst (λ (s : State). notes was is s) (sym (state_at-later on (section found).at found_at)) n;
  }

  -- the section was left, and its seat is that of a store
  pub leaves_at : {back new : Seat} → back ≡ new → Leaves (section found) back
      → (k.has_trail → length (call_trail (section found).seat back) ≤ 1) → LeavesAt section as_before k found new time
  leaves_at {back} {new} e gone one = subst (λ (s : Seat). LeavesAt section as_before k found s time) e (record {
    leaves = gone;
    one_step = one;
    time_is = omega (arith, l.time_is, l.same.seat.continues.base, l.same.at);
  })

  -- a look from a worn seat is at the last time, and finds no change
  pub worn_time : {new : Seat} → IsWorn before → (section l.entered).seat.base + length (section l.entered).seat.seen ≤ (section l.entered).seat.last
      → Continues (section found).seat new → time ≡ new.last
  worn_time {new} worn most on =
      let e = l.into.enters in let p = e.seat.continues in let q = l.goes_on.continues in
      omega (arith, worn, most, e.at, l.at, l.time_is, p.base, p.last, q.last, on.last)

  pub worn_settled : IsWorn before → (section found).seat.base + (section found).at < (section found).seat.last → ⊥
  worn_settled worn early =
      let e = l.into.enters in let p = e.seat.continues in let q = l.goes_on.continues in
      omega (arith, worn, early, e.at, l.goes_on.at, p.base, p.last, q.base, q.last)

  -- the calls of an attempt, one after another
  pub stepped_by : {R : Type 0} {answer : Attempt R} {old new : Seat} {room : Room} → Prepares old before → (room ≡ Enough → before.write_max ≤ before.spare)
      → ((holder : Holder) → room ≡ Short holder → k.may_refuse × (before.spare < before.write_max) × k.holds_back old before holder)
      → Follows section as_before k found new answer → IsStepped section as_before k old new answer
  stepped_by {R} {answer} {old} {new} {room} p enough short follows = record {
    prepared = before;
    prepares = prepared_by k old before room p enough short;
    entered = l.entered;
    found = found;
    looks = l.into;
    follows = follows;
  }

-- What an attempt leaves, by what followed the look.
module _ {Open : Type 0} {section : Open → InSection} {as_before : Open → Open → Type 0} {k : Causes} {before : Seat} {found : Open} {time : ℕ}
    (l : Looks section as_before k before found time) {R : Type 0} {m : Meaning R} where
  -- nothing is changed there
  pub read_in : {old new : Seat} {reply : R} → Continues old before → before.mine ≡ old.mine → Continues (section found).seat new
      → new.mine ≡ (section found).seat.mine → m.settles (snapshot_of (section found)) (time == (section found).seat.last) reply
      → IsReadAt k m old new reply time
  read_in {old} {new} {reply} came mine on still settles =
      read_on k m old before (section l.entered) (section found) new _ reply _ time came mine l.into.enters l.into.took l.at l.same on still
      (snapshot_found l ∙ sym (reads_snapshot (section l.entered) l.into.enters.own)) l.time_is
      (ap (λ (n : ℕ). time == n) l.same.seat.continues.last) settles

  plan_found : {allowed : List ℕ → State → Writes → Type 0} {tag : List ℕ} {ws : Writes} {reply : R} → IsChange allowed m (section found) tag ws reply
      → m.plans (snapshot_of (section l.entered)) tag ws reply
  plan_found {allowed} {tag} {ws} {reply} change = subst (λ (s : State). m.plans s tag ws reply) (snapshot_found l) change.planned.plan

  module _ {allowed : List ℕ → State → Writes → Type 0} {tag : List ℕ} {ws : Writes} {reply : R} {old new : Seat} (p : Prepares old before)
      (change : IsChange allowed m (section found) tag ws reply) where
    -- a change was given up
    pub gives_up : (cause : Cause) → Continues (section found).seat new → new.mine ≡ (section found).seat.mine
        → IsWhy k m (λ holder. (before.spare < before.write_max) × k.holds_back old before holder) (section l.entered) new cause → GivesUp k m old new cause
    gives_up cause on still why = record {
      mine = still ∙ l.goes_on.mine ∙ l.into.enters.seat.mine ∙ p.mine;
      prepared = before;
      prepares = p;
      entered = section l.entered;
      enters = entered_in l on;
      early = omega (arith, change.early, l.goes_on.at, l.goes_on.continues.base, l.goes_on.continues.last);
      changing = subst (λ (s : State). m.changes s) (snapshot_found l) change.changing;
      why = why;
    }

    -- a lock of what is planned was refused
    pub stopped_in : {left : InSection} {refusal : Refusal} → RefusesWith k.may_refuse k.found_held (section found) left ws refusal → Leaves left new
        → GivesUp k m old new (Lock refusal)
    stopped_in {left} {refusal} r gone =
        let goes : GoesOn (section found) left = GoesOn-GoesOn r.holds.goes_on r.refused.goes_on in
        gives_up (Lock refusal) (Continues-Continues goes.continues gone.continues) (gone.mine ∙ goes.mine) (record {
          tag = tag;
          writes = ws;
          reply = reply;
          plan = plan_found change;
          left = left;
          stops = record {
            object = r.change.0;
            named = named_refused r;
            before = r.before;
            goes_on = GoesOn-GoesOn l.goes_on r.holds.goes_on;
            refused = r.refused;
          };
          held = named_held r;
          leaves = gone;
        })

    -- another seat's entry came before its commit
    pub overtaken_in : {locked left : InSection} {rival : RivalEntry} → locked.own ≡ ws → GoesOn (section found) locked → k.may_refuse → IsAsBefore locked left
        → Overtakes locked left rival.seat rival.time (k.loaded locked left.seat)
        → (k.has_trail → IsOneLost (commit_exchanges (call_trail locked.seat left.seat))) → Leaves left new → GivesUp k m old new (Rival rival)
    overtaken_in {locked} {left} {rival} own goes may same over lost gone =
        gives_up (Rival rival) (Continues-Continues goes.continues (Continues-Continues same.seat.continues gone.continues))
        (gone.mine ∙ same.seat.mine ∙ goes.mine) (
          may,
          record {
            before = locked;
            goes_on = GoesOn-GoesOn l.goes_on goes;
            tag = tag;
            reply = reply;
            plan = subst (λ (w : Writes). m.plans (snapshot_of (section l.entered)) tag w reply) (sym own) (plan_found change);
            after = left;
            as_before = same;
            overtakes = over;
            lost = lost;
            leaves = gone;
          },
        )

  -- it was committed
  pub done_in : {allowed : List ℕ → State → Writes → Type 0} {old new : Seat} {locked : InSection} {tag : List ℕ} {reply : R} {at : ℕ}
      (starts : State → Type 0)
      → ((s before : State) (t : List ℕ) (ws : Writes) (r : R) → m.plans s t ws r → Drifts allowed ws s before → allowed t before ws
      → m.makes before (written before ws) r) → locked.at ≤ length locked.seat.seen → IsSeat starts allowed new → Prepares old before
      → IsChange allowed m (section found) tag locked.own reply → GoesOn (section found) locked → Commits locked tag new at → IsDoneAt k m old new reply at
  done_in {allowed} {old} {new} {locked} {tag} {reply} {at} starts makes lo law p change goes made =
      let inside : Continues before (section found).seat = Continues-Continues l.into.enters.seat.continues l.goes_on.continues in
      let came : Continues old locked.seat = Continues-Continues p.continues (Continues-Continues inside goes.continues) in
      let c = commit_by locked tag in
      let same = snapshot_of-goes_on (section found) locked goes (found_at l) in
      let plan : m.plans (state_at new.start new.seen locked.at) tag locked.own reply =
      subst (λ (s : State). m.plans s tag locked.own reply) (sym same ∙ sym (state_at-later made.continues locked.at lo)) change.planned.plan in
      let made_is = makes (state_at new.start new.seen locked.at) _ tag locked.own reply plan
      (drifts_there starts allowed new law c at made.entry) (allowed_there starts allowed new law c at made.entry) in
      record {
        done = record {
          continues = Continues-Continues came made.continues;
          commit = c;
          entry = made.entry;
          later = omega (arith, length-seen came, came.base, made.later);
          mine = made.mine ∙ ap (λ cs. cs ++ c ∷ []) (goes.mine ∙ l.goes_on.mine ∙ l.into.enters.seat.mine ∙ p.mine);
          plan = plan;
          makes = subst (λ (u : State). m.makes u (state_of_time new at) reply) (sym (before_is starts allowed new law c at made.entry))
              (subst (λ (u : State). m.makes (state_after new.start (take (at - (new.base + 1)) new.seen)) u reply)
              (sym (after_is starts allowed new law c at made.entry)) made_is);
        };
        entered = section l.entered;
        enters = record {
          before = before;
          comes = p.continues;
          mine = p.mine;
          enters = entered_in l (Continues-Continues goes.continues made.continues);
        };
        snapshot = goes.at ∙ l.goes_on.at;
      }

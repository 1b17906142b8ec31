-- Who holds the oldest write set behind a tidy, with the cause in its steps.
use Rattle.std.proofs.Common.{◌≡◌, ◌≢◌, ◌⊎◌, ℕ, ◌-◌, ◌<◌, ◌≤◌, ◌==◌, ◌&&◌, ◌||◌, ltb, not, List, length, Bool, true, false, Option, Some, None}
use Rattle.std.proofs.Common.{if◌then◌else◌, refl, sym, ap, ◌∙◌, arith, inl, inr, ⊎_elim, eqb-true, eq-eqb}
use Rattle.mv_history.specs.declared.answers.Holder.{Holder}
use Rattle.mv_history.specs.declared.answers.Holder.TheVariants as holders
use Rattle.mv_core.proofs.Terms.{Config}
use Rattle.mv_core.specs.declared.view.Knowledge.{Knowledge}
use Rattle.mv_core.specs.Known.{Known}
use Rattle.seat_log.specs.Notes.{IsNoteAt}
use Rattle.log_reclaim.specs.Untimed.{StaysUntimed}
use Rattle.log_reclaim.specs.Holders.{TidyHolds}
use Rattle.log_reclaim.proofs.Needed.{needs_of_note, needs_more_timed, needs_more_untimed}
use Rattle.log_reclaim.proofs.Others.{others_meanwhile}
use Rattle.replay_rules.specs.declared.seats.NotedVersion.{NotedVersion}
use Rattle.replay_rules.specs.declared.seats.Sweep.{Sweep}
use Rattle.replay_rules.specs.declared.seats.Test.TheVariants.{EndsSet}
use Rattle.replay_rules.specs.SeatNotes.{version_at, first_from}
use Rattle.replay_rules.specs.Sweeps.{by_mark, by_back, holder_of}
use Rattle.replay_rules.specs.States.{any_commit, any_start}
use Rattle.replay_rules.proofs.runs.Sections.{RestsAt}
use Rattle.replay_rules.proofs.runs.Known.{if_so, eqb_ne, ltb_lt, ltb_ge, and_left, and_right}
use Rattle.replay_rules.proofs.runs.LogFacts.{noted_at}
use Rattle.replay_rules.proofs.runs.Searches.{first_after, first_there}
use Rattle.replay_rules.proofs.answers.Tidying.Far.{HasCome, ScanIsWhole, IsSecond, note_in, mark_of}
use Rattle.replay_rules.proofs.answers.Tidying.Ended.{after_noted, after_stands}

-- the version at a place is of the oldest write set, and isn't dead by a time
pub record IsDueAt (log : List NotedVersion) (freed time at : ℕ) : Type 0 where
  pub low : freed ≤ at
  pub live : at < length log
  pub oldest : (version_at log at).first ≡ freed
  pub alive : ((version_at log at).dead ≡ 0) ⊎ (time < (version_at log at).dead)

module _ (c : Config) (w : Knowledge) (log : List NotedVersion) (freed from : ℕ) (rests : RestsAt c w log freed from None) (some : freed < length log)
    (time : ℕ) where
  abbrev end : ℕ
  end = first_from log freed (EndsSet freed time)

  -- the oldest version is the first of its set
  first_oldest : (version_at log freed).first ≡ freed
  first_oldest =
      let l = rests.2.noted in
      let at = noted_at c l log freed from freed rests.2.is (omega arith) some in
      let both = rests.2.stands.log.notes.first (freed - freed) (note_in log freed) at in
      let place = rests.2.stands.log.notes.position (freed - freed) (note_in log freed) at in
      let low = both.0 in
      let high = both.1 in
      let gone = rests.2.is.gone in
      omega (arith, low, high, gone, place)

  -- where no oldest write set is dead by the time, the first version that isn't is due
  pub is_due : (if ltb end (length log) && ((version_at log end).first == freed) then 0 else end - freed) ≡ 0 → IsDueAt log freed time end
  is_due none = by (ltb end (length log) && ((version_at log end).first == freed)) refl none
    where
      passes_so : (first dead : ℕ) → first ≡ freed → (not (first == freed) || (dead == 0 || ltb time dead)) ≡ true → (dead ≡ 0) ⊎ (time < dead)
      passes_so first dead is e = go (first == freed) (eq-eqb first freed is) (dead == 0) refl (ltb time dead) refl e
        where
          go : (a : Bool) → a ≡ true → (b : Bool) → (dead == 0) ≡ b → (d : Bool) → ltb time dead ≡ d → (not a || (b || d)) ≡ true
              → (dead ≡ 0) ⊎ (time < dead)
          go false p b q d r e = absurd (cc)
          go true p true q d r e = inl (eqb-true dead 0 q)
          go true p false q true r e = inr (ltb_lt time dead r)
          go true p false q false r e = absurd (cc)

      there : (first_from log freed (EndsSet freed time) < length log) → (version_at log (first_from log freed (EndsSet freed time))).first ≡ freed
          → IsDueAt log freed time (first_from log freed (EndsSet freed time))
      there lt is =
          let at = first_from log freed (EndsSet freed time) in
          record {
            low = first_after log freed (EndsSet freed time) (omega (arith, some));
            live = lt;
            oldest = is;
            alive = passes_so (version_at log at).first (version_at log at).dead is (first_there log freed (EndsSet freed time) (omega (arith, some)) lt);
          }

      by : (b : Bool)
          → (ltb (first_from log freed (EndsSet freed time)) (length log) && ((version_at log (first_from log freed (EndsSet freed time))).first == freed)) ≡ b
          → (if b then 0 else first_from log freed (EndsSet freed time) - freed) ≡ 0
          → IsDueAt log freed time (first_from log freed (EndsSet freed time))
      by true e z =
          there (ltb_lt _ _ (and_left _ _ e)) (eqb-true _ _ (and_right _ _ e))
      by false e z =
          let after = first_after log freed (EndsSet freed time) (omega (arith, some)) in
          let here : first_from log freed (EndsSet freed time) ≡ freed = omega (arith, z, after) in
          there (omega (arith, here, some)) (ap (λ p. (version_at log p).first) here ∙ first_oldest)

module _ (c : Config) (v0 w : Knowledge) (log : List NotedVersion) (freed from began : ℕ) (sweep : Sweep) (k : HasCome c v0 w log freed from began)
    (rests : RestsAt c w log freed from None) (known : Known any_start any_commit w)
    (second : IsSecond c v0 w k.made log freed sweep.first) (again : ScanIsWhole c w k.made sweep.last sweep.bound) where
  abbrev Holds : Holder → Type 0
  Holds h = TidyHolds c w (after_noted c v0 w log freed from began k rests) k.made h

  -- the version that is due names the holder
  module _ (at : ℕ) (due : IsDueAt log freed sweep.last.time at) where
    abbrev note_at : IsNoteAt (after_noted c v0 w log freed from began k rests) (at - freed) (note_in log at)
    note_at = noted_at c rests.2.noted log freed from at rests.2.is due.low due.live

    oldest : (note_in log at).first ≡ rests.2.noted.freed
    oldest = due.oldest ∙ sym rests.2.is.gone

    ends : 35184372088831 < (version_at log at).dead → Holds holders.End
    ends late = (
      second.tried.ends at due.low due.live late,
      needs_more_timed c w (after_noted c v0 w log freed from began k rests) (at - freed) (note_in log at)
          (after_stands c v0 w log freed from began k rests) note_at any_start any_commit ∣ known ∣₁ oldest 35184372088831 late,
    )

    fresh : sweep.last.clock < (version_at log at).dead → (version_at log at).dead ≤ 35184372088831 → Holds (holders.Fresh (version_at log at).dead)
    fresh late in_time =
        let s = again.scan in
        let b = s.begun in
        let clock = b.clock_is in
        let from_then = s.from in
        let seen = second.deaths at due.low due.live in_time in (
          record {
            word = b.word;
            before = b.before;
            after = b.after;
            made_is = b.made_is;
            last = b.last;
            later = omega (arith, clock, late);
          },
          others_meanwhile any_start any_commit s.before w ∣ s.known ∣₁ ∣ known ∣₁ s.number s.base s.seen s.mine s.rests (version_at log at).dead
              (omega (arith, from_then, late)) seen,
          needs_of_note c w (after_noted c v0 w log freed from began k rests) (at - freed) (note_in log at)
              (after_stands c v0 w log freed from began k rests) note_at any_start any_commit ∣ known ∣₁ oldest (omega (arith, late)),
        )

    marked : (version_at log at).dead ≢ 0 → (version_at log at).dead ≤ sweep.last.clock → Holds (by_mark sweep.last)
    marked some before =
        let above : sweep.last.time < (version_at log at).dead = ⊎_elim (λ z. absurd (some z)) (λ lt. lt) due.alive in
        let low = again.known in (
          again.scan.read.marked (omega (arith, low, above, before)),
          needs_more_timed c w (after_noted c v0 w log freed from began k rests) (at - freed) (note_in log at)
              (after_stands c v0 w log freed from began k rests) note_at any_start any_commit ∣ known ∣₁ oldest sweep.last.low
              (omega (arith, low, above)),
        )

    untimed_as : (above : Option ℕ) → (version_at log at).dead ≡ 0
        → StaysUntimed c w k.made (mark_of sweep.first) sweep.first.clock true (note_in log at) above → Holds (by_back above (version_at log at) sweep)
    untimed_as None none d =
        let t = d.tried refl in
        let low = second.tried.known in (
          second.tried.read.marked t.0,
          needs_more_untimed c w (after_noted c v0 w log freed from began k rests) (at - freed) (note_in log at)
              (after_stands c v0 w log freed from began k rests) note_at any_start any_commit ∣ known ∣₁ oldest sweep.first.low none d.committed
              d.unwritten (⊎_elim (λ young. inl (omega (arith, young, low))) inr t.1),
        )
    untimed_as (Some seat) none d = record {
      index = at - freed;
      note = note_in log at;
      at = note_at;
      oldest = oldest;
      committed = d.committed;
      untimed = none;
      object_is = refl;
      finds = d.tried refl;
    }

    pub holds_so : Holds (holder_of (version_at log at) sweep)
    holds_so =
        let dead = (version_at log at).dead in
        if_so Holds (ltb 35184372088831 dead) holders.End
        (if ltb sweep.last.clock dead then holders.Fresh dead
        else (if dead == 0 then by_back (version_at log at).above (version_at log at) sweep else by_mark sweep.last))
        (λ e. ends (ltb_lt 35184372088831 dead e))
        (λ e.
        let in_time = ltb_ge 35184372088831 dead e in
        if_so Holds (ltb sweep.last.clock dead) (holders.Fresh dead)
        (if dead == 0 then by_back (version_at log at).above (version_at log at) sweep else by_mark sweep.last)
        (λ late. fresh (ltb_lt sweep.last.clock dead late) in_time)
        (λ early.
        if_so Holds (dead == 0) (by_back (version_at log at).above (version_at log at) sweep) (by_mark sweep.last)
        (λ z.
        let none = eqb-true dead 0 z in
        untimed_as (version_at log at).above none (second.tried.untimed at due.low due.live due.live none))
        (λ some. marked (eqb_ne dead 0 some) (ltb_ge sweep.last.clock dead early))))

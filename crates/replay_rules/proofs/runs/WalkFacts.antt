-- Of a walk: the words that were read, and where it goes on.
use Rattle.std.proofs.Common.{◌≡◌, ◌⊎◌, ℕ, ◌+◌, ◌<◌, ◌≤◌, ◌^◌, ◌==◌, List, length, get_or, true, false, Option, None, Contains, replicate, refl, sym, ap, ◌∙◌}
use Rattle.std.proofs.Common.{subst, arith, inl, inr, eqb-true, slice_set}
use Rattle.std.specs.Prelude.{unwrap_or}
use Rattle.std.proofs.lemmas.List.{length-set, get_or-set_same, get_or-set_other, get_or-replicate, get_or_past}
use Rattle.std.proofs.lemmas.Bool.{cases_lt}
use Rattle.mv_layout.specs.Words.{link_seat_of}
use Rattle.mv_core.proofs.Terms.{dite, ℕ_discrete, Config}
use Rattle.mv_core.specs.declared.view.Knowledge.{Knowledge}
use Rattle.mv_core.specs.declared.view.OwnSection.{OwnSection}
use Rattle.mv_core.specs.declared.view.Passed.{Passed}
use Rattle.mv_core.specs.WalkSteps.{stand_at, word_read}
use Rattle.mv_core.specs.declared.ring.Build.{Build}
use Rattle.mv_core.specs.Rings.{slot_at, index_of}
use Rattle.mv_core.specs.LockSteps.{nothing_built, build_in}
use Rattle.mv_core.proofs.kinds.walking.WalkOn.{at_zero, at_some}
use Rattle.mv_history.specs.declared.answers.LockAnswer.TheVariants as refusals
use Rattle.seat_log.proofs.Standing.{next_spare}
use Rattle.seat_log.specs.Builds.{build_at}
use Rattle.replay_rules.specs.declared.plan.Call.{Call}
use Rattle.replay_rules.specs.declared.plan.Call.TheVariants.{Enter, Read, Lock, Write, Commit, Abort, Leave, Tidy}
use Rattle.replay_rules.specs.declared.seats.NotedVersion.{NotedVersion}
use Rattle.replay_rules.specs.declared.seats.Sweep.{Sweep}
use Rattle.replay_rules.specs.declared.seats.Walking.TheVariants.{LoadFirst, LoadWord}
use Rattle.replay_rules.specs.declared.seats.NextStep.TheVariants.{Walks}
use Rattle.replay_rules.specs.declared.seats.CallAnswer.TheVariants.{Locked}
use Rattle.replay_rules.specs.declared.seats.Then.TheVariants.{Goes, Ends}
use Rattle.replay_rules.specs.GoesOn.{is_lock, is_unset, stand, refusal}
use Rattle.replay_rules.proofs.runs.Sections.{Logs, InSection, MayHold, WalksFor, WordsSoFar}
use Rattle.replay_rules.proofs.runs.Standing.{GoesSo, by_step, by_end}
use Rattle.replay_rules.proofs.runs.Known.{if_so, eqb_ne}
use Rattle.replay_rules.proofs.runs.Helping.{rests_in}
use Rattle.replay_rules.proofs.runs.LogFacts.{noted_long}

-- no word was read yet
pub no_words : (c : Config) (v : Knowledge) (s : OwnSection) (o : ℕ) → WordsSoFar c v s o (replicate 6 0) 0
no_words c v s o = record { wide = refl; small = λ i. zero_small i (cases_lt i 6); are = λ i lt. absurd (omega (arith, lt)) }
  where
    zero_small : (i : ℕ) → (i < 6) ⊎ (6 ≤ i) → get_or (replicate {A = ℕ} 6 0) i 0 < 2 ^ 64
    zero_small i (inl lt) = let e = get_or-replicate {A = ℕ} 6 i 0 0 lt in omega (arith, e)
    zero_small i (inr ge) = let e = get_or_past (replicate {A = ℕ} 6 0) i 0 ge in omega (arith, e)

-- one word more
pub one_word : (c : Config) (v : Knowledge) (s : OwnSection) (o : ℕ) (words : List ℕ) (w found : ℕ) → w < 6 → found < 2 ^ 64 → found ≡ word_read c v s o w
    → WordsSoFar c v s o words w → WordsSoFar c v s o (slice_set words w found) (w + 1)
one_word c v s o words w found lt small is so = record {
  wide = length-set words w found ∙ so.wide;
  small = λ i.
      dite (ℕ_discrete i w)
      (λ e. let here = get_or-set_same words w found 0 (let wide = so.wide in omega (arith, lt, wide)) in
      let there : get_or (slice_set words w found) i 0 ≡ found = ap (λ j. get_or (slice_set words w found) j 0) e ∙ here in omega (arith, there, small))
      (λ ne. let there = get_or-set_other words w i found 0 ne in let old = so.small i in omega (arith, there, old));
  are = λ i le.
      dite (ℕ_discrete i w)
      (λ e. ap (λ j. get_or (slice_set words w found) j 0) e ∙ get_or-set_same words w found 0 (let wide = so.wide in omega (arith, lt, wide)) ∙ is
      ∙ ap (word_read c v s o) (sym e))
      (λ ne. get_or-set_other words w i found 0 ne ∙ so.are i (omega (arith, le, ne)));
}

-- a refusal ends a lock
pub refused : (c : Config) (n : ℕ) (v : Knowledge) (log : List NotedVersion) (freed from : ℕ) (time : Option ℕ) (call : Call) (sweep : Sweep) (link stamp : ℕ) →
    InSection c v log freed from time
    → GoesSo c n v log freed from time call sweep (refusal link stamp)
refused c n v log freed from time call sweep link stamp i =
    if_so (GoesSo c n v log freed from time call sweep) (is_unset stamp) (Ends (Locked (refusals.Busy (link_seat_of link))))
    (Ends (Locked (refusals.Stale stamp)))
    (λ e. by_end (Locked (refusals.Busy (link_seat_of link))) refl (rests_in c v log freed from time i))
    (λ e. by_end (Locked (refusals.Stale stamp)) refl (rests_in c v log freed from time i))

-- a section behind a step that leaves its phase, its clock words and the log
abbrev pub section_stays : (c : Config) (v w : Knowledge) (log : List NotedVersion) (freed from : ℕ) (time : Option ℕ) (i : InSection c v log freed from time) →
    w.phase ≡ v.phase
    → w.clocks ≡ v.clocks → w.back ≡ v.back → Logs c w log freed from → InSection c w log freed from time
section_stays c v w log freed from time i phase clocks back logs = record {
  section = i.section;
  walking = record {
    phase = phase ∙ i.walking.phase;
    open_is = i.walking.open_is;
    helped = subst (λ d. Contains d.helped i.section.word) (sym clocks) i.walking.helped;
    no_back = back ∙ i.walking.no_back;
  };
  time_is = i.time_is;
  logs = logs;
}

-- where a walk goes on at a link that was found
pub stand_so : (c : Config) (n : ℕ) (w : Knowledge) (log : List NotedVersion) (freed from : ℕ) (time : Option ℕ) (call : Call) (sweep : Sweep)
    (o link : ℕ) (passed : Passed) → w.walk ≡ stand_at o link passed false → link < 2 ^ 64 → InSection c w log freed from time
    → o < c.objects → WalksFor c log freed from o call
    → GoesSo c n w log freed from time call sweep (stand o link)
stand_so c n w log freed from time call sweep o link passed at small i range for =
    if_so (GoesSo c n w log freed from time call sweep) (link == 0) (Goes (Walks o (LoadWord link (replicate 6 0) 0))) (Goes (Walks o (LoadFirst link)))
    (λ e. let zero = eqb-true link 0 e in
    by_step (Walks o (LoadWord link (replicate 6 0) 0)) refl
    (i, range, for, (omega arith, small, inl (at ∙ sym (at_zero o link passed false zero), zero), no_words c w i.section o)))
    (λ e. by_step (Walks o (LoadFirst link)) refl (
      i,
      range,
      for,
      record {
        stand = record { object = o; link = link; first = None; stamp = None; passed = passed; late = false };
        at = at ∙ sym (at_some o link passed false (eqb_ne link 0 e));
        object_is = refl;
        link_is = refl;
      },
    ))

-- the call of a walk that is a lock may hold its object
pub lock_holds : (c : Config) (log : List NotedVersion) (freed from o : ℕ) (call : Call) → is_lock call ≡ true → WalksFor c log freed from o call
    → MayHold c log
    freed from o
lock_holds c log freed from o (Lock p) e for = for.1
lock_holds c log freed from o (Read p) e for = absurd (cc)
lock_holds c log freed from o Enter e for = absurd for
lock_holds c log freed from o (Write p words) e for = absurd for
lock_holds c log freed from o Commit e for = absurd for
lock_holds c log freed from o Abort e for = absurd for
lock_holds c log freed from o Leave e for = absurd for
lock_holds c log freed from o Tidy e for = absurd for

-- the slot of the next position has a build of six words, where there is room
pub built_wide : (c : Config) (v : Knowledge) (log : List NotedVersion) (freed from : ℕ) → Logs c v log freed from → length log < freed + c.slots
    → length (build_at c v (length log)).words ≡ 6
built_wide c v log freed from logs room =
    let l = logs.noted in
    let long = noted_long c l log freed from logs.is in
    let slots = logs.stands.slots in
    let b = next_spare c v l logs.stands (omega (arith, long, slots, room)) in
    let next : v.ring.next ≡ length log = (let a = logs.stands.next in let f = logs.is.gone in omega (arith, a, f, long)) in
    ap (λ (x : Build). length x.words) (ap (λ z. unwrap_or z nothing_built) (ap (λ p. build_in (slot_at v.ring (index_of c p))) (sym next) ∙ b.1)) ∙ b.2

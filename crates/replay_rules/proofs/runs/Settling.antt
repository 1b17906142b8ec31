-- The steps of a tidy that look for times of death, and write versions back.
use Rattle.std.proofs.Common.{◌≡◌, ◌≢◌, ℕ, ◌+◌, ◌-◌, ◌<◌, ◌≤◌, ◌==◌, ◌&&◌, ◌||◌, ltb, not, List, length, drop, Bool, true, false}
use Rattle.std.proofs.Common.{Option, None, All, refl, sym, ap, ◌∙◌, subst, arith, eq-eqb, ne_eqb, if◌then◌else◌, mod-lt}
use Rattle.mv_core.proofs.Terms.{dite, ℕ_discrete, Config, Checked, Super, IsPlace}
use Rattle.mv_core.specs.declared.ring.CommitNote.{CommitNote}
use Rattle.mv_core.specs.declared.ring.Slot.TheVariants.{Live}
use Rattle.mv_core.specs.declared.ring.WriteSetStatus.TheVariants.{Committed}
use Rattle.mv_core.specs.declared.view.Knowledge.{Knowledge}
use Rattle.mv_core.specs.Rings.{slot_at, index_of}
use Rattle.mv_core.specs.ReclaimSteps.{MayLoadSuper}
use Rattle.mv_core.specs.Moves.{Moment, MoveKind, load_super, IsStorable}
use Rattle.seat_log.specs.declared.version.Note.{Note}
use Rattle.seat_log.specs.Notes.{Noted, at_place, retired}
use Rattle.seat_log.specs.Stands.{version_of, Stands}
use Rattle.seat_log.proofs.Retired.{stands_found, stands_unfound}
use Rattle.replay_rules.specs.declared.plan.Call.TheVariants.{Tidy}
use Rattle.replay_rules.specs.declared.plan.CallOf.{CallOf}
use Rattle.replay_rules.specs.declared.seats.NotedVersion.{NotedVersion}
use Rattle.replay_rules.specs.declared.seats.Edit.TheVariants.{Kept, Retired, AboveNoted}
use Rattle.replay_rules.specs.declared.seats.Sweep.{Sweep}
use Rattle.replay_rules.specs.declared.seats.State.{State}
use Rattle.replay_rules.specs.declared.seats.Entering.TheVariants.{LoadLow}
use Rattle.replay_rules.specs.declared.seats.Sweeping.TheVariants.{LoadSuper, LoadSuperAgain}
use Rattle.replay_rules.specs.declared.seats.NextStep.{NextStep}
use Rattle.replay_rules.specs.declared.seats.NextStep.TheVariants.{Enters, Tidies}
use Rattle.replay_rules.specs.declared.seats.Then.TheVariants.{Goes}
use Rattle.replay_rules.specs.FitPlans.{IsFitCallOf}
use Rattle.replay_rules.specs.SeatNotes.{version_at, no_version, edited_from, applied}
use Rattle.replay_rules.specs.Tasks.{slot_at as slot_for, place_in_task, access_in_task, written_by}
use Rattle.replay_rules.specs.Sweeps.{settle_behind}
use Rattle.replay_rules.specs.Kinds.{IsKindOf}
use Rattle.replay_rules.specs.States.{Made, state_of}
use Rattle.replay_rules.specs.Runs.{SeatOf, TapeOf, learned}
use Rattle.replay_rules.specs.Behind.{IsTapeBehind}
use Rattle.replay_rules.proofs.runs.Notes.{note_of, notes_from, notes_retired, notes_above, edited_long, edited_behind, edited_at}
use Rattle.replay_rules.proofs.runs.Sections.{seat_with, IsNoted, Logs, RestsAt, IsSwept}
use Rattle.replay_rules.proofs.runs.Standing.{StepsSo}
use Rattle.replay_rules.proofs.runs.Standing.{GoesSo, by_step}
use Rattle.replay_rules.proofs.runs.Stepping.{IsOfKind, view_by, next_is}
use Rattle.replay_rules.proofs.runs.Known.{if_so, ltb_ge, number_is}
use Rattle.replay_rules.proofs.runs.Rounds.{is_note, untimed, settle_so}

-- the notes with the version at a place dead from a time on
pub noted_retired : (c : Config) (l : Noted) (log : List NotedVersion) (freed from at dead : ℕ) → IsNoted c l log freed from → freed ≤ at
    → IsNoted c (retired l at dead) (edited_from (Retired at dead) 0 log) freed from
noted_retired c l log freed from at dead is low =
    let gone = is.gone in
    let place : at - l.freed ≡ at - freed = omega (arith, gone) in
    let there : freed + (at - freed) ≡ at = omega (arith, low) in
    let long = edited_long (Retired at dead) 0 log in
    let held = is.held in
    let within = is.within in
    record {
      live = (λ i. at_place (λ m. record m { dead = dead }) (place i) (is.live i)) ∙ sym (notes_retired (at - freed) dead freed (drop freed log))
          ∙ ap (λ p. notes_from freed (edited_from (Retired p dead) freed (drop freed log))) there
          ∙ ap (notes_from freed) (sym (edited_behind (Retired at dead) freed log));
      gone = gone;
      within = omega (arith, within, long);
      unbuilt = is.unbuilt;
      held = omega (arith, held, long);
      few = is.few;
    }

-- and with another seat noted above it
pub noted_above : (c : Config) (l : Noted) (log : List NotedVersion) (freed from at : ℕ) (seat : Option ℕ) → IsNoted c l log freed from
    → IsNoted c l (edited_from (AboveNoted at seat) 0 log) freed from
noted_above c l log freed from at seat is =
    let long = edited_long (AboveNoted at seat) 0 log in
    let held = is.held in
    let within = is.within in
    record {
      live = is.live ∙ sym (notes_above at seat freed (drop freed log)) ∙ ap (notes_from freed) (sym (edited_behind (AboveNoted at seat) freed log));
      gone = is.gone;
      within = omega (arith, within, long);
      unbuilt = is.unbuilt;
      held = omega (arith, held, long);
      few = is.few;
    }

-- a version that is noted so has the same time, and no time of death as before
above_kept : (log : List NotedVersion) (at : ℕ) (seat : Option ℕ) → at < length log
    → ((version_at (edited_from (AboveNoted at seat) 0 log) at).time ≡ (version_at log at).time)
    × ((version_at (edited_from (AboveNoted at seat) 0 log) at).dead ≡ (version_at log at).dead)
above_kept log at seat lt =
    let is = edited_at (AboveNoted at seat) 0 at log no_version lt in
    let same = either (at == 0 + at) (version_at log at) in
    (ap (λ (v : NotedVersion). v.time) is ∙ same.0, ap (λ (v : NotedVersion). v.dead) is ∙ same.1)
  where
    either : (b : Bool) (v : NotedVersion) → ((if b then record v { above = seat } else v).time ≡ v.time) ×
        ((if b then record v { above = seat } else v).dead ≡ v.dead)
    either true v = (refl, refl)
    either false v = (refl, refl)

module _ (c : Config) (k : Checked c) (n : ℕ) (lt : n < c.seats) (made : List Made) (t : TapeOf) (b : IsTapeBehind c t made)
    (log : List NotedVersion) (freed from : ℕ) (sweep : Sweep) (own : Option NextStep) (left : List CallOf)
    (no_scan : ((state_of c made).seats n).scan ≡ None) (before : All (IsFitCallOf c) left) where
  abbrev s : Moment
  s = state_of c made

  abbrev v : Knowledge
  v = s.seats n

  -- behind a version the next one is looked at
  pub behind_so : (w : Knowledge) (log2 : List NotedVersion) (sweep2 : Sweep) (at : ℕ) → w.scan ≡ None → RestsAt c w log2 freed from None
      → IsSwept w.grace sweep2
      → freed ≤ at
      → at < length log2
      → GoesSo c n w log2 freed from None Tidy sweep2
      (settle_behind log2 (record { seat = n; time = None; from = from; freed = freed; call = Tidy; sweep = sweep2 }) at)
  behind_so w log2 sweep2 at none rests swept low inside =
      settle_so c n w log2 freed from sweep2 none rests swept (at + 1) (omega (arith, low)) (omega (arith, inside))

  module _ (rests : RestsAt c v log freed from None) (swept : IsSwept v.grace sweep) (at : ℕ) (low : freed ≤ at) (inside : at < length log)
      (alive : (version_at log at).dead ≡ 0) where
    abbrev m : Note
    m = note_of at (version_at log at)

    abbrev noted_as : (note : CommitNote) × (slot_at v.ring (index_of c at) ≡ Live (version_of (note_of at (version_at log at))) (Committed note))
        × (note.time ≡ (version_at log at).time) × (note.dead ≡ None) × (note.cut ≡ false)
    noted_as = untimed c v log freed from rests.2 rests.1 at low inside alive

    abbrev kind : MoveKind
    kind = load_super at (version_of (note_of at (version_at log at))) noted_as.0

    abbrev w : Knowledge
    w = view_by c s n (load_super at (version_of (note_of at (version_at log at))) noted_as.0)

    abbrev found : ℕ
    found = s.memory (Super n (index_of c at))

    may : MayLoadSuper c v at (version_of (note_of at (version_at log at))) noted_as.0
    may = record { own = noted_as.1; position_is = refl; no_death = noted_as.3; uncut = noted_as.4 }

    place_is : Super v.number (index_of c at) ≡ Super n (index_of c at)
    place_is = ap (λ p. Super p (index_of c at)) (number_is c k n made b.each)

    found_there : s.memory (Super v.number (index_of c at)) ≡ found
    found_there = ap s.memory place_is

    -- the notes behind it, where a time was found, and where none was
    found_logs : 0 < found → Logs c w (edited_from (Retired at found) 0 log) freed from
    found_logs some =
        let l = rests.2.noted in
        let note = is_note c v log freed from rests.2 rests.1 at low inside alive in
        let so = stands_found c v l (at - freed) m noted_as.0 (s.memory (Super v.number (index_of c at))) _ rests.2.stands note noted_as.1 alive
        (subst (λ x. 0 < x) (sym found_there) some) in
        record {
          noted = retired l at found;
          stands = subst (λ x. Stands c w (retired l at x)) found_there so;
          is = noted_retired c l log freed from at found rests.2.is low;
        }

    unfound_stands : found ≡ 0 → Stands c w rests.2.noted
    unfound_stands none =
        stands_unfound c v rests.2.noted (at - freed) m noted_as.0 (s.memory (Super v.number (index_of c at))) _ rests.2.stands noted_as.1 (found_there ∙ none)

    rests_so : (log2 : List NotedVersion) → length log2 ≡ length log → Logs c w log2 freed from → RestsAt c w log2 freed from None
    rests_so log2 long logs = (rests.0, (let none = rests.1 in omega (arith, none, long)), logs)

    of_super : (task : NextStep) → place_in_task c n task ≡ Super n (slot_for c at)
        → ((x : ℕ) → None ≡ written_by (access_in_task n task) x) → IsKindOf task kind → IsOfKind c s n kind task
    of_super task there writes is = record {
      is = is;
      may = may;
      range = subst (IsPlace c) (sym there) (lt, (let slots = k.slots.0 in mod-lt at (omega (arith, slots))));
      place = place_is ∙ sym there;
      writes = writes;
      fits = λ x _. subst IsStorable (writes x) tt;
    }

    abbrev seat_so : SeatOf
    seat_so = seat_with n log freed from None Tidy sweep own left

    abbrev sweep_at : Sweep
    sweep_at = record sweep { at = at }

    abbrev state_at : State
    state_at = record { seat = n; time = None; from = from; freed = freed; call = Tidy; sweep = record sweep { at = at } }

    -- a load of SUPER whose version has a time of death then
    super_found : found ≢ 0 → StepsSo c n made t (Tidies (LoadSuper at)) seat_so
    super_found some =
        let task = Tidies (LoadSuper at) in
        let pos : 0 < found = omega (arith, some) in
        let no_one : (found == 0) ≡ false = ne_eqb found 0 some in
        let log2 = edited_from (Retired at found) 0 log in
        let long = edited_long (Retired at found) 0 log in
        let rested = rests_so log2 long (found_logs pos) in
        let is : learned task found seat_so ≡ seat_with n log2 freed from None Tidy sweep_at own left =
        ap (λ x. record (seat_with n log freed from None Tidy sweep_at own left) {
          log = applied (if x && not sweep.again then AboveNoted at None else (if x then Kept else Retired at found)) log;
        }) no_one in
        next_is c k n lt made t b kind task (of_super task refl (λ x. refl) (_, _, refl)) seat_so refl log2 freed from None Tidy sweep_at own left is
        no_scan before
        (subst (λ x. GoesSo c n w log2 freed from None Tidy sweep_at
        (if not x || (sweep.again || ltb sweep.last.time (version_at log2 at).time) then settle_behind log2 state_at at else Goes (Enters LoadLow)))
        (sym no_one)
        (behind_so w log2 sweep_at at no_scan rested swept low (omega (arith, inside, long))))

    -- and one of a version that has none, in the second round
    super_again : found ≡ 0 → sweep.again ≡ true → StepsSo c n made t (Tidies (LoadSuper at)) seat_so
    super_again none again =
        let task = Tidies (LoadSuper at) in
        let zero_is : (found == 0) ≡ true = eq-eqb found 0 none in
        let logs2 : Logs c w log freed from = record { noted = rests.2.noted; stands = unfound_stands none; is = rests.2.is } in
        let rested = rests_so log refl logs2 in
        let is : learned task found seat_so ≡ seat_with n log freed from None Tidy sweep_at own left =
        (λ i. record (seat_with n log freed from None Tidy sweep_at own left) {
          log = applied (if zero_is i && not (again i) then AboveNoted at None else (if zero_is i then Kept else Retired at found)) log;
        }) in
        next_is c k n lt made t b kind task (of_super task refl (λ x. refl) (_, _, refl)) seat_so refl log freed from None Tidy sweep_at own left is
        no_scan before
        (subst (λ x. GoesSo c n w log freed from None Tidy sweep_at
        (if not x || (sweep.again || ltb sweep.last.time (version_at log at).time) then settle_behind log state_at at else Goes (Enters LoadLow)))
        (sym zero_is)
        (subst (λ x. GoesSo c n w log freed from None Tidy sweep_at
        (if x || ltb sweep.last.time (version_at log at).time then settle_behind log state_at at else Goes (Enters LoadLow))) (sym again)
        (behind_so w log sweep_at at no_scan rested swept low inside)))

    -- in the first round such a version is written back, if it is old enough
    super_first : found ≡ 0 → sweep.again ≡ false → StepsSo c n made t (Tidies (LoadSuper at)) seat_so
    super_first none first =
        let task = Tidies (LoadSuper at) in
        let zero_is : (found == 0) ≡ true = eq-eqb found 0 none in
        let log2 = edited_from (AboveNoted at None) 0 log in
        let long = edited_long (AboveNoted at None) 0 log in
        let kept = above_kept log at None inside in
        let logs2 : Logs c w log2 freed from =
        record { noted = rests.2.noted; stands = unfound_stands none; is = noted_above c rests.2.noted log freed from at None rests.2.is } in
        let rested = rests_so log2 long logs2 in
        let is : learned task found seat_so ≡ seat_with n log2 freed from None Tidy sweep_at own left =
        (λ i. record (seat_with n log freed from None Tidy sweep_at own left) {
          log = applied (if zero_is i && not (first i) then AboveNoted at None else (if zero_is i then Kept else Retired at found)) log;
        }) in
        next_is c k n lt made t b kind task (of_super task refl (λ x. refl) (_, _, refl)) seat_so refl log2 freed from None Tidy sweep_at own left is
        no_scan before
        (subst (λ x. GoesSo c n w log2 freed from None Tidy sweep_at
        (if not x || (sweep.again || ltb sweep.last.time (version_at log2 at).time) then settle_behind log2 state_at at else Goes (Enters LoadLow)))
        (sym zero_is)
        (subst (λ x. GoesSo c n w log2 freed from None Tidy sweep_at
        (if x || ltb sweep.last.time (version_at log2 at).time then settle_behind log2 state_at at else Goes (Enters LoadLow))) (sym first)
        (if_so (GoesSo c n w log2 freed from None Tidy sweep_at) (ltb sweep.last.time (version_at log2 at).time) (settle_behind log2 state_at at)
        (Goes (Enters LoadLow))
        (λ young. behind_so w log2 sweep_at at no_scan rested swept low (omega (arith, inside, long)))
        (λ old. by_step (Enters LoadLow) refl (
          rests.0,
          (
            record {
              unfreed = low;
              live = omega (arith, inside, long);
              no_death = kept.1 ∙ alive;
              known = (let le = ltb_ge sweep.last.time (version_at log2 at).time old in let most = swept.1 in omega (arith, le, most));
            },
            swept,
            rested.1,
          ),
          refl,
          rested.1,
          logs2,
        )))))

    super_made : StepsSo c n made t (Tidies (LoadSuper at)) seat_so
    super_made = dite (ℕ_discrete found 0) (λ none. round sweep.again refl none) (λ some. super_found some)
      where
        round : (x : Bool) → sweep.again ≡ x → found ≡ 0 → StepsSo c n made t (Tidies (LoadSuper at)) seat_so
        round true again none = super_again none again
        round false first none = super_first none first

    -- SUPER is loaded once more, where HEAD was found to be 0
    again_made : StepsSo c n made t (Tidies (LoadSuperAgain at)) seat_so
    again_made =
        let task = Tidies (LoadSuperAgain at) in
        dite (ℕ_discrete found 0)
        (λ none.
        let zero_is : (found == 0) ≡ true = eq-eqb found 0 none in
        let logs2 : Logs c w log freed from = record { noted = rests.2.noted; stands = unfound_stands none; is = rests.2.is } in
        let is : learned task found seat_so ≡ seat_so =
        (λ i. record seat_so { log = applied (if zero_is i then Kept else Retired at found) log }) in
        next_is c k n lt made t b kind task (of_super task refl (λ x. refl) (_, _, refl)) seat_so refl log freed from None Tidy sweep own left is
        no_scan before
        (behind_so w log sweep at no_scan (rests_so log refl logs2) swept low inside))
        (λ some.
        let pos : 0 < found = omega (arith, some) in
        let no_one : (found == 0) ≡ false = ne_eqb found 0 some in
        let log2 = edited_from (Retired at found) 0 log in
        let long = edited_long (Retired at found) 0 log in
        let is : learned task found seat_so ≡ seat_with n log2 freed from None Tidy sweep own left =
        (λ i. record seat_so { log = applied (if no_one i then Kept else Retired at found) log }) in
        next_is c k n lt made t b kind task (of_super task refl (λ x. refl) (_, _, refl)) seat_so refl log2 freed from None Tidy sweep own left is
        no_scan before
        (behind_so w log2 sweep at no_scan (rests_so log2 long (found_logs pos)) swept low (omega (arith, inside, long))))

  pub super_is : RestsAt c v log freed from None → IsSwept v.grace sweep → (at : ℕ) → freed ≤ at → at < length log → (version_at log at).dead ≡ 0
      → StepsSo c n made t (Tidies (LoadSuper at)) (seat_with n log freed from None Tidy sweep own left)
  super_is = super_made

  pub again_is : RestsAt c v log freed from None → IsSwept v.grace sweep → (at : ℕ) → freed ≤ at → at < length log → (version_at log at).dead ≡ 0
      → StepsSo c n made t (Tidies (LoadSuperAgain at)) (seat_with n log freed from None Tidy sweep own left)
  again_is = again_made

-- How a lock of a replay goes on behind each of its steps.
use Rattle.std.proofs.Common.{◌≡◌, ℕ, ◌<◌, true, List, [], ◌∷◌, ◌++◌, Option, refl, sym, ap, ◌∙◌, subst, arith}
use Rattle.mv_layout.specs.Words.{link_seat_of}
use Rattle.mv_core.proofs.Terms.{Config, Checked, First, Stamp}
use Rattle.mv_core.specs.declared.view.Knowledge.{Knowledge}
use Rattle.mv_core.specs.declared.view.Stand.{Stand}
use Rattle.mv_core.specs.declared.view.WalkStage as walking
use Rattle.mv_core.specs.declared.view.WalkStage.TheVariants as walk
use Rattle.mv_core.specs.Rings.{index_of}
use Rattle.mv_core.specs.WalkSteps.{slot_named, IsWriteOf}
use Rattle.mv_core.specs.Moves.{Moment, MoveKind, load_first, load_stamp}
use Rattle.mv_core.specs.Times.{words_of}
use Rattle.mv_core.specs.Views.{time_in}
use Rattle.version_chain.specs.Walks.{inside_of, stand_of}
use Rattle.version_chain.specs.Reads.{words_in}
use Rattle.replay_rules.specs.declared.plan.Call.TheVariants.{Lock}
use Rattle.replay_rules.specs.declared.seats.NotedVersion.{NotedVersion}
use Rattle.replay_rules.specs.declared.seats.State.{State}
use Rattle.replay_rules.specs.declared.seats.Locking.{Locking}
use Rattle.replay_rules.specs.declared.seats.Locking.TheVariants.{Build, LockHead, ClearPrevious, FoundFirst, FoundStamp}
use Rattle.replay_rules.specs.declared.seats.NextStep.TheVariants.{Enters, Helps, Walks, Locks, Writes, EndsSection, Tidies}
use Rattle.replay_rules.specs.Tasks.{locking_place, place_in_task}
use Rattle.replay_rules.specs.SeatNotes.{applied}
use Rattle.replay_rules.specs.Learns.{state_after, edit_of}
use Rattle.replay_rules.specs.GoesOn.{after_locking}
use Rattle.replay_rules.specs.States.{Made, state_of, AreMade}
use Rattle.replay_rules.specs.NextSteps.{IsStepOf}
use Rattle.replay_rules.specs.Kinds.{IsKindOfLocking}
use Rattle.replay_rules.specs.Answers.{AnswersSo}
use Rattle.replay_rules.proofs.runs.Sections.{InSection, StandsAt}
use Rattle.replay_rules.proofs.runs.Standing.{IsLocking, step_of}
use Rattle.replay_rules.proofs.runs.Stepping.{view_by}
use Rattle.replay_rules.proofs.answers.Progress.{Comes, state_with, GoesOnSo}
use Rattle.replay_rules.proofs.answers.Seen.{all_seen, stamp_told}
use Rattle.replay_rules.proofs.answers.Locks.Far.{first_step, stamp_step, HasLost, BuildFar, LockFar, load_done, found_on}
use Rattle.replay_rules.proofs.answers.Locks.Refusals.{refusal_so}
use Rattle.replay_rules.proofs.answers.Locks.Walks.{walk_so}
use Rattle.replay_rules.proofs.answers.Locks.Builds.{field_so, clear_so}
use Rattle.replay_rules.proofs.answers.Locks.Exchanges.{exchange_so}

-- behind its walk
module _ (o : ℕ) (c : Config) (k : Checked c) (n : ℕ) (lt : n < c.seats) (made : List Made) (each : AreMade c made) (log : List NotedVersion)
    (freed from : ℕ) (time : Option ℕ) (u : Knowledge) (notes : List NotedVersion) (state : State) (version : NotedVersion) (at : ℕ)
    (same : version.object ≡ o) where
  abbrev s : Moment
  s = state_of c made

  abbrev v : Knowledge
  v = s.seats n

  -- the step of the core is of this kind
  abbrev Steps : Locking → MoveKind → Type 0
  Steps next kind = IsStepOf c made (step_of n kind) n (Locks version at next)

  -- what comes behind it
  abbrev Comes_so : Locking → MoveKind → Type 0
  Comes_so next kind =
      Comes (LockFar o c n u (view_by c s n kind) notes state) (AnswersSo c (Lock o) u (view_by c s n kind))
      (after_locking next version at (s.memory (locking_place c n version.object at next)))

  -- the write set of the version that came first
  first_so : (link : ℕ) (stand : Stand) → HasLost c u v version.object link 22 [] → Steps (FoundFirst link) (load_first link stand)
      → Comes_so (FoundFirst link) (load_first link stand)
  first_so link stand lost step =
      let w = view_by c s n (load_first link stand) in
      let first = s.memory (First (link_seat_of link) (slot_named c link)) in
      let m = step.may.may in (
        same,
        record {
          tried = lost.tried;
          few = lost.few;
          done = load_done c u v w version.object 22 lost.tried _ lost.done (all_seen v) refl tt refl refl (refl, refl);
          found = found_on c u v w version.object link [] (first_step c link first) lost.found
              (ap (λ (x : ℕ). v.trail ++ first_step c x first ∷ []) m.link_is);
          other = lost.other;
          late = ap (λ (x : walking.WalkStage). (stand_of x).late) (sym m.stands) ∙ lost.late;
        },
      )

  -- and its stamp, by which the lock is refused
  stamp_so : (inside : InSection c v log freed from time) (p link first : ℕ) (stand : Stand) → version.object ≡ p → StandsAt v p link
      → HasLost c u v version.object link 23 (first_step c link first ∷ []) → Steps (FoundStamp link first) (load_stamp link first stand)
      → Comes_so (FoundStamp link first) (load_stamp link first stand)
  stamp_so inside p link first stand object_is there lost step =
      let w = view_by c s n (load_stamp link first stand) in
      let found = s.memory (Stamp (link_seat_of link) (index_of c first)) in
      let m = step.may.may in
      let told = (stamp_told c k n lt made each link first stand m).0 in
      let is : walk.At there.stand ≡ walk.At stand = sym there.at ∙ m.stands in
      let one : there.stand ≡ stand = cc in
      let object : stand.object ≡ version.object = ap (λ (x : Stand). x.object) (sym one) ∙ there.object_is ∙ sym object_is in
      let late : stand.late ≡ true = ap (λ (x : walking.WalkStage). (stand_of x).late) (sym m.stands) ∙ lost.late in
      refusal_so (LockFar o c n u w notes state) c u w version.object o link first found 24 lost.tried inside.section same
      (load_done c u v w version.object 23 lost.tried _ lost.done told.sees.more refl tt refl refl (refl, refl)) (omega arith) lost.few
      (found_on c u v w version.object link (first_step c link first ∷ []) (stamp_step c link first found) lost.found
      (ap (λ (x : ℕ). v.trail ++ stamp_step c x first found ∷ []) m.link_is)) inside.walking.phase
      (λ unset. lost.other)
      (λ low. (
        told.late inside.section inside.walking.phase late low,
        subst (λ (q : ℕ). IsWriteOf c w.past.seen q found) object (told.write low),
      ))

  locks_so : (next : Locking) → IsLocking c v log freed from time version at next → BuildFar c u v version.object version.previous next → (kind : MoveKind)
      → Steps next kind → IsKindOfLocking version at next kind → Comes_so next kind
  locks_so (Build field) l far kind step is =
      subst (Comes_so (Build field)) (sym is.1)
      (field_so o c k n made log freed from time u l.inside l.may.room notes state version at l.builds.at_is same field is.0 l.locks.0
      (subst (Steps (Build field)) is.1 step) l.locks.3.wide far)
  locks_so LockHead l far kind step is =
      let reads : version.words ≡ words_in c v version.object =
      l.builds.words
      ∙ (λ j. words_of c v.start v.past.seen (time_in (inside_of (sym l.inside.walking.phase j))) (sym l.builds.object_is j)) in
      subst (Comes_so LockHead) (sym is.2)
      (exchange_so o c k n lt made each u notes state version at same is.0 is.1 (subst (Steps LockHead) is.2 step).may.may reads far)
  locks_so ClearPrevious l far kind step is =
      subst (Comes_so ClearPrevious) (sym is.1)
      (clear_so o c k n made log freed from time u l.inside l.may.room notes state version at l.builds.at_is same is.0 (subst (Steps ClearPrevious) is.1 step)
      l.locks.2.1.wide far.0 far.1)
  locks_so (FoundFirst link) l far kind step is =
      subst (Comes_so (FoundFirst link)) (sym is.1) (first_so link is.0 far (subst (Steps (FoundFirst link)) is.1 step))
  locks_so (FoundStamp link first) l far kind step is =
      subst (Comes_so (FoundStamp link first)) (sym is.1)
      (stamp_so l.inside l.object link first is.0 l.builds.object_is l.locks.0 far (subst (Steps (FoundStamp link first)) is.1 step))

pub lock_goes : (o : ℕ) → GoesOnSo (Lock o) (LockFar o)
lock_goes o c k n lt made each log freed from time sweep (Walks p next) stands scan kind step is u far so =
    walk_so o c k n lt made each log freed from time sweep u stands.0 p stands.2.0 stands.2.1 next stands.3 far kind step is
lock_goes o c k n lt made each log freed from time sweep (Locks version at next) stands scan kind step is u far so =
    let s = state_with n time from freed (Lock o) sweep in
    let task = Locks version at next in
    let found = (state_of c made).memory (place_in_task c n task) in
    locks_so o c k n lt made each log freed from time u (applied (edit_of task s found) log) (state_after task log s found) version at far.0 next stands.0
    far.1 kind step is
lock_goes o c k n lt made each log freed from time sweep (Enters next) stands scan kind step is u far so = absurd far
lock_goes o c k n lt made each log freed from time sweep (Helps next) stands scan kind step is u far so = absurd far
lock_goes o c k n lt made each log freed from time sweep (Writes at words word) stands scan kind step is u far so = absurd far
lock_goes o c k n lt made each log freed from time sweep (EndsSection next) stands scan kind step is u far so = absurd far
lock_goes o c k n lt made each log freed from time sweep (Tidies next) stands scan kind step is u far so = absurd far

-- The steps of the walk of a lock: what is on top of the object's chain, and its words.
use Rattle.std.proofs.Common.{◌≡◌, ◌≢◌, ℕ, ◌+◌, ◌<◌, ◌^◌, ◌==◌, ◌&&◌, ltb, leb, not, Bool, List, [], ◌∷◌, ◌++◌, length, true, false, Option}
use Rattle.std.proofs.Common.{replicate, refl, sym, ap, ◌∙◌, subst, ⊎_elim, arith, inl, inr, if◌then◌else◌, slice_set}
use Rattle.std.specs.Prelude.{unwrap_or}
use Rattle.mv_history.specs.declared.StepKind.TheVariants as kinds
use Rattle.mv_layout.specs.Words.{IsUnset, link_seat_of}
use Rattle.mv_core.proofs.Terms.{Config, Checked, Head, First, Stamp}
use Rattle.mv_core.specs.declared.ring.Slot.TheVariants.{Live}
use Rattle.mv_core.specs.declared.ring.WriteSetStatus.{WriteSetStatus}
use Rattle.mv_core.specs.declared.view.Knowledge.{Knowledge}
use Rattle.mv_core.specs.declared.view.OwnSection.{OwnSection}
use Rattle.mv_core.specs.declared.view.Stand.{Stand}
use Rattle.mv_core.specs.declared.view.WalkStage.TheVariants as walk
use Rattle.mv_core.specs.Rings.{slot_at, index_of}
use Rattle.mv_core.specs.Views.{time_in}
use Rattle.mv_core.specs.WalkSteps.{slot_named, IsWriteOf, IsPackedOf, IsOwnTop, IsOwnTime}
use Rattle.mv_core.specs.Moves.{Moment, MoveKind, load_head, load_first, load_stamp, load_data, load_master}
use Rattle.mv_core.proofs.kinds.walking.LoadHead.{head_loads}
use Rattle.replay_rules.specs.declared.plan.Call.TheVariants.{Lock}
use Rattle.replay_rules.specs.declared.seats.NotedVersion.{NotedVersion}
use Rattle.replay_rules.specs.declared.seats.Sweep.{Sweep}
use Rattle.replay_rules.specs.declared.seats.State.{State}
use Rattle.replay_rules.specs.declared.seats.Walking.{Walking}
use Rattle.replay_rules.specs.declared.seats.Walking.TheVariants.{LoadHead, LoadFirst, LoadStamp, LoadPrev, LoadWord}
use Rattle.replay_rules.specs.declared.seats.Locking.TheVariants as locking
use Rattle.replay_rules.specs.declared.seats.NextStep.TheVariants.{Walks, Locks}
use Rattle.replay_rules.specs.declared.seats.Then.TheVariants.{Goes}
use Rattle.replay_rules.specs.States.{any_commit, any_start, zeros, Made, state_of, AreMade}
use Rattle.replay_rules.specs.Tasks.{walking_place}
use Rattle.replay_rules.specs.GoesOn.{is_unset, refusal, new_version, after_walking}
use Rattle.replay_rules.specs.NextSteps.{IsStepOf}
use Rattle.replay_rules.specs.Kinds.{IsKindOfWalking}
use Rattle.replay_rules.specs.Answers.{AnswersSo}
use Rattle.replay_rules.proofs.runs.Sections.{InSection, MayHold, StandsAt, WalksAt}
use Rattle.replay_rules.proofs.runs.Standing.{step_of}
use Rattle.replay_rules.proofs.runs.Stepping.{view_by}
use Rattle.replay_rules.proofs.runs.Known.{if_so, eqb_ne, leb_le, leb_gt, facts, view_there, starts, seated, word_small}
use Rattle.replay_rules.proofs.runs.LogFacts.{held_in_log}
use Rattle.replay_rules.proofs.answers.Progress.{Comes, state_with}
use Rattle.replay_rules.proofs.answers.Seen.{all_seen, stamp_told}
use Rattle.replay_rules.proofs.answers.Locks.Far.{HasDone, first_step, stamp_step, WalkFar, LockFar, done_more, load_done, found_now, found_on}
use Rattle.replay_rules.proofs.answers.Locks.Refusals.{same_number, refusal_so}

-- a time that isn't up to another is above it
later : (found time : ℕ) → (not (is_unset found) && leb found time) ≡ false → found < 2 ^ 63 → time < found
later found time limit low = go (is_unset found) refl (leb found time) refl limit
  where
    go : (b : Bool) → is_unset found ≡ b → (l : Bool) → leb found time ≡ l → (not b && l) ≡ false → time < found
    go true p l q e = let high = leb_le 9223372036854775808 found p in absurd (omega (arith, high, low))
    go false p true q e = absurd (cc)
    go false p false q e = leb_gt found time q

module _ (o : ℕ) (c : Config) (k : Checked c) (n : ℕ) (lt : n < c.seats) (made : List Made) (each : AreMade c made) (log : List NotedVersion)
    (freed from : ℕ) (time : Option ℕ) (sweep : Sweep) (u : Knowledge) (inside : InSection c ((state_of c made).seats n) log freed from time)
    (p : ℕ) (same : p ≡ o) (may : MayHold c log freed from p) where
  abbrev s : Moment
  s = state_of c made

  abbrev v : Knowledge
  v = s.seats n

  abbrev i : OwnSection
  i = inside.section

  abbrev state : State
  state = state_with n time from freed (Lock o) sweep

  -- what comes behind a step of this kind
  abbrev Comes_so : Walking → MoveKind → Type 0
  Comes_so next kind =
      Comes (LockFar o c n u (view_by c s n kind) log state) (AnswersSo c (Lock o) u (view_by c s n kind))
      (after_walking next c log state p (s.memory (walking_place c p next)))

  -- the step of the core is of this kind
  abbrev Steps : Walking → MoveKind → Type 0
  Steps next kind = IsStepOf c made (step_of n kind) n (Walks p next)

  head_so : (there : OwnSection) → HasDone c u v p 0 [] → Steps LoadHead (load_head p there) → Comes_so LoadHead (load_head p there)
  head_so there done step =
      let w = view_by c s n (load_head p there) in
      let link = s.memory (Head p) in
      let told = (head_loads any_start any_commit c (zeros c) v p there step.may.may s.memory s.history s.seats (facts c k n made each)
      (view_there c k n made each) (seated c k n made each lt) (starts c k n made each) (word_small c k n made each (Head p))).2.0.0 in
      let one = load_done c u v w p 0 [] _ done (all_seen v) refl tt refl refl (refl, refl) in
      if_so (Comes (LockFar o c n u w log state) (AnswersSo c (Lock o) u w)) (link == 0) (Goes (Walks p (LoadWord link (replicate 6 0) 0)))
      (Goes (Walks p (LoadFirst link)))
      (λ e. done_more c u w p 1 3 [] (omega arith) one)
      (λ e. (one, found_now c u v w p link 0 [] kinds.LoadHead done refl (told.1 (eqb_ne link 0 e)), told.2))

  first_so : (link : ℕ) (stand : Stand) → WalkFar c u v p (LoadFirst link) → Steps (LoadFirst link) (load_first link stand)
      → Comes_so (LoadFirst link) (load_first link stand)
  first_so link stand far step =
      let w = view_by c s n (load_first link stand) in
      let first = s.memory (First (link_seat_of link) (slot_named c link)) in
      let is = step.may.may.link_is in (
        load_done c u v w p 1 [] _ far.0 (all_seen v) refl tt refl refl (refl, refl),
        found_on c u v w p link [] (first_step c link first) far.1 (ap (λ (l : ℕ). v.trail ++ first_step c l first ∷ []) is),
        far.2,
      )

  -- the version on top is of another seat, where its stamp is unset
  other_seat : (link found : ℕ) → IsPackedOf c link → IsOwnTop c v p link → IsOwnTime c v link found → IsUnset found → link_seat_of link ≢ v.number
  other_seat link found packed top timed unset seat =
      let high = packed.0.0 in
      let own = top (λ z. absurd (omega (arith, high, z))) seat in
      ⊎_elim
      (λ held. held_in_log c k v log freed from inside.logs p may.unheld (slot_named c link) own.0
      (subst (λ (st : WriteSetStatus). slot_at v.ring (slot_named c link) ≡ Live own.0 st) held own.2) own.3)
      (λ done.
      let low = timed seat own.0 done.0 (subst (λ (st : WriteSetStatus). slot_at v.ring (slot_named c link) ≡ Live own.0 st) done.1 own.2) inside.section
      inside.walking.phase inside.walking.open_is in
      omega (arith, low, unset))
      own.4

  stamp_so : (link first : ℕ) (stand : Stand) → StandsAt v p link → WalkFar c u v p (LoadStamp link first)
      → Steps (LoadStamp link first) (load_stamp link first stand) → Comes_so (LoadStamp link first) (load_stamp link first stand)
  stamp_so link first stand at far step =
      let w = view_by c s n (load_stamp link first stand) in
      let found = s.memory (Stamp (link_seat_of link) (index_of c first)) in
      let m = step.may.may in
      let told = stamp_told c k n lt made each link first stand m in
      let done = load_done c u v w p 2 [] _ far.0 told.0.sees.more refl tt refl refl (refl, refl) in
      let number = same_number c u v p 2 [] far.0 in
      let is : walk.At at.stand ≡ walk.At stand = sym at.at ∙ m.stands in
      let one : at.stand ≡ stand = cc in
      let object : stand.object ≡ p = ap (λ (x : Stand). x.object) (sym one) ∙ at.object_is in
      if_so (Comes (LockFar o c n u w log state) (AnswersSo c (Lock o) u w)) (not (is_unset found) && leb found (unwrap_or time 0))
      (Goes (Walks p (LoadWord link (replicate 6 0) 0))) (refusal link found)
      (λ e. done)
      (λ limit.
      refusal_so (LockFar o c n u w log state) c u w p o link first found 3 [] i same done (omega arith) tt
      (found_on c u v w p link (first_step c link first ∷ []) (stamp_step c link first found) far.1
      (ap (λ (l : ℕ). v.trail ++ stamp_step c l first found ∷ []) m.link_is)) inside.walking.phase
      (λ unset q. other_seat link found far.1.packed far.2 told.1 unset (q ∙ sym number))
      (λ low. (
        (let after = later found (unwrap_or time 0) limit low in
            let is : unwrap_or time 0 ≡ time_in inside.section = ap (λ z. unwrap_or z 0) inside.time_is in
            omega (arith, after, is)),
        subst (λ (q : ℕ). IsWriteOf c w.past.seen q found) object (told.0.write low),
      )))

  -- one word more of the object was read
  word_so : (w : Knowledge) (link : ℕ) (words : List ℕ) (word found : ℕ) → word < 6 → HasDone c u w p (3 + word + 1) []
      → Comes (LockFar o c n u w log state) (AnswersSo c (Lock o) u w)
      (if ltb word 5 then Goes (Walks p (LoadWord link (slice_set words word found) (word + 1)))
      else Goes (Locks (new_version state p link (slice_set words word found)) (length log) (locking.Build 0)))
  word_so w link words word found less done =
      if_so (Comes (LockFar o c n u w log state) (AnswersSo c (Lock o) u w)) (ltb word 5)
      (Goes (Walks p (LoadWord link (slice_set words word found) (word + 1))))
      (Goes (Locks (new_version state p link (slice_set words word found)) (length log) (locking.Build 0)))
      (λ e. done_more c u w p (3 + word + 1) (3 + (word + 1)) [] (omega arith) done)
      (λ e. (same, done_more c u w p (3 + word + 1) 9 [] (omega (arith, less)) done))

  pub walk_so : (next : Walking) → WalksAt c v inside.section p next → WalkFar c u v p next → (kind : MoveKind) → Steps next kind
      → IsKindOfWalking p next kind → Comes_so next kind
  walk_so LoadHead at far kind step is = subst (Comes_so LoadHead) (sym is.1) (head_so is.0 far (subst (Steps LoadHead) is.1 step))
  walk_so (LoadFirst link) at far kind step is =
      subst (Comes_so (LoadFirst link)) (sym is.1) (first_so link is.0 far (subst (Steps (LoadFirst link)) is.1 step))
  walk_so (LoadStamp link first) at far kind step is =
      subst (Comes_so (LoadStamp link first)) (sym is.1) (stamp_so link first is.0 at.0 far (subst (Steps (LoadStamp link first)) is.1 step))
  walk_so (LoadPrev link) at far kind step is = absurd far
  walk_so (LoadWord link words word) at far kind step (inl is) =
      subst (Comes_so (LoadWord link words word)) (sym is.1.1)
      (word_so (view_by c s n (load_master p word is.1.0)) link words word (s.memory (walking_place c p (LoadWord link words word))) at.0
      (load_done c u v (view_by c s n (load_master p word is.1.0)) p (3 + word) [] _ far (all_seen v) refl tt refl refl (refl, refl)))
  walk_so (LoadWord link words word) at far kind step (inr is) =
      subst (Comes_so (LoadWord link words word)) (sym is.2)
      (word_so (view_by c s n (load_data link word is.0 is.1)) link words word (s.memory (walking_place c p (LoadWord link words word))) at.0
      (load_done c u v (view_by c s n (load_data link word is.0 is.1)) p (3 + word) [] _ far (all_seen v) refl tt refl refl (refl, refl)))

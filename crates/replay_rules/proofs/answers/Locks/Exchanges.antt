-- The exchange of HEAD of a lock, won and lost.
use Rattle.std.proofs.Common.{◌≡◌, ◌≢◌, ℕ, ◌+◌, ◌<◌, ◌==◌, Bool, true, false, List, [], ◌∷◌, ◌++◌, Some, refl, sym, ap, ◌∙◌, subst}
use Rattle.std.proofs.Common.{arith, inl, inr, eqb-true, if◌then◌else◌}
use Rattle.mv_history.specs.declared.Step.{Step}
use Rattle.mv_history.specs.declared.StepKind.TheVariants as kinds
use Rattle.mv_history.specs.declared.answers.LockAnswer.TheVariants as refusals
use Rattle.mv_layout.specs.Places.{place_of}
use Rattle.mv_layout.specs.Words.{link_of, link_seat_of}
use Rattle.mv_core.proofs.Terms.{Config, Checked, Head}
use Rattle.mv_core.specs.declared.ring.Build as core
use Rattle.mv_core.specs.declared.view.Knowledge.{Knowledge}
use Rattle.mv_core.specs.declared.view.OwnSection.{OwnSection}
use Rattle.mv_core.specs.declared.view.Passed.TheVariants.{Nothing}
use Rattle.mv_core.specs.declared.view.WalkStage as walking
use Rattle.mv_core.specs.Rings.{own_of}
use Rattle.mv_core.specs.WalkSteps.{IsLinkOf}
use Rattle.mv_core.specs.LockSteps.{MayLock, head_locked, lock_lost}
use Rattle.mv_core.specs.Moves.{Moment, lock_head}
use Rattle.mv_core.proofs.kinds.walking.WalkOn.{at_some}
use Rattle.mv_core.proofs.kinds.locking.lock_head.LockHead.{lock_swaps}
use Rattle.mv_core.proofs.kinds.locking.lock_head.OwnWrites.{one_more_write}
use Rattle.version_chain.specs.Walks.{stand_of}
use Rattle.version_chain.specs.Reads.{words_in}
use Rattle.object_lock.specs.Locks.{lost_step, AreFew}
use Rattle.replay_rules.specs.declared.plan.Call.TheVariants.{Lock}
use Rattle.replay_rules.specs.declared.seats.NotedVersion.{NotedVersion}
use Rattle.replay_rules.specs.declared.seats.State.{State}
use Rattle.replay_rules.specs.declared.seats.Locking.TheVariants.{ClearPrevious, FoundFirst}
use Rattle.replay_rules.specs.declared.seats.NextStep.TheVariants.{Locks}
use Rattle.replay_rules.specs.declared.seats.CallAnswer.TheVariants.{Locked}
use Rattle.replay_rules.specs.declared.seats.Then.TheVariants.{Goes, Ends}
use Rattle.replay_rules.specs.GoesOn.{after_lock_head}
use Rattle.replay_rules.specs.States.{any_commit, any_start, zeros, Made, state_of, AreMade}
use Rattle.replay_rules.specs.LockAnswers.{LocksSo}
use Rattle.replay_rules.specs.Answers.{AnswersSo}
use Rattle.replay_rules.proofs.runs.Stepping.{view_by}
use Rattle.replay_rules.proofs.runs.Known.{if_so, eqb_ne, facts, view_there, starts, seated, word_small}
use Rattle.replay_rules.proofs.answers.Progress.{Comes}
use Rattle.replay_rules.proofs.answers.Seen.{all_seen}
use Rattle.replay_rules.proofs.answers.Locks.Far.{HasDone, HasLost, HasBuilt, LockFar, done_more, tries_more, one_done, found_now}
use Rattle.replay_rules.proofs.answers.Locks.Refusals.{same_number}

module _ (o : ℕ) (c : Config) (k : Checked c) (n : ℕ) (lt : n < c.seats) (made : List Made) (each : AreMade c made) (u : Knowledge)
    (notes : List NotedVersion) (state : State) (version : NotedVersion) (at : ℕ) (same : version.object ≡ o) (build : core.Build) (i : OwnSection)
    (may : MayLock c c.write_max ((state_of c made).seats n) version.object version.previous at version.words build i)
    (reads : version.words ≡ words_in c ((state_of c made).seats n) version.object) where
  abbrev s : Moment
  s = state_of c made

  abbrev v : Knowledge
  v = s.seats n

  abbrev p : ℕ
  p = version.object

  abbrev found : ℕ
  found = (state_of c made).memory (Head version.object)

  -- the views behind a won exchange, and behind a lost one
  abbrev won : Knowledge
  won = head_locked c ((state_of c made).seats n) version.object version.previous at version.words

  abbrev lost : Knowledge
  lost = lock_lost c ((state_of c made).seats n) version.object ((state_of c made).memory (Head version.object))

  abbrev won_step : Step
  won_step = record {
    kind = kinds.LockHead;
    word = place_of c (Head version.object);
    found = Some version.previous;
    stored = Some (link_of ((state_of c made).seats n).number at);
  }

  -- won: the section holds the object too
  won_by : (most : ℕ) (tried : List Step) → HasDone c u v version.object most tried → most < 24 → AreFew c version.object (tried ++ won_step ∷ [])
      → LocksSo c u won version.object refusals.Held
  won_by most tried done le few =
      let f = facts c k n made each in
      let one = one_more_write s.seats f v (view_there c k n made each) (seated c k n made each lt).range c.write_max version.object version.previous at
      version.words build i may in
      let lacks = done.2.lacks in
      let kept = done.2.keeps in
      let some = done.1 in record {
        again = λ e. let clash : true ≡ false = sym e ∙ lacks in absurd (cc);
        answers = λ _. (
          done.2.room,
          (
            one.0 ∙ ap (λ ws. ws ++ (version.object, version.words) ∷ []) kept.0
                ∙ ap (λ ws. own_of c u.ring ++ (version.object, ws) ∷ []) reads,
            one.1 ∙ kept.1,
          ),
        );
        refused = λ ne. absurd (ne refl);
        made = done.0 + 1;
        tries = (
          tried ++ won_step ∷ [],
          tries_more c u v won version.object most tried won_step done (all_seen v) refl tt refl (won_step ∷ []) refl,
          few,
        );
        few = omega (arith, some, le);
      }

  won_so : HasBuilt c u v version.object version.previous → LocksSo c u won version.object refusals.Held
  won_so (inl done) = won_by 19 [] done (omega arith) refl
  won_so (inr done) = won_by 21 (lost_step c p 0 ∷ []) done.1 (omega arith) (refl, refl)

  -- lost: HEAD was found to be another link, of another seat where it is one
  module _ (ne : (state_of c made).memory (Head version.object) ≢ version.previous) where
    told : IsLinkOf c found × (found ≢ 0 → link_seat_of found ≢ v.number)
    told =
        let r = (lock_swaps any_start any_commit c (zeros c) v c.write_max version.object version.previous at version.words build i may
        (link_of v.number at) refl).1
        s.memory s.history s.seats (facts c k n made each) (view_there c k n made each) (seated c k n made each lt).range (starts c k n made each) ne
        (word_small c k n made each (Head version.object)) in
        r.2.0.2 ne

    lost_done : (most : ℕ) (tried : List Step) → HasDone c u v version.object most tried
        → HasDone c u lost version.object (most + 1) (tried ++ lost_step c version.object found ∷ [])
    lost_done most tried done =
        one_done c u v lost version.object most tried (lost_step c version.object found) done (all_seen v) refl tt refl
        (lost_step c version.object found ∷ []) refl (refl, refl)

    -- the chain was cut
    cut_so : found ≡ 0 → HasBuilt c u v version.object version.previous → HasDone c u lost version.object 20 (lost_step c version.object 0 ∷ [])
    cut_so none (inl done) = subst (λ (x : ℕ). HasDone c u lost version.object 20 (lost_step c version.object x ∷ [])) none (lost_done 19 [] done)
    cut_so none (inr done) = absurd (ne (none ∙ sym done.0))

    -- or another came first
    came_so : found ≢ 0 → (most : ℕ) (tried : List Step) → HasDone c u v version.object most tried → most < 22
        → AreFew c version.object (tried ++ lost_step c version.object found ∷ []) → HasLost c u lost version.object found 22 []
    came_so some most tried done le few =
        let number = same_number c u v version.object most tried done in record {
          tried = tried ++ lost_step c version.object found ∷ [];
          few = few;
          done = done_more c u lost version.object (most + 1) 22 (tried ++ lost_step c version.object found ∷ []) (omega (arith, le))
              (lost_done most tried done);
          found = found_now c u v lost version.object found most tried kinds.LockHead done refl (told.0 some);
          other = λ e. told.1 some (e ∙ sym number);
          late = ap (λ (x : walking.WalkStage). (stand_of x).late) (sym (at_some version.object found Nothing true some));
        }

    lost_so : HasBuilt c u v version.object version.previous → found ≢ 0 → HasLost c u lost version.object found 22 []
    lost_so (inl done) some = came_so some 19 [] done (omega arith) refl
    lost_so (inr done) some = came_so some 21 (lost_step c p 0 ∷ []) done.1 (omega arith) (refl, refl)

  -- what comes behind the exchange
  abbrev Comes_so : Knowledge → Bool → Type 0
  Comes_so w b =
      Comes (LockFar o c n u w notes state) (AnswersSo c (Lock o) u w)
      (if b then Ends (Locked refusals.Held)
      else (if found == 0 then Goes (Locks (record version { previous = 0 }) at ClearPrevious) else Goes (Locks version at (FoundFirst found))))

  pub exchange_so : HasBuilt c u v version.object version.previous
      → let w = view_by c s n (lock_head version.object version.previous at version.words build i) in
      Comes (LockFar o c n u w notes state) (AnswersSo c (Lock o) u w) (after_lock_head version at found)
  exchange_so built = go (found == version.previous) refl
    where
      go : (b : Bool) → (found == version.previous) ≡ b → Comes_so (if b then won else lost) b
      go true e = subst (λ (q : ℕ). LocksSo c u won q refusals.Held) same (won_so built)
      go false e =
          let ne = eqb_ne found version.previous e in
          if_so (Comes (LockFar o c n u lost notes state) (AnswersSo c (Lock o) u lost)) (found == 0)
          (Goes (Locks (record version { previous = 0 }) at ClearPrevious)) (Goes (Locks version at (FoundFirst found)))
          (λ z. (same, (refl, cut_so ne (eqb-true found 0 z) built)))
          (λ z. (same, lost_so ne built (eqb_ne found 0 z)))

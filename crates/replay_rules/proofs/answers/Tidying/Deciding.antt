-- The steps of a tidy's write-back that decide what comes of it: HEAD is loaded, and its chain is cut.
use Rattle.std.proofs.Common.{◌≡◌, ◌≢◌, ℕ, ◌+◌, ◌<◌, ◌≤◌, ◌==◌, List, [], ◌∷◌, ◌++◌, length, Bool, true, false, Option, Some, None}
use Rattle.std.proofs.Common.{if◌then◌else◌, refl, sym, ap, ◌∙◌, subst, arith, inr, Contains, eqb-true, eq-eqb}
use Rattle.std.proofs.lemmas.List.Elements.{Contains-push}
use Rattle.mv_history.specs.declared.Step.{Step}
use Rattle.mv_history.specs.declared.StepKind.TheVariants as steps
use Rattle.mv_layout.specs.declared.SharedWord.TheVariants.{Head}
use Rattle.mv_layout.specs.Places.{place_of}
use Rattle.mv_layout.specs.Words.{link_of, link_seat_of}
use Rattle.mv_core.proofs.Terms.{Config, Checked}
use Rattle.mv_core.specs.declared.ring.CommitNote.{CommitNote}
use Rattle.mv_core.specs.declared.ring.Version as core
use Rattle.mv_core.specs.declared.ring.WriteSetStatus.TheVariants.{Committed}
use Rattle.mv_core.specs.declared.view.Knowledge.{Knowledge}
use Rattle.mv_core.specs.declared.view.EmptyHead.{EmptyHead}
use Rattle.mv_core.specs.declared.view.OwnSection.{OwnSection}
use Rattle.mv_core.specs.declared.view.Phase.{Phase}
use Rattle.mv_core.specs.declared.view.Phase.TheVariants.{Inside}
use Rattle.mv_core.specs.Views.{time_in}
use Rattle.mv_core.specs.Rings.{index_of}
use Rattle.mv_core.specs.Tops.{IsNewer}
use Rattle.mv_core.specs.WalkSteps.{IsLinkOf, IsOwnTop, IsOwnLink, IsLastOwn}
use Rattle.mv_core.specs.ReclaimSteps.{FoundEmpty, head_cut, cut_lost}
use Rattle.mv_core.specs.Moves.{Moment, load_head, cut_head}
use Rattle.mv_core.proofs.kinds.walking.LoadHead.{head_loads}
use Rattle.mv_core.proofs.kinds.reclaiming.cut_head.CutHead.{cut_swaps}
use Rattle.mv_core.proofs.logs.Links.{position_small}
use Rattle.log_reclaim.specs.Untimed.{TriedSo}
use Rattle.replay_rules.specs.declared.seats.NotedVersion.{NotedVersion}
use Rattle.replay_rules.specs.declared.seats.Sweep.{Sweep}
use Rattle.replay_rules.specs.declared.seats.WriteBackEnd.TheVariants.{WasGone, WasAbove}
use Rattle.replay_rules.specs.declared.seats.Sweeping.TheVariants.{LoadTop, StoreMaster, CutHead, LoadCutDeath, LeaveBack}
use Rattle.replay_rules.specs.declared.seats.NextStep.TheVariants.{Tidies}
use Rattle.replay_rules.specs.declared.seats.Then.TheVariants.{Goes}
use Rattle.replay_rules.specs.SeatNotes.{version_at}
use Rattle.replay_rules.specs.Tasks.{link_to}
use Rattle.replay_rules.specs.Learns.{other_seat}
use Rattle.replay_rules.specs.Sweeps.{back_by}
use Rattle.replay_rules.specs.NextSteps.{IsStepOf}
use Rattle.replay_rules.specs.States.{any_commit, any_start, zeros, Made, state_of, AreMade}
use Rattle.replay_rules.proofs.runs.Sections.{Logs}
use Rattle.replay_rules.proofs.runs.Standing.{step_of}
use Rattle.replay_rules.proofs.runs.Stepping.{view_by}
use Rattle.replay_rules.proofs.runs.Building.{link_is}
use Rattle.replay_rules.proofs.runs.Known.{if_so, eqb_ne, facts, number_is, view_there, seated, starts, knows, word_small}
use Rattle.replay_rules.proofs.runs.Rounds.{untimed}
use Rattle.replay_rules.proofs.answers.Tidying.Further.{Further, further_one, begins_same}
use Rattle.replay_rules.proofs.answers.Tidying.Far.{Leaves, IsLate, TidyFar, mark_of, note_in}
use Rattle.replay_rules.proofs.answers.Tidying.Grown.{come_on}
use Rattle.replay_rules.proofs.answers.Tidying.Backing.{backs_goes}
use Rattle.replay_rules.proofs.answers.Tidying.Supers.{old_time}
use Rattle.replay_rules.proofs.answers.Tidying.Tops.{own_later, others_newer}
use Rattle.replay_rules.proofs.answers.Tidying.Stepping.{tidying, ComesSo, GoesBy}

-- a phase is in one section
section_once : (p : Phase) (a b : OwnSection) → p ≡ Inside a → p ≡ Inside b → a ≡ b
section_once p a b x y = let e : Inside a ≡ Inside b = sym x ∙ y in cc

module _ (c : Config) (k : Checked c) (n : ℕ) (lt : n < c.seats) (made : List Made) (each : AreMade c made) (log : List NotedVersion) (freed from : ℕ)
    (sweep : Sweep) (v0 : Knowledge) (at : ℕ) (time : Option ℕ) (logs : Logs c ((state_of c made).seats n) log freed from) (nothing : from ≡ length log)
    (alive : (version_at log at).dead ≡ 0) (low : freed ≤ at) (live : at < length log) where
  abbrev s : Moment
  s = state_of c made

  abbrev v : Knowledge
  v = s.seats n

  abbrev o : ℕ
  o = (version_at log at).object

  abbrev found : ℕ
  found = (state_of c made).memory (Head (version_at log at).object)

  -- the link to the version, by either number of the seat
  own_link : link_to n at ≡ link_of ((state_of c made).seats n).number at
  own_link =
      let u = untimed c v log freed from logs nothing at low live alive in
      let f = facts c k n made each in
      let small = position_small c s.history (λ (t : ℕ). (s.seats t).ring) f.checked f.history.in_time f.positions n (index_of c at) _ (Committed u.0) u.1 in
      let seats = k.seats.1 in
      link_is n at (omega (arith, lt, seats)) small ∙ ap (λ p. link_of p at) (sym (number_is c k n made each))

  -- HEAD is loaded
  module _ (section : OwnSection) (phase : ((state_of c made).seats n).phase ≡ Inside section) (time_is : time ≡ Some (time_in section)) (inside : OwnSection)
      (next : IsStepOf c made (step_of n (load_head (version_at log at).object inside)) n (Tidies (LoadTop at (version_at log at).object)))
      (far : TidyFar c n v0 ((state_of c made).seats n) log (tidying n time from freed sweep) (Tidies (LoadTop at (version_at log at).object))) where
    abbrev w : Knowledge
    w = view_by c (state_of c made) n (load_head (version_at log at).object inside)

    abbrev step : Step
    step = record { kind = steps.LoadHead; word = place_of c (Head (version_at log at).object); found = Some found; stored = None }

    f : Further v w (step ∷ [])
    f = further_one v w step (begins_same v) refl (omega arith) refl tt refl

    -- what the link found tells of the own log, and of that of another seat
    told : IsLinkOf c found × IsOwnTop c v o found × IsOwnLink c v found × IsLastOwn c v o found × IsNewer c v o found
    told =
        let r = head_loads any_start any_commit c (zeros c) v o inside next.may.may s.memory s.history s.seats (facts c k n made each)
        (view_there c k n made each) (seated c k n made each lt) (starts c k n made each) (word_small c k n made each (Head o)) in
        let t = r.2.0.0 in
        (t.1, t.2, t.3, t.4, t.6)

    -- HEAD was empty in a section whose time isn't before the version's
    gone : found ≡ 0 → FoundEmpty w (version_at log at).object (version_at log at).time
    gone z =
        let e : EmptyHead = record { object = o; time = time_in inside } in
        let late : v0.base + length v0.past.seen ≤ time_in section =
        subst (IsLate c v0 v far.0.made far.0.old log freed sweep) time_is far.1.1 in
        let same = ap time_in (section_once v.phase section inside phase next.may.may.phase) in
        let old = old_time c v0 v log freed from sweep.began far.0 at low live in (
          e,
          subst (λ b. Contains (if b then v.empty ++ e ∷ [] else v.empty) e) (sym (eq-eqb found 0 z)) (Contains-push v.empty e),
          refl,
          omega (arith, late, same, old),
        )

    above : found ≢ link_to n at → found ≢ 0
        → TriedSo c w (far.0.made ++ step ∷ []) (mark_of sweep.first) sweep.first.clock (note_in log at) (other_seat n found)
    above other some =
        let number = number_is c k n made each in
        let r = told in
        if_so (TriedSo c w (far.0.made ++ step ∷ []) (mark_of sweep.first) sweep.first.clock (note_in log at)) (link_seat_of found == n) None
        (Some (link_seat_of found))
        (λ e.
        let later = own_later c v0 v log freed from sweep.began far.0 logs nothing sweep.first at far.1.0.0.tried at far.1.0.1 alive
        (knows c k n made each) found some (eqb-true _ _ e ∙ sym number) (λ z. other (z ∙ sym own_link)) r.1 r.2 r.3 in
        (later.0, inr later.1))
        (λ e.
        let not_own : link_seat_of found ≢ v.number = λ z. eqb_ne _ _ e (z ∙ number) in
        others_newer c v0 v log freed from sweep.began far.0 logs nothing sweep.first at far.1.0.0.tried at far.1.0.1 alive w step f (link_seat_of found)
        (record { kind = tt; word = refl; link = found; found = refl; some = some; seat_is = refl }) (r.4 some not_own) not_own (r.0 some).1)

    pub top_goes : GoesBy c k n made each v0 log (tidying n time from freed sweep) (Tidies (LoadTop at (version_at log at).object))
        (load_head (version_at log at).object inside)
    top_goes =
        let come = come_on c v w far.0.made (step ∷ []) f v0 log freed from sweep.began far.0 refl in
        let x = backs_goes c v w step f refl refl v0 far.0.made far.0.old log freed sweep at far.1.0 in
        if_so (ComesSo c n v0 w log (tidying n time from freed sweep)) (found == link_to n at)
        (Goes (Tidies (StoreMaster at o (version_at log at).words 0)))
        (Goes (Tidies (LeaveBack at (back_by (tidying n time from freed sweep) found))))
        (λ e. λ stands. (come, x))
        (λ e. λ stands. (
          come,
          (
            x,
            if_so (Leaves c v0 w (far.0.made ++ step ∷ []) far.0.old log freed sweep at) (found == 0) WasGone (WasAbove (other_seat n found))
                (λ z. gone (eqb-true found 0 z))
                (λ some. above (eqb_ne found (link_to n at) e) (eqb_ne found 0 some)),
          ),
        ))

  -- the chain is cut, or HEAD had another link
  module _ (version : core.Version) (note : CommitNote)
      (next : IsStepOf c made (step_of n (cut_head (version_at log at).object at version note)) n (Tidies (CutHead at (version_at log at).object)))
      (far : TidyFar c n v0 ((state_of c made).seats n) log (tidying n time from freed sweep) (Tidies (CutHead at (version_at log at).object))) where
    abbrev won : Knowledge
    won = head_cut c ((state_of c made).seats n) (version_at log at).object at version note

    abbrev won_step : Step
    won_step = record {
      kind = steps.CutHead;
      word = place_of c (Head (version_at log at).object);
      found = Some (link_of ((state_of c made).seats n).number at);
      stored = Some 0;
    }

    abbrev lost : Knowledge
    lost = cut_lost c ((state_of c made).seats n) (version_at log at).object at found

    abbrev lost_step : Step
    lost_step = record { kind = steps.CutHead; word = place_of c (Head (version_at log at).object); found = Some found; stored = None }

    f_won : Further v won (won_step ∷ [])
    f_won = further_one v won won_step (begins_same v) refl (omega arith) refl tt refl

    f_lost : Further v lost (lost_step ∷ [])
    f_lost = further_one v lost lost_step (begins_same v) refl (omega arith) refl tt refl

    -- how it went, by the test of its own link
    abbrev Goes_by : Bool → Type 0
    Goes_by b = ComesSo c n v0 (if b then won else lost) log (tidying n time from freed sweep)
        (if b then Goes (Tidies (LoadCutDeath at)) else Goes (Tidies (LeaveBack at (back_by (tidying n time from freed sweep) found))))

    was_won : Goes_by true
    was_won stands = (
      come_on c v won far.0.made (won_step ∷ []) f_won v0 log freed from sweep.began far.0 refl,
      backs_goes c v won won_step f_won refl refl v0 far.0.made far.0.old log freed sweep at far.1,
    )

    was_lost : found ≢ link_of v.number at → Goes_by false
    was_lost other stands =
        let number = number_is c k n made each in
        let r = (cut_swaps any_start any_commit c (zeros c) v o at version note next.may.may (link_of v.number at) refl).1 s.memory s.history s.seats
        (facts c k n made each) (view_there c k n made each) (omega (arith, lt, number)) (starts c k n made each) other
        (word_small c k n made each (Head o)) in
        let t = r.2.0.0 in
        let of = t.2 other in
        let x = backs_goes c v lost lost_step f_lost refl refl v0 far.0.made far.0.old log freed sweep at far.1 in (
          come_on c v lost far.0.made (lost_step ∷ []) f_lost v0 log freed from sweep.began far.0 refl,
          (
            x,
            if_so (Leaves c v0 lost (far.0.made ++ lost_step ∷ []) far.0.old log freed sweep at) (found == 0) WasGone (WasAbove (other_seat n found))
                (λ z. absurd (of.0 (eqb-true found 0 z)))
                (λ some.
                if_so (TriedSo c lost (far.0.made ++ lost_step ∷ []) (mark_of sweep.first) sweep.first.clock (note_in log at)) (link_seat_of found == n) None
                (Some (link_seat_of found))
                (λ own. absurd (of.1 (eqb-true _ _ own ∙ sym number)))
                (λ e.
                others_newer c v0 v log freed from sweep.began far.0 logs nothing sweep.first at far.1.0.tried at far.1.1 alive lost lost_step f_lost
                (link_seat_of found) (record { kind = tt; word = refl; link = found; found = refl; some = of.0; seat_is = refl }) (t.3 other) of.1
                (t.1 other of.0).1)),
          ),
        )

    pub cut_goes : GoesBy c k n made each v0 log (tidying n time from freed sweep) (Tidies (CutHead at (version_at log at).object))
        (cut_head (version_at log at).object at version note)
    cut_goes =
        subst (λ (l : ℕ). ComesSo c n v0 (if found == link_of v.number at then won else lost) log (tidying n time from freed sweep)
        (if found == l then Goes (Tidies (LoadCutDeath at)) else Goes (Tidies (LeaveBack at (back_by (tidying n time from freed sweep) found)))))
        (sym own_link) (go (found == link_of v.number at) refl)
      where
        go : (b : Bool) → (found == link_of v.number at) ≡ b → Goes_by b
        go true e = was_won
        go false e = was_lost (eqb_ne _ _ e)

-- What a commit answers after its exchange of CLOCK, won or lost.
use Rattle.std.proofs.Common.{◌≡◌, ◌≢◌, ℕ, ◌+◌, ◌-◌, ◌<◌, ◌≤◌, if◌then◌else◌, Bool, true, false, List, []}
use Rattle.std.proofs.Common.{◌∷◌, ◌++◌, length, refl, sym, ap, ◌∙◌, subst, arith, append_assoc, length-append, All, Some, None}
use Rattle.std.specs.Prelude.{slice_get}
use Rattle.std.proofs.lemmas.List.Elements.{All-nil, All-head, All-tail, All-weaker, Contains-append_left}
use Rattle.mv_history.specs.declared.Entry.{Entry}
use Rattle.mv_history.specs.declared.Entry.TheVariants.{Change}
use Rattle.mv_history.specs.declared.Step.{Step}
use Rattle.mv_history.specs.declared.StepKind.{StepKind}
use Rattle.mv_history.specs.declared.StepKind.TheVariants.{NameCommit, SwapStamp, StoreSuper, ClearMark}
use Rattle.mv_history.specs.declared.answers.Rival.{Rival}
use Rattle.mv_history.specs.State.{State, Writes, maker_of}
use Rattle.mv_history.specs.Trail.{is_commit_exchange, commit_exchanges}
use Rattle.mv_layout.specs.declared.Config.{Config}
use Rattle.mv_layout.specs.declared.SharedWord.TheVariants.{Clock}
use Rattle.mv_layout.specs.Places.{place_of}
use Rattle.mv_layout.specs.Words.{clock_time_of, clock_seat_of}
use Rattle.seat_log.specs.mv_core.declared.view.Knowledge.{Knowledge}
use Rattle.seat_log.specs.mv_core.declared.view.Past.{Past}
use Rattle.seat_log.specs.mv_core.declared.view.Phase.TheVariants.{Outside, Inside}
use Rattle.seat_log.specs.mv_core.declared.view.OwnSection.{OwnSection}
use Rattle.seat_log.specs.mv_core.declared.view.Mode.TheVariants.{Open}
use Rattle.seat_log.specs.mv_core.declared.view.WalkStage.TheVariants.{Nowhere}
use Rattle.seat_log.specs.mv_core.Rings.{held_count}
use Rattle.seat_log.specs.mv_core.Times.{IsEntry}
use Rattle.seat_log.specs.mv_core.Views.{no_clocks}
use Rattle.seat_log.specs.mv_core.HistoryFacts.{BeginsWith}
use Rattle.seat_log.specs.mv_core.SectionFacts.{IsPastHelp}
use Rattle.seat_log.specs.mv_core.EnterSteps.{IsWhole, if_none, check_loaded}
use Rattle.seat_log.specs.mv_core.Known.{Known}
use Rattle.seat_log.specs.mv_core.NameSteps.{commit_word, commit_named, commit_lost}
use Rattle.seat_log.proofs.mv_core_lemmas.history.Fronts.{begins_by, begins_long}
use Rattle.seat_log.proofs.mv_core_lemmas.history.OwnEntries.{other_maker}
use Rattle.seat_log.specs.commit_clock.Helps.{Helps}
use Rattle.seat_log.specs.commit_clock.Names.{IsLost}
use Rattle.seat_log.specs.Notes.{Noted}
use Rattle.seat_log.specs.Stands.{Stands}
use Rattle.seat_log.proofs.PlainSteps.{one_leaves, stands_left}
use Rattle.commit_abort.specs.Finishes.{IsFinishStep, Finishes}
use Rattle.commit_abort.specs.Commits.{LoadsClock, Commits, IsKept, IsOvertakenBy}
use Rattle.commit_abort.proofs.Tried.{no_exchange, steps_next, trail_next, kinds_next, past_next, phase_next, helped_next, begins_next, begins_found}
use Rattle.commit_abort.proofs.Tried.{commit_next, number_next, stands_next}

-- no step of a finish is a commit exchange
finish_kind : (k : StepKind) → IsFinishStep k → is_commit_exchange k ≡ false
finish_kind SwapStamp h = refl
finish_kind StoreSuper h = refl
finish_kind ClearMark h = refl
finish_kind _ h = absurd h

-- one exchange among others that are none
exchanges_one : (a b : List Step) (s : Step) → is_commit_exchange s.kind ≡ true → All (λ s. is_commit_exchange s.kind ≡ false) a
    → All (λ s. is_commit_exchange s.kind ≡ false) b → commit_exchanges (a ++ s ∷ b) ≡ s ∷ []
exchanges_one [] b s is none_a none_b = ap (λ (q : Bool). if q then s ∷ commit_exchanges b else commit_exchanges b) is ∙ ap (λ l. s ∷ l) (no_exchange b none_b)
exchanges_one (x ∷ a) b s is none_a none_b =
    ap (λ (q : Bool). if q then x ∷ commit_exchanges (a ++ s ∷ b) else commit_exchanges (a ++ s ∷ b))
    (All-head (λ s. is_commit_exchange s.kind ≡ false) x a none_a)
    ∙ exchanges_one a b s is (All-tail (λ s. is_commit_exchange s.kind ≡ false) x a none_a) none_b

module _ (c : Config) (v x : Knowledge) (word : ℕ) (h0 : List Entry) (whole : IsWhole c v word h0) (is : x ≡ check_loaded c v word h0) (inside : OwnSection)
    (phase : v.phase ≡ Inside inside) (past_help : IsPastHelp v.clocks inside)
    (y : Knowledge) (helps : Helps c x y word) (open_is : inside.mode ≡ Open) where
  abbrev steps : List Step
  steps = steps_next c v x word h0 whole is inside phase past_help y helps open_is

  trail : y.trail ≡ v.trail ++ steps
  trail = trail_next c v x word h0 whole is inside phase past_help y helps open_is

  past : y.past ≡ record v.past { seen = helps.past.0 }
  past = past_next c v x word h0 whole is inside phase past_help y helps open_is

  seen : y.past.seen ≡ helps.past.0
  seen = ap (λ (p : Past). p.seen) past

  seen_all : BeginsWith y.past.seen v.past.seen
  seen_all = subst (λ l. BeginsWith l v.past.seen) (sym seen) (begins_next c v x word h0 whole is inside phase past_help y helps open_is)

  none_tried : All (λ s. is_commit_exchange s.kind ≡ false) steps
  none_tried = kinds_next c v x word h0 whole is inside phase past_help y helps open_is (λ q. is_commit_exchange q ≡ false) refl refl refl

  -- the steps of the call, with these after those
  loads : (w : Knowledge) (more : List Step) (most : ℕ) → w.trail ≡ v.trail ++ (steps ++ more) → length more + 4 ≤ most
      → LoadsClock c v w word most (steps ++ more)
  loads w more most at few =
      let long = length-append steps more in
      let help = helps.trail.2 in
      record {
        trail = at;
        few = omega arith;
        loaded = refl;
        old = (let le = begins_long h0 v.past.seen whole.0 in let all = whole.1 in omega arith);
      }

  module _ (tag : List ℕ) (z w : Knowledge) (time held : ℕ) (h : List Entry) (time_is : time ≡ clock_time_of word + 1) (now : IsWhole c y word h)
      (named : z ≡ commit_named c y inside tag word h) (fin : Finishes z w (held + 2)) (held_is : held_count v.ring ≡ held) where
    abbrev won : Step
    won = record { kind = NameCommit; word = place_of c Clock; found = Some word; stored = Some (commit_word c y word) }

    same_past : w.past ≡ z.past
    same_past = ap (λ (u : Knowledge). u.past) fin.rest

    abbrev ended_of : Knowledge → Knowledge
    ended_of u = record u { past = w.past; phase = Outside; clocks = no_clocks; walk = Nowhere; back = None; ring = w.ring; trail = w.trail }

    pub committed : Commits c v w inside tag time
    committed =
        let commit = commit_next c v x word h0 whole is inside phase past_help y helps open_is tag in
        record {
          word = word;
          time_is = time_is;
          history = h;
          whole = (begins_by h y.past.seen v.past.seen now.0 seen_all, now.1, now.2);
          past = same_past ∙ ap (λ (u : Knowledge). u.past) named
              ∙ (λ i. record (past i) { seen = h ++ Change (commit i) ∷ []; mine = (past i).mine ++ commit i ∷ [] });
          steps = steps ++ won ∷ fin.trail.0;
          loads = loads w (won ∷ fin.trail.0) (held_count v.ring + 8)
              (fin.trail.1 ∙ ap (λ (u : Knowledge). u.trail ++ fin.trail.0) named ∙ ap (λ l. (l ++ won ∷ []) ++ fin.trail.0) trail
              ∙ append_assoc (v.trail ++ steps) (won ∷ []) fin.trail.0 ∙ append_assoc v.trail steps (won ∷ fin.trail.0))
              (let few = fin.trail.2 in omega arith);
          one_won = record {
            step = won;
            one = exchanges_one steps fin.trail.0 won refl none_tried
                (All-weaker (λ s. IsFinishStep s.kind) (λ s. is_commit_exchange s.kind ≡ false) (λ s. finish_kind s.kind) fin.trail.0 fin.trail.3);
            won = refl;
          };
          outside = fin.outside;
          rest =
              fin.rest
              ∙ (λ i. record z { past = sym same_past i; phase = Outside; clocks = no_clocks; walk = Nowhere; back = None; ring = w.ring; trail = w.trail })
              ∙ ap ended_of named ∙ ap ended_of helps.rest ∙ ap ended_of is;
        }

  module _ (w : Knowledge) (found : ℕ) (h : List Entry) (rival : Rival) (lost : IsLost c y word found rival h) (at : w ≡ commit_lost c y found h) where
    abbrev tried : Step
    tried = record { kind = NameCommit; word = place_of c Clock; found = Some found; stored = None }

    same_seen : w.past.seen ≡ h
    same_seen = ap (λ (u : Knowledge). u.past.seen) at

    past_is : w.past ≡ record v.past { seen = w.past.seen }
    past_is = ap (λ (u : Knowledge). u.past) at ∙ (λ i. record (past i) { seen = sym same_seen i })

    same_phase : w.phase ≡ Inside inside
    same_phase = ap (λ (u : Knowledge). u.phase) at ∙ phase_next c v x word h0 whole is inside phase past_help y helps open_is

    begins : BeginsWith h v.past.seen
    begins = begins_by h y.past.seen v.past.seen lost.whole.0 seen_all

    abbrev kept_of : Knowledge → Knowledge
    kept_of u = record u { past = record v.past { seen = w.past.seen }; phase = Inside inside; clocks = w.clocks; trail = w.trail }

    kept : IsKept v w inside
    kept = record {
      seen = subst (λ l. BeginsWith l v.past.seen) (sym same_seen) begins;
      past_help = subst (λ (u : Knowledge). IsPastHelp u.clocks inside) (sym at)
          (Contains-append_left y.clocks.helped (if_none found) inside.word (helped_next c v x word h0 whole is inside phase past_help y helps open_is));
      rest = (λ i. record w { past = past_is i; phase = same_phase i }) ∙ ap kept_of at ∙ ap kept_of helps.rest ∙ ap kept_of is
          ∙ (λ i. record v { past = record v.past { seen = w.past.seen }; phase = sym phase i; clocks = w.clocks; trail = w.trail });
    }

    pub stands_lost : (l : Noted) → Stands c v l → Stands c w l
    stands_lost l k =
        stands_left c y w l (stands_next c v x word h0 whole is inside phase past_help y helps open_is l k) (ap (λ (u : Knowledge). u.number) at)
        (ap (λ (u : Knowledge). u.ring) at) (ap (λ (u : Knowledge). u.past.mine) at) (ap (λ (u : Knowledge). u.past.rests) at) (tried ∷ [])
        (ap (λ (u : Knowledge). u.trail) at) (one_leaves tried (refl, refl))

    module _ (starts : State → Type 0) (allows : List ℕ → State → Writes → Type 0) (known_x : ∥ Known starts allows x ∥₁)
        (known_w : ∥ Known starts allows w ∥₁) where
      made : (e : Entry) × IsEntry c.base h (clock_time_of found) e × (maker_of e ≡ clock_seat_of found)
      made = lost.overtaken.made (let long = whole.1 in omega arith)

      other_seat : rival.seat ≢ v.number
      other_seat own =
          let same : clock_seat_of found ≡ v.number = ap (λ (r : Rival). r.seat) (sym lost.rival_is) ∙ own in
          let number_x : x.number ≡ v.number = ap (λ (u : Knowledge). u.number) is in
          let number_w : w.number ≡ v.number = ap (λ (u : Knowledge). u.number) at
          ∙ number_next c v x word h0 whole is inside phase past_help y helps open_is in
          let mine : w.past.mine ≡ x.past.mine = ap (λ (p : Past). p.mine) past_is ∙ ap (λ (u : Knowledge). u.past.mine) (sym is) in
          let rests : w.past.rests ≡ x.past.rests = ap (λ (p : Past). p.rests) past_is ∙ ap (λ (u : Knowledge). u.past.rests) (sym is) in
          let seen_x : x.past.seen ≡ h0 = ap (λ (u : Knowledge). u.past.seen) is in
          let more : BeginsWith h h0 =
          begins_by h y.past.seen h0 lost.whole.0
          (subst (λ l. BeginsWith l h0) (sym seen) (begins_found c v x word h0 whole is inside phase past_help y helps open_is)) in
          let i : ℕ = clock_time_of found - (c.base + 1) in
          let late : length x.past.seen ≤ i = (let at_x = ap length seen_x in let later = lost.overtaken.later in let long = whole.1 in omega arith) in
          other_maker starts allows x w known_x known_w (number_w ∙ sym number_x)
          (subst (λ (p : List Entry × List Entry). BeginsWith p.0 p.1) (λ i. (sym same_seen i, sym seen_x i)) more) mine rests
          i made.0 (ap (λ l. slice_get l i) same_seen ∙ made.1.1) late (made.2 ∙ same ∙ sym number_w)

      pub overtaken : IsOvertakenBy c v w inside rival
      overtaken =
          let time_is : clock_time_of found ≡ rival.time = ap (λ (r : Rival). r.time) (sym lost.rival_is) in
          record {
            kept = kept;
            word = word;
            steps = steps ++ tried ∷ [];
            loads = loads w (tried ∷ []) 5 (ap (λ (u : Knowledge). u.trail) at ∙ ap (λ l. l ++ tried ∷ []) trail ∙ append_assoc v.trail steps (tried ∷ []))
                (omega arith);
            found = found;
            one_lost = exchanges_one steps [] tried refl none_tried (All-nil (λ s. is_commit_exchange s.kind ≡ false));
            rival_is = lost.rival_is;
            other = other_seat;
            later = subst (λ n. clock_time_of word < n) time_is lost.overtaken.later;
            entry = (
              made.0,
              subst (λ (p : List Entry × ℕ). IsEntry c.base p.0 p.1 made.0) (λ i. (sym same_seen i, time_is i)) made.1,
              made.2 ∙ ap (λ (r : Rival). r.seat) (sym lost.rival_is),
            );
          }

-- One try of a rest: the clock is loaded, its word is helped, and the next entry is named as a rest.
use Rattle.std.proofs.Common.{◌≡◌, ◌≢◌, ◌⊎◌, ℕ, ◌+◌, ◌^◌, ◌<◌, ◌≤◌, true, false, List, [], ◌∷◌, ◌++◌, length, All}
use Rattle.std.proofs.Common.{refl, sym, ap, ◌∙◌, subst, inl, inr, ⊎_elim, arith, append-nil, append_assoc, length-append, Some, None}
use Rattle.std.proofs.Math.Logic.{∥∥₁_elim}
use Rattle.std.proofs.Math.Bridge.{le_prop}
use Rattle.std.proofs.lemmas.List.Elements.{All-nil, All-cons, All-append, All-weaker}
use Rattle.mv_history.specs.declared.Entry.{Entry}
use Rattle.mv_history.specs.declared.Entry.TheVariants.{Rest}
use Rattle.mv_history.specs.declared.Step.{Step}
use Rattle.mv_history.specs.declared.StepKind.{StepKind}
use Rattle.mv_history.specs.declared.StepKind.TheVariants.{LoadNamed, LoadCheck, SwapStamp, NameRest}
use Rattle.mv_history.specs.declared.answers.Rival.{Rival}
use Rattle.mv_history.specs.State.{State, Writes}
use Rattle.mv_history.specs.Trail.{clock_exchanges}
use Rattle.mv_layout.specs.declared.Config.{Config}
use Rattle.mv_layout.specs.declared.SharedWord.TheVariants.{Clock}
use Rattle.mv_layout.specs.Places.{place_of}
use Rattle.mv_layout.specs.Words.{clock_time_of}
use Rattle.seat_log.specs.mv_core.declared.view.Knowledge.{Knowledge}
use Rattle.seat_log.specs.mv_core.declared.view.Past.{Past}
use Rattle.seat_log.specs.mv_core.declared.view.Phase.{Phase}
use Rattle.seat_log.specs.mv_core.declared.view.Phase.TheVariants.{Outside}
use Rattle.seat_log.specs.mv_core.declared.view.WalkStage.TheVariants.{Nowhere}
use Rattle.seat_log.specs.mv_core.HistoryFacts.{BeginsWith}
use Rattle.seat_log.specs.mv_core.EnterSteps.{IsWhole, MayLoadLow, check_loaded}
use Rattle.seat_log.specs.mv_core.NameSteps.{MayNameRest, rest_word, rest_named, rest_lost}
use Rattle.seat_log.specs.mv_core.Known.{Known}
use Rattle.seat_log.proofs.mv_core_lemmas.history.Fronts.{begins_by, begins_long}
use Rattle.seat_log.specs.commit_clock.Helps.{HasLoaded, IsHelpStep, Helps}
use Rattle.seat_log.proofs.commit_clock_lemmas.HelpedPhase.{still_outside}
use Rattle.seat_log.proofs.commit_clock_lemmas.HelpKinds.{help_kind}
use Rattle.seat_log.specs.commit_clock.Names.{IsLost}
use Rattle.seat_log.specs.Notes.{Noted, rest_noted}
use Rattle.seat_log.specs.Stands.{Stands}
use Rattle.seat_log.proofs.PlainSteps.{LeavesLog, kinds_leave, help_leaves, stands_left}
use Rattle.seat_log.proofs.Rested.{rests_room, stands_rested, stands_unrested}
use Rattle.log_reclaim.specs.Parts.{IsReclaimKind, BeginsNoScan, LeavesClock, Reclaims}
use Rattle.log_reclaim.specs.Tidies.{IsAnyAbove, RestsSo}
use Rattle.log_reclaim.proofs.rests.Exchanges.{none_exchanged, one_last}
use Rattle.log_reclaim.proofs.Reclaiming.{reclaims_outside}

-- a step of a rest: it names no commit and begins no scan
abbrev IsRestStep : StepKind → Type 0
IsRestStep LoadNamed = Unit {0}
IsRestStep LoadCheck = Unit {0}
IsRestStep SwapStamp = Unit {0}
IsRestStep NameRest = Unit {0}
IsRestStep _ = ⊥

-- what holds of each kind of step of a rest holds of a step of one
rest_kind : (P : StepKind → Type 0) → P LoadNamed → P LoadCheck → P SwapStamp → P NameRest → (k : StepKind) → IsRestStep k → P k
rest_kind P named check swap rest LoadNamed h = named
rest_kind P named check swap rest LoadCheck h = check
rest_kind P named check swap rest SwapStamp h = swap
rest_kind P named check swap rest NameRest h = rest
rest_kind P named check swap rest _ h = absurd h

names_none : (k : StepKind) → IsRestStep k → IsReclaimKind k
names_none = rest_kind IsReclaimKind tt tt tt tt

begins_none : (k : StepKind) → IsRestStep k → BeginsNoScan k
begins_none = rest_kind BeginsNoScan tt tt tt tt

-- steps that change only what was seen, the clock words that were loaded, the rests, and the trail
pub record Listens (v w : Knowledge) (made : List Step) : Type 0 where
  pub seen : BeginsWith w.past.seen v.past.seen
  pub mine : w.past.mine ≡ v.past.mine
  pub trail : w.trail ≡ v.trail ++ made
  pub kinds : All (λ s. IsRestStep s.kind) made
  pub rest : w ≡ record v { past = w.past; clocks = w.clocks; trail = w.trail }

listens_none : (v : Knowledge) → Listens v v []
listens_none v = record {
  seen = ([], sym (append-nil v.past.seen));
  mine = refl;
  trail = sym (append-nil v.trail);
  kinds = All-nil (λ s. IsRestStep s.kind);
  rest = refl;
}

listens_then : (u v w : Knowledge) (made more : List Step) → Listens u v made → Listens v w more → Listens u w (made ++ more)
listens_then u v w made more p q = record {
  seen = begins_by w.past.seen v.past.seen u.past.seen q.seen p.seen;
  mine = q.mine ∙ p.mine;
  trail = q.trail ∙ ap (λ l. l ++ more) p.trail ∙ append_assoc u.trail made more;
  kinds = All-append (λ s. IsRestStep s.kind) made more p.kinds q.kinds;
  rest = q.rest ∙ ap (λ (x : Knowledge). record x { past = w.past; clocks = w.clocks; trail = w.trail }) p.rest;
}

-- none isn't some
none_some : (new : ℕ) → None ≡ Some new → ⊥
none_some new e = cc

module _ (c : Config) (v : Knowledge) (may : MayLoadLow v) (still : (v.walk ≡ Nowhere) × (v.back ≡ None)) where
  pub reclaims_listening : (w : Knowledge) (made : List Step) → Listens v w made → Reclaims v w made
  reclaims_listening w made k =
      reclaims_outside v w made may still
      (ap (λ (u : Knowledge). record u { past = w.past; clocks = w.clocks; empty = w.empty; ring = w.ring; grace = w.grace; trail = w.trail }) k.rest)
      k.seen k.mine (let e = ap (λ (u : Knowledge). u.grace) k.rest in omega arith) k.trail
      (All-weaker (λ (s : Step). IsRestStep s.kind) (λ s. IsReclaimKind s.kind) (λ s. names_none s.kind) made k.kinds)

  -- nothing was done: the last time was seen, or no version is dead only from above
  pub rests_none : (starts : State → Type 0) (allows : List ℕ → State → Writes → Type 0) (l : Noted) (latest : ℕ) → ∥ Known starts allows v ∥₁
      → latest ≤ v.base + length v.past.seen → (latest ≡ 35184372088831) ⊎ IsAnyAbove l latest false
      → (made : List Step) × RestsSo c v v l l made latest
  rests_none starts allows l latest known within why =
      let high : v.base + length v.past.seen ≤ 35184372088831 = ∥∥₁_elim known le_prop (λ a. a.in_time) in (
        [],
        record {
          reclaims = reclaims_listening v [] (listens_none v);
          kinds = All-nil (λ s. BeginsNoScan s.kind);
          few = (let e : 0 ≤ 1 = omega arith in e);
          due = inl refl;
          once = inl refl;
          log = refl;
          dated = ⊎_elim (λ last. inr (inr (omega arith, refl))) inl why;
        },
      )

module _ (c : Config) (v x : Knowledge) (word : ℕ) (h0 : List Entry) (whole : IsWhole c v word h0) (is : x ≡ check_loaded c v word h0) (may : MayLoadLow v)
    (still : (v.walk ≡ Nowhere) × (v.back ≡ None)) (y : Knowledge) (helps : Helps c x y word) where
  phase_first : x.phase ≡ Outside
  phase_first = ap (λ (u : Knowledge). u.phase) is ∙ may.outside

  phase_next : y.phase ≡ Outside
  phase_next = still_outside c x y word phase_first helps

  abbrev load : Step
  load = record { kind = LoadCheck; word = place_of c Clock; found = Some word; stored = None }

  listens_first : Listens v x (load ∷ [])
  listens_first = subst (λ (u : Knowledge). Listens v u (load ∷ [])) (sym is) (record {
    seen = whole.0;
    mine = refl;
    trail = refl;
    kinds = All-cons (λ s. IsRestStep s.kind) load [] tt (All-nil (λ s. IsRestStep s.kind));
    rest = refl;
  })

  listens_help : Listens x y helps.trail.0
  listens_help = record {
    seen = subst (λ (h : List Entry). BeginsWith h x.past.seen) (sym (ap (λ (p : Past). p.seen) helps.past.2)) helps.past.1;
    mine = ap (λ (p : Past). p.mine) helps.past.2;
    trail = helps.trail.1;
    kinds = All-weaker (λ (s : Step). IsHelpStep s.kind) (λ s. IsRestStep s.kind) (λ s. help_kind IsRestStep tt tt tt s.kind) helps.trail.0 helps.trail.3;
    rest = helps.rest ∙ ap (λ (p : Phase). record x { past = y.past; phase = p; clocks = y.clocks; trail = y.trail }) (phase_next ∙ sym phase_first);
  }

  abbrev steps : List Step
  steps = load ∷ [] ++ helps.trail.0

  listens_next : Listens v y steps
  listens_next = listens_then v x y (load ∷ []) helps.trail.0 listens_first listens_help

  -- none of them is an exchange on CLOCK
  none_next : clock_exchanges steps ≡ []
  none_next =
      none_exchanged steps
      (All-cons (λ s. LeavesClock s.kind) load helps.trail.0 tt
      (All-weaker (λ (s : Step). IsHelpStep s.kind) (λ s. LeavesClock s.kind) (λ s. help_kind LeavesClock tt tt tt s.kind) helps.trail.0 helps.trail.3))

  rests_next : y.past.rests ≡ v.past.rests
  rests_next = ap (λ (p : Past). p.rests) helps.past.2 ∙ ap (λ (u : Knowledge). u.past.rests) is

  pub may_rest : HasLoaded x word → clock_time_of word < 35184372088831 → MayNameRest y word
  may_rest has room = record { outside = phase_next; loaded = helps.still_loaded word has; helped = helps.helped; room = room }

  pub stands_helped : (l : Noted) → Stands c v l → Stands c y l
  stands_helped l k =
      let r = listens_next.rest in
      stands_left c v y l k (ap (λ (u : Knowledge). u.number) r) (ap (λ (u : Knowledge). u.ring) r) listens_next.mine rests_next steps listens_next.trail
      (All-cons (λ s. LeavesLog s.kind) load helps.trail.0 (refl, refl) (kinds_leave IsHelpStep help_leaves helps.trail.0 helps.trail.3))

  -- the word loaded is of the last time
  pub rests_at_end : (starts : State → Type 0) (allows : List ℕ → State → Writes → Type 0) (l : Noted) (latest : ℕ) → ∥ Known starts allows y ∥₁
      → v.base ≡ c.base → clock_time_of word ≡ 35184372088831 → (made : List Step) × RestsSo c v y l l made latest
  rests_at_end starts allows l latest known base last =
      let high : y.base + length y.past.seen ≤ 35184372088831 = ∥∥₁_elim known le_prop (λ a. a.in_time) in
      let same : y.base ≡ v.base = ap (λ (u : Knowledge). u.base) listens_next.rest in
      let long = begins_long y.past.seen h0 (subst (λ (u : Knowledge). BeginsWith y.past.seen u.past.seen) is listens_help.seen) in
      let found = whole.1 in (
        steps,
        record {
          reclaims = reclaims_listening c v may still y steps listens_next;
          kinds = All-weaker (λ (s : Step). IsRestStep s.kind) (λ s. BeginsNoScan s.kind) (λ s. begins_none s.kind) steps listens_next.kinds;
          few = (let none = ap length none_next in let e : length (clock_exchanges steps) ≤ 1 = omega arith in e);
          due = inl none_next;
          once = inl rests_next;
          log = refl;
          dated = inr (inr (omega arith, rests_next));
        },
      )

  pub room : (starts : State → Type 0) (allows : List ℕ → State → Writes → Type 0) (l : Noted) → Stands c v l → ∥ Known starts allows y ∥₁
      → l.rests + 1 < 2 ^ 63
  room starts allows l k known = rests_room starts allows c y l (stands_helped l k) known

  pub stands_done : (starts : State → Type 0) (allows : List ℕ → State → Writes → Type 0) (w : Knowledge) (l m : Noted) (h : List Entry) → Stands c v l
      → ∥ Known starts allows y ∥₁ → w ≡ rest_named c y word h → m ≡ rest_noted l → Stands c w m
  stands_done starts allows w l m h k known is_named noted =
      subst (λ (p : Knowledge × Noted). Stands c p.0 p.1) (λ i. (sym is_named i, sym noted i))
      (stands_rested c y l word h (stands_helped l k) (room starts allows l k known))

  pub stands_lost : (w : Knowledge) (l : Noted) (found : ℕ) (h : List Entry) → Stands c v l → w ≡ rest_lost c y found h → Stands c w l
  stands_lost w l found h k is_lost = subst (λ (u : Knowledge). Stands c u l) (sym is_lost) (stands_unrested c y l found h (stands_helped l k))

  module _ (w : Knowledge) (latest : ℕ) (within : latest ≤ v.base + length v.past.seen) (base : v.base ≡ c.base) (early : clock_time_of word ≢ 35184372088831)
    where
      -- an exchange of CLOCK was made after that, by which more than up to `latest` was seen
      rests_by : (step : Step) (l m : Noted) → IsAnyAbove l latest true → IsRestStep step.kind → Listens y w (step ∷ [])
          → (w.past.rests ≡ y.past.rests) ⊎ (w.past.rests ≡ y.past.rests + 1) → m ≡ record l { rests = m.rests } → latest < w.base + length w.past.seen
          → step.kind ≡ NameRest → ((new : ℕ) → step.stored ≡ Some new → step.found ≡ Some word)
          → (made : List Step) × RestsSo c v w l m made latest
      rests_by step l m due kind more once log late rests from =
          let all = listens_then v y w steps (step ∷ []) listens_next more in (
            steps ++ step ∷ [],
            record {
              reclaims = reclaims_listening c v may still w (steps ++ step ∷ []) all;
              kinds = All-weaker (λ (s : Step). IsRestStep s.kind) (λ s. BeginsNoScan s.kind) (λ s. begins_none s.kind) (steps ++ step ∷ []) all.kinds;
              few = one_last steps step none_next;
              due = inr (
                due,
                record {
                  word = word;
                  early = early;
                  help = helps.trail.0;
                  few = helps.trail.2;
                  helps = helps.trail.3;
                  swap = step;
                  kind = rests;
                  from = from;
                  made_is = refl;
                },
              );
              once = ⊎_elim (λ e. inl (e ∙ rests_next)) (λ e. inr (e ∙ ap (λ n. n + 1) rests_next)) once;
              log = log;
              dated = inr (inl late);
            },
          )

      same_base : y.base ≡ v.base
      same_base = ap (λ (u : Knowledge). u.base) listens_next.rest

      pub rests_done : (l m : Noted) (h : List Entry) → IsAnyAbove l latest true → IsWhole c y word h → w ≡ rest_named c y word h → m ≡ rest_noted l
          → (made : List Step) × RestsSo c v w l m made latest
      rests_done l m h due now is_named noted =
          let step : Step = record { kind = NameRest; word = place_of c Clock; found = Some word; stored = Some (rest_word y word) } in
          let seen : w.past.seen ≡ h ++ Rest y.number ∷ [] = ap (λ (u : Knowledge). u.past.seen) is_named in
          let far : w.base ≡ y.base = ap (λ (u : Knowledge). u.base) is_named in
          let longer = ap length seen in
          let more = length-append h (Rest y.number ∷ []) in
          let long = begins_long h v.past.seen (begins_by h y.past.seen v.past.seen now.0 listens_next.seen) in
          let same = same_base in
          rests_by step l m due tt
          (record {
            seen = begins_by w.past.seen h y.past.seen (Rest y.number ∷ [], seen) now.0;
            mine = ap (λ (u : Knowledge). u.past.mine) is_named;
            trail = ap (λ (u : Knowledge). u.trail) is_named;
            kinds = All-cons (λ s. IsRestStep s.kind) step [] tt (All-nil (λ s. IsRestStep s.kind));
            rest = is_named
                ∙ (λ i. record y {
                  past = sym (ap (λ (u : Knowledge). u.past) is_named) i;
                  clocks = sym (ap (λ (u : Knowledge). u.clocks) is_named) i;
                  trail = sym (ap (λ (u : Knowledge). u.trail) is_named) i;
                });
          })
          (inr (ap (λ (u : Knowledge). u.past.rests) is_named))
          (noted ∙ ap (λ (n : ℕ). record l { rests = n }) (sym (ap (λ (k : Noted). k.rests) noted)))
          (omega arith) refl (λ new stored. refl)

      pub rests_lost : (l : Noted) (found : ℕ) (h : List Entry) (rival : Rival) → IsAnyAbove l latest true → IsLost c y word found rival h
          → w ≡ rest_lost c y found h → (made : List Step) × RestsSo c v w l l made latest
      rests_lost l found h rival due lost is_lost =
          let step : Step = record { kind = NameRest; word = place_of c Clock; found = Some found; stored = None } in
          let seen : w.past.seen ≡ h = ap (λ (u : Knowledge). u.past.seen) is_lost in
          let far : w.base ≡ y.base = ap (λ (u : Knowledge). u.base) is_lost in
          let longer = ap length seen in
          let first = begins_long h0 v.past.seen whole.0 in
          let was = whole.1 in
          let now = lost.whole.1 in
          let later = lost.overtaken.later in
          let same = same_base in
          rests_by step l l due tt
          (record {
            seen = subst (λ (k : List Entry). BeginsWith k y.past.seen) (sym seen) lost.whole.0;
            mine = ap (λ (u : Knowledge). u.past.mine) is_lost;
            trail = ap (λ (u : Knowledge). u.trail) is_lost;
            kinds = All-cons (λ s. IsRestStep s.kind) step [] tt (All-nil (λ s. IsRestStep s.kind));
            rest = is_lost
                ∙ (λ i. record y {
                  past = sym (ap (λ (u : Knowledge). u.past) is_lost) i;
                  clocks = sym (ap (λ (u : Knowledge). u.clocks) is_lost) i;
                  trail = sym (ap (λ (u : Knowledge). u.trail) is_lost) i;
                });
          })
          (inl (ap (λ (u : Knowledge). u.past.rests) is_lost))
          refl
          (omega arith) refl (λ new stored. absurd (none_some new stored))

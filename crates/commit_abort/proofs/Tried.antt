-- What a commit knows after each of its steps.
use Rattle.std.proofs.Common.{◌≡◌, ℕ, ◌+◌, ◌-◌, ◌<◌, ◌≤◌, if◌then◌else◌, Bool, false, List, [], ◌∷◌, ◌++◌}
use Rattle.std.proofs.Common.{length, take, refl, sym, ap, ◌∙◌, subst, arith, append_assoc, All, Some, None}
use Rattle.std.specs.Prelude.{Contains}
use Rattle.std.proofs.Math.Logic.{∥∥₁_elim}
use Rattle.std.proofs.Math.Bridge.{le_prop}
use Rattle.std.proofs.lemmas.List.{take-append-le}
use Rattle.std.proofs.lemmas.List.Elements.{All-cons, All-head, All-tail, All-weaker, Contains-append_left}
use Rattle.mv_history.specs.declared.Entry.{Entry}
use Rattle.mv_history.specs.declared.Step.{Step}
use Rattle.mv_history.specs.declared.StepKind.{StepKind}
use Rattle.mv_history.specs.declared.StepKind.TheVariants.{LoadCheck, LoadNamed, SwapStamp}
use Rattle.mv_history.specs.State.{State, Writes, state_after, state_at}
use Rattle.mv_history.specs.Drift.{IsFit}
use Rattle.mv_history.specs.Trail.{is_commit_exchange, commit_exchanges}
use Rattle.mv_layout.specs.declared.Config.{Config}
use Rattle.mv_layout.specs.declared.SharedWord.TheVariants.{Clock}
use Rattle.mv_layout.specs.Places.{place_of}
use Rattle.mv_layout.specs.Words.{clock_time_of}
use Rattle.seat_log.specs.mv_core.declared.ring.Ring.{Ring}
use Rattle.seat_log.specs.mv_core.declared.view.Knowledge.{Knowledge}
use Rattle.seat_log.specs.mv_core.declared.view.Past.{Past}
use Rattle.seat_log.specs.mv_core.declared.view.Phase.TheVariants.{Inside}
use Rattle.seat_log.specs.mv_core.declared.view.OwnSection.{OwnSection}
use Rattle.seat_log.specs.mv_core.declared.view.Mode.TheVariants.{Open}
use Rattle.seat_log.specs.mv_core.Rings.{held_count, own_of}
use Rattle.seat_log.specs.mv_core.Views.{time_in}
use Rattle.seat_log.specs.mv_core.HistoryFacts.{BeginsWith}
use Rattle.seat_log.specs.mv_core.SectionFacts.{IsPastHelp}
use Rattle.seat_log.specs.mv_core.EnterSteps.{MayLoadCheck, IsWhole, if_none, checked_helped, check_loaded}
use Rattle.seat_log.specs.mv_core.Known.{Known}
use Rattle.seat_log.specs.mv_core.NameSteps.{LogTold, commit_of, MayNameCommit, commit_named}
use Rattle.seat_log.proofs.mv_core_lemmas.history.Fronts.{begins_by, begins_long}
use Rattle.seat_log.specs.commit_clock.Helps.{HasLoaded, IsHelpStep, Helps}
use Rattle.seat_log.proofs.commit_clock_lemmas.HelpedPhase.{still_open}
use Rattle.seat_log.proofs.commit_clock_lemmas.HelpKinds.{help_kind}
use Rattle.seat_log.specs.Notes.{Noted}
use Rattle.seat_log.specs.Stands.{Stands}
use Rattle.seat_log.proofs.PlainSteps.{LeavesLog, one_leaves, stands_left}
use Rattle.commit_abort.specs.Commits.{MayCommit, LoadsClock, IsKept, IsAtEnd}
use Rattle.commit_abort.specs.Finishes.{WonNaming, IsJustNamed}

-- steps with no commit exchange
pub no_exchange : (steps : List Step) → All (λ s. is_commit_exchange s.kind ≡ false) steps → commit_exchanges steps ≡ []
no_exchange [] all = refl
no_exchange (s ∷ steps) all =
    ap (λ (b : Bool). if b then s ∷ commit_exchanges steps else commit_exchanges steps) (All-head (λ s. is_commit_exchange s.kind ≡ false) s steps all)
    ∙ no_exchange steps (All-tail (λ s. is_commit_exchange s.kind ≡ false) s steps all)

-- a section may load the clock
pub may_load : (v : Knowledge) (inside : OwnSection) → v.phase ≡ Inside inside → MayLoadCheck v.phase
may_load v inside phase = subst MayLoadCheck (sym phase) tt

-- one step is within the bound
pub end_cost : (a b held : ℕ) → b ≡ a + 1 → b ≤ a + held + 8
end_cost a b held one = omega arith

module _ (c : Config) (v x : Knowledge) (word : ℕ) (h0 : List Entry) (whole : IsWhole c v word h0) (is : x ≡ check_loaded c v word h0) (inside : OwnSection)
    (phase : v.phase ≡ Inside inside) (past_help : IsPastHelp v.clocks inside) where
  abbrev pub load : Step
  load = record { kind = LoadCheck; word = place_of c Clock; found = Some word; stored = None }

  pub loads_first : LoadsClock c v x word 1 (load ∷ [])
  loads_first = record {
    trail = ap (λ (u : Knowledge). u.trail) is;
    few = omega arith;
    loaded = refl;
    old = (let le = begins_long h0 v.past.seen whole.0 in let long = whole.1 in omega arith);
  }

  pub kept_first : IsKept v x inside
  kept_first =
      subst (λ (u : Knowledge). IsKept v u inside) (sym is)
      (record {
        seen = whole.0;
        past_help = Contains-append_left v.clocks.helped (if_none word ++ checked_helped v.clocks.found word) inside.word past_help;
        rest = refl;
      })

  pub at_end : clock_time_of word ≡ 35184372088831 → IsAtEnd c v x inside
  at_end last = record {
    kept = kept_first;
    word = word;
    steps = load ∷ [];
    loads = loads_first;
    none = refl;
    last = last;
    all_seen = ap (λ (u : Knowledge). c.base + length u.past.seen) is ∙ sym whole.1 ∙ last;
  }

  pub stands_first : (l : Noted) → Stands c v l → Stands c x l
  stands_first l k =
      stands_left c v x l k (ap (λ (u : Knowledge). u.number) is) (ap (λ (u : Knowledge). u.ring) is) (ap (λ (u : Knowledge). u.past.mine) is)
      (ap (λ (u : Knowledge). u.past.rests) is) (load ∷ []) (ap (λ (u : Knowledge). u.trail) is) (one_leaves load (refl, refl))

  module _ (y : Knowledge) (helps : Helps c x y word) (open_is : inside.mode ≡ Open) where
    pub phase_next : y.phase ≡ Inside inside
    phase_next = still_open c x y word inside (ap (λ (u : Knowledge). u.phase) is ∙ phase) open_is helps

    pub ring_next : y.ring ≡ v.ring
    ring_next = ap (λ (u : Knowledge). u.ring) helps.rest ∙ ap (λ (u : Knowledge). u.ring) is

    pub number_next : y.number ≡ v.number
    number_next = ap (λ (u : Knowledge). u.number) helps.rest ∙ ap (λ (u : Knowledge). u.number) is

    pub past_next : y.past ≡ record v.past { seen = helps.past.0 }
    past_next = helps.past.2 ∙ ap (λ (u : Knowledge). record u.past { seen = helps.past.0 }) is

    -- it begins with all that was seen, and with the history that the load found
    pub begins_found : BeginsWith helps.past.0 h0
    begins_found = subst (BeginsWith helps.past.0) (ap (λ (u : Knowledge). u.past.seen) is) helps.past.1

    pub begins_next : BeginsWith helps.past.0 v.past.seen
    begins_next = begins_by helps.past.0 h0 v.past.seen begins_found whole.0

    pub helped_next : IsPastHelp y.clocks inside
    helped_next =
        helps.still_helped inside.word
        (subst (λ (u : Knowledge). Contains u.clocks.helped inside.word) (sym is)
        (Contains-append_left v.clocks.helped (if_none word ++ checked_helped v.clocks.found word) inside.word past_help))

    abbrev pub steps_next : List Step
    steps_next = load ∷ helps.trail.0

    pub trail_next : y.trail ≡ v.trail ++ steps_next
    trail_next = helps.trail.1 ∙ ap (λ (u : Knowledge). u.trail ++ helps.trail.0) is ∙ append_assoc v.trail (load ∷ []) helps.trail.0

    -- what holds of each kind of step of it holds of all
    pub kinds_next : (P : StepKind → Type 0) → P LoadNamed → P LoadCheck → P SwapStamp → All (λ s. P s.kind) steps_next
    kinds_next P a b d =
        All-cons (λ s. P s.kind) load helps.trail.0 b
        (All-weaker (λ s. IsHelpStep s.kind) (λ s. P s.kind) (λ s. help_kind P a b d s.kind) helps.trail.0 helps.trail.3)

    pub stands_next : (l : Noted) → Stands c v l → Stands c y l
    stands_next l k =
        stands_left c v y l k number_next ring_next (ap (λ (p : Past). p.mine) past_next) (ap (λ (p : Past). p.rests) past_next) steps_next trail_next
        (kinds_next LeavesLog (refl, refl) (refl, refl) (refl, refl))

    pub may_name : (starts : State → Type 0) (allows : List ℕ → State → Writes → Type 0) (tag : List ℕ) → MayCommit allows c v tag inside
        → HasLoaded x word → clock_time_of word < 35184372088831 → ∥ Known starts allows v ∥₁ → v.base ≡ c.base
        → MayNameCommit allows c y word tag inside
    may_name starts allows tag may has room known base =
        let seen : time_in inside ≤ v.base + length v.past.seen = ∥∥₁_elim known le_prop (λ a. (a.section inside phase).seen) in
        let n : ℕ = time_in inside - c.base in
        let from = begins_next in
        let same : take n y.past.seen ≡ take n v.past.seen =
        ap (λ (p : Past). take n p.seen) past_next ∙ ap (take n) from.1 ∙ take-append-le n v.past.seen from.0 (omega arith) in
        let start : y.start ≡ v.start = ap (λ (u : Knowledge). u.start) helps.rest ∙ ap (λ (u : Knowledge). u.start) is in
        record {
          phase = phase_next;
          open_is = open_is;
          past_help = helped_next;
          some_held = subst (λ (r : Ring). 0 < held_count r) (sym ring_next) may.some_held;
          loaded = helps.still_loaded word has;
          helped = helps.helped;
          room = room;
          fit = subst (λ (r : Ring). IsFit allows (state_at y.start y.past.seen n) tag (own_of c r)) (sym ring_next)
              (subst (λ (s : State). IsFit allows s tag (own_of c v.ring)) (λ i. state_after (sym start i) (sym same i)) may.fit);
        }

    -- the commit is that of the section at the begin of the call
    pub commit_next : (tag : List ℕ) → commit_of c y inside tag ≡ commit_of c v inside tag
    commit_next tag =
        λ i.
        record { seat = number_next i; number = length (past_next i).mine + 1; snapshot = time_in inside - c.base; tag = tag; writes = own_of c (ring_next i) }

    -- the exchange was won: the pass has just named the commit
    pub just_named : (l : Noted) (tag : List ℕ) (z : Knowledge) (time : ℕ) → Stands c v l → l.built ≡ None → 0 < held_count v.ring → LogTold c y word
        → (time ≡ clock_time_of word + 1) × ((h : List Entry) × IsWhole c y word h × (z ≡ commit_named c y inside tag word h))
        → (won : WonNaming) × IsJustNamed c z l won × (time ≡ clock_time_of won.word + 1)
    just_named l tag z time stands unbuilt some log named = (
      record { before = y; inside = inside; tag = tag; word = word; history = named.1.0 },
      record {
        phase = phase_next;
        some = subst (λ (r : Ring). 0 < held_count r) (sym ring_next) some;
        named = named.1.2;
        log = log;
        stands = stands_next l stands;
        unbuilt = unbuilt;
      },
      named.0,
    )

-- The first steps of a seat of a new domain: it enters, and leaves.
use Rattle.std.proofs.Common.{◌≡◌, ℕ, zero, suc, ◌+◌, ◌-◌, ◌<◌, [], ◌∷◌, Some, None, refl, sym, ap, ◌∙◌, subst}
use Rattle.mv_layout.specs.Words.{clock_time_of}
use Rattle.mv_core.proofs.Terms.{Config, Clock, Mark, empty_ring, slot_at, set_at}
use Rattle.mv_core.specs.declared.ring.Slot.TheVariants.{Live}
use Rattle.mv_core.specs.declared.ring.WriteSetStatus.TheVariants.{Held}
use Rattle.mv_core.specs.declared.view.Phase.{Phase}
use Rattle.mv_core.specs.declared.view.Phase.TheVariants.{Outside, Lowered, Marked, Inside}
use Rattle.mv_core.specs.declared.view.OwnSection.{OwnSection}
use Rattle.mv_core.specs.declared.view.Mode.TheVariants.{Open}
use Rattle.mv_core.specs.declared.view.Knowledge.{Knowledge}
use Rattle.mv_core.specs.Views.{low_of}
use Rattle.mv_core.specs.SeatSteps.{made_one, newly_made}
use Rattle.mv_core.specs.Moves.{Moment, opening_of}
use Rattle.mv_core.proofs.frames.FrameLaw.{set_at_all, set_at_here}
use Rattle.mv_core.proofs.kinds.opening.Starting.{none_lives}
use Rattle.step_replay.specs.declared.machine.Machine.{Machine}
use Rattle.replay_text.specs.replay_rules.States.{zeros, with_made, opened, Turn, state_of}
use Rattle.step_replay.specs.Machines.{IsNext}
use Rattle.step_replay.specs.FirstSteps.{low_step, mark_step, time_step, leave_step}

-- a seat that is outside, with no scan and nothing in its log
abbrev pub IsQuiet : Config → ℕ → Knowledge → Type 0
IsQuiet c n v = (v.number ≡ n) × (v.phase ≡ Outside) × (v.scan ≡ None) × (v.ring ≡ empty_ring c)

quiet_made : (c : Config) (count n : ℕ) → IsQuiet c n ((with_made c count (opening_of c (zeros c))).seats n)
quiet_made c zero n = (refl, refl, refl, refl)
quiet_made c (suc count) n =
    let s = with_made c count (opening_of c (zeros c)) in
    let first = quiet_made c count 0 in
    set_at_all (IsQuiet c) (set_at s.seats 0 (made_one c (s.seats 0))) (s.seats 0).made (newly_made c (s.seats 0)) (refl, refl, refl, refl)
    (λ t _. set_at_all (IsQuiet c) s.seats 0 (made_one c (s.seats 0)) (first.0, first.1, first.2, first.3) (λ u _. quiet_made c count u) t) n

pub quiet : (c : Config) (n : ℕ) → IsQuiet c n ((opened c).seats n)
quiet c n = quiet_made c (c.seats - 1) n

-- each of the steps, behind those before it
abbrev pub low_turn : ℕ → Turn
low_turn seat = record { before = []; step = low_step seat }

abbrev pub mark_turn : ℕ → ℕ → Turn
mark_turn seat low = record { before = low_step seat ∷ []; step = mark_step seat low }

abbrev pub time_turn : ℕ → ℕ → Turn
time_turn seat low = record { before = mark_step seat low ∷ low_step seat ∷ []; step = time_step seat }

abbrev pub leave_turn : ℕ → ℕ → Turn
leave_turn seat low = record { before = time_step seat ∷ mark_step seat low ∷ low_step seat ∷ []; step = leave_step seat }

module _ (machine : Machine) (seat : ℕ) (lt : seat < machine.config.seats) where
  abbrev c : Config
  c = machine.config

  pub low_next : IsNext machine (low_turn seat) Clock (λ found. None)
  low_next = record {
    seat = lt;
    may = record { outside = (quiet c seat).1; no_scan = (quiet c seat).2 };
    place_is = refl;
    range = tt;
    writes_are = λ found. refl;
  }

  module _ (low : ℕ) (is : low ≡ clock_time_of ((opened c).memory Clock)) where
    -- the states behind the first step, the second and the third
    abbrev lowered : Moment
    lowered = state_of c (low_step seat ∷ [])

    abbrev marked : Moment
    marked = state_of c (mark_step seat low ∷ low_step seat ∷ [])

    abbrev timed : Moment
    timed = state_of c (time_step seat ∷ mark_step seat low ∷ low_step seat ∷ [])

    -- of the seat's view there: its number, its phase and its log
    IsView : Moment → Phase → Type 0
    IsView s phase = ((s.seats seat).number ≡ seat) × ((s.seats seat).phase ≡ phase) × ((s.seats seat).ring ≡ empty_ring c)

    is_lowered : IsView lowered (Lowered low)
    unfolding IsView
    is_lowered =
        let at = set_at_here (opened c).seats seat _ in
        let q = quiet c seat in
        (ap (λ (v : Knowledge). v.number) at ∙ q.0, ap (λ (v : Knowledge). v.phase) at ∙ ap Lowered (sym is), ap (λ (v : Knowledge). v.ring) at ∙ q.3)

    is_marked : IsView marked (Marked low)
    unfolding IsView
    is_marked =
        let at = set_at_here lowered.seats seat _ in
        let q = is_lowered in
        (ap (λ (v : Knowledge). v.number) at ∙ q.0, ap (λ (v : Knowledge). v.phase) at, ap (λ (v : Knowledge). v.ring) at ∙ q.2)

    abbrev inside : OwnSection
    inside = record { low = low_of (marked.seats seat).phase; word = marked.memory Clock; mode = Open }

    is_timed : IsView timed (Inside inside)
    unfolding IsView
    is_timed =
        let at = set_at_here marked.seats seat _ in
        let q = is_marked in
        (ap (λ (v : Knowledge). v.number) at ∙ q.0, ap (λ (v : Knowledge). v.phase) at, ap (λ (v : Knowledge). v.ring) at ∙ q.2)

    pub mark_next : IsNext machine (mark_turn seat low) (Mark seat) (λ found. Some (1 + low))
    unfolding IsView
    mark_next = record { seat = lt; may = is_lowered.1; place_is = ap Mark is_lowered.0; range = lt; writes_are = λ found. refl }

    pub time_next : IsNext machine (time_turn seat low) Clock (λ found. None)
    unfolding IsView
    time_next = record { seat = lt; may = (low, is_marked.1); place_is = refl; range = tt; writes_are = λ found. refl }

    pub leave_next : IsNext machine (leave_turn seat low) (Mark seat) (λ found. Some 0)
    unfolding IsView
    leave_next = record {
      seat = lt;
      may = record {
        inside = inside;
        phase = is_timed.1;
        nothing = λ k x held. none_lives c k x Held (subst (λ r. slot_at r k ≡ Live x Held) is_timed.2 held);
        finished = tt;
      };
      place_is = ap Mark is_timed.0;
      range = lt;
      writes_are = λ found. refl;
    }

-- Two loads of CLOCK with an entering between them leave a section that reads what was seen, whatever was joined before.
use Rattle.std.proofs.Common.{◌≡◌, ◌≢◌, ℕ, ◌+◌, ◌-◌, ◌≤◌, List, [], length, take, drop, sym, ap, ◌∙◌, subst, length-append, arith}
use Rattle.std.proofs.Math.Logic.{∥∥₁_elim}
use Rattle.std.proofs.lemmas.List.{take-append-drop, length-take-le}
use Rattle.std.specs.Prelude.{Contains}
use Rattle.std.proofs.lemmas.List.Elements.{All-map, All-weaker, All-contains_itself, Contains-append_left}
use Rattle.mv_history.specs.declared.Entry.{Entry}
use Rattle.mv_history.specs.declared.answers.LogTable.{LogTable}
use Rattle.mv_history.specs.State.{State, Writes}
use Rattle.mv_history.specs.Laws.{IsSeat-prop}
use Rattle.mv_history.specs.Meaning.{IsSeat}
use Rattle.mv_history.proofs.Histories.{IsLegal-front}
use Rattle.mv_layout.specs.declared.Config.{Config}
use Rattle.object_lock.specs.mv_core.declared.view.Knowledge.{Knowledge}
use Rattle.object_lock.specs.mv_core.declared.view.OwnSection.{OwnSection}
use Rattle.object_lock.specs.mv_core.Known.{Known}
use Rattle.object_lock.specs.mv_core.Passes.{seat_meant}
use Rattle.object_lock.specs.mv_core.Views.{time_in}
use Rattle.object_lock.specs.mv_core.EnterSteps.{IsWhole, if_none}
use Rattle.object_lock.specs.mv_core.WalkSteps.{IsWalking}
use Rattle.object_lock.specs.mv_core.SeatSteps.{AreJoined, joined_loaded}
use Rattle.object_lock.specs.reader_marks.Sections.{Begins}
use Rattle.object_lock.specs.version_chain.Walks.{inside_of, time_at, MayWalk}
use Rattle.mvrlu.specs.MetSeats.{MetSeat, noted_seat}
use Rattle.mvrlu.specs.Whole.{IsSound, AreApart, whole_from}
use Rattle.mvrlu.proofs.whole.Named.{apart_notes}

-- what the view means then, in a domain of these numbers
pub record HasRead (c : Config) (tables : List LogTable) (w : Knowledge) : Type 0 where
  pub sound : IsSound (whole_from c tables w)
  pub numbered : AreApart (whole_from c tables w)
  pub may : MayWalk w
  pub after : w.base ≤ time_at w
  pub seen : time_at w ≤ w.base + length w.past.seen

module _ (c : Config) (tables : List LogTable) (v u : Knowledge) (base : v.base ≡ c.base)
    (first : ℕ) (h : List Entry) (time : ℕ) (begins : Begins c (joined_loaded c v first h) u time)
    (last : ℕ) (g : List Entry) (all : IsWhole c u last g) (tells : AreJoined c u g) where
  abbrev w : Knowledge
  w = joined_loaded c u last g

  base_is : u.base ≡ c.base
  base_is = ap (λ (x : Knowledge). x.base) begins.rest ∙ base

  at_is : time_at w ≡ c.base + begins.at
  at_is = ap (λ (s : OwnSection). time_in s) (ap inside_of begins.phase) ∙ begins.word_is ∙ begins.time_is

  after : w.base ≤ time_at w
  after = let b = base_is in let t = at_is in omega arith

  seen : time_at w ≤ w.base + length g
  seen =
      let b = base_is in
      let t = at_is in
      let within = begins.within in
      let more = ap length all.0.1 ∙ length-append u.past.seen all.0.0 in
      omega arith

  may : MayWalk w
  may =
      let walking : IsWalking w begins.inside = record {
        phase = begins.phase;
        open_is = begins.open_is;
        helped = Contains-append_left u.clocks.helped (if_none last) begins.inside.word begins.past_help;
        no_back = begins.no_back;
      } in
      subst (IsWalking w) (sym (ap inside_of begins.phase)) walking

  module _ (starts : State → Type 0) (allows : List ℕ → State → Writes → Type 0) (one_start : (s : State) → IsProp (starts s))
      (one_allowed : (t : List ℕ) (s : State) (x : Writes) → IsProp (allows t s x)) (known : ∥ Known starts allows w ∥₁) where
    lawful : IsSeat starts allows (seat_meant [] 0 w)
    lawful = ∥∥₁_elim known (IsSeat-prop starts allows one_start one_allowed (seat_meant [] 0 w)) (λ k. record {
      start = k.opening;
      words = k.words;
      legal = k.legal;
      allowed = k.allowed;
      mine = k.mine;
      rests = k.rests;
      time = k.in_time;
      last = omega arith;
    })

    sound : IsSound (whole_from c tables w)
    sound =
        let is = lawful in
        let n : ℕ = time_at w - w.base in
        let short = length-take-le n g (let a = after in let s = seen in omega arith) in
        let t = is.time in
        let s = seen in
        record {
          words = is.words;
          legal = IsLegal-front (length w.start) (take n g) (drop n g) (rw (take-append-drop n g) is.legal);
          time = omega arith;
        }

    -- no two of the seats of its notes have one number, nor has any its own
    numbered : AreApart (whole_from c tables w)
    numbered = record {
      left = All-map (λ (m : MetSeat). m.number ≢ u.number) noted_seat u.notes
          (All-weaker (Contains u.notes) (λ n. n.number ≢ u.number) (λ n there. (tells.joined n there).1) u.notes (All-contains_itself u.notes));
      others = apart_notes u.notes tells.once;
    }

    pub read : HasRead c tables w
    read = record { sound = sound; numbered = numbered; may = may; after = after; seen = seen }

-- a pass with a load of CLOCK, an entering and a load of CLOCK
pub has_read : (starts : State → Type 0) (allows : List ℕ → State → Writes → Type 0) → ((s : State) → IsProp (starts s))
    → ((t : List ℕ) (s : State) (x : Writes) → IsProp (allows t s x)) → (c : Config) (tables : List LogTable) (v x u w : Knowledge) (first last time : ℕ)
    → v.base ≡ c.base
    → ((h : List Entry) × IsWhole c v first h × AreJoined c v h × (x ≡ joined_loaded c v first h)) → Begins c x u time
    → ((g : List Entry) × IsWhole c u last g × AreJoined c u g × (w ≡ joined_loaded c u last g)) → ∥ Known starts allows w ∥₁ → HasRead c tables w
has_read starts allows one_start one_allowed c tables v x u w first last time base one begins two known =
    let begun = subst (λ (y : Knowledge). Begins c y u time) one.3 begins in
    let knows = subst (λ (y : Knowledge). ∥ Known starts allows y ∥₁) two.3 known in
    subst (HasRead c tables) (sym two.3) (read c tables v u base first one.0 time begun last two.0 two.1 two.2 starts allows one_start one_allowed knows)

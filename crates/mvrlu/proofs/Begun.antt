-- What entering a section means.
use Rattle.std.proofs.Common.{◌≡◌, ℕ, ◌+◌, ◌-◌, ◌≤◌, drop, false, List, [], length, take, refl, sym, ap, ◌∙◌, subst, arith}
use Rattle.std.specs.Prelude.{Contains, Some, None}
use Rattle.std.proofs.lemmas.List.{length-take-le, length-append, take-append-drop}
use Rattle.mv_history.specs.declared.StepKind.{StepKind}
use Rattle.mv_history.specs.declared.StepKind.TheVariants.{LoadLow, StoreMark, LoadTime, LoadNamed, LoadCheck, SwapStamp}
use Rattle.mv_history.specs.Trail.{is_commit_exchange, commit_exchanges}
use Rattle.mv_history.specs.Calls.{Enters}
use Rattle.mv_layout.specs.declared.Config.{Config}
use Rattle.object_lock.specs.mv_core.declared.view.Knowledge.{Knowledge}
use Rattle.object_lock.specs.mv_core.declared.view.OwnSection.{OwnSection}
use Rattle.object_lock.specs.mv_core.Rings.{own_of, spare_count, writes_from, set_first}
use Rattle.object_lock.specs.mv_core.Views.{time_in}
use Rattle.object_lock.specs.mv_core.HistoryFacts.{BeginsWith}
use Rattle.object_lock.specs.mv_core.WalkSteps.{IsWalking}
use Rattle.object_lock.proofs.mv_core_lemmas.history.Fronts.{begins_by}
use Rattle.object_lock.proofs.mv_core_lemmas.kinds.entering.LoadTime.{holds_none}
use Rattle.object_lock.specs.reader_marks.Sections.{Begins, IsEnterStep}
use Rattle.object_lock.specs.seat_log.Notes.{Noted}
use Rattle.object_lock.specs.seat_log.Stands.{Stands}
use Rattle.object_lock.proofs.seat_log_lemmas.PlainSteps.{stands_entered}
use Rattle.mv_history.specs.State.{State, Writes}
use Rattle.object_lock.specs.mv_core.Known.{Known}
use Rattle.object_lock.specs.version_chain.Walks.{inside_of, time_at, MayWalk}
use Rattle.mvrlu.specs.Placed.{Placed, seat_from, section_from, IsIdle, IsBusy}
use Rattle.mvrlu.specs.Causes.{Took}
use Rattle.mvrlu.proofs.Trails.{made, none_named}
use Rattle.mvrlu.proofs.Continuing.{continues, placed_on}

no_name : (k : StepKind) → IsEnterStep k → is_commit_exchange k ≡ false
no_name LoadLow h = refl
no_name StoreMark h = refl
no_name LoadTime h = refl
no_name LoadNamed h = refl
no_name LoadCheck h = refl
no_name SwapStamp h = refl
no_name _ h = absurd h

module _ (c : Config) (v w : Knowledge) (time : ℕ) (b : Begins c v w time) where
  pub begun_may : MayWalk w
  begun_may =
      let walking : IsWalking w b.inside = record { phase = b.phase; open_is = b.open_is; helped = b.past_help; no_back = b.no_back } in
      subst (IsWalking w) (sym (ap inside_of b.phase)) walking

  begun_time : time_at w ≡ c.base + b.at
  begun_time = ap (λ (s : OwnSection). time_in s) (ap inside_of b.phase) ∙ b.word_is ∙ b.time_is

  begun_at : time_at w - c.base ≡ b.at
  begun_at = let t = begun_time in omega arith

  longer : length v.past.seen ≤ b.at
  longer =
      let s = b.snapshot in
      let long = ap length s.1 ∙ length-append v.past.seen s.0 in
      let short = length-take-le b.at w.past.seen b.within in
      omega arith

  begun_begins : BeginsWith w.past.seen v.past.seen
  begun_begins =
      begins_by w.past.seen (take b.at w.past.seen) v.past.seen (drop b.at w.past.seen, sym (take-append-drop b.at w.past.seen)) b.snapshot

  begun_own : own_of c w.ring ≡ []
  begun_own = ap (writes_from c w.ring (set_first w.ring)) (holds_none w.ring b.nothing)

-- a seat's place after it entered
module _ (p q : Placed) (time : ℕ) (b : Begins p.config p.view q.view time) (config : q.config ≡ p.config) (table : q.table ≡ p.table) where
  abbrev c : Config
  c = p.config

  abbrev w : Knowledge
  w = q.view

  at_is : time_at w - q.config.base ≡ b.at
  at_is = ap (λ (d : Config). time_at w - d.base) config ∙ begun_at c p.view w time b

  trail_is : drop (length p.view.trail) w.trail ≡ b.entered.steps
  trail_is = made p.view.trail w.trail b.entered.steps b.entered.trail

  pub enters : Enters (seat_from p) (section_from q)
  enters = record {
    seat = record {
      continues = continues p q config table b.entered.steps (ap (λ (u : Knowledge). u.number) b.rest) (ap (λ (u : Knowledge). u.start) b.rest)
          (ap (λ (u : Knowledge). u.base) b.rest) (begun_begins c p.view w time b) b.entered.trail;
      mine = ap (λ (u : Knowledge). u.past.mine) b.rest;
      rests = ap (λ (u : Knowledge). u.past.rests) b.rest;
      spare = ap (λ (u : Knowledge). spare_count u.ring) b.rest;
    };
    at = (let far = longer c p.view w time b in let at = at_is in omega arith);
    own = ap (λ (d : Config). own_of d w.ring) config ∙ begun_own c p.view w time b;
    names_no_commit = ap commit_exchanges trail_is ∙ none_named IsEnterStep no_name b.entered.steps b.entered.kinds;
  }

  pub took : p.view.base ≡ p.config.base → Took (seat_from p) (section_from q)
  took base_is = record {
    word = b.inside.word;
    there = subst (λ steps. Contains steps (record { kind = LoadTime; word = 0; found = Some b.inside.word; stored = None })) (sym trail_is) b.entered.takes;
    time = (let t = b.word_is ∙ b.time_is in let base : w.base ≡ p.view.base = ap (λ (u : Knowledge). u.base) b.rest in let at = at_is in omega arith);
  }

  pub busy : (starts : State → Type 0) (allows : List ℕ → State → Writes → Type 0) → IsIdle starts allows p → q.log ≡ p.log
      → ∥ Known starts allows w ∥₁ → IsBusy starts allows q
  busy starts allows idle log known =
      let stands : Stands c w p.log = stands_entered c p.view w p.log time b idle.placed.stands in
      let here : Stands q.config w q.log = subst (λ (e : Config). Stands e w q.log) (sym config) (subst (Stands c w) (sym log) stands) in record {
        placed = placed_on starts allows p q config idle.placed (ap (λ (u : Knowledge). u.number) b.rest) (ap (λ (u : Knowledge). u.base) b.rest) known here
            (ap (λ (m : Noted). m.built) log ∙ idle.placed.unbuilt);
        may = begun_may c p.view w time b;
        no_scan = ap (λ (u : Knowledge). u.scan) b.rest ∙ idle.outside.no_scan;
        few = (let none = holds_none w.ring b.nothing in let held = here.held in omega arith);
      }

-- A read of a domain whose seats have met: what it answers, and what it leaves.
use Rattle.std.proofs.Common.{◌≡◌, ℕ, ◌+◌, ◌-◌, ◌<◌, ◌≤◌, List, ◌++◌, length, take, map, All, refl, sym, ap, ◌∙◌, subst}
use Rattle.std.proofs.Common.{append_assoc, length-append, arith}
use Rattle.std.proofs.lemmas.List.{take-append-le}
use Rattle.std.proofs.lemmas.List.Elements.{All-append, All-weaker}
use Rattle.mv_history.specs.declared.Step.{Step}
use Rattle.mv_history.specs.declared.answers.LogTable.{LogTable}
use Rattle.mv_history.specs.declared.Protocol.{Ghosts}
use Rattle.mv_history.specs.State.{state_after, state_at}
use Rattle.mv_history.specs.Meaning.{words_at}
use Rattle.mv_layout.specs.declared.Config.{Config}
use Rattle.object_lock.specs.mv_core.declared.view.Phase.{Phase}
use Rattle.object_lock.specs.mv_core.declared.shared.Pass.{Pass}
use Rattle.object_lock.specs.mv_core.declared.shared.Shared.{Shared}
use Rattle.object_lock.specs.mv_core.Passes.{view, IsSame, config_of, start_of}
use Rattle.object_lock.proofs.seat_log_lemmas.OwnSlots.{of_still}
use Rattle.mv_history.specs.declared.StepKind.{StepKind}
use Rattle.mv_history.specs.declared.StepKind.TheVariants.{LoadData, LoadMaster}
use Rattle.object_lock.specs.mv_core.declared.view.Knowledge.{Knowledge}
use Rattle.object_lock.specs.mv_core.Views.{time_in}
use Rattle.object_lock.specs.mv_core.HistoryFacts.{BeginsWith}
use Rattle.object_lock.specs.version_chain.Walks.{Walks, IsWalkStep, inside_of, time_at, MayWalk}
use Rattle.object_lock.specs.version_chain.Reads.{Reads, words_in}
use Rattle.mvrlu.specs.MetSeats.{noted_seat, IsLookStep}
use Rattle.mvrlu.specs.Whole.{IsStill, IsReading, whole_from, last_state}

-- what a walk and a read after it leave of a view: only the trail is longer, and more may have been seen
pub record Looks (v w : Knowledge) : Type 0 where
  pub start : w.start ≡ v.start
  pub base : w.base ≡ v.base
  pub phase : w.phase ≡ v.phase
  pub seen : BeginsWith w.past.seen v.past.seen
  pub number : w.number ≡ v.number
  pub trail : (steps : List Step) × (w.trail ≡ v.trail ++ steps) × All (λ s. IsLookStep s.kind) steps
  pub notes : w.notes ≡ v.notes

-- a step of a walk is one of reading
walk_looks : (kind : StepKind) → IsWalkStep kind → IsLookStep kind
walk_looks LoadData x = tt
walk_looks LoadMaster x = tt
walk_looks _ x = x

pub walked : (v w : Knowledge) (before after : ℕ) → Walks v w before after → Looks v w
walked v w before after k = record {
  start = ap (λ (x : Knowledge). x.start) k.rest;
  base = ap (λ (x : Knowledge). x.base) k.rest;
  phase = ap (λ (x : Knowledge). x.phase) k.rest;
  seen = k.seen;
  number = ap (λ (x : Knowledge). x.number) k.rest;
  trail = (
    k.trail.0,
    k.trail.1,
    All-weaker (λ (s : Step). IsWalkStep s.kind) (λ (s : Step). IsLookStep s.kind) (λ s walk. walk_looks s.kind walk) k.trail.0 k.trail.3,
  );
  notes = ap (λ (x : Knowledge). x.notes) k.rest;
}

pub looked : (kind : StepKind) (v x w : Knowledge) → IsLookStep kind → Looks v x → Reads kind x w → Looks v w
looked kind v x w look k r = record {
  start = ap (λ (y : Knowledge). y.start) r.rest ∙ k.start;
  base = ap (λ (y : Knowledge). y.base) r.rest ∙ k.base;
  phase = ap (λ (y : Knowledge). y.phase) r.rest ∙ k.phase;
  seen = subst (λ h. BeginsWith h v.past.seen) (sym (ap (λ (y : Knowledge). y.past.seen) r.rest)) k.seen;
  number = ap (λ (y : Knowledge). y.number) r.rest ∙ k.number;
  trail = (
    k.trail.0 ++ r.trail.0,
    r.trail.1 ∙ ap (λ t. t ++ r.trail.0) k.trail.1 ∙ append_assoc v.trail k.trail.0 r.trail.0,
    All-append (λ (s : Step). IsLookStep s.kind) k.trail.0 r.trail.0 k.trail.2
        (All-weaker (λ (s : Step). s.kind ≡ kind) (λ (s : Step). IsLookStep s.kind) (λ s is. subst IsLookStep (sym is) look) r.trail.0 r.trail.3),
  );
  notes = ap (λ (y : Knowledge). y.notes) r.rest ∙ k.notes;
}

module _ (v w : Knowledge) (k : Looks v w) (seen : time_at v ≤ v.base + length v.past.seen) where
  time_stays : time_at w - w.base ≡ time_at v - v.base
  time_stays = λ i. time_in (inside_of (k.phase i)) - k.base i

  history_stays : take (time_at w - w.base) w.past.seen ≡ take (time_at v - v.base) v.past.seen
  history_stays =
      ap (λ n. take n w.past.seen) time_stays ∙ ap (take (time_at v - v.base)) k.seen.1
      ∙ take-append-le (time_at v - v.base) v.past.seen k.seen.0 (omega arith)

  pub looks_still : (c : Config) (tables : List LogTable) → IsStill (whole_from c tables v) (whole_from c tables w)
  looks_still c tables = record {
    config = refl;
    start = k.start;
    base = k.base;
    history = history_stays;
    number = k.number;
    trail = k.trail;
    others = ap (map noted_seat) k.notes;
    tables = refl;
  }

-- the words that the section reads are those of the last state
pub reads_last : (c : Config) (tables : List LogTable) (v w : Knowledge) (object : ℕ) → v.base ≡ c.base
    → IsStill (whole_from c tables v) (whole_from c tables w)
    → words_in c w object ≡ words_at (last_state (whole_from c tables v)) object
reads_last c tables v w object base k =
    ap (λ (b : ℕ). words_at (state_at w.start w.past.seen (time_at w - b)) object) (sym (k.base ∙ base))
    ∙ (λ i. words_at (state_after (k.start i) (k.history i)) object)

-- an object of the opening state is one of the domain
pub in_range : {P : Type 0} (s : Shared P) (v : Knowledge) (object : ℕ) → v.start ≡ start_of s → object < length v.start → object < (config_of s).objects
in_range s v object start lt =
    let long : length v.start ≡ (config_of s).objects = ap length start ∙ s.opening ∙ sym (ap (λ (c : Config). c.objects) s.about) in omega arith

-- the pass reads on
pub reading_on : {P : Type 0} {g : Ghosts P} (s : Shared P) (p q : Pass P g) → IsSame p q → IsReading s p → Looks (view p) (view q) → MayWalk (view q)
    → IsReading s q
reading_on s p q same r k may =
    let time : time_at (view q) ≡ time_at (view p) = ap (λ (f : Phase). time_in (inside_of f)) k.phase in
    let base = k.base in
    let long = ap length k.seen.1 ∙ length-append (view p).past.seen k.seen.0 in
    let after = r.after in
    let seen = r.seen in
    record { of = of_still s p q same r.of; may = may; after = omega arith; seen = omega arith }

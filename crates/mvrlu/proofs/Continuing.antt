-- What a call leaves of its seat, by what it leaves of the view.
use Rattle.std.proofs.Common.{◌≡◌, ℕ, ◌<◌, ◌≤◌, List, ◌++◌, length, take, refl, sym, ap, ◌∙◌, subst}
use Rattle.std.specs.Prelude.{None}
use Rattle.mv_history.specs.declared.Entry.{Entry}
use Rattle.mv_history.specs.declared.Step.{Step}
use Rattle.mv_history.specs.State.{State, Writes}
use Rattle.mv_history.specs.Calls.{Continues}
use Rattle.mv_layout.specs.declared.Config.{Config}
use Rattle.object_lock.specs.mv_core.HistoryFacts.{BeginsWith}
use Rattle.object_lock.specs.mv_core.Known.{Known}
use Rattle.object_lock.specs.mv_core.Passes.{home_of}
use Rattle.object_lock.specs.seat_log.Stands.{Stands}
use Rattle.object_lock.specs.version_chain.Walks.{MayWalk}
use Rattle.mvrlu.specs.Placed.{Placed, seat_from, IsPlaced, IsBusy}
use Rattle.mvrlu.proofs.Trails.{kept}

-- what was seen is the first part of what is seen now
pub front : (old new : List Entry) → BeginsWith new old → take (length old) new ≡ old
front old new b = kept old new b.0 b.1

module _ (p q : Placed) (config : q.config ≡ p.config) (table : q.table ≡ p.table) where
  -- the seat is the same, and what was seen and done stays
  pub continues : (steps : List Step) → q.view.number ≡ p.view.number → q.view.start ≡ p.view.start → q.view.base ≡ p.view.base
      → BeginsWith q.view.past.seen p.view.past.seen → q.view.trail ≡ p.view.trail ++ steps → Continues (seat_from p) (seat_from q)
  continues steps number start base seen trail = record {
    number = number;
    home = (λ i. home_of (config i) (table i));
    write_max = ap (λ (d : Config). d.write_max) config;
    start = start;
    base = base;
    last = refl;
    seen = front p.view.past.seen q.view.past.seen seen;
    trail = kept p.view.trail q.view.trail steps trail;
  }

module _ (starts : State → Type 0) (allows : List ℕ → State → Writes → Type 0) (p q : Placed) (config : q.config ≡ p.config) where
  -- a seat's place after a call
  pub placed_on : IsPlaced starts allows p → q.view.number ≡ p.view.number → q.view.base ≡ p.view.base → ∥ Known starts allows q.view ∥₁
      → Stands q.config q.view q.log → q.log.built ≡ None → IsPlaced starts allows q
  placed_on is number base known stands unbuilt = record {
    known = known;
    range = subst (λ (e : Config). q.view.number < e.seats) (sym config) (subst (λ (n : ℕ). n < p.config.seats) (sym number) is.range);
    base = base ∙ is.base ∙ sym (ap (λ (c : Config). c.base) config);
    stands = stands;
    unbuilt = unbuilt;
  }

  -- after one that left it in its section
  pub busy_on : IsBusy starts allows p → q.view.number ≡ p.view.number → q.view.base ≡ p.view.base → q.view.scan ≡ p.view.scan
      → ∥ Known starts allows q.view ∥₁ → MayWalk q.view → Stands q.config q.view q.log → q.log.built ≡ None → q.log.held ≤ q.config.write_max
      → IsBusy starts allows q
  busy_on is number base scan known may stands unbuilt few = record {
    placed = placed_on is.placed number base known stands unbuilt;
    may = may;
    no_scan = scan ∙ is.no_scan;
    few = few;
  }

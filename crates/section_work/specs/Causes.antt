-- What only a store can show of its calls, which each store defines for itself.
use Rattle.section_work.specs.Terms.{ℕ, Holder, Seat, InSection}

-- What a store's causes mean: that it may refuse, that its trail tells the steps, that an `enter` took the time of its
-- snapshot, that a `prepare` found a holder, that a lock found its object held, and that a commit loaded a time.
pub record Causes : Type 1 where
  pub may_refuse : Type 0
  pub has_trail : Type 0
  pub took : Seat → InSection → Type 0
  pub holds_back : Seat → Seat → Holder → Type 0
  pub found_held : InSection → InSection → ℕ → ℕ → Type 0
  pub loaded : InSection → Seat → ℕ → Type 0

-- the causes of a store, from its members
abbrev pub causes : Type 0 → Type 0 → (Seat → InSection → Type 0) → (Seat → Seat → Holder → Type 0)
    → (InSection → InSection → ℕ → ℕ → Type 0) → (InSection → Seat → ℕ → Type 0) → Causes
causes may_refuse has_trail took holds_back found_held loaded = record {
  may_refuse = may_refuse;
  has_trail = has_trail;
  took = took;
  holds_back = holds_back;
  found_held = found_held;
  loaded = loaded;
}

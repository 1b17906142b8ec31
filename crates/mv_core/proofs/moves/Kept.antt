-- What a kind shows of loads, stores, exchanges and fetch_max, as what its step shows: all facts over the very words, history and view after it.
use Rattle.std.proofs.Common.{◌≡◌, ◌≢◌, ℕ, ◌<◌, ◌^◌, max, Bool, if◌then◌else◌, List, sym, ap, ◌∙◌, subst, eq-eqb, ne_eqb, Option, Some, None}
use Rattle.mv_core.proofs.Terms.{dite, ℕ_discrete, Entry, State, Writes, Config, SharedWord, Clock, Memory, put, Knowledge, parts_of, set_at}
use Rattle.mv_core.specs.EnterSteps.{IsWhole}
use Rattle.mv_core.specs.Rule.{Facts, IsSeated, IsKept}
use Rattle.mv_core.specs.Moves.{Act, loads, stores, swaps, raises, memory_after, history_after}
use Rattle.mv_core.proofs.moves.LaterHistory.{stays, whole_is}

module _ (starts : State → Type 0) (allows : List ℕ → State → Writes → Type 0) (c : Config) (start : State) (v : Knowledge) where
  -- a step keeps all facts, whatever the words, the history and the other views are
  pub record Keeps (a : Act) : Type 0 where
    pub keeps : (m : Memory) (h : List Entry) (seats : ℕ → Knowledge) → Facts starts allows c start m h (parts_of seats) → seats v.number ≡ v
        → IsSeated c seats v → v.start ≡ start → m a.place < 2 ^ 64
        → Facts starts allows c start (memory_after m a.place (a.writes (m a.place))) (history_after h (a.entry (m a.place)))
        (parts_of (set_at seats v.number (a.view (m a.place) h))) × IsKept v (a.view (m a.place) h)

  -- the facts and what a step leaves of the view, of an exact view
  abbrev Kept : Memory → List Entry → (ℕ → Knowledge) → Knowledge → Type 0
  Kept m h seats w = Facts starts allows c start m h (parts_of (set_at seats v.number w)) × IsKept v w

  -- what `Stores`, `Swaps` and `Raises` are to a step, whatever they tell, and what `Loads` is
  abbrev Asked : Memory → List Entry → (ℕ → Knowledge) → Type 0 → Type 0
  Asked m h seats A = Facts starts allows c start m h (parts_of seats) → seats v.number ≡ v → v.number < c.seats → v.start ≡ start → A

  abbrev AskedLoad : Memory → List Entry → (ℕ → Knowledge) → Type 0 → Type 0
  AskedLoad m h seats A = Facts starts allows c start m h (parts_of seats) → seats v.number ≡ v → IsSeated c seats v → v.start ≡ start → A

  abbrev Shown : Memory → List Entry → (ℕ → Knowledge) → (Knowledge → Type 0) → Type 0
  Shown m h seats T = (w : Knowledge) × Facts starts allows c start m h (parts_of (set_at seats v.number w)) × (T w × IsKept v w)

  abbrev ShownLonger : Memory → (ℕ → Knowledge) → (Knowledge → Type 0) → Type 0
  ShownLonger m seats T =
      (w : Knowledge) × (longer : List Entry) × Facts starts allows c start m longer (parts_of (set_at seats v.number w)) × (T w × IsKept v w)

  pub load_keeps : (may : Type 0) (p : SharedWord) (view : ℕ → List Entry → Knowledge) (tells : Memory → Knowledge → Type 0)
      → ((m : Memory) (h : List Entry) (seats : ℕ → Knowledge) → AskedLoad m h seats (m p < 2 ^ 64 → Shown m h seats (tells m)))
      → ((m : Memory) (h : List Entry) (seats : ℕ → Knowledge) (w : Knowledge) → Facts starts allows c start m h (parts_of (set_at seats v.number w))
      → tells m w → w ≡ view (m p) h)
      → Keeps (loads may p view)
  load_keeps may p view tells law exact = record {
    keeps = λ m h seats k is own begins small.
        let t = law m h seats k is own begins small in
        subst (Kept m h seats) (exact m h seats t.0 t.1 t.2.0) (t.1, t.2.1);
  }

  -- a load that shows the whole history
  pub clock_keeps : (may : Type 0) (view : ℕ → List Entry → Knowledge) (tells : Memory → Knowledge → Type 0)
      → ((m : Memory) (h : List Entry) (seats : ℕ → Knowledge) → AskedLoad m h seats (m Clock < 2 ^ 64 → Shown m h seats (tells m)))
      → ((m : Memory) (w : Knowledge) → tells m w → (h : List Entry) × IsWhole c v (m Clock) h × (w ≡ view (m Clock) h))
      → ((n : ℕ) (h : List Entry) → (view n h).past.seen ≡ h)
      → Keeps (loads may Clock view)
  clock_keeps may view tells law told seen = load_keeps may Clock view tells law (λ m h seats w k t.
      let r = told m w t in
      r.2 ∙ ap (view (m Clock)) (whole_is seats v w r.0 k r.1 (ap (λ (u : Knowledge). u.past.seen) r.2 ∙ seen (m Clock) r.0)))

  pub store_keeps : (may : Type 0) (p : SharedWord) (n : ℕ) (view : Knowledge) (tells : Knowledge → Type 0)
      → ((m : Memory) (h : List Entry) (seats : ℕ → Knowledge) → Asked m h seats (ShownLonger (put m p n) seats tells))
      → ((w : Knowledge) → tells w → w ≡ view) → view.past ≡ v.past → Keeps (stores may p n view)
  store_keeps may p n view tells law exact past = record {
    keeps = λ m h seats k is own begins small.
        let t = law m h seats k is own.range begins in
        let e = exact t.0 t.3.0 in
        subst (Kept (put m p n) h seats) e (
          subst (λ (l : List Entry). Facts starts allows c start (put m p n) l (parts_of (set_at seats v.number t.0)))
              (stays seats v t.0 is k t.2 (ap (λ (u : Knowledge). u.past) e ∙ past)) t.2,
          t.3.1,
        );
  }

  pub raise_keeps : (may : Type 0) (p : SharedWord) (n : ℕ) (view : ℕ → Knowledge) (tells : Memory → Knowledge → Type 0)
      → ((m : Memory) (h : List Entry) (seats : ℕ → Knowledge) → Asked m h seats (m p < 2 ^ 64 → Shown (put m p (max (m p) n)) h seats (tells m)))
      → ((m : Memory) (w : Knowledge) → tells m w → w ≡ view (m p)) → Keeps (raises may p n view)
  raise_keeps may p n view tells law exact = record {
    keeps = λ m h seats k is own begins small.
        let t = law m h seats k is own.range begins small in
        subst (Kept (put m p (max (m p) n)) h seats) (exact m t.0 t.2.0) (t.1, t.2.1);
  }

  pub swap_keeps : (may : Type 0) (p : SharedWord) (old new : ℕ) (won : List Entry → Knowledge) (lost : ℕ → List Entry → Knowledge) (made : Option Entry)
      (tells_won : Knowledge → Type 0) (tells_lost : Memory → Knowledge → Type 0)
      → ((m : Memory) (h : List Entry) (seats : ℕ → Knowledge) → Asked m h seats (m p ≡ old → ShownLonger (put m p new) seats tells_won))
      × ((m : Memory) (h : List Entry) (seats : ℕ → Knowledge) → Asked m h seats (m p ≢ old → m p < 2 ^ 64 → Shown m h seats (tells_lost m)))
      → ((m : Memory) (h longer : List Entry) (seats : ℕ → Knowledge) (w : Knowledge) → Facts starts allows c start m h (parts_of seats)
      → seats v.number ≡ v → m p ≡ old → Facts starts allows c start (put m p new) longer (parts_of (set_at seats v.number w)) → tells_won w
      → (w ≡ won h) × (longer ≡ history_after h made))
      → ((m : Memory) (h : List Entry) (seats : ℕ → Knowledge) (w : Knowledge) → m p ≢ old
      → Facts starts allows c start m h (parts_of (set_at seats v.number w)) → tells_lost m w → w ≡ lost (m p) h)
      → Keeps (swaps may p old new won lost made)
  swap_keeps may p old new won lost made tells_won tells_lost law exact_won exact_lost = record {
    keeps = λ m h seats k is own begins small.
        let Goal : Bool → Type 0 =
        λ b. Facts starts allows c start (memory_after m p (if b then Some new else None)) (history_after h (if b then made else None))
        (parts_of (set_at seats v.number (if b then won h else lost (m p) h)))
        × IsKept v (if b then won h else lost (m p) h) in
        dite (ℕ_discrete (m p) old)
        (λ hit.
        let t = law.0 m h seats k is own.range begins hit in
        let e = exact_won m h t.1 seats t.0 k is hit t.2 t.3.0 in
        subst Goal (sym (eq-eqb (m p) old hit))
        (subst (Kept (put m p new) (history_after h made) seats) e.0
        (subst (λ (l : List Entry). Facts starts allows c start (put m p new) l (parts_of (set_at seats v.number t.0))) e.1 t.2, t.3.1)))
        (λ miss.
        let t = law.1 m h seats k is own.range begins miss small in
        subst Goal (sym (ne_eqb (m p) old miss)) (subst (Kept m h seats) (exact_lost m h seats t.0 miss t.1 t.2.0) (t.1, t.2.1)));
  }

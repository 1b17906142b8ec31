-- What is known under rules that are those of a growing hash set, as under its own.
use Rattle.mv_history.specs.Drift.{AreAllowed, TaggedWrites}
use Rattle.grow_hash.proofs.Terms.{ℕ, List, [], ◌∷◌, State, Writes, written, IsFit, IsPlanned, InSection, Seat, IsSeat, IsSection, IsGrownOpening, IsGrowCommit}
use Rattle.section_work.specs.Works.{Meaning}

-- each commit that the set allows is allowed
drift_as : (allowed : List ℕ → State → Writes → Type 0) (levels : ℕ)
    → ((tag : List ℕ) (before : State) (ws : Writes) → allowed tag before ws → IsGrowCommit levels tag before ws)
    → (s : State) (cs : List TaggedWrites) → AreAllowed allowed s cs → AreAllowed (IsGrowCommit levels) s cs
drift_as allowed levels grows s [] h = h
drift_as allowed levels grows s (c ∷ cs) h = (h.0, grows c.0 s c.1 h.1, drift_as allowed levels grows (written s c.1) cs h.2)

module _ (starts : State → Type 0) (allowed : List ℕ → State → Writes → Type 0) (levels : ℕ)
    (begins : (s : State) → starts s → IsGrownOpening levels s)
    (allows : (tag : List ℕ) (before : State) (ws : Writes) → IsGrowCommit levels tag before ws → allowed tag before ws)
    (grows : (tag : List ℕ) (before : State) (ws : Writes) → allowed tag before ws → IsGrowCommit levels tag before ws) where
  pub seat_as : (s : Seat) → IsSeat starts allowed s → IsSeat (IsGrownOpening levels) (IsGrowCommit levels) s
  seat_as s h = record {
    start = begins s.start h.start;
    words = h.words;
    legal = h.legal;
    allowed = λ front back c e. grows _ _ _ (h.allowed front back c e);
    mine = h.mine;
    rests = h.rests;
    time = h.time;
    last = h.last;
  }

  pub section_as : (s : InSection) → IsSection starts allowed s → IsSection (IsGrownOpening levels) (IsGrowCommit levels) s
  section_as s h = record {
    seat = seat_as s.seat h.seat;
    at = h.at;
    distinct = h.distinct;
    within = h.within;
    words = h.words;
    held = h.held;
    unwritten = h.unwritten;
    in_order = h.in_order;
  }

  -- what is fit for the set is fit
  pub fit_as : (s : State) (tag : List ℕ) (ws : Writes) → IsFit (IsGrowCommit levels) s tag ws → IsFit allowed s tag ws
  fit_as s tag ws fit to d = allows tag to ws (fit to (record {
    commits = d.commits;
    are_allowed = drift_as allowed levels grows s d.commits d.are_allowed;
    avoid = d.avoid;
    leads = d.leads;
  }))

  -- and so is what is planned for it
  pub planned_by : {Reply : Type 0} (m : Meaning Reply) (s : State) (tag : List ℕ) (ws : Writes) (reply : Reply)
      → IsPlanned (IsGrowCommit levels) m s tag ws reply
      → IsPlanned allowed m s tag ws reply
  planned_by m s tag ws reply p = record {
    plan = p.plan;
    some = p.some;
    few = p.few;
    distinct = p.distinct;
    within = p.within;
    fit = fit_as s tag ws p.fit;
  }

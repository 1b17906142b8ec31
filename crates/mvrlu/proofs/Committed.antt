-- What trying to commit means.
use Rattle.std.proofs.Common.{◌≡◌, ℕ, ◌+◌, ◌-◌, ◌<◌, ◌≤◌, List, [], ◌∷◌, ◌++◌, length, refl, sym, ap, ◌∙◌, subst, arith}
use Rattle.std.specs.Prelude.{None, slice_get}
use Rattle.mv_history.specs.declared.Entry.TheVariants.{Change}
use Rattle.mv_history.specs.declared.Step.{Step}
use Rattle.mv_history.specs.declared.answers.Rival.{Rival}
use Rattle.mv_history.specs.State.{State, Writes}
use Rattle.mv_history.specs.Drift.{IsFit}
use Rattle.mv_history.specs.Meaning.{snapshot_of, IsWorn}
use Rattle.mv_history.specs.Calls.{call_trail, IsAsBefore, Overtakes, IsEntryAt}
use Rattle.mv_history.specs.Calls as calls
use Rattle.mv_history.proofs.Histories.{slice_get_at}
use Rattle.mv_layout.specs.declared.Config.{Config}
use Rattle.mv_layout.specs.Words.{clock_time_of}
use Rattle.object_lock.specs.mv_core.declared.view.Knowledge.{Knowledge}
use Rattle.object_lock.specs.mv_core.declared.view.Past.{Past}
use Rattle.object_lock.specs.mv_core.Known.{Known}
use Rattle.object_lock.specs.mv_core.NameSteps.{commit_of}
use Rattle.object_lock.specs.mv_core.Rings.{own_of, spare_count}
use Rattle.object_lock.specs.mv_core.Times.{IsEntry}
use Rattle.object_lock.specs.mv_core.Views.{time_in}
use Rattle.object_lock.specs.mv_core.WalkSteps.{IsWalking}
use Rattle.object_lock.proofs.mv_core_lemmas.history.Fronts.{begins_by}
use Rattle.object_lock.specs.seat_log.Notes.{Noted}
use Rattle.object_lock.specs.seat_log.Stands.{Stands}
use Rattle.object_lock.specs.version_chain.Walks.{inside_of, section_in, MayWalk}
use Rattle.object_lock.proofs.OwnNotes.{own_long}
use Rattle.commit_abort.specs.Commits.{MayCommit, LoadsClock, Commits, IsKept, IsOvertakenBy, IsAtEnd}
use Rattle.mvrlu.specs.Placed.{Placed, seat_from, section_from, IsIdle, IsBusy}
use Rattle.mvrlu.specs.Causes.{Loaded}
use Rattle.mvrlu.proofs.Trails.{made}
use Rattle.mvrlu.proofs.Continuing.{continues, placed_on, busy_on}

-- a section that holds something may commit it, where the drift condition holds
pub may_commit : (starts : State → Type 0) (allows : List ℕ → State → Writes → Type 0) (p : Placed) (tag : List ℕ) → IsBusy starts allows p
    → 0 < length (section_from p).own → IsFit allows (snapshot_of (section_from p)) tag (section_from p).own
    → MayCommit allows p.config p.view tag (section_in p.view)
may_commit starts allows p tag is some fit = record {
  phase = is.may.phase;
  open_is = is.may.open_is;
  past_help = is.may.helped;
  some_held = (let long = own_long p.config p.view p.log is.placed.stands in let held = is.placed.stands.held in omega arith);
  fit = fit;
}

-- the call's first step found the time of that word
loaded_by : (p q : Placed) (word most : ℕ) (steps : List Step) → LoadsClock p.config p.view q.view word most steps
    → Loaded (section_from p) (seat_from q) (clock_time_of word)
loaded_by p q word most steps k = record {
  word = word;
  first = ap (λ (all : List Step). slice_get all 0) (made p.view.trail q.view.trail steps k.trail) ∙ k.loaded;
  time_is = refl;
}

module _ (p q : Placed) (config : q.config ≡ p.config) (table : q.table ≡ p.table) (base : p.view.base ≡ p.config.base) where
  -- a commit that was made
  module _ (tag : List ℕ) (time : ℕ) (k : Commits p.config p.view q.view (section_in p.view) tag time) where
    seen_is : q.view.past.seen ≡ k.history ++ Change (commit_of p.config p.view (section_in p.view) tag) ∷ []
    seen_is = ap (λ (x : Past). x.seen) k.past

    same_base : q.view.base ≡ p.config.base
    same_base = ap (λ (u : Knowledge). u.base) k.rest ∙ base

    entry : IsEntryAt (seat_from q) time (Change (commit_of p.config p.view (section_in p.view) tag))
    entry =
        let all = k.whole.1 in
        let is = k.time_is in
        let same = same_base in
        record {
          later = omega arith;
          there = ap (λ (h : List _). slice_get h (time - (q.view.base + 1))) seen_is
              ∙ slice_get_at k.history (Change (commit_of p.config p.view (section_in p.view) tag)) (time - (q.view.base + 1)) (omega arith);
        }

    pub commits : calls.Commits (section_from p) tag (seat_from q) time
    commits = record {
      continues = continues p q config table k.steps (ap (λ (u : Knowledge). u.number) k.rest) (ap (λ (u : Knowledge). u.start) k.rest)
          (ap (λ (u : Knowledge). u.base) k.rest)
          (begins_by q.view.past.seen k.history p.view.past.seen (Change (commit_of p.config p.view (section_in p.view) tag) ∷ [], seen_is) k.whole.0)
          k.loads.trail;
      entry = entry;
      later = (let old = k.loads.old in let is = k.time_is in omega arith);
      mine = ap (λ (x : Past). x.mine) k.past;
      rests = ap (λ (x : Past). x.rests) k.past;
    }

    pub loads_before : Loaded (section_from p) (seat_from q) (time - 1)
    loads_before =
        subst (Loaded (section_from p) (seat_from q)) (let is = k.time_is in let before : clock_time_of k.word ≡ time - 1 = omega arith in before)
        (loaded_by p q k.word _ k.steps k.loads)

    pub done_idle : (starts : State → Type 0) (allows : List ℕ → State → Writes → Type 0) → IsBusy starts allows p
        → ∥ Known starts allows q.view ∥₁ → Stands q.config q.view q.log → q.log.built ≡ None → IsIdle starts allows q
    done_idle starts allows is known stands unbuilt = record {
      placed = placed_on starts allows p q config is.placed (ap (λ (u : Knowledge). u.number) k.rest)
          (ap (λ (u : Knowledge). u.base) k.rest) known stands unbuilt;
      outside = record { outside = k.outside; no_scan = ap (λ (u : Knowledge). u.scan) k.rest ∙ is.no_scan };
    }

  -- a section that was kept
  module _ (steps : List Step) (trail : q.view.trail ≡ p.view.trail ++ steps) (k : IsKept p.view q.view (section_in p.view)) where
    same_phase : q.view.phase ≡ p.view.phase
    same_phase = ap (λ (u : Knowledge). u.phase) k.rest

    pub kept_as_before : IsAsBefore (section_from p) (section_from q)
    kept_as_before = record {
      seat = record {
        continues = continues p q config table steps (ap (λ (u : Knowledge). u.number) k.rest) (ap (λ (u : Knowledge). u.start) k.rest)
            (ap (λ (u : Knowledge). u.base) k.rest) k.seen trail;
        mine = ap (λ (u : Knowledge). u.past.mine) k.rest;
        rests = ap (λ (u : Knowledge). u.past.rests) k.rest;
        spare = ap (λ (u : Knowledge). spare_count u.ring) k.rest;
      };
      at = (let phase = same_phase in (λ i. time_in (inside_of (phase i)) - (config i).base));
      own = ap (λ (d : Config). own_of d q.view.ring) config ∙ ap (λ (u : Knowledge). own_of p.config u.ring) k.rest;
    }

    kept_may : MayWalk p.view → MayWalk q.view
    kept_may may =
        let walking : IsWalking q.view (section_in p.view) = record {
          phase = same_phase ∙ may.phase;
          open_is = may.open_is;
          helped = k.past_help;
          no_back = ap (λ (u : Knowledge). u.back) k.rest ∙ may.no_back;
        } in
        subst (IsWalking q.view) (sym (ap inside_of same_phase)) walking

    pub kept_busy : (starts : State → Type 0) (allows : List ℕ → State → Writes → Type 0) → IsBusy starts allows p
        → ∥ Known starts allows q.view ∥₁ → Stands q.config q.view q.log → q.log ≡ p.log → IsBusy starts allows q
    kept_busy starts allows is known stands log =
        busy_on starts allows p q config is (ap (λ (u : Knowledge). u.number) k.rest) (ap (λ (u : Knowledge). u.base) k.rest)
        (ap (λ (u : Knowledge). u.scan) k.rest)
        known (kept_may is.may) stands (ap (λ (n : Noted). n.built) log ∙ is.placed.unbuilt)
        (subst (λ (d : Config). q.log.held ≤ d.write_max) (sym config) (subst (λ (n : Noted). n.held ≤ p.config.write_max) (sym log) is.few))

    same_base_kept : q.view.base ≡ p.config.base
    same_base_kept = ap (λ (u : Knowledge). u.base) k.rest ∙ base

  -- a commit that another seat's entry overtook
  module _ (rival : Rival) (o : IsOvertakenBy p.config p.view q.view (section_in p.view) rival) where
    pub overtakes : Overtakes (section_from p) (section_from q) rival.seat rival.time (Loaded (section_from p) (section_from q).seat)
    overtakes =
        let at : IsEntry q.view.base q.view.past.seen rival.time o.entry.0 =
        subst (λ (b : ℕ). IsEntry b q.view.past.seen rival.time o.entry.0) (sym (same_base_kept o.steps o.loads.trail o.kept)) o.entry.1
        in
        record {
          other = o.other;
          made = o.entry.0;
          entry = record { later = at.0; there = at.1 };
          maker = o.entry.2;
          clock = clock_time_of o.word;
          was_loaded = loaded_by p q o.word _ o.steps o.loads;
          seen = (let old = o.loads.old in let same = base in omega arith);
          later = o.later;
        }

  -- a commit for which no time was left
  module _ (e : IsAtEnd p.config p.view q.view (section_in p.view)) where
    pub worn : IsWorn (seat_from q)
    worn = ap (λ (b : ℕ). b + length q.view.past.seen) (same_base_kept e.steps e.loads.trail e.kept) ∙ e.all_seen

    pub loads_last : Loaded (section_from p) (seat_from q) 35184372088831
    loads_last = subst (Loaded (section_from p) (seat_from q)) e.last (loaded_by p q e.word _ e.steps e.loads)

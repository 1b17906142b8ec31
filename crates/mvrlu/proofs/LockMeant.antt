-- What a lock means.
use Rattle.std.proofs.Common.{◌≡◌, ℕ, ◌+◌, ◌-◌, ◌≤◌, false, List, [], ◌∷◌, ◌++◌, length, Option, refl, sym, ap, ◌∙◌}
use Rattle.std.specs.Prelude.{unwrap_or}
use Rattle.mv_history.specs.declared.Step.{Step}
use Rattle.mv_history.specs.declared.StepKind.{StepKind}
use Rattle.mv_history.specs.declared.StepKind.TheVariants.{LoadHead, LoadFirst, LoadStamp, LoadData, LoadMaster, StoreBuilt, LockHead}
use Rattle.mv_history.specs.Trail.{is_commit_exchange, commit_exchanges}
use Rattle.mv_history.specs.State.{touches}
use Rattle.mv_history.specs.Meaning.{InSection, Lacks, snapshot_of, state_of, words_at}
use Rattle.mv_history.specs.Calls.{Continues, GoesOn, LocksWith}
use Rattle.mv_history.proofs.Writing.{words-written_other}
use Rattle.mv_history.proofs.Snapshots.{snapshot_of-later}
use Rattle.mv_layout.specs.declared.Config.{Config}
use Rattle.object_lock.specs.mv_core.declared.view.Knowledge.{Knowledge}
use Rattle.object_lock.specs.mv_core.declared.view.Phase.{Phase}
use Rattle.object_lock.specs.mv_core.Views.{time_in}
use Rattle.object_lock.specs.mv_core.Rings.{own_of, spare_count}
use Rattle.object_lock.specs.version_chain.Walks.{inside_of, time_at}
use Rattle.object_lock.specs.version_chain.Reads.{words_in}
use Rattle.object_lock.specs.Tops.{Tries, IsLockStep}
use Rattle.mvrlu.specs.Placed.{Placed, seat_from, section_from}
use Rattle.mvrlu.proofs.Trails.{made, none_named}
use Rattle.mvrlu.proofs.Continuing.{continues}

no_name : (k : StepKind) → IsLockStep k → is_commit_exchange k ≡ false
no_name LoadHead h = refl
no_name LoadFirst h = refl
no_name LoadStamp h = refl
no_name LoadData h = refl
no_name LoadMaster h = refl
no_name StoreBuilt h = refl
no_name LockHead h = refl
no_name _ h = absurd h

-- the words that a section reads of an object below what it holds are those of its snapshot, later too
pub snapshot_words : (p q : Placed) (o : ℕ) → q.config ≡ p.config → q.view.phase ≡ p.view.phase → Continues (seat_from p) (seat_from q)
    → time_at p.view - p.config.base ≤ length p.view.past.seen → words_in p.config q.view o ≡ words_at (snapshot_of (section_from p)) o
snapshot_words p q o config phase on past =
    let same : time_at q.view - p.config.base ≡ time_at p.view - p.config.base = ap (λ (f : Phase). time_in (inside_of f) - p.config.base) phase in
    ap (λ (t : ℕ). words_at (snapshot_of (record { seat = seat_from q; at = t; own = [] })) o) same
    ∙ ap (λ s. words_at s o)
    (snapshot_of-later (section_from p) (record { seat = seat_from q; at = time_at p.view - p.config.base; own = [] }) on refl past)

-- and of an object that it doesn't hold those of its state
pub below_words : (s : InSection) (o : ℕ) → Lacks s o → words_at (snapshot_of s) o ≡ words_at (state_of s) o
below_words s o lacks = sym (words-written_other (snapshot_of s) s.own o lacks)

module _ (p q : Placed) (before after : ℕ) (tried : List Step) (config : q.config ≡ p.config) (table : q.table ≡ p.table)
    (t : Tries p.view q.view before after tried) where
  pub tried_continues : Continues (seat_from p) (seat_from q)
  tried_continues =
      continues p q config table t.trail.0 (ap (λ (u : Knowledge). u.number) t.rest) (ap (λ (u : Knowledge). u.start) t.rest)
      (ap (λ (u : Knowledge). u.base) t.rest)
      t.seen t.trail.1

  tried_at : time_at q.view - q.config.base ≡ time_at p.view - p.config.base
  tried_at =
      let phase : q.view.phase ≡ p.view.phase = ap (λ (u : Knowledge). u.phase) t.rest in
      (λ i. time_in (inside_of (phase i)) - (config i).base)

  pub tried_goes_on : GoesOn (section_from p) (section_from q)
  tried_goes_on = record {
    continues = tried_continues;
    mine = ap (λ (u : Knowledge). u.past.mine) t.rest;
    rests = ap (λ (u : Knowledge). u.past.rests) t.rest;
    at = tried_at;
    names_no_commit = ap commit_exchanges (made p.view.trail q.view.trail t.trail.0 t.trail.1) ∙ none_named IsLockStep no_name t.trail.0 t.trail.3;
  }

  pub tried_locks : (o : ℕ) (given : Option (List ℕ)) → p.view.base ≡ p.config.base → time_at p.view - p.config.base ≤ length p.view.past.seen
      → touches (own_of p.config p.view.ring) o ≡ false → own_of p.config q.view.ring ≡ own_of p.config p.view.ring ++
      (o, unwrap_or given (words_in p.config q.view o)) ∷ [] → spare_count q.view.ring + 1 ≡ spare_count p.view.ring
      → LocksWith (section_from p) (section_from q) o (unwrap_or given (words_at (state_of (section_from p)) o))
  tried_locks o given base past lacks own spare = record {
    continues = tried_continues;
    mine = ap (λ (u : Knowledge). u.past.mine) t.rest;
    rests = ap (λ (u : Knowledge). u.past.rests) t.rest;
    spare = spare;
    at = tried_at;
    own = ap (λ (d : Config). own_of d q.view.ring) config ∙ own
        ∙ ap (λ ws. own_of p.config p.view.ring ++ (o, unwrap_or given ws) ∷ []) (snapshot_words p q o config (ap (λ (u : Knowledge). u.phase) t.rest)
        tried_continues past ∙ below_words (section_from p) o lacks);
  }

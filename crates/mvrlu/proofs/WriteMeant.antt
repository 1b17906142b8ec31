-- What a write means.
use Rattle.std.proofs.Common.{◌≡◌, ℕ, ◌-◌, List, [], sym, ap, ◌∙◌, append-nil}
use Rattle.mv_history.specs.declared.StepKind.TheVariants.{StoreData}
use Rattle.mv_history.specs.Trail.{is_commit_exchange, commit_exchanges}
use Rattle.mv_history.specs.State.{rewritten}
use Rattle.mv_history.specs.Calls.{GoesOn, Rewrites}
use Rattle.mv_layout.specs.declared.Config.{Config}
use Rattle.object_lock.specs.mv_core.declared.view.Knowledge.{Knowledge}
use Rattle.object_lock.specs.mv_core.Rings.{own_of, spare_count}
use Rattle.object_lock.specs.mv_core.Views.{time_in}
use Rattle.object_lock.specs.version_chain.Walks.{inside_of}
use Rattle.object_lock.specs.Writes.{Stores}
use Rattle.mvrlu.specs.Placed.{Placed, section_from}
use Rattle.mvrlu.proofs.Trails.{made, none_named}
use Rattle.mvrlu.proofs.Continuing.{continues}

module _ (p q : Placed) (n : ℕ) (config : q.config ≡ p.config) (table : q.table ≡ p.table) (t : Stores p.view q.view n) where
  pub wrote_goes_on : GoesOn (section_from p) (section_from q)
  wrote_goes_on =
      let phase : q.view.phase ≡ p.view.phase = ap (λ (u : Knowledge). u.phase) t.rest in record {
        continues = continues p q config table t.trail.0 (ap (λ (u : Knowledge). u.number) t.rest) (ap (λ (u : Knowledge). u.start) t.rest)
            (ap (λ (u : Knowledge). u.base) t.rest) ([], ap (λ (u : Knowledge). u.past.seen) t.rest ∙ sym (append-nil p.view.past.seen)) t.trail.1;
        mine = ap (λ (u : Knowledge). u.past.mine) t.rest;
        rests = ap (λ (u : Knowledge). u.past.rests) t.rest;
        at = (λ i. time_in (inside_of (phase i)) - (config i).base);
        names_no_commit = ap commit_exchanges (made p.view.trail q.view.trail t.trail.0 t.trail.1)
            ∙ none_named (λ k. k ≡ StoreData) (λ k e. ap is_commit_exchange e) t.trail.0 t.trail.3;
      }

  -- the object has these words then, and no slot was used
  pub wrote : (object : ℕ) (words : List ℕ) → own_of p.config q.view.ring ≡ rewritten (own_of p.config p.view.ring) object words
      → spare_count q.view.ring ≡ spare_count p.view.ring → Rewrites (section_from p) (section_from q) object words
  wrote object words own spare =
      let on = wrote_goes_on in record {
        seat = record { continues = on.continues; mine = on.mine; rests = on.rests; spare = spare };
        at = on.at;
        own = ap (λ (d : Config). own_of d q.view.ring) config ∙ own;
      }

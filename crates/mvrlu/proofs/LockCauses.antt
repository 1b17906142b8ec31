-- What the answers of a lock tell of the section.
use Rattle.std.specs.Prelude.{slice_get, Some}
use Rattle.std.proofs.Common.{◌≡◌, ◌≢◌, ◌↔◌, ℕ, ◌+◌, ◌-◌, ◌<◌, true, List, refl, sym, ap, ◌∙◌, subst, arith}
use Rattle.mv_history.specs.declared.Entry.{Entry}
use Rattle.mv_history.specs.declared.Entry.TheVariants.{Change, Rest}
use Rattle.mv_history.specs.declared.Step.{Step}
use Rattle.mv_history.specs.declared.answers.LockAnswer.{LockAnswer}
use Rattle.mv_history.specs.declared.answers.LockAnswer.TheVariants.{Held, Busy, Stale, SetFull, LogFull}
use Rattle.mv_history.specs.Meaning.{Lacks}
use Rattle.mv_history.specs.Calls.{IsAsBefore, IsLogFull, IsStale}
use Rattle.mv_history.specs.Calls.{IsSetFull as IsFullSection}
use Rattle.mv_layout.specs.declared.Config.{Config}
use Rattle.object_lock.specs.mv_core.declared.view.Knowledge.{Knowledge}
use Rattle.object_lock.specs.mv_core.declared.view.Phase.{Phase}
use Rattle.object_lock.specs.mv_core.Passes.{home_of}
use Rattle.object_lock.specs.mv_core.Views.{time_in}
use Rattle.object_lock.specs.mv_core.Rings.{own_of, spare_count}
use Rattle.object_lock.specs.mv_core.Times.{IsEntry, writes_to}
use Rattle.object_lock.specs.version_chain.Walks.{inside_of, time_at}
use Rattle.object_lock.specs.Tops.{Tries}
use Rattle.object_lock.specs.Locks.{AnswersWith, KeepsOwn, IsSetFull}
use Rattle.mvrlu.specs.Placed.{Placed, section_from}
use Rattle.mvrlu.specs.Causes.{FoundLocked}
use Rattle.mvrlu.proofs.LockMeant.{tried_continues}

module _ (c : Config) (v w : Knowledge) (object : ℕ) (words : List ℕ) where
  -- a full set or a full log is answered, where the object isn't held
  set_full_by : (a : LockAnswer) → AnswersWith c v w object words a → IsSetFull c v → a ≡ SetFull
  set_full_by SetFull h full = refl
  set_full_by LogFull h full = absurd (h.0 full)
  set_full_by Held h full = absurd (h.0.0 full)
  set_full_by (Busy seat) h full = absurd (h.0.0 full)
  set_full_by (Stale time) h full = absurd (h.0.0 full)

  log_full_by : (a : LockAnswer) → AnswersWith c v w object words a → ¬ (IsSetFull c v) → spare_count v.ring ≡ 0 → a ≡ LogFull
  log_full_by LogFull h room none = refl
  log_full_by SetFull h room none = absurd (room h)
  log_full_by Held h room none = absurd (h.0.1 none)
  log_full_by (Busy seat) h room none = absurd (h.0.1 none)
  log_full_by (Stale time) h room none = absurd (h.0.1 none)

-- a write of the object that was seen is a later commit
stale_by : (p : Placed) (object time : ℕ) (e : Entry) → time_at p.view < time → p.view.base ≡ p.config.base → IsEntry p.config.base p.view.past.seen time e
    → writes_to object e ≡ true → IsStale (section_from p) object time
stale_by p object time (Change commit) after base is writes = record {
  later = (let since = is.0 in omega arith);
  commit = commit;
  entry = record {
    later = subst (λ (b : ℕ). b < time) (sym base) is.0;
    there = subst (λ (b : ℕ). slice_get p.view.past.seen (time - (b + 1)) ≡ Some (Change commit)) (sym base) is.1;
  };
  writes = writes;
}
stale_by p object time (Rest seat) after base is writes = absurd (cc)

module _ (p q : Placed) (before after : ℕ) (tried : List Step) (config : q.config ≡ p.config) (table : q.table ≡ p.table)
    (t : Tries p.view q.view before after tried) (object : ℕ) (a : LockAnswer)
    (words : List ℕ) (lacks : Lacks (section_from p) object) (answers : AnswersWith p.config p.view q.view object words a) where
  pub as_before : KeepsOwn p.config p.view q.view → IsAsBefore (section_from p) (section_from q)
  as_before keeps = record {
    seat = record {
      continues = tried_continues p q before after tried config table t;
      mine = ap (λ (u : Knowledge). u.past.mine) t.rest;
      rests = ap (λ (u : Knowledge). u.past.rests) t.rest;
      spare = keeps.1;
    };
    at = (let phase : q.view.phase ≡ p.view.phase = ap (λ (u : Knowledge). u.phase) t.rest in λ i. time_in (inside_of (phase i)) - (config i).base);
    own = ap (λ (d : Config). own_of d q.view.ring) config ∙ keeps.0;
  }

  pub set_full : (a ≡ SetFull) ↔ (Lacks (section_from p) object × IsFullSection (section_from p))
  set_full = (
    λ e. (lacks, subst (AnswersWith p.config p.view q.view object words) e answers),
    λ is. set_full_by p.config p.view q.view object words a answers is.1,
  )

  pub log_full : (a ≡ LogFull) ↔ (Lacks (section_from p) object × ¬ IsFullSection (section_from p) × IsLogFull (section_from p))
  log_full = (
    λ e.
        let l = subst (AnswersWith p.config p.view q.view object words) e answers in
        (lacks, l.0, l.1),
    λ is. log_full_by p.config p.view q.view object words a answers is.1 is.2,
  )

  -- another seat was found holding it
  pub found_locked : (seat : ℕ) → a ≡ Busy seat → (seat ≢ p.view.number) × FoundLocked (section_from p) (section_from q) object seat
  found_locked seat e =
      let is = subst (AnswersWith p.config p.view q.view object words) e answers in (
        is.1.0,
        record {
          config = p.config;
          table = p.table;
          home = (λ i. home_of (config i) (table i));
          found = is.1.1;
        },
      )

  -- a commit after the section's time writes it
  pub found_stale : (time : ℕ) → a ≡ Stale time → q.view.base ≡ q.config.base → IsStale (section_from q) object time
  found_stale time e base =
      let is = subst (AnswersWith p.config p.view q.view object words) e answers in
      let phase : q.view.phase ≡ p.view.phase = ap (λ (u : Knowledge). u.phase) t.rest in
      let here : time_at q.view ≡ time_at p.view = ap (λ (f : Phase). time_in (inside_of f)) phase in
      let w = is.1.1 in
      stale_by q object time w.0 (subst (λ (n : ℕ). n < time) (sym here) is.1.0) base
      (subst (λ (d : Config). IsEntry d.base q.view.past.seen time w.0) (sym config) w.1) w.2

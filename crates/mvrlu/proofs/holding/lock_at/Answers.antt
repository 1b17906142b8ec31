use Rattle.std.proofs.Common.{◌≡◌, ℕ, ◌≢◌, ◌↔◌, ◌<◌, ◌≤◌, false, sym, ap, ◌∙◌, subst, All}
use Rattle.mv_layout.specs.declared.Config.{Config}
use Rattle.std.specs.Prelude.{unwrap_or}
use Rattle.mv_history.specs.Meaning.{Lacks, state_of, words_at}
use Rattle.mv_history.specs.Calls.{GoesOn, LocksWith, IsAsBefore, IsSetFull, IsLogFull}
use Rattle.mv_history.specs.State.{touches, maker_of}
use Rattle.mv_history.specs.declared.answers.LockAnswer.{LockAnswer}
use Rattle.mv_history.specs.declared.answers.LockAnswer.TheVariants.{SetFull, LogFull}
use Rattle.object_lock.specs.mv_core.declared.view.Knowledge.{Knowledge}
use Rattle.object_lock.specs.mv_core.Passes.{view}
use Rattle.object_lock.specs.mv_core.Rings.{own_of}
use Rattle.object_lock.specs.seat_log.Stands.{Stands}
use Rattle.object_lock.specs.version_chain.Reads.{words_in}
use Rattle.object_lock.specs.Locks.{AnswersWith, KeepsOwn, most_to_lock}
use Rattle.object_lock.proofs.Locked.{held_some}
use Rattle.mvrlu.specs.Placed.{Placed, placed, section_from, seat_from}
use Rattle.mvrlu.proofs.Names.{fits_on, range_of}
use Rattle.mvrlu.proofs.Continuing.{busy_on}
use Rattle.mvrlu.proofs.Lawful.{section_lawful}
use Rattle.mvrlu.proofs.LockMeant.{tried_goes_on, tried_locks}
use Rattle.mvrlu.proofs.LockCauses.{as_before, set_full, log_full, found_locked, found_stale}
use Rattle.mvrlu.proofs.Behind.{lend_busy}
use Rattle.mvrlu.specs.Bounds.{MakesAtMost}
use Rattle.mvrlu.specs.Causes.{FoundLocked}
use Rattle.mvrlu.proofs.Trails.{few_made, counted}
use Rattle.mvrlu.proofs.holding.lock_at.Goals as goal

-- the object isn't held, by the words of the pass
free_in : (object : ℕ) (p x : Placed) → p ≡ x → Lacks (section_from x) object → touches (own_of p.config p.view.ring) object ≡ false
free_in object p x is lacks = ap (λ (y : Placed). touches (own_of y.config y.view.ring) object) is ∙ lacks

pub lock_new-requires : goal.lock_new-requires
lock_new-requires g c =
    let i = c.deref_mut.result.now in
    let l = lend_busy c.args.shared.now c.deref_mut.ensures.value c.busy.view_is c.requires.fits c.busy.invariant in
    record {
      of = l.of;
      may = l.is.may;
      range = range_of c.args.shared.now c.args.object c.requires.range;
      stands = l.stands;
      unbuilt = l.is.placed.unbuilt;
      few = subst (λ (d : Config). i.log.held ≤ d.write_max) (sym l.config) l.is.few;
      unheld = λ holds. held_some i.pass.domain (view i.pass) i.log c.args.object l.is.placed.stands holds
          (free_in c.args.object (placed i.pass i.log) _ l.view_is c.requires.lacks);
    }

pub invariant_of-busy : goal.invariant_of-busy
invariant_of-busy g c =
    let i = c.deref_mut.result.now in
    let l = lend_busy c.args.shared.now c.deref_mut.ensures.value c.busy.view_is c.requires.fits c.busy.invariant in
    let e = c.lock_new.ensures in
    let q = placed c.lock_new.new.pass c.lock_new.new.log in
    busy_on g.P.Protocol.start g.P.Protocol.allowed (placed i.pass i.log) q e.same.2 l.is (ap (λ (u : Knowledge). u.number) e.tries.1.rest) e.same.3
    (ap (λ (u : Knowledge). u.scan) e.tries.1.rest) c.lock_new.new.pass.known e.may
    (subst (λ (d : Config). Stands d q.view q.log) (l.config ∙ sym e.same.2) e.stands) e.unbuilt
    (subst (λ (d : Config). q.log.held ≤ d.write_max) (l.config ∙ sym e.same.2) e.few)

pub returns : goal.returns
returns g c =
    let i = c.deref_mut.result.now in
    let l = lend_busy c.args.shared.now c.deref_mut.ensures.value c.busy.view_is c.requires.fits c.busy.invariant in
    let e = c.lock_new.ensures in
    let object = c.args.object in
    let answer = c.lock_new.result in
    let p = placed i.pass i.log in
    let q = placed c.lock_new.new.pass c.lock_new.new.log in
    let busy = invariant_of-busy g c in
    let lacks = free_in object p _ l.view_is c.requires.lacks in
    let words = unwrap_or c.args.given (words_in i.pass.domain q.view object) in
    let answers = subst (λ (d : Config). AnswersWith d p.view q.view object (unwrap_or c.args.given (words_in d q.view object)) answer) l.config e.answers in
    record {
      fits = fits_on c.args.shared.now i.pass c.lock_new.new.pass i.log c.lock_new.new.log e.same l.fits;
      lawful = section_lawful g.P.Protocol.start g.P.Protocol.allowed g.P.Protocol.one_start g.P.Protocol.one_allowed q busy;
      goes_on = subst (λ (x : Placed). GoesOn (section_from x) (section_from q)) l.view_is (tried_goes_on p q _ _ _ e.same.2 e.same.0 e.tries.1);
      refused = λ other. subst (λ (x : Placed). IsAsBefore (section_from x) (section_from q)) l.view_is
          (as_before p q _ _ _ e.same.2 e.same.0 e.tries.1 object answer words lacks answers
          (subst (λ (d : Config). KeepsOwn d p.view q.view) l.config (e.refused other)));
      set_full = subst (λ (x : Placed). (answer ≡ SetFull) ↔ (Lacks (section_from x) object × IsSetFull (section_from x))) l.view_is
          (set_full p q _ _ _ e.same.2 e.same.0 e.tries.1 object answer words lacks answers);
      log_full = subst (λ (x : Placed). (answer ≡ LogFull)
          ↔ (Lacks (section_from x) object × ¬ IsSetFull (section_from x) × IsLogFull (section_from x))) l.view_is
          (log_full p q _ _ _ e.same.2 e.same.0 e.tries.1 object answer words lacks answers);
      taken = λ seat is. subst (λ (x : Placed). (seat ≢ (section_from x).seat.number) × FoundLocked (section_from x) (section_from q) object seat) l.view_is
          (found_locked p q _ _ _ e.same.2 e.same.0 e.tries.1 object answer words lacks answers seat is);
      stale = λ time is. found_stale p q _ _ _ e.same.2 e.same.0 e.tries.1 object answer words lacks answers time is busy.placed.base;
      range = subst (λ (x : Placed). x.view.number < x.config.seats) l.view_is l.is.placed.range;
      makers = subst (λ (x : Placed). All (λ m. maker_of m < x.config.seats) q.view.past.seen) l.view_is
          (subst (λ (d : Config). All (λ m. maker_of m < d.seats) q.view.past.seen) e.same.2 c.lock_new.new.pass.in_domain.2);
      held = λ held.
          let lawful = section_lawful g.P.Protocol.start g.P.Protocol.allowed g.P.Protocol.one_start g.P.Protocol.one_allowed p l.is in
          let makes = subst (λ (a : LockAnswer). AnswersWith i.pass.domain p.view q.view object words a) held answers in
          subst (λ (x : Placed). LocksWith (section_from x) (section_from q) object (unwrap_or c.args.given (words_at (state_of (section_from x)) object)))
          l.view_is (tried_locks p q _ _ _ e.same.2 e.same.0 e.tries.1 object c.args.given l.is.placed.base lawful.at lacks makes.1.0 makes.1.1);
      aborts = e.aborts ∙ ap (λ (x : Placed). x.log.aborts) l.view_is;
      bound = subst (λ (x : Placed). MakesAtMost (seat_from x) (seat_from q) (most_to_lock c.args.given)) l.view_is
          (few_made p.view.trail q.view.trail e.tries.1.trail.0 (most_to_lock c.args.given) e.tries.1.trail.1
          (counted _ _ _ (most_to_lock c.args.given) e.tries.1.trail.2 e.bound));
    }

use Rattle.std.proofs.Common.{rules, ◌≡◌, ℕ, ◌≤◌, length, sym, ap, ◌∙◌, subst}
use Rattle.mv_history.specs.Calls.{Leaves}
use Rattle.mv_layout.specs.declared.Config.{Config}
use Rattle.object_lock.specs.mv_core.Rings.{own_of}
use Rattle.object_lock.specs.seat_log.Notes.{Noted}
use Rattle.object_lock.specs.seat_log.Stands.{Stands}
use Rattle.object_lock.proofs.OwnNotes.{own_long}
use Rattle.commit_abort.specs.Aborts.{abort_cost}
use Rattle.mvrlu.specs.Placed.{Placed, placed, seat_from, section_from}
use Rattle.mvrlu.specs.Bounds.{MakesAtMost}
use Rattle.mvrlu.specs.Meant.{aborts_with}
use Rattle.mvrlu.proofs.Trails.{few_made}
use Rattle.mvrlu.proofs.Names.{fits_on}
use Rattle.mvrlu.proofs.Lawful.{seat_lawful}
use Rattle.mvrlu.proofs.Leaving.{left_leaves, left_idle, counted}
use Rattle.mvrlu.proofs.Behind.{lend_busy}
use Rattle.mvrlu.proofs.ending.abort_at.Goals as goal

pub abort-requires : goal.abort-requires
abort-requires g c κs within =
    let l = lend_busy c.args.shared.now c.deref_mut.ensures.value c.busy.view_is c.requires.fits c.busy.invariant in (
      search rules,
      (search rules, (l.of, (record { phase = l.is.may.phase; open_is = l.is.may.open_is }, (l.stands, l.is.placed.unbuilt)))),
    )

pub invariant_of-result : goal.invariant_of-result
invariant_of-result g c =
    let l = lend_busy c.args.shared.now c.deref_mut.ensures.value c.busy.view_is c.requires.fits c.busy.invariant in
    let e = c.abort.ensures in
    let p = placed c.deref_mut.result.now.pass c.deref_mut.result.now.log in
    let q = placed c.abort.new.pass c.abort.new.log in
    left_idle p q _ e.same.2 e.same.0 e.aborts g.P.Protocol.start g.P.Protocol.allowed l.is c.abort.new.pass.known
    (subst (λ (d : Config). Stands d q.view q.log) (l.config ∙ sym e.same.2) e.stands) (ap (λ (n : Noted). n.built) e.log.1 ∙ l.is.placed.unbuilt)

pub returns : goal.returns
returns g c =
    let i = c.deref_mut.result.now in
    let l = lend_busy c.args.shared.now c.deref_mut.ensures.value c.busy.view_is c.requires.fits c.busy.invariant in
    let e = c.abort.ensures in
    let p = placed i.pass i.log in
    let q = placed c.abort.new.pass c.abort.new.log in
    let long = own_long p.config p.view p.log l.is.placed.stands in
    let few = subst (λ (n : ℕ). length e.aborts.trail.0 ≤ abort_cost n) (sym long) e.aborts.trail.2 in
    let made : q.log.aborts ≡ aborts_with (own_of p.config p.view.ring) p.log.aborts =
    ap (λ (n : Noted). n.aborts) e.log.1 ∙ counted (own_of p.config p.view.ring) p.log.held p.log.aborts long in
    record {
      fits = fits_on c.args.shared.now i.pass c.abort.new.pass i.log c.abort.new.log e.same l.fits;
      lawful = seat_lawful g.P.Protocol.start g.P.Protocol.allowed g.P.Protocol.one_start g.P.Protocol.one_allowed q (invariant_of-result g c).placed;
      leaves = subst (λ (x : Placed). Leaves (section_from x) (seat_from q)) l.view_is (left_leaves p q _ e.same.2 e.same.0 e.aborts);
      aborts = subst (λ (x : Placed). q.log.aborts ≡ aborts_with (section_from x).own x.log.aborts) l.view_is made;
      bound = subst (λ (x : Placed). MakesAtMost (seat_from x) (seat_from q) (abort_cost (length (section_from x).own))) l.view_is
          (few_made p.view.trail q.view.trail e.aborts.trail.0 _ e.aborts.trail.1 few);
    }

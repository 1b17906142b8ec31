use Rattle.std.proofs.Common.{◌≡◌, ◌≤◌, true, arith, sym, ap, ◌∙◌, subst}
use Rattle.mv_history.specs.State.{touches, rewritten}
use Rattle.mv_history.specs.Meaning.{Holds}
use Rattle.mv_history.specs.Calls.{GoesOn, Rewrites}
use Rattle.mv_layout.specs.declared.Config.{Config}
use Rattle.object_lock.specs.mv_core.declared.view.Knowledge.{Knowledge}
use Rattle.object_lock.specs.mv_core.Passes.{view}
use Rattle.object_lock.specs.seat_log.Stands.{Stands}
use Rattle.object_lock.specs.mv_core.Rings.{own_of}
use Rattle.mvrlu.specs.Bounds.{MakesAtMost}
use Rattle.mvrlu.specs.Placed.{Placed, placed, section_from, seat_from}
use Rattle.mvrlu.proofs.Names.{fits_on}
use Rattle.mvrlu.proofs.Continuing.{busy_on}
use Rattle.mvrlu.proofs.Lawful.{section_lawful}
use Rattle.mvrlu.proofs.Trails.{few_made}
use Rattle.mvrlu.proofs.WriteMeant.{wrote_goes_on, wrote}
use Rattle.mvrlu.proofs.Behind.{lend_busy}
use Rattle.mvrlu.proofs.holding.write_at.Goals as goal

pub write-requires : goal.write-requires
write-requires g c =
    let l = lend_busy c.args.shared.now c.deref_mut.ensures.value c.busy.view_is c.requires.fits c.busy.invariant in
    record {
      of = l.of;
      may = l.is.may;
      stands = l.stands;
      unbuilt = l.is.placed.unbuilt;
      held = subst (λ (d : Config). touches (own_of d (view c.deref_mut.result.now.pass).ring) c.args.object ≡ true) (sym l.config)
          (subst (λ (x : Placed). Holds (section_from x) c.args.object) (sym l.view_is) c.requires.held);
    }

pub invariant_of-busy : goal.invariant_of-busy
invariant_of-busy g c =
    let i = c.deref_mut.result.now in
    let l = lend_busy c.args.shared.now c.deref_mut.ensures.value c.busy.view_is c.requires.fits c.busy.invariant in
    let e = c.write.ensures in
    let q = placed c.write.new.pass c.write.new.log in
    busy_on g.P.Protocol.start g.P.Protocol.allowed (placed i.pass i.log) q e.same.2 l.is (ap (λ (u : Knowledge). u.number) e.stores.rest) e.same.3
    (ap (λ (u : Knowledge). u.scan) e.stores.rest) c.write.new.pass.known e.may
    (subst (λ (d : Config). Stands d q.view q.log) (l.config ∙ sym e.same.2) e.stands) e.unbuilt
    (subst (λ (d : Config). q.log.held ≤ d.write_max) (sym e.same.2) (subst (λ n. n ≤ i.pass.domain.write_max) (sym e.count) l.is.few))

pub returns : goal.returns
returns g c =
    let i = c.deref_mut.result.now in
    let l = lend_busy c.args.shared.now c.deref_mut.ensures.value c.busy.view_is c.requires.fits c.busy.invariant in
    let e = c.write.ensures in
    let p = placed i.pass i.log in
    let q = placed c.write.new.pass c.write.new.log in
    record {
      fits = fits_on c.args.shared.now i.pass c.write.new.pass i.log c.write.new.log e.same l.fits;
      lawful = section_lawful g.P.Protocol.start g.P.Protocol.allowed g.P.Protocol.one_start g.P.Protocol.one_allowed q (invariant_of-busy g c);
      goes_on = subst (λ (x : Placed). GoesOn (section_from x) (section_from q)) l.view_is (wrote_goes_on p q 6 e.same.2 e.same.0 e.stores);
      rewrites = subst (λ (x : Placed). Rewrites (section_from x) (section_from q) c.args.object c.args.words) l.view_is
          (wrote p q 6 e.same.2 e.same.0 e.stores c.args.object c.args.words
          (subst (λ (d : Config). own_of d q.view.ring ≡ rewritten (own_of d p.view.ring) c.args.object c.args.words) l.config e.own) e.spare);
      aborts = e.aborts ∙ ap (λ (x : Placed). x.log.aborts) l.view_is;
      bound = subst (λ (x : Placed). MakesAtMost (seat_from x) (seat_from q) 6) l.view_is
          (few_made p.view.trail q.view.trail e.stores.trail.0 6 e.stores.trail.1 (omega (arith, e.stores.trail.2)));
    }

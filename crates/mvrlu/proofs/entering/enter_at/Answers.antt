use Rattle.std.proofs.Common.{refl, ap, subst}
use Rattle.mv_history.specs.Calls.{Enters}
use Rattle.mv_layout.specs.declared.Config.{Config}
use Rattle.object_lock.specs.reader_marks.Sections.{Begins}
use Rattle.mvrlu.specs.Placed.{Placed, placed, seat_from, section_from}
use Rattle.mvrlu.specs.Bounds.{MakesAtMost}
use Rattle.mvrlu.specs.Causes.{Took}
use Rattle.mvrlu.proofs.Names.{fits_on}
use Rattle.mvrlu.proofs.Lawful.{section_lawful}
use Rattle.mvrlu.proofs.Trails.{few_made}
use Rattle.mvrlu.proofs.Begun.{enters, took, busy}
use Rattle.mvrlu.proofs.Behind.{lend_idle}
use Rattle.mvrlu.proofs.entering.enter_at.Goals as goal

pub invariant_of-result : goal.invariant_of-result
invariant_of-result g c =
    let i = c.deref_mut.result.now in
    let l = lend_idle c.args.shared.now c.deref_mut.ensures.value c.idle.view_is c.requires.fits c.idle.invariant in
    let e = c.enter.ensures in
    let p = placed i.pass i.log in
    let q = placed c.enter.new.pass i.log in
    let begins = subst (λ (d : Config). Begins d p.view q.view c.enter.result) l.config e.begins in
    busy p q c.enter.result begins e.same.2 e.same.0 g.P.Protocol.start g.P.Protocol.allowed l.is refl c.enter.new.pass.known

pub returns : goal.returns
returns g c =
    let i = c.deref_mut.result.now in
    let l = lend_idle c.args.shared.now c.deref_mut.ensures.value c.idle.view_is c.requires.fits c.idle.invariant in
    let e = c.enter.ensures in
    let p = placed i.pass i.log in
    let q = placed c.enter.new.pass i.log in
    let begins = subst (λ (d : Config). Begins d p.view q.view c.enter.result) l.config e.begins in
    let by = e.begins.entered in
    record {
      fits = fits_on c.args.shared.now i.pass c.enter.new.pass i.log i.log e.same l.fits;
      lawful = section_lawful g.P.Protocol.start g.P.Protocol.allowed g.P.Protocol.one_start g.P.Protocol.one_allowed q (invariant_of-result g c);
      enters = subst (λ (x : Placed). Enters (seat_from x) (section_from q)) l.view_is (enters p q c.enter.result begins e.same.2 e.same.0);
      took = subst (λ (x : Placed). Took (seat_from x) (section_from q)) l.view_is (took p q c.enter.result begins e.same.2 e.same.0 l.is.placed.base);
      aborts = ap (λ (x : Placed). x.log.aborts) l.view_is;
      bound = subst (λ (x : Placed). MakesAtMost (seat_from x) (seat_from q) 6) l.view_is
          (few_made p.view.trail q.view.trail by.steps 6 by.trail by.few);
    }

pub enter-requires : goal.enter-requires
enter-requires g c =
    let l = lend_idle c.args.shared.now c.deref_mut.ensures.value c.idle.view_is c.requires.fits c.idle.invariant in
    record { of = l.of; may = l.is.outside }

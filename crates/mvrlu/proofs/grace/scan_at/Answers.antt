use Rattle.std.proofs.Common.{sym, ap, ◌∙◌, refl, subst}
use Rattle.mvrlu.specs.Placed.{Placed, placed}
use Rattle.mvrlu.specs.Grace.{TellsGrace}
use Rattle.mvrlu.proofs.Names.{fits_on}
use Rattle.mvrlu.proofs.Lawful.{seat_lawful}
use Rattle.mvrlu.proofs.Behind.{lend_idle}
use Rattle.mvrlu.proofs.GraceTold.{scans_by, few_by, told_idle, told}
use Rattle.mvrlu.proofs.grace.scan_at.Goals as goal

pub invariant_of-idle : goal.invariant_of-idle
invariant_of-idle g c =
    let i = c.deref_mut.result.now in
    let l = lend_idle c.args.shared.now c.deref_mut.ensures.value c.idle.view_is c.requires.fits c.idle.invariant in
    let e = c.scan.ensures in
    let p = placed i.pass i.log in
    let q = placed c.scan.new.pass i.log in
    let scans = scans_by _ _ (l.config ∙ sym e.same.2) p.view q.view c.scan.result e.scans.0 _ _ e.scans.1 in
    told_idle g.P.Protocol.start g.P.Protocol.allowed p q e.same.2 e.same.0 l.is c.scan.new.pass.known refl c.scan.result e.scans.0 _ _ scans

pub returns : goal.returns
returns g c =
    let i = c.deref_mut.result.now in
    let l = lend_idle c.args.shared.now c.deref_mut.ensures.value c.idle.view_is c.requires.fits c.idle.invariant in
    let e = c.scan.ensures in
    let p = placed i.pass i.log in
    let q = placed c.scan.new.pass i.log in
    let scans = scans_by _ _ (l.config ∙ sym e.same.2) p.view q.view c.scan.result e.scans.0 _ _ e.scans.1 in
    record {
      fits = fits_on c.args.shared.now i.pass c.scan.new.pass i.log i.log e.same l.fits;
      lawful = seat_lawful g.P.Protocol.start g.P.Protocol.allowed g.P.Protocol.one_start g.P.Protocol.one_allowed q (invariant_of-idle g c).placed;
      aborts = ap (λ (x : Placed). x.log.aborts) l.view_is;
      grace = subst (λ (x : Placed). TellsGrace g.P.Protocol.start g.P.Protocol.allowed x q c.scan.result.time) l.view_is
          (told g.P.Protocol.start g.P.Protocol.allowed p q e.same.2 e.same.0 l.is c.scan.new.pass.known refl c.scan.result e.scans.0 _ _ scans
          c.scan.result.time refl e.known (few_by _ _ (l.config ∙ sym e.same.2) _ _ e.cost));
    }

pub scan-requires : goal.scan-requires
scan-requires g c =
    let l = lend_idle c.args.shared.now c.deref_mut.ensures.value c.idle.view_is c.requires.fits c.idle.invariant in
    record { of = l.of; may = record { outside = l.is.outside.outside; no_scan = l.is.outside.no_scan } }

use Rattle.std.proofs.Common.{sym, ap, ◌∙◌, subst}
use Rattle.mv_layout.specs.declared.Config.{Config}
use Rattle.object_lock.specs.mv_core.Passes.{config_of}
use Rattle.mvrlu.specs.Placed.{Placed, placed, seat_from, IsIdle}
use Rattle.mvrlu.specs.Holding.{Tidies, TidiesAlone}
use Rattle.mvrlu.proofs.Behind.{Lent, lend_idle}
use Rattle.mvrlu.proofs.rooms.Left.{HasReclaimed, has_reclaimed}
use Rattle.mvrlu.proofs.rooms.Tidied.{has_tidied, tidies, tidies_alone}
use Rattle.mvrlu.proofs.reclaiming.tidy_at.Goals as goal

-- the loan of the seat's pass and log
lent : (g : _) (c : goal.After-steps-1 g)
    → Lent c.args.shared.now (IsIdle g.P.Protocol.start g.P.Protocol.allowed) c.args.idle.now c.deref_mut.result.now
lent g c = lend_idle c.args.shared.now c.deref_mut.ensures.value c.idle.view_is c.requires.fits c.idle.invariant

-- what the tidy leaves of it
left : (g : _) (c : goal.After-drop-steps-inside-2 g) → HasReclaimed c.args.shared.now c.args.idle.now c.tidy.new.pass c.tidy.new.log
left g c =
    let e = c.tidy.ensures in
    let l = lend_idle c.args.shared.now c.deref_mut.ensures.value c.idle.view_is c.requires.fits c.idle.invariant in
    has_reclaimed l c.tidy.new.pass c.tidy.new.log e.same c.tidy.result.freed e.shrinks e.stands e.reclaims.0 e.reclaims.1

pub invariant_of-idle : goal.invariant_of-idle
invariant_of-idle g c = (left g c).idle

pub returns : goal.returns
returns g c =
    let e = c.tidy.ensures in
    let l = lend_idle c.args.shared.now c.deref_mut.ensures.value c.idle.view_is c.requires.fits c.idle.invariant in
    let p = placed c.deref_mut.result.now.pass c.deref_mut.result.now.log in
    let q = placed c.tidy.new.pass c.tidy.new.log in
    let k = has_tidied (config_of c.args.shared.now) q.config (l.config ∙ sym e.same.2) p.view q.view p.log q.log c.tidy.result e.stands e.live
    e.shrinks e.rests e.reclaims e.trail e.fresh e.alone in
    record {
      fits = (left g c).fits;
      lawful = (left g c).lawful;
      aborts = (left g c).aborts;
      places = (subst (IsIdle g.P.Protocol.start g.P.Protocol.allowed) l.view_is l.is, (left g c).idle);
      tidies = subst (λ (x : Placed). Tidies x q c.tidy.result) l.view_is
          (tidies g.P.Protocol.start g.P.Protocol.allowed p q c.tidy.result e.same.2 e.same.0 l.is c.tidy.new.pass.known k);
      alone = λ one. subst (λ (x : Placed). TidiesAlone (seat_from x) c.tidy.result) l.view_is
          (tidies_alone g.P.Protocol.start g.P.Protocol.allowed p q c.tidy.result e.same.2 e.same.0 l.is c.tidy.new.pass.known k
          (ap (λ (d : Config). d.seats) e.same.2 ∙ ap (λ (x : Placed). x.config.seats) l.view_is ∙ one));
    }

pub tidy-requires : goal.tidy-requires
tidy-requires g c = record { of = (lent g c).of; may = (lent g c).is.outside; stands = (lent g c).stands }

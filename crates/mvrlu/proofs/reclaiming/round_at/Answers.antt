use Rattle.std.proofs.Common.{sym, ◌∙◌, subst}
use Rattle.object_lock.specs.mv_core.Passes.{config_of}
use Rattle.mvrlu.specs.Placed.{Placed, placed, IsIdle}
use Rattle.mvrlu.specs.Holding.{Rounds}
use Rattle.mvrlu.proofs.Behind.{Lent, lend_idle}
use Rattle.mvrlu.proofs.rooms.Left.{HasReclaimed, has_reclaimed}
use Rattle.mvrlu.proofs.rooms.Rounded.{has_rounded, rounds}
use Rattle.mvrlu.proofs.reclaiming.round_at.Goals as goal

-- the loan of the seat's pass and log
lent : (g : _) (c : goal.After-steps-1 g)
    → Lent c.args.shared.now (IsIdle g.P.Protocol.start g.P.Protocol.allowed) c.args.idle.now c.deref_mut.result.now
lent g c = lend_idle c.args.shared.now c.deref_mut.ensures.value c.idle.view_is c.requires.fits c.idle.invariant

-- what the round leaves of it
left : (g : _) (c : goal.After-drop-steps-inside-2 g) → HasReclaimed c.args.shared.now c.args.idle.now c.round.new.pass c.round.new.log
left g c =
    let e = c.round.ensures in
    let l = lend_idle c.args.shared.now c.deref_mut.ensures.value c.idle.view_is c.requires.fits c.idle.invariant in
    has_reclaimed l c.round.new.pass c.round.new.log e.same c.round.result.freed e.shrinks e.stands e.reclaims.0 e.reclaims.1

pub invariant_of-idle : goal.invariant_of-idle
invariant_of-idle g c = (left g c).idle

pub returns : goal.returns
returns g c =
    let e = c.round.ensures in
    let l = lend_idle c.args.shared.now c.deref_mut.ensures.value c.idle.view_is c.requires.fits c.idle.invariant in
    let p = placed c.deref_mut.result.now.pass c.deref_mut.result.now.log in
    let q = placed c.round.new.pass c.round.new.log in
    let k = has_rounded (config_of c.args.shared.now) q.config (l.config ∙ sym e.same.2) p.view q.view p.log q.log c.round.result e.stands e.live
    e.shrinks e.rests e.reclaims e.trail in
    record {
      fits = (left g c).fits;
      lawful = (left g c).lawful;
      aborts = (left g c).aborts;
      rounds = subst (λ (x : Placed). Rounds x q c.round.result) l.view_is
          (rounds g.P.Protocol.start g.P.Protocol.allowed p q c.round.result e.same.2 e.same.0 l.is c.round.new.pass.known k);
    }

pub round-requires : goal.round-requires
round-requires g c = record { of = (lent g c).of; may = (lent g c).is.outside; stands = (lent g c).stands }

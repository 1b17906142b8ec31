use Rattle.std.proofs.Common.{sym, subst}
use Rattle.mv_layout.specs.Limits.{Checked}
use Rattle.mvrlu.specs.Placed.{placed}
use Rattle.mvrlu.proofs.Lawful.{seat_lawful}
use Rattle.mvrlu.proofs.Started.{placed_new, placed_idle}
use Rattle.mvrlu.proofs.opening.make_seat.Goals as goal

pub invariant_of-idle : goal.invariant_of-idle
invariant_of-idle g c =
    let s = c.args.shared.now in
    let r = c.args.ready.place.value in
    let is = c.requires.ready in
    placed_idle s r.pass r.log r.pass.number is.0 is.1 g.P.Protocol.start g.P.Protocol.allowed r.pass.known (subst Checked (sym s.about) s.checked)

pub invariant_of-result : goal.invariant_of-result
invariant_of-result g c =
    let r = c.args.ready.place.value in
    record {
      lawful = seat_lawful g.P.Protocol.start g.P.Protocol.allowed g.P.Protocol.one_start g.P.Protocol.one_allowed
          (placed r.pass r.log) (invariant_of-idle g c).placed;
    }

pub returns : goal.returns
returns g c =
    let r = c.args.ready.place.value in
    let is = c.requires.ready in
    record { new = (placed_new c.args.shared.now r.pass r.log r.pass.number is.0 is.1, is.1) }

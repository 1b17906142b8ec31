use Rattle.std.proofs.Common.{ap, map}
use Rattle.mvrlu.specs.Meant.{seat_of}
use Rattle.domain_loan.proofs.Opened.{opened_new, refused_all}
use Rattle.domain_run.proofs.Ready.{opened_ready}
use Rattle.domain_run.proofs.running.run.Goals as goal

pub run_on-requires-clause-new : goal.run_on-requires-clause-new
run_on-requires-clause-new g c κs within =
    opened_new c.in-Ok.opened.0 c.args.config c.args.start.now c.in-Ok.opened.1.items c.in-Ok.ensures.opened.1

pub run_on-requires-clause-ready : goal.run_on-requires-clause-ready
run_on-requires-clause-ready g c κs within =
    opened_ready c.in-Ok.opened.0 c.args.config c.args.start.now c.in-Ok.opened.1.items c.in-Ok.ensures.opened.1 g.T.Task.ready c.args.tasks.items
    c.requires.ready

pub meet-requires : goal.meet-requires
meet-requires g c =
    let back = c.in-Err-run_on.ensures.refused in
    record {
      all = refused_all c.in-Ok.opened.0 c.args.config c.args.start.now c.in-Ok.opened.1.items c.in-Ok.ensures.opened.1 c.in-Err-run_on.domain
          c.in-Err-run_on.seats.items back.0 (ap (λ v. map (λ s. seat_of s) v.items) back.1);
    }

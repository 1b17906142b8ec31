use Rattle.std.proofs.Common.{map}
use Rattle.mvrlu.specs.Causes.{Took}
use Rattle.mvrlu.specs.Meant.{numbers_of, name_of, opening_of, seat_of, whole_of}
use Rattle.domain_run.proofs.Told.{is_run}
use Rattle.domain_run.proofs.running.run_on.Goals as goal

pub returns-in-Ok-clause-ran : goal.returns-in-Ok-clause-ran
returns-in-Ok-clause-ran g c =
    let d = c.args.domain in
    let firsts = map (λ s. seat_of s) c.args.seats.items in
    let met = map (λ s. seat_of s) c.in-Ok.seats.items in (
      met,
      is_run (g.T.Task.did Took) g.P.Protocol.allowed (name_of d) (numbers_of d) (opening_of d) firsts met c.args.tasks.items c.in-Ok.tasks.items
          (whole_of c.meet_all.result) c.requires.new (c.meet_all.ensures.met firsts c.requires.new c.in-Ok.ensures.gone_on) c.in-Ok.ensures.did,
    )

use Rattle.std.proofs.Common.{refl, arith}
use Rattle.mv_client.proofs.Filled.{filled_refused}
use Rattle.mv_client.proofs.Rewriting.{filled_next, next_few}
use Rattle.counter.proofs.fn.CounterTaskCounting.run.update_times.Goals as goal

pub overflow_add-count : goal.overflow_add-count
overflow_add-count g c =
    let lawful = g.met.S.Open.Section.lawful c.args.section.now in
    omega (arith, lawful.seat.start.1, next_few 0 (λ w. refl) lawful c.requires.space.own (g.met.S.Open.Section.reads _) c.read.ensures.words)

pub returns-in_err-put : goal.returns-in_err-put
returns-in_err-put g c =
    let r = filled_refused _ (g.met.S.Open.Section.goes_on _ _ c.read.ensures.as_before) c.put.ensures.goes_on c.from_residual.ensures.1 in
    record { filled = r.0; commits = r.1 }

pub returns : goal.returns
returns g c = record {
  filled = filled_next (g.met.S.Open.Section.lawful _) c.requires.space.own (g.met.S.Open.Section.reads c.args.section.now) c.read.ensures.words
      c.requires.object (g.met.S.Open.Section.others_stay _ _ c.read.ensures.as_before) (g.met.S.Open.Section.goes_on _ _ c.read.ensures.as_before)
      c.put.ensures.goes_on c.in_ok-put.ensures.own;
  commits = tt;
}

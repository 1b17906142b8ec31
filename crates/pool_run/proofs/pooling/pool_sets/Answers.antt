use Rattle.std.proofs.Common.{refl}
use Rattle.std.proofs.lemmas.List.Sorted.{IsPermutation-refl}
use Rattle.pool_domain.specs.Whole.{PoolOf}
use Rattle.run_kinds.specs.Kinds.{config_of}
use Rattle.run_kinds.proofs.Along.{left_along}
use Rattle.run_kinds.proofs.Opened.{back_meets}
use Rattle.run_kinds.proofs.domain_loan_lemmas.Opened.{opened_new}
use Rattle.set_model.proofs.Times.{lawful_after}
use Rattle.set_model.specs.Rules.{IsSetCommit}
use Rattle.pool_run.specs.PoolRuns.{pool_chain_of}
use Rattle.pool_run.proofs.pooling.pool_sets.Goals as goal

pub run_pool_domain-requires-clause-new : goal.run_pool_domain-requires-clause-new
run_pool_domain-requires-clause-new g c κs within = opened_new c.in_ok-domain.domain _ _ c.in_ok-domain.seats.items c.in_ok-domain.ensures

pub ran_or_met-requires : goal.ran_or_met-requires
ran_or_met-requires g c = record {
  all = back_meets c.in_ok-domain.domain c.in_ok-domain.seats.items _ _ c.in_ok-domain.ensures c.run_pool_domain.result (λ e. e.0) (λ e. e.1.items)
      c.run_pool_domain.ensures.err;
}

pub read_all-requires : goal.read_all-requires
read_all-requires g c =
    let pool = rw c.in_ok-closing.ensures at c.run_pool_domain.ensures.ran in
    record { lawful = lawful_after c.in_ok-closing.closing.last.start c.in_ok-closing.closing.last.history pool.opening pool.allowed }

pub returns : goal.returns
returns g c =
    let pool = rw (c.in_ok-closing.ensures, c.in_ok-domain.ensures.many) at c.run_pool_domain.ensures.ran in
    let linked = rw c.in_ok-closing.ensures at c.run_pool_domain.ensures.linked in
    let commands = c.args.commands.now in
    let lines = c.in_ok-closing.lines.items in
    left_along c.in_ok-domain.domain c.in_ok-domain.seats.items _ (config_of c.args.options 16 c.args.seats) c.in_ok-domain.ensures refl IsSetCommit
    (pool_chain_of commands) (λ past. PoolOf past c.args.seats commands) lines lines c.in_ok-end.end c.in_ok-closing.closing.last c.read_all.new.view
    (IsPermutation-refl lines) c.read_all.ensures.as_before linked (rw c.in_ok-end.ensures.catalogue pool)

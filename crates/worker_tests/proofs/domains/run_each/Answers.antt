use Rattle.domain_loan.proofs.Opened.{opened_new, refused_all}
use Rattle.worker_tests.proofs.domains.run_each.Goals as goal

-- the seats of a new domain are new
pub run_domain-requires-clause-new : goal.run_domain-requires-clause-new
run_domain-requires-clause-new g c κs within = opened_new c.in_ok-domain.domain _ _ c.in_ok-domain.seats.items c.in_ok-domain.ensures

-- and all of them are handed back
pub let_meet-requires : goal.let_meet-requires
let_meet-requires g c = record {
  all = refused_all c.in_ok-domain.domain _ _ c.in_ok-domain.seats.items c.in_ok-domain.ensures c.in-Err.domain c.in-Err.seats.items
      c.in-Err.ensures.err.0 c.in-Err.ensures.err.1;
}

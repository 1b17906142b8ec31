use Rattle.grow_hash.proofs.Terms.{sym, subst, IsGrown}
use Rattle.grow_hash.proofs.AsGrown.{section_as, planned_by}
use Rattle.grow_hash.proofs.split.Outcomes.{closed_settles, planned_as}
use Rattle.grow_hash.proofs.attempts.Times.{grown_read}
use Rattle.grow_hash.proofs.split_work.SplitWorkWork.decide.Goals as goal

pub plan_split-requires : goal.plan_split-requires
plan_split-requires g c =
    let here = c.requires.here.1 in
    let rules = g.met.R.GrowingRules in
    let lawful = section_as _ _ g.row.LEVELS rules.starts rules.allows rules.allowed_grows c.requires.here.0 here.lawful in record {
      lawful = subst (IsGrown g.row.LEVELS) (sym here.state_is) (grown_read g.row.LEVELS c.requires.here.0 lawful here.own);
    }

pub returns-in-Ok-clause-found : goal.returns-in-Ok-clause-found
returns-in-Ok-clause-found g c =
    let here = c.requires.here.1 in
    let rules = g.met.R.GrowingRules in
    let lawful = section_as _ _ g.row.LEVELS rules.starts rules.allows rules.allowed_grows c.requires.here.0 here.lawful in
    let l = subst (IsGrown g.row.LEVELS) (sym here.state_is) (grown_read g.row.LEVELS c.requires.here.0 lawful here.own) in
    let p = c.in-Ok.ensures.planned in
    let planned = planned_as g.row.LEVELS (g.V.View.state c.args.view) _ _ _ l c.in-Ok.plan.few p in
    (p.splittable, planned_by _ _ g.row.LEVELS rules.starts rules.allows rules.allowed_grows _ _ _ _ _ planned)

pub returns-in-Err-clause-found : goal.returns-in-Err-clause-found
returns-in-Err-clause-found g c = λ last. closed_settles g.row.LEVELS (g.V.View.state c.args.view) last c.in-Err.looked c.in-Err.ensures.planned

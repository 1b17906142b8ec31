use Rattle.grow_hash.proofs.Terms.{sym, subst, IsGrown}
use Rattle.grow_hash.proofs.AsGrown.{section_as, planned_by}
use Rattle.grow_hash.proofs.attempts.Found.{unchanging_any}
use Rattle.grow_hash.proofs.attempts.Outcomes.{planned_as}
use Rattle.grow_hash.proofs.attempts.Times.{grown_read}
use Rattle.grow_hash.proofs.grow_work.GrowWorkWork.decide.Goals as goal

pub find_change-requires : goal.find_change-requires
find_change-requires g c =
    let here = c.requires.here.1 in
    let rules = g.met.R.GrowingRules in
    let lawful = section_as _ _ g.row.LEVELS rules.starts rules.allows rules.allowed_grows c.requires.here.0 here.lawful in record {
      lawful = subst (IsGrown g.row.LEVELS) (sym here.state_is) (grown_read g.row.LEVELS c.requires.here.0 lawful here.own);
      command = c.requires.accepts;
    }

pub returns-in-Settled-clause-found : goal.returns-in-Settled-clause-found
returns-in-Settled-clause-found g c = λ last. (
  c.in-Settled.ensures.found.0 last,
  unchanging_any g.row.LEVELS c.args.self.now.command (g.V.View.state c.args.view) last c.in-Settled.ensures.found.1,
)

pub returns-in-Open-clause-found : goal.returns-in-Open-clause-found
returns-in-Open-clause-found g c =
    let rules = g.met.R.GrowingRules in
    let p = planned_as g.row.LEVELS c.args.self.now.command (g.V.View.state c.args.view) _ c.in-Open.ensures.found.1 in
    (c.in-Open.ensures.found.0, planned_by _ _ g.row.LEVELS rules.starts rules.allows rules.allowed_grows _ _ _ _ _ p)

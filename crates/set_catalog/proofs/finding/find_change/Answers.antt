use Rattle.std.proofs.Common.{sym, subst}
use Rattle.set_model.specs.declared.commands.Command.{Command}
use Rattle.set_model.specs.declared.commands.Command.TheVariants.{Del}
use Rattle.set_catalog.specs.Findings.{IsFoundWithin, with_plan}
use Rattle.set_catalog.proofs.Planned.{found_within}
use Rattle.set_catalog.proofs.finding.find_change.Goals as goal

pub returns-in-Del-clause-found : goal.returns-in-Del-clause-found
returns-in-Del-clause-found g c =
    subst (λ (x : Command). IsFoundWithin c.args.most x (g.V.View.state c.args.view.now) (with_plan c.find_del.result c.find_del.new.plan)) (sym c.in-Del.is)
    (found_within c.args.most (Del c.in-Del.name c.in-Del.key) _ (with_plan c.find_del.result c.find_del.new.plan) c.find_del.ensures.found)

use Rattle.std.proofs.Common.{ℕ, ◌<◌, sym, subst}
use Rattle.mv_history.specs.State.{State}
use Rattle.set_model.specs.Lawful.{IsLawful}
use Rattle.set_catalog.specs.Picks.{vacant_nodes}
use Rattle.set_catalog.specs.Shortages.{few_at}
use Rattle.set_catalog.proofs.Knowing.{few_found}
use Rattle.set_blocks.proofs.Deciding.{lawful_here}
use Rattle.set_seats.proofs.SingleBlock.{settled_one, change_one}
use Rattle.set_seats.proofs.single.SingleWork.decide.Goals as goal

pub find_plan_near-found-requires-clause-lawful : goal.find_plan_near-found-requires-clause-lawful
find_plan_near-found-requires-clause-lawful g c = lawful_here _ _ _ c.requires.here.1

pub find_plan_near-found-requires-clause-few : goal.find_plan_near-found-requires-clause-few
find_plan_near-found-requires-clause-few g c =
    let here = c.requires.here.1 in
    subst (λ (n : ℕ). vacant_nodes (g.V.View.state c.args.view) < n) (sym c.at-few.ensures)
    (subst (λ (u : State). vacant_nodes u < few_at c.args.remembered.now.memo.known c.args.time) (sym here.state_is)
    (few_found c.requires.here.0 _ _ (subst IsLawful here.state_is (lawful_here _ _ _ here)) here.own here.time_is c.requires.here.2))

pub returns-in-Settled-clause-found : goal.returns-in-Settled-clause-found
returns-in-Settled-clause-found g c =
    settled_one c.args.self.now.command (g.V.View.state c.args.view) c.in-Settled.reply c.in-Settled.ensures.found.0 c.in-Settled.ensures.found.1

pub returns-in-Open-clause-found : goal.returns-in-Open-clause-found
returns-in-Open-clause-found g c =
    change_one c.args.self.now.command (g.V.View.state c.args.view) c.find_plan_near-found.new.plan c.in-Open.gone (lawful_here _ _ _ c.requires.here.1)
    c.in-Open.ensures.found.0 c.in-Open.ensures.found.2

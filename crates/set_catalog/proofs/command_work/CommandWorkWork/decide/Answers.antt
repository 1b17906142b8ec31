use Rattle.std.proofs.Common.{ℕ, ◌<◌, refl, sym, subst, ◌∙◌}
use Rattle.mv_history.specs.State.{State}
use Rattle.set_model.specs.Lawful.{IsLawful}
use Rattle.set_catalog.specs.Picks.{vacant_nodes}
use Rattle.set_catalog.specs.Shortages.{few_at}
use Rattle.set_catalog.proofs.Deciding.{settled_any}
use Rattle.set_catalog.proofs.Knowing.{few_found}
use Rattle.set_catalog.proofs.LawfulTimes.{lawful_read}
use Rattle.set_catalog.proofs.Outcomes.{planned_as}
use Rattle.set_catalog.proofs.command_work.CommandWorkWork.decide.Goals as goal

pub answer-requires : goal.answer-requires
answer-requires g c =
    let here = c.requires.here.1 in record { lawful = subst IsLawful (sym here.state_is) (lawful_read c.requires.here.0 here.lawful here.own) }

pub find_change-outcome-requires-clause-lawful : goal.find_change-outcome-requires-clause-lawful
find_change-outcome-requires-clause-lawful g c =
    let here = c.requires.here.1 in
    subst IsLawful (sym (g.met.V.View.same_state _ _ c.answer.ensures.as_before ∙ here.state_is)) (lawful_read c.requires.here.0 here.lawful here.own)

pub find_change-outcome-requires-clause-few : goal.find_change-outcome-requires-clause-few
find_change-outcome-requires-clause-few g c =
    let here = c.requires.here.1 in
    let same = g.met.V.View.same_state _ _ c.answer.ensures.as_before ∙ here.state_is in
    subst (λ (n : ℕ). vacant_nodes (g.V.View.state c.answer.new.view) < n) (sym c.at-few.ensures)
    (subst (λ (u : State). vacant_nodes u < few_at c.args.memo.now.known c.args.time) (sym same)
    (few_found c.requires.here.0 _ _ (lawful_read c.requires.here.0 here.lawful here.own) here.own here.time_is c.requires.here.2))

pub returns-in-Some-clause-found : goal.returns-in-Some-clause-found
returns-in-Some-clause-found g c = λ last.
    let same = settled_any c.args.self.now.command (g.V.View.state c.args.view) c.in-Some.reply last c.in-Some.ensures.found.0 c.in-Some.ensures.found.1 in
    record { answers = c.of.ensures.reply ∙ same.0; unchanging = same.1 }

pub returns-in-Settled-clause-found : goal.returns-in-Settled-clause-found
returns-in-Settled-clause-found g c = λ last.
    let found = rw (g.met.V.View.same_state _ _ c.answer.ensures.as_before) at c.in-Settled.ensures.found in
    let same = settled_any c.args.self.now.command (g.V.View.state c.args.view) c.in-Settled.reply last found.0 found.1 in
    record { answers = c.of-in-Settled.ensures.reply ∙ same.0; unchanging = same.1 }

pub returns-in-Open-clause-found : goal.returns-in-Open-clause-found
returns-in-Open-clause-found g c =
    let found = rw (g.met.V.View.same_state _ _ c.answer.ensures.as_before) at c.in-Open.ensures.found in
    (found.0, planned_as c.args.self.now.most c.args.self.now.command (g.V.View.state c.args.view) c.find_change-outcome.new.plan _ refl found.2)

use Rattle.std.proofs.Common.{[], sym, subst}
use Rattle.std.specs.Prelude.{Contains}
use Rattle.std.proofs.lemmas.List.Elements.{Contains-push}
use Rattle.commit_clock.specs.mv_core.declared.view.Knowledge.{Knowledge}
use Rattle.reader_marks.proofs.sections.enter_time.Goals as goal

pub returns-clause-view : goal.returns-clause-view
returns-clause-view g c = c.load_time.ensures.view

pub returns-clause-loaded : goal.returns-clause-loaded
returns-clause-loaded g c =
    subst (λ (u : Knowledge). Contains u.clocks.loaded c.load_time.result) (sym c.load_time.ensures.view.2) (Contains-push [] c.load_time.result)

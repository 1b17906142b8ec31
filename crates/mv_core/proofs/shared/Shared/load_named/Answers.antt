use Rattle.std.proofs.Common.{refl, subst}
use Rattle.mv_core.proofs.Terms.{Config}
use Rattle.mv_core.specs.SectionFacts.{IsWord}
use Rattle.mv_core.specs.Passes.{view}
use Rattle.mv_core.proofs.kinds.helping.LoadNamed.{named_loads}
use Rattle.mv_core.proofs.shared.Shared.load_named.Goals as goal

pub named_cell-cell-requires-clause-word : goal.named_cell-cell-requires-clause-word
named_cell-cell-requires-clause-word g c =
    subst (λ (d : Config). IsWord d c.args.word) c.requires.of.4 (c.args.pass.now.in_domain.0 c.args.word c.requires.may.loaded)

pub load_as-requires-clause-rule : goal.load_as-requires-clause-rule
load_as-requires-clause-rule g c = named_loads _ _ _ _ (view c.args.pass.now) c.args.word c.requires.may

pub load_as-requires-clause-moves : goal.load_as-requires-clause-moves
load_as-requires-clause-moves g c = record {
  may = c.requires.may;
  place = refl;
  writes = λ x. refl;
  entry = λ x. refl;
  view = λ m h seats w k t. t;
}

use Rattle.std.proofs.Common.{sym, ◌∙◌, arith}
use Rattle.std.proofs.lemmas.Bool.Decides.{nat_tests}
use Rattle.set_catalog.proofs.Vacancies.{vacant_where_free}
use Rattle.set_catalog.proofs.picks.is_vacant.Goals.{then-object-ge-FIRST_NODE, else-object-ge-FIRST_NODE}
use Rattle.set_catalog.proofs.picks.is_vacant.Goals as goal

pub returns-then-object-objects-clause-vacant : goal.returns-then-object-objects-clause-vacant
returns-then-object-objects-clause-vacant g c = elim c.if-object-ge-FIRST_NODE.branch [
  | then-object-ge-FIRST_NODE w ↦ vacant_where_free _ _ _ _ w.if-object-ge-FIRST_NODE.true (sym w.value-is ∙ c.if-object-objects.true) w.objects.ensures
      c.read.ensures.words
  | else-object-ge-FIRST_NODE w ↦ let e = sym w.value-is ∙ c.if-object-objects.true in let f = w.if-object-ge-FIRST_NODE.false in absurd
      (grind (arith, nat_tests))
]

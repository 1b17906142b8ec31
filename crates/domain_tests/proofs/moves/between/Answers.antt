use Rattle.mvrlu.proofs.Orders.{same_on}
use Rattle.domain_tests.proofs.moves.between.Goals as goal

pub returns-in-Prepare : goal.returns-in-Prepare
returns-in-Prepare c = same_on _ _ c.prepare.ensures.prepares.continues

pub returns-in-Tidy : goal.returns-in-Tidy
returns-in-Tidy c = same_on _ _ c.tidy-tidied.ensures.tidies.prepares.continues

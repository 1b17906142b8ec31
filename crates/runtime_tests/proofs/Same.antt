-- What two steps leave as it is.
use Rattle.std.proofs.Common.{◌∙◌}
use Rattle.mv_history.specs.declared.Protocol.{Ghosts}
use Rattle.mv_core.specs.declared.shared.Pass.{Pass}
use Rattle.mv_core.specs.Passes.{IsSame}

pub same_twice : {P : Type 0} {g : Ghosts P} (p q r : Pass P g) → IsSame p q → IsSame q r → IsSame p r
same_twice p q r a b = (b.0 ∙ a.0, b.1 ∙ a.1, b.2 ∙ a.2, b.3 ∙ a.3, b.4 ∙ a.4, b.5 ∙ a.5)

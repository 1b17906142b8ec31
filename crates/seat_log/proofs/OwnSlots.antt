-- While a pass steps it stays of its domain, and the cell of an own slot that of its position.
use Rattle.std.proofs.Common.{ℕ, refl, sym, ap, ◌<◌, ◌∙◌, subst}
use Rattle.mv_history.specs.declared.Protocol.{Ghosts}
use Rattle.mv_layout.specs.declared.Config.{Config}
use Rattle.mv_layout.specs.declared.SharedWord.TheVariants.{First}
use Rattle.mv_layout.specs.Cells.{cell_of}
use Rattle.reader_marks.specs.mv_core.declared.shared.Pass.{Pass}
use Rattle.reader_marks.specs.mv_core.declared.shared.Shared.{Shared}
use Rattle.reader_marks.specs.mv_core.Passes.{IsOf, IsOwnSlot, IsSame, config_of}
use Rattle.reader_marks.specs.mv_core.Rings.{index_of}

pub own_still : {P : Type 0} {g : Ghosts P} (c : Config) (position slot : ℕ) (p q : Pass P g) → IsSame p q → IsOwnSlot c p position slot
    → IsOwnSlot c q position slot
own_still c position slot p q same own = own ∙ ap (λ (n : ℕ). cell_of c (First n (index_of c position))) (sym same.1)

pub of_still : {P : Type 0} {g : Ghosts P} (s : Shared P) (p q : Pass P g) → IsSame p q → IsOf s p → IsOf s q
of_still s p q same of =
    (same.0 ∙ of.0, subst (λ (n : ℕ). n < (config_of s).seats) (sym same.1) of.1, same.3 ∙ of.2, same.4 ∙ of.3, same.2 ∙ of.4)

pub same_on : {P : Type 0} {g : Ghosts P} (p q r : Pass P g) → IsSame p q → IsSame q r → IsSame p r
same_on p q r a b = (b.0 ∙ a.0, b.1 ∙ a.1, b.2 ∙ a.2, b.3 ∙ a.3, b.4 ∙ a.4, b.5 ∙ a.5)

pub same_none : {P : Type 0} {g : Ghosts P} (p : Pass P g) → IsSame p p
same_none p = (refl, refl, refl, refl, refl, refl)

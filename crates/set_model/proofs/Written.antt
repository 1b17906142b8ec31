-- Which objects are written.
use Rattle.std.proofs.Common.{◌≡◌, true, false, not, ◌&&◌, [], ◌∷◌, refl, sym}
use Rattle.std.proofs.Common.{ap, ◌∙◌, true≢false}
use Rattle.mv_history.specs.State.{Writes, touches}
use Rattle.mv_history.specs.Legal.{are_distinct}
use Rattle.set_model.specs.Trees.{IsDistinct}
use Rattle.section_work.specs.OwnWrites.{objects_of}
use Rattle.section_work.proofs.Objects.{touches-out}
use Rattle.set_model.proofs.TreeShape.{is_in-from}

-- writes of distinct objects
pub distinct-objects_of : (ws : Writes) → IsDistinct (objects_of ws) → are_distinct ws ≡ true
distinct-objects_of [] d = refl
distinct-objects_of (w ∷ ws) d =
    let out : touches ws w.0 ≡ false = touches-out ws w.0 (λ i. true≢false (sym (is_in-from w.0 (objects_of ws) i) ∙ d.0)) in
    ap (λ b. not b && are_distinct ws) out ∙ distinct-objects_of ws d.1

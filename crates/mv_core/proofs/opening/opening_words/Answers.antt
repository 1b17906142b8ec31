use Rattle.std.proofs.Common.{◌≡◌, ℕ, arith, subst}
use Rattle.mv_core.specs.Start.{Laid}
use Rattle.mv_core.proofs.kinds.opening.Laying.{laid_first, laid_last}
use Rattle.mv_core.proofs.opening.opening_words.Goals as goal

pub returns : goal.returns
returns c =
    let config = c.args.config.now in
    let start = c.args.start.now in
    let words = c.loop-object.words.items in
    let all : c.loop-object.object ≡ config.objects = omega arith in
    laid_last config start c.requires.checked words (subst (λ (n : ℕ). Laid config start words n 0) all c.loop-object.invariant)

pub loop-object-init : goal.loop-object-init
loop-object-init c = laid_first c.args.config.now c.args.start.now c.requires.checked c.in_ok-words.words.items c.in_ok-words.ensures

-- A help leaves a pass outside a section there, and an open section as it is: it changes the phase only of one that has named a commit.
use Rattle.std.proofs.Common.{◌≡◌, ℕ, sym, ap, ◌∙◌, ⊎_elim}
use Rattle.mv_layout.specs.declared.Config.{Config}
use Rattle.mv_core.specs.declared.view.Knowledge.{Knowledge}
use Rattle.mv_core.specs.declared.view.Phase.TheVariants.{Outside, Inside}
use Rattle.mv_core.specs.declared.view.OwnSection.{OwnSection}
use Rattle.mv_core.specs.declared.view.Mode.TheVariants.{Open, Named}
use Rattle.commit_clock.specs.Helps.{StampsOwn, Helps}

pub still_outside : (c : Config) (v w : Knowledge) (word : ℕ) → v.phase ≡ Outside → Helps c v w word → w.phase ≡ Outside
still_outside c v w word out helps =
    ⊎_elim
    (λ same. same ∙ out)
    (λ (own : StampsOwn c v w word). let both : Inside own.inside ≡ Outside = sym own.phase ∙ out in absurd (cc))
    helps.phase

pub still_open : (c : Config) (v w : Knowledge) (word : ℕ) (inside : OwnSection) → v.phase ≡ Inside inside → inside.mode ≡ Open → Helps c v w word
    → w.phase ≡ Inside inside
still_open c v w word inside phase open_is helps =
    ⊎_elim
    (λ same. same ∙ phase)
    (λ (own : StampsOwn c v w word).
    let both : Inside own.inside ≡ Inside inside = sym own.phase ∙ phase in
    let one : own.inside ≡ inside = cc in
    let other : Named own.naming ≡ Open = sym own.mode ∙ ap (λ (s : OwnSection). s.mode) one ∙ open_is in absurd (cc))
    helps.phase

-- A trail that grows by steps of some kinds.
use Rattle.std.proofs.Common.{◌≡◌, ℕ, ◌+◌, ◌≤◌, List, [], ◌∷◌, ◌++◌, length, All, sym, ap, ◌∙◌, arith, append-nil, append_assoc, length-append}
use Rattle.std.proofs.lemmas.List.Elements.{All-nil, All-push}
use Rattle.mv_history.specs.declared.Step.{Step}
use Rattle.mv_history.specs.declared.StepKind.{StepKind}

-- the trail with at most so many steps more, each of such a kind
abbrev pub Grows : (StepKind → Type 0) → ℕ → List Step → List Step → Type 0
Grows P most before after = (steps : List Step) × (after ≡ before ++ steps) × (length steps ≤ most) × All (λ s. P s.kind) steps

pub grows_none : (P : StepKind → Type 0) (before : List Step) → Grows P 0 before before
grows_none P before = ([], sym (append-nil before), (omega arith), All-nil (λ s. P s.kind))

pub grows_one : (P : StepKind → Type 0) (most : ℕ) (before after : List Step) (s : Step) → P s.kind → Grows P most before after
    → Grows P (most + 1) before (after ++ s ∷ [])
grows_one P most before after s is g = (
  g.0 ++ s ∷ [],
  ap (λ (l : List Step). l ++ s ∷ []) g.1 ∙ append_assoc before g.0 (s ∷ []),
  (let few = g.2 in let long = length-append g.0 (s ∷ []) in omega (arith, few, long)),
  All-push (λ s. P s.kind) g.0 s g.3 is,
)

pub grows_within : (P : StepKind → Type 0) (most more : ℕ) (before after : List Step) → most ≤ more → Grows P most before after → Grows P more before after
grows_within P most more before after le g = (g.0, g.1, (let few = g.2 in omega (arith, few, le)), g.3)

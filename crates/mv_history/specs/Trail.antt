-- Which steps of a trail are exchanges on CLOCK.
use Rattle.std.specs.Prelude.{◌≡◌, Bool, true, false, List, [], ◌∷◌, filter, IsSome, IsNone}
pub use Rattle.mv_history.specs.declared.trail.Step.{Step}
use Rattle.mv_history.specs.declared.trail.StepKind.{StepKind}
use Rattle.mv_history.specs.declared.trail.StepKind.TheVariants.{NameCommit, NameRest}

-- whether the kind is the exchange that names a commit
abbrev pub is_commit_exchange : StepKind → Bool
is_commit_exchange NameCommit = true
is_commit_exchange _ = false

-- whether the kind is an exchange on CLOCK, for a commit or a rest
abbrev pub is_clock_exchange : StepKind → Bool
is_clock_exchange NameCommit = true
is_clock_exchange NameRest = true
is_clock_exchange _ = false

-- the commit exchanges among the steps, won or lost
abbrev pub commit_exchanges : List Step → List Step
commit_exchanges steps = filter (λ s. is_commit_exchange s.kind) steps

-- the exchanges on CLOCK among the steps, won or lost
abbrev pub clock_exchanges : List Step → List Step
clock_exchanges steps = filter (λ s. is_clock_exchange s.kind) steps

-- the steps are one, which is a won exchange
pub record IsOneWon (steps : List Step) : Type 0 where
  pub step : Step
  pub one : steps ≡ step ∷ []
  pub won : IsSome step.stored

-- the steps are one, which is a lost exchange
pub record IsOneLost (steps : List Step) : Type 0 where
  pub step : Step
  pub one : steps ≡ step ∷ []
  pub lost : IsNone step.stored

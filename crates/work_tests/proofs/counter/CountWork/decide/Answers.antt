use Rattle.std.proofs.Common.{◌+◌, ◌%◌, ◌^◌, ℕ, List, [], ◌∷◌, slice_index, ap}
use Rattle.work_tests.proofs.Planned.{one_object, planned}
use Rattle.work_tests.proofs.counter.CountWork.decide.Goals as goal

pub read-requires : goal.read-requires
read-requires g c = let here = c.requires.here.1 in one_object _ _ here.state_is here.lawful

pub returns-clause-found : goal.returns-clause-found
returns-clause-found g c =
    let here = c.requires.here.1 in (
      tt,
      planned (g.V.View.state c.args.view) _ (0 ∷ 0 ∷ 0 ∷ 0 ∷ []) (one_object _ _ here.state_is here.lawful)
          (ap (λ (ws : List ℕ). (slice_index ws 0 + 1) % 2 ^ 64 ∷ 0 ∷ 0 ∷ 0 ∷ 0 ∷ 0 ∷ []) c.read.ensures.words),
    )

-- A trail with some steps more, each of which is of some sort.
use Rattle.std.proofs.Common.{◌≡◌, ℕ, ◌+◌, List, [], ◌∷◌, ◌++◌, length, sym, ap, ◌∙◌, append-nil, append_assoc, length-append, All, refl}
use Rattle.std.proofs.lemmas.List.Elements.{All-nil, All-push}
use Rattle.mv_history.specs.declared.Step.{Step}

module _ (P : Step → Type 0) where
  -- the trail has exactly so many steps more, each of that sort
  abbrev pub Grows : ℕ → List Step → List Step → Type 0
  Grows n before after = (steps : List Step) × (after ≡ before ++ steps) × (length steps ≡ n) × All P steps

  pub grows_none : (before : List Step) → Grows 0 before before
  grows_none before = ([], sym (append-nil before), refl, All-nil P)

  -- and one step more
  pub grows_one : (n : ℕ) (before after : List Step) (s : Step) → P s → Grows n before after → Grows (n + 1) before (after ++ s ∷ [])
  grows_one n before after s is t =
      let long : length (t.0 ++ s ∷ []) ≡ length t.0 + 1 = length-append t.0 (s ∷ []) in
      (t.0 ++ s ∷ [], ap (λ (l : List Step). l ++ s ∷ []) t.1 ∙ append_assoc before t.0 (s ∷ []), long ∙ ap (λ k. k + 1) t.2, All-push P t.0 s t.3 is)

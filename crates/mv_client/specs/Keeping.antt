-- Writes that keep something of the words of their objects.
use Rattle.std.specs.Prelude.{◌≡◌, ℕ, ◌<◌, List, [], ◌∷◌, length, ⊤}
use Rattle.mv_history.specs.State.{State, Writes}
use Rattle.mv_history.specs.Meaning.{words_at}

-- each write is of an object, and its words have what those of the object have
abbrev pub AllKeep : {X : Type 0} → (List ℕ → X) → State → Writes → Type 0
AllKeep f s [] = ⊤
AllKeep f s (w ∷ ws) = (w.0 < length s) × (f w.1 ≡ f (words_at s w.0)) × AllKeep f s ws

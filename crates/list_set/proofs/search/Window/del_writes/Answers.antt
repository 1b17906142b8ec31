use Rattle.std.proofs.Common.{◌≡◌, ◌≢◌, ℕ, List, [], ◌∷◌, inl, inr, ap, ◌∙◌}
use Rattle.mv_history.specs.State.{State}
use Rattle.mv_history.specs.Meaning.{words_at}
use Rattle.set_model.specs.Objects.{no_words, relink}
use Rattle.set_model.proofs.ObjectWords.{word}
use Rattle.list_set.specs.Places.{del_writes}
use Rattle.list_set.specs.Windows.{EndsHere}
use Rattle.list_set.specs.declared.search.Window.{Window}
use Rattle.list_set.proofs.search.Window.del_writes.Goals as goal

-- the words that the search read are those of the state
writes_there : (s : State) (head k : ℕ) (window : Window) → EndsHere s head k window → window.node ≢ 0
    → (window.previous, relink window.words (word 3 window.node_words)) ∷ (window.node, no_words) ∷ [] ≡ del_writes s window.previous window.node
writes_there s head k window ends some = elim ends.found [
  | inl none ↦ absurd (some none)
  | inr node ↦
      ap (λ (words : List ℕ). (window.previous, relink words (word 3 window.node_words)) ∷ (window.node, no_words) ∷ []) ends.words_are
      ∙ ap (λ (words : List ℕ). (window.previous, relink (words_at s window.previous) (word 3 words)) ∷ (window.node, no_words) ∷ []) node.words_are
]

pub returns-clause-writes : goal.returns-clause-writes
returns-clause-writes c s head k ends some = writes_there s head k c.args.self.now ends some

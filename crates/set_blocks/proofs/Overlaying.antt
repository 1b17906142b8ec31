-- One write more over a view.
use Rattle.mv_history.specs.WordsLaws.{AreWrites-rewritten}
use Rattle.std.proofs.Common.{◌≡◌, ◌∷◌, ◌++◌, ℕ, Bool, true, false, cond, List, []}
use Rattle.set_blocks.proofs.Terms.{All-push, Writes, touches, rewritten, IsWords, AreWrites, are_distinct, merged_one, merged-distinct}

-- a write keeps the objects different, and has the width of words
pub distinct-merged_one : (own : Writes) (o : ℕ) (w : List ℕ) → are_distinct own ≡ true → are_distinct (merged_one own o w) ≡ true
distinct-merged_one own o w d = merged-distinct own ((o, w) ∷ []) d

pub words-merged_one : (own : Writes) (o : ℕ) (w : List ℕ) → AreWrites own → IsWords w → AreWrites (merged_one own o w)
words-merged_one own o w h k = go (touches own o)
  where
    go : (b : Bool) → AreWrites (cond b (rewritten own o w) (own ++ (o, w) ∷ []))
    go true = AreWrites-rewritten own o w h k
    go false = All-push (λ (v : ℕ × List ℕ). IsWords v.1) own (o, w) h k

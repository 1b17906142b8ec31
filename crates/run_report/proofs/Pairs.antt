-- Facts of each line, or of each two lines, where a line is added or the lines are put in another order.
use Rattle.std.proofs.Common.{List, ◌∷◌, ◌++◌}
use Rattle.std.specs.List.{All}
use Rattle.std.specs.List.Sorted.{IsPermutation}
use Rattle.std.proofs.lemmas.List.Elements.{All-cons, All-append}
use Rattle.std.proofs.lemmas.List.Sorted.{All-permutation}
use Rattle.run_report.specs.declared.line.Line.{Line}
use Rattle.run_report.specs.Legal.{EachPair}

-- lines in another order
pub pairs_permuted : (R : Line → Line → Type 0) (lines others : List Line) → IsPermutation lines others → EachPair R lines → EachPair R others
pairs_permuted R lines others same pairs =
    All-permutation (λ a. All (R a) others) lines others same (λ k d lt. All-permutation (R _) lines others same (pairs k d lt))

-- a line ahead of the others
pub pairs_cons : (R : Line → Line → Type 0) (line : Line) (lines : List Line) → R line line → All (R line) lines → All (λ a. R a line) lines
    → EachPair R lines → EachPair R (line ∷ lines)
pairs_cons R line lines itself after before pairs =
    All-cons (λ a. All (R a) (line ∷ lines)) line lines (All-cons (R line) line lines itself after)
    (λ k d lt. All-cons (R _) line lines (before k d lt) (pairs k d lt))

-- lines after others
pub pairs_append : (R : Line → Line → Type 0) (xs ys : List Line) → EachPair R xs → EachPair R ys → All (λ a. All (R a) ys) xs → All (λ a. All (R a) xs) ys
    → EachPair R (xs ++ ys)
pairs_append R xs ys in_xs in_ys over back =
    All-append (λ a. All (R a) (xs ++ ys)) xs ys
    (λ k d lt. All-append (R _) xs ys (in_xs k d lt) (over k d lt))
    (λ k d lt. All-append (R _) xs ys (back k d lt) (in_ys k d lt))

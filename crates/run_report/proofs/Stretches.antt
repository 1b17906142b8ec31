-- The lines of stretches that are found, cut and gathered one after another.
use Rattle.std.proofs.Common.{◌≡◌, ℕ, ◌+◌, ◌<◌, List, [], ◌∷◌, ◌++◌, length, take, get_or, sym, append_assoc, subst}
use Rattle.std.specs.Borrow.{Bor}
use Rattle.std.specs.List.Sorted.{IsPermutation}
use Rattle.std.proofs.lemmas.List.{take_more, flat_map_more}
use Rattle.std.proofs.lemmas.List.Sorted.{IsPermutation-append_left, IsPermutation-append_right, IsPermutation-append_comm, IsPermutation-trans}
use Rattle.run_report.specs.declared.line.Line.{Line}
use Rattle.run_report.specs.InOrder.{lines_of}

-- one stretch more
pub one_more : (done : List (Bor (List Line))) (s : Bor (List Line)) → lines_of (done ++ s ∷ []) ≡ lines_of done ++ s.now
one_more done s = sym (flat_map_more (λ (t : Bor (List Line)). t.now) [] done s)

-- the middle two of four lists change places
swap_middle : (a b c d : List Line) → IsPermutation ((a ++ b) ++ (c ++ d)) ((a ++ c) ++ (b ++ d))
swap_middle a b c d =
    let before : a ++ ((b ++ c) ++ d) ≡ (a ++ b) ++ (c ++ d) = simp append_assoc in
    let behind : a ++ ((c ++ b) ++ d) ≡ (a ++ c) ++ (b ++ d) = simp append_assoc in
    let swapped = IsPermutation-append_left d (b ++ c) (c ++ b) (IsPermutation-append_comm b c) in
    let whole : IsPermutation (a ++ ((b ++ c) ++ d)) (a ++ ((c ++ b) ++ d)) = IsPermutation-append_right a _ _ swapped in
    subst (λ (xs : List Line). IsPermutation xs ((a ++ c) ++ (b ++ d))) before
    (subst (λ (ys : List Line). IsPermutation (a ++ ((b ++ c) ++ d)) ys) behind whole)

-- the stretches up to one, and this one cut in two
pub cut_more : (all : List (Bor (List Line))) (i : ℕ) (d : Bor (List Line)) (fs bs : List (Bor (List Line))) (f b : Bor (List Line)) → i < length all
    → (get_or all i d).now ≡ f.now ++ b.now → IsPermutation (lines_of (take i all)) (lines_of fs ++ lines_of bs)
    → IsPermutation (lines_of (take (i + 1) all)) (lines_of (fs ++ f ∷ []) ++ lines_of (bs ++ b ∷ []))
cut_more all i d fs bs f b lt is same =
    let more : take (i + 1) all ≡ take i all ++ get_or all i d ∷ [] = take_more all i d lt in
    let grown = IsPermutation-append_left (f.now ++ b.now) (lines_of (take i all)) (lines_of fs ++ lines_of bs) same in
    let moved = IsPermutation-trans _ _ _ grown (swap_middle (lines_of fs) (lines_of bs) f.now b.now) in
    rw (more, one_more (take i all) (get_or all i d), one_more fs f, one_more bs b, is) moved

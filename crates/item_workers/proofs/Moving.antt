-- Stores and sources that move into the workers and out of them, one worker at a time.
use Rattle.std.proofs.Common.{append-nil, take_at}
use Rattle.item_workers.proofs.Terms.{◌≡◌, ◌∷◌, ◌++◌, ◌∙◌, ℕ, List, [], length, take, drop, map, sym, ap, append_assoc, length-map, map-append, nil_from_length}

-- one more worker has the first of the stores, or of the sources, that were left
pub loaded : {W S T : Type 0} (of : W → T) (left : List S → List T) (ws ns : List W) (w : W) (before after : List S) (all : List T) (s : S)
    → ns ≡ ws ++ w ∷ [] → left (s ∷ after) ≡ of w ∷ left after → before ≡ s ∷ after → map of ws ++ left before ≡ all → map of ns ++ left after ≡ all
loaded of left ws ns w before after all s n e b h = rw (n, map-append of ws (w ∷ []), append_assoc) (rw (b, e) at h)

-- one more store, source, or row of answers is back
pub unloaded : {W S T : Type 0} (of : W → T) (back : List S → List T) (ws rest : List W) (w : W) (before after : List S) (all : List T)
    → ws ≡ w ∷ rest → back after ≡ back before ++ of w ∷ [] → back before ++ map of ws ≡ all → back after ++ map of rest ≡ all
unloaded of back ws rest w before after all p n h = rw (n, append_assoc) (rw p at h)

-- all is there, where nothing is left to move
pub all_moved : {S T : Type 0} (of : List S → List T) (moved all : List T) (left : List S) → of [] ≡ [] → length left ≡ 0 → moved ++ of left ≡ all → moved ≡ all
all_moved of moved all left empty none h =
    sym (append-nil moved) ∙ ap (λ xs. moved ++ xs) (sym (ap of (nil_from_length left none) ∙ empty)) ∙ h

-- what a slice of all of a vector leaves of it
pub written_back : {A : Type 0} (ns ws : List A) (n : ℕ) → n ≡ length ws → length ns ≡ length ws → take n (ns ++ drop (length ns) ws) ≡ ns
written_back ns ws n e len = take_at ns (drop (length ns) ws) n (len ∙ sym e)

-- as many as what was made of them
pub as_many_mapped : {W S T : Type 0} (of : W → T) (by : S → T) (ws : List W) (stores : List S) → map of ws ≡ map by stores → length ws ≡ length stores
as_many_mapped of by ws stores from = sym (length-map ws of) ∙ ap length from ∙ length-map stores by

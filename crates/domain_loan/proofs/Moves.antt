-- Rows: one element moves from the front of one to the end of another.
use Rattle.domain_loan.proofs.Terms.{◌≡◌, ◌<◌, ◌∷◌, ◌++◌, ◌∙◌, List, [], length, map, drop, get_or, sym, ap, subst, append_assoc, arith, All, map-append}
use Rattle.domain_loan.proofs.Terms.{All-head}

-- the first of a row, and what is left of it
pub first_of : {X : Type 0} (xs rest : List X) (x : X) → 0 < length xs → x ≡ get_or xs 0 x → rest ≡ drop 1 xs → xs ≡ x ∷ rest
first_of [] rest x lt is left = absurd (omega arith)
first_of (y ∷ ys) rest x lt is left =
    let same : x ≡ y = is in
    let others : rest ≡ ys = left in
    sym (ap (λ z. z ∷ rest) same ∙ ap (λ zs. y ∷ zs) others)

-- it stands at the end of another
pub put : {C : Type 0} (done left rest : List C) (x : C) → left ≡ x ∷ rest → (done ++ x ∷ []) ++ rest ≡ done ++ left
put done left rest x is = append_assoc done (x ∷ []) rest ∙ ap (λ zs. done ++ zs) (sym is)

-- and as what another comes of
pub moved : {A C : Type 0} (f : A → C) (done : List A) (left rest : List C) (y : A) → left ≡ f y ∷ rest → map f (done ++ y ∷ []) ++ rest ≡ map f done ++ left
moved f done left rest y is = ap (λ zs. zs ++ rest) (map-append f done (y ∷ [])) ∙ put (map f done) left rest (f y) is

-- a first element that another means
pub meant_first : {A B C : Type 0} (f : A → C) (g : B → C) (left rest : List B) (x : B) (y : A) → left ≡ x ∷ rest → f y ≡ g x
    → map g left ≡ f y ∷ map g rest
meant_first f g left rest x y is same = ap (map g) is ∙ ap (λ z. z ∷ map g rest) (sym same)

-- what holds of each of a row holds of its first
pub holds_first : {X : Type 0} (P : X → Type 0) (x : X) (xs ys : List X) → ys ≡ x ∷ xs → All P ys → P x
holds_first P x xs ys is all = All-head P x xs (subst (All P) is all)

-- How many answers a chain has, what holds of all seats from what each did, and what all places hold.
use Rattle.item_workers.proofs.Terms.{◌++◌, ◌≡◌, ◌<◌, ◌∷◌, ◌+◌, ◌^◌, ℕ, suc, List, [], length, refl, ap, subst, arith, get_or, AllZip, Seat, Answer, Chain}
use Rattle.item_workers.proofs.Terms.{DidAll, DidTo, map, sum_by, All, Vec, Global, EachDid, MayDo}

-- there is an answer for each item
pub chain_length : {X I D : Type 0} (link : X → X → I → D → Type 0) (s t : X) (items : List I) (ds : List D) → Chain link s t items ds
    → length ds ≡ length items
chain_length link s t [] [] c = refl
chain_length link s t (i ∷ items) (d ∷ ds) c = ap (λ n. suc n) (chain_length link c.0 t items ds c.2)
chain_length link s t _ _ c = absurd c

-- where nothing is kept but the seat, the items were done up to the seat that was left
pub did_to : {I D : Type 0} (link : Seat → Seat → I → D → Type 0) (width : I → ℕ) (s n : Seat) (items : List I) (ds : List (Answer D))
    → DidTo (λ (t : Seat). t) link width s n items ds → DidAll (λ (t : Seat). t) link width s n items ds
did_to link width s n items ds h = subst (λ (t : Seat). DidAll (λ (u : Seat). u) link width s t items ds) h.seat_is h.did

-- two lists stand so to each other whose places do
pub each_zip : {X : Type 0} (P : X → X → Type 0) (os ns : List X) → length ns ≡ length os
    → ((i : ℕ) (d : X) → i < length os → P (get_or os i d) (get_or ns i d)) → AllZip P os ns
each_zip P [] [] len h = tt
each_zip P (o ∷ os) (n ∷ ns) len h = (h 0 o (omega arith), each_zip P os ns (omega (arith, len)) (λ i d lt. h (suc i) d (omega (arith, lt))))
each_zip P _ _ len h = absurd (omega (arith, len))

-- so they do with one more place
pub zip_more : {A B : Type 0} (P : A → B → Type 0) (xs : List A) (ys : List B) (x : A) (y : B) → AllZip P xs ys → P x y → AllZip P (xs ++ x ∷ []) (ys ++ y ∷ [])
zip_more P [] [] x y h p = (p, tt)
zip_more P (a ∷ xs) (b ∷ ys) x y h p = (h.0, zip_more P xs ys x y h.1 p)
zip_more P _ _ x y h p = absurd h

module _ {T X I D : Type 0} (first : T → X) (seat_of : X → Seat) (link : X → X → I → D → Type 0) (width : I → ℕ)
    (AllOf : List T → List Seat → List (List I) → List (Vec (Answer D) Global) → Type 0) (none : AllOf [] [] [] [])
    (more : (t : T) (n : Seat) (list : List I) (row : Vec (Answer D) Global) (ts : List T) (ns : List Seat) (lists : List (List I))
    (rows : List (Vec (Answer D) Global)) → DidTo seat_of link width (first t) n list row.items → AllOf ts ns lists rows
    → AllOf (t ∷ ts) (n ∷ ns) (list ∷ lists) (row ∷ rows)) where
  -- what holds of no store, and of one more by what its runner did, holds of all
  pub each_seat : (ts : List T) (ns : List Seat) (lists : List (List I)) (rows : List (Vec (Answer D) Global))
      → EachDid seat_of link width (map first ts) ns lists rows → AllOf ts ns lists rows
  each_seat [] [] [] [] h = none
  each_seat (t ∷ ts) (n ∷ ns) (l ∷ lists) (r ∷ rows) h = more t n l r ts ns lists rows h.0 (each_seat ts ns lists rows h.1)
  each_seat _ _ _ _ h = absurd h

-- A chain whose answers are told otherwise.
module _ {X I D E : Type 0} (link : X → X → I → D → Type 0) (told : X → X → I → E → Type 0) (tell : D → E)
    (tells : (s t : X) (i : I) (d : D) → link s t i d → told s t i (tell d)) where
  pub chain_told : (s t : X) (items : List I) (ds : List D) → Chain link s t items ds → Chain told s t items (map tell ds)
  chain_told s t [] [] c = c
  chain_told s t (i ∷ items) (d ∷ ds) c = (c.0, tells s c.0 i d c.1, chain_told c.0 t items ds c.2)
  chain_told s t _ _ c = absurd c

-- what is done without a condition, of all lists
pub all_free : {I : Type 0} (lists : List (Vec I Global)) → All (λ (list : Vec I Global). All (λ (i : I). Unit {0}) list.items) lists
all_free lists = λ i d lt j e within. tt

-- the lists whose numbers are few and whose items are done may be done
pub all_may : {I : Type 0} (does : I → Type 0) (width : I → ℕ) (lists : List (Vec I Global))
    → All (λ (list : Vec I Global). 1 + sum_by width list.items < 2 ^ 32) lists → All (λ (list : Vec I Global). All does list.items) lists
    → All (λ (list : Vec I Global). MayDo does width list.items) lists
all_may does width lists few each = λ i d lt. record { each = each i d lt; few = few i d lt }

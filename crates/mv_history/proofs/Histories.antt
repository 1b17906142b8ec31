-- Lemmas on histories.
use Rattle.std.proofs.Common.{
  ◌≡◌,
  ℕ,
  zero,
  suc,
  List,
  [],
  ◌∷◌,
  ◌++◌,
  length,
  take,
  drop,
  refl,
  ap,
  subst,
  ◌∙◌,
  append_assoc,
  arith,
}
use Rattle.std.specs.Prelude.{Some, slice_get}
use Rattle.std.proofs.lemmas.List.Elements.{All-nil}
use Rattle.mv_history.specs.State.{State, Writes, Commit, Entry, Change, state_after}
use Rattle.mv_history.specs.Legal.{NoneWrites, NoneBy, IsNext, IsLegal, IsAllowed}

-- what holds at each place of a list, and of one more element, holds at each place of the longer list
pub splits_push : {X : Type 0} (P : List X → X → Type 0) (xs : List X) (x : X) → ((front back : List X) (e : X) → xs ≡ front ++ e ∷ back → P front e)
    → P xs x → (front back : List X) (e : X) → xs ++ x ∷ [] ≡ front ++ e ∷ back → P front e
splits_push P [] x old new [] back e eq = let same : x ≡ e = cc in subst (λ z. P [] z) same new
splits_push P [] x old new (f ∷ []) back e eq = absurd (cc)
splits_push P [] x old new (f ∷ (g ∷ front)) back e eq = absurd (cc)
splits_push P (y ∷ xs) x old new [] back e eq = let same : y ≡ e = cc in subst (λ z. P [] z) same (old [] xs y refl)
splits_push P (y ∷ xs) x old new (f ∷ front) back e eq =
    let same : y ≡ f = cc in
    let rest : xs ++ x ∷ [] ≡ front ++ e ∷ back = cc in
    subst (λ z. P (z ∷ front) e) same
    (splits_push (λ fr z. P (y ∷ fr) z) xs x (λ fr bk z q. old (y ∷ fr) bk z (ap (λ zs. y ∷ zs) q)) new front back e rest)

-- an empty list has no place
pub no_split : {X : Type 0} (front back : List X) (x : X) → [] ≡ front ++ x ∷ back → ⊥
no_split [] back x e = cc
no_split (y ∷ front) back x e = cc

-- a list splits at each element
pub split_at : {X : Type 0} (xs : List X) (i : ℕ) (x : X) → slice_get xs i ≡ Some x → xs ≡ take i xs ++ x ∷ drop (suc i) xs
split_at [] i x e = absurd (cc)
split_at (y ∷ xs) zero x e = let same : y ≡ x = cc in ap (λ z. z ∷ xs) same
split_at (y ∷ xs) (suc i) x e = ap (λ zs. y ∷ zs) (split_at xs i x e)

pub IsLegal-push : (n : ℕ) (history : List Entry) (c : Commit) → IsLegal n history → IsNext n history c → IsLegal n (history ++ Change c ∷ [])
IsLegal-push n history c legal next front back c' eq =
    splits_push (λ fr e. (d : Commit) → e ≡ Change d → IsNext n fr d) history (Change c)
    (λ fr bk e q d r. legal fr bk d (q ∙ ap (λ z. fr ++ z ∷ bk) r))
    (λ d r. let same : c ≡ d = cc in subst (λ z. IsNext n history z) same next)
    front back (Change c') eq c' refl

pub IsAllowed-push : (allowed : List ℕ → State → Writes → Type 0) (start : State) (history : List Entry) (c : Commit) → IsAllowed allowed start history
    → allowed c.tag (state_after start history) c.writes → IsAllowed allowed start (history ++ Change c ∷ [])
IsAllowed-push allowed start history c old new front back c' eq =
    splits_push (λ fr e. (d : Commit) → e ≡ Change d → allowed d.tag (state_after start fr) d.writes) history (Change c)
    (λ fr bk e q d r. old fr bk d (q ∙ ap (λ z. fr ++ z ∷ bk) r))
    (λ d r. let same : c ≡ d = cc in subst (λ z. allowed z.tag (state_after start history) z.writes) same new)
    front back (Change c') eq c' refl

-- a prefix of a legal history is legal
pub IsLegal-front : (n : ℕ) (xs ys : List Entry) → IsLegal n (xs ++ ys) → IsLegal n xs
IsLegal-front n xs ys legal front back c eq = legal front (back ++ ys) c (ap (λ zs. zs ++ ys) eq ∙ append_assoc front (Change c ∷ back) ys)

-- a prefix of an allowed history is allowed
pub IsAllowed-front : (allowed : List ℕ → State → Writes → Type 0) (start : State) (xs ys : List Entry) → IsAllowed allowed start (xs ++ ys)
    → IsAllowed allowed start xs
IsAllowed-front allowed start xs ys h front back c eq = h front (back ++ ys) c (ap (λ zs. zs ++ ys) eq ∙ append_assoc front (Change c ∷ back) ys)

-- among no entries none writes, and none is by a seat
pub NoneWrites-nil : (ws : Writes) (es : List Entry) → es ≡ [] → NoneWrites ws es
NoneWrites-nil ws es none = rw none (All-nil _)

pub NoneBy-nil : (seat : ℕ) (es : List Entry) → es ≡ [] → NoneBy seat es
NoneBy-nil seat es none = rw none (All-nil _)

-- the element behind a list is at its length
pub slice_get_at : {X : Type 0} (xs : List X) (x : X) (i : ℕ) → i ≡ length xs → slice_get (xs ++ x ∷ []) i ≡ Some x
slice_get_at [] x zero e = refl
slice_get_at [] x (suc i) e = absurd (omega arith)
slice_get_at (y ∷ xs) x zero e = absurd (omega arith)
slice_get_at (y ∷ xs) x (suc i) e = slice_get_at xs x i (omega arith)

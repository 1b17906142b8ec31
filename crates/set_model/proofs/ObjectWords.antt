-- The words of objects.
use Rattle.std.proofs.Common.{◌≡◌, ℕ, zero, suc, ◌<◌, List, [], ◌∷◌, length, get_or, refl, sym, ap, ◌∙◌, arith}
use Rattle.mv_history.specs.State.{State}
use Rattle.mv_history.specs.Meaning.{words_at}
use Rattle.set_model.specs.Objects.{owner, rank, inner_words, relink, revalue}

-- one word of an object
abbrev pub word : ℕ → List ℕ → ℕ
word i w = get_or w i 0

-- an object that has words is in range
pub in_range : (s : State) (o w : ℕ) (ws : List ℕ) → words_at s o ≡ w ∷ ws → o < length s
in_range [] o w ws e = cc
in_range (x ∷ s) zero w ws e = omega arith
in_range (x ∷ s) (suc o) w ws e = let h : o < length s = in_range s o w ws e in omega arith

pub owned_in_range : (s : State) (o head : ℕ) → owner s o ≡ suc head → o < length s
owned_in_range [] o head e = cc
owned_in_range (x ∷ s) zero head e = omega arith
owned_in_range (x ∷ s) (suc o) head e = let h : o < length s = owned_in_range s o head e in omega arith

-- an inner node that keeps its words keeps them with its rank
pub inner_kept : (s s' : State) (root key left right o : ℕ) → words_at s' o ≡ words_at s o → words_at s o ≡ inner_words root key left right (rank s o)
    → words_at s' o ≡ inner_words root key left right (rank s' o)
inner_kept s s' root key left right o e f = e ∙ f ∙ ap (λ r. inner_words root key left right r) (sym (ap (word 5) e))

-- what an object keeps whose link changes
pub owner-relink : (w : List ℕ) (to : ℕ) → word 0 (relink w to) ≡ word 0 w
owner-relink [] to = refl
owner-relink (a ∷ w) to = refl

pub kind-relink : (w : List ℕ) (to : ℕ) → word 1 (relink w to) ≡ word 1 w
kind-relink [] to = refl
kind-relink (a ∷ []) to = refl
kind-relink (a ∷ b ∷ w) to = refl

pub key-relink : (w : List ℕ) (to : ℕ) → word 2 (relink w to) ≡ word 2 w
key-relink [] to = refl
key-relink (a ∷ []) to = refl
key-relink (a ∷ b ∷ []) to = refl
key-relink (a ∷ b ∷ c ∷ w) to = refl

pub value-relink : (w : List ℕ) (to : ℕ) → word 5 (relink w to) ≡ word 5 w
value-relink [] to = refl
value-relink (a ∷ []) to = refl
value-relink (a ∷ b ∷ []) to = refl
value-relink (a ∷ b ∷ c ∷ []) to = refl
value-relink (a ∷ b ∷ c ∷ d ∷ w) to = refl

-- and whose value changes
pub owner-revalue : (w : List ℕ) (to : ℕ) → word 0 (revalue w to) ≡ word 0 w
owner-revalue [] to = refl
owner-revalue (a ∷ w) to = refl

pub kind-revalue : (w : List ℕ) (to : ℕ) → word 1 (revalue w to) ≡ word 1 w
kind-revalue [] to = refl
kind-revalue (a ∷ []) to = refl
kind-revalue (a ∷ b ∷ w) to = refl

pub key-revalue : (w : List ℕ) (to : ℕ) → word 2 (revalue w to) ≡ word 2 w
key-revalue [] to = refl
key-revalue (a ∷ []) to = refl
key-revalue (a ∷ b ∷ []) to = refl
key-revalue (a ∷ b ∷ c ∷ w) to = refl

-- A memory by the kinds of its words; and a word of a slot after one word of that kind was written.
use Rattle.std.proofs.Common.{◌≡◌, ◌≢◌, ℕ, ◌==◌, ◌&&◌, Bool, true, false, cond, refl, sym, ap, ◌∙◌, eq-eqb, eqb-true}
use Rattle.mv_core.proofs.Terms.{SharedWord, Clock, Grace, Mark, Head, Master, First, Stamp, Prev, Super, Data, Memory}

-- the memory of these words
abbrev pub of_parts : (clock grace : ℕ) (mark head : ℕ → ℕ) (master first stamp prev super : ℕ → ℕ → ℕ) (data_word : ℕ → ℕ → ℕ → ℕ) → Memory
of_parts clock grace mark head master first stamp prev super data_word Clock = clock
of_parts clock grace mark head master first stamp prev super data_word Grace = grace
of_parts clock grace mark head master first stamp prev super data_word (Mark s) = mark s
of_parts clock grace mark head master first stamp prev super data_word (Head o) = head o
of_parts clock grace mark head master first stamp prev super data_word (Master o w) = master o w
of_parts clock grace mark head master first stamp prev super data_word (First s k) = first s k
of_parts clock grace mark head master first stamp prev super data_word (Stamp s k) = stamp s k
of_parts clock grace mark head master first stamp prev super data_word (Prev s k) = prev s k
of_parts clock grace mark head master first stamp prev super data_word (Super s k) = super s k
of_parts clock grace mark head master first stamp prev super data_word (Data s k w) = data_word s k w

-- a memory by its parts
abbrev pub parts_of : Memory → Memory
parts_of m =
    of_parts (m Clock) (m Grace) (λ s. m (Mark s)) (λ o. m (Head o)) (λ o w. m (Master o w)) (λ s k. m (First s k)) (λ s k. m (Stamp s k))
    (λ s k. m (Prev s k)) (λ s k. m (Super s k)) (λ s k w. m (Data s k w))

same_part : (m : Memory) (p : SharedWord) → parts_of m p ≡ m p
same_part m Clock = refl
same_part m Grace = refl
same_part m (Mark s) = refl
same_part m (Head o) = refl
same_part m (Master o w) = refl
same_part m (First s k) = refl
same_part m (Stamp s k) = refl
same_part m (Prev s k) = refl
same_part m (Super s k) = refl
same_part m (Data s k w) = refl

pub parts_are : (m : Memory) → parts_of m ≡ m
parts_are m = λ i p. same_part m p i

-- the word of this slot is the new one
pub slot_word_here : (n k x y : ℕ) → cond ((n == n) && (k == k)) x y ≡ x
slot_word_here n k x y = (λ i. cond (eq-eqb n n refl i && (k == k)) x y) ∙ ap (λ b. cond b x y) (eq-eqb k k refl)

-- that of each other one is as it was
pub slot_word_else : (n k s j x y : ℕ) → ¬ ((s ≡ n) × (j ≡ k)) → cond ((n == s) && (k == j)) x y ≡ y
slot_word_else n k s j x y other = go (n == s) (k == j) refl refl
  where
    go : (a b : Bool) → (n == s) ≡ a → (k == j) ≡ b → cond (a && b) x y ≡ y
    go true true e f = absurd (other (sym (eqb-true n s e), sym (eqb-true k j f)))
    go true false e f = refl
    go false b e f = refl

-- the same of a data word
pub data_word_here : (n k w x y : ℕ) → cond ((n == n) && ((k == k) && (w == w))) x y ≡ x
data_word_here n k w x y = (λ i. cond (eq-eqb n n refl i && ((k == k) && (w == w))) x y) ∙ slot_word_here k w x y

pub data_word_else : (n k w s j i x y : ℕ) → ¬ ((s ≡ n) × (j ≡ k)) → cond ((n == s) && ((k == j) && (w == i))) x y ≡ y
data_word_else n k w s j i x y other = go (n == s) (k == j) (w == i) refl refl
  where
    go : (a b d : Bool) → (n == s) ≡ a → (k == j) ≡ b → cond (a && (b && d)) x y ≡ y
    go true true d e f = absurd (other (sym (eqb-true n s e), sym (eqb-true k j f)))
    go true false d e f = refl
    go false b d e f = refl

-- another data word of the same slot is as it was
pub data_word_other : (n k w i x y : ℕ) → i ≢ w → cond ((n == n) && ((k == k) && (w == i))) x y ≡ y
data_word_other n k w i x y other = go (n == n) (k == k) (w == i) refl
  where
    go : (a b d : Bool) → (w == i) ≡ d → cond (a && (b && d)) x y ≡ y
    go a b true e = absurd (other (sym (eqb-true w i e)))
    go true true false e = refl
    go true false false e = refl
    go false b false e = refl

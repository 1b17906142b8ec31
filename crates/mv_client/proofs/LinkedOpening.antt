-- Objects that open in the order of their numbers are a ring.
use Rattle.std.proofs.Common.{◌≡◌, ℕ, zero, suc, ◌+◌, ◌<◌, ◌≤◌, List, [], ◌∷◌, length, get_or, map, refl, sym, ap, ◌∙◌, inl, inr, arith}
use Rattle.std.proofs.lemmas.Bool.{cases_lt}
use Rattle.std.proofs.lemmas.List.{length-map}
use Rattle.mv_history.specs.State.{State}
use Rattle.mv_history.specs.Meaning.{words_at}
use Rattle.mv_client.specs.Linked.{IsRing, links_from}

link_on : (n a o : ℕ) → o < n → get_or (links_from n a) o 0 ≡ a + o + 1
link_on zero a o l = absurd (omega arith)
link_on (suc n) a zero l = omega arith
link_on (suc n) a (suc o) l = let e = link_on n (suc a) o (omega arith) in omega (arith, e)

link_back : (n a : ℕ) → get_or (links_from n a) n 0 ≡ 0
link_back zero a = refl
link_back (suc n) a = link_back n (suc a)

length-links : (n a : ℕ) → length (links_from n a) ≡ n + 1
length-links zero a = refl
length-links (suc n) a = let e = length-links n (suc a) in omega (arith, e)

-- Where `link` is what the words of an object say of it, and the objects of a state lead each to the next one, they are a ring.
module _ (link : List ℕ → ℕ) (none : link [] ≡ 0) (s : State) (n : ℕ) (is : map link s ≡ links_from n 0) where
  at_place : (s : State) (o : ℕ) → link (words_at s o) ≡ get_or (map link s) o 0
  at_place [] o = none
  at_place (w ∷ s) zero = refl
  at_place (w ∷ s) (suc o) = at_place s o

  pub length-opened : length s ≡ n + 1
  length-opened = sym (length-map s link) ∙ ap length is ∙ length-links n 0

  pub ring_opened : (heads : ℕ) → 0 < heads → heads ≤ n + 1 → IsRing heads (n + 1) (λ o. link (words_at s o)) (λ o. o)
  ring_opened heads some few =
      let at : (o : ℕ) → link (words_at s o) ≡ get_or (links_from n 0) o 0 = λ o. at_place s o ∙ ap (λ (l : List ℕ). get_or l o 0) is in
      record {
        some = some;
        few = few;
        first = refl;
        below = λ o l. l;
        own = λ a b la lb e. e;
        follows = λ o l. elim (cases_lt o n) [
          | inl m ↦ let e = at o ∙ link_on n 0 o m in inr (omega (arith, e, m), omega (arith, e))
          | inr ge ↦
              let last : o ≡ n = omega (arith, l, ge) in
              inl (at o ∙ ap (λ k. get_or (links_from n 0) k 0) last ∙ link_back n 0, omega (arith, last))
        ];
      }

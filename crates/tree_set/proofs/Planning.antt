-- What the writes of a descent are in the state of a section.
use Rattle.std.proofs.Common.{◌≡◌, ◌≢◌, ℕ, Bool, true, false, eqb, eq-eqb, eqb-true, ◌==◌, if◌then◌else◌, List, [], ◌∷◌, sym, ap, ◌∙◌, subst, true≢false}
use Rattle.mv_history.specs.State.{State, Writes}
use Rattle.mv_history.specs.Legal.{AreWithin}
use Rattle.mv_history.specs.Meaning.{words_at}
use Rattle.set_model.specs.Objects.{no_words}
use Rattle.set_model.proofs.ObjectWords.{word}
use Rattle.tree_set.specs.Places.{redirect, sibling, bare_writes, tree_del_writes}
use Rattle.tree_set.specs.Walks.{IsDescent}
use Rattle.tree_set.specs.Descents.{HasWords, EndsHere}
use Rattle.tree_set.specs.declared.search.Descent.{Descent}

-- whether the leaf has the key, by the test of it
pub key_is : (k j : ℕ) (b : Bool) → b ≡ eqb j k → b ≡ true → j ≡ k
key_is k j b e t = eqb-true j k (sym e ∙ t)

pub key_not : (k j : ℕ) (b : Bool) → b ≡ eqb j k → b ≡ false → j ≢ k
key_not k j b e f q = true≢false (sym (eq-eqb j k q) ∙ sym e ∙ f)

-- where a search ended in one state it ended in the same one
pub ends_in : (s t : State) (root k : ℕ) (descent : Descent) → s ≡ t → IsDescent s root k descent.grand descent.parent descent.leaf descent.right descent.words
    → HasWords s descent →
    EndsHere t root k descent
ends_in s t root k descent same f w = subst (λ (u : State). EndsHere u root k descent) same (record { ends = f; words = w })

-- The words that the code makes are those of the places.
pub bare_here : (s : State) (root k g p l r : ℕ) (words : List ℕ) → IsDescent s root k g p l r words →
    ((root, no_words) ∷ (l, no_words) ∷ []) ≡ bare_writes s root l
bare_here s root k g p l r words f = let q = f.grown.first in cc

pub cut_here : (s : State) (g p l sib : ℕ) (grand_words grand_read parent_read : List ℕ) → grand_read ≡ words_at s g → parent_read ≡ words_at s p →
    sib ≡ (if word 3 parent_read == l then word 4 parent_read else word 3 parent_read) → grand_words ≡ redirect grand_read p sib →
    ((g, grand_words) ∷ (p, no_words) ∷ (l, no_words) ∷ []) ≡ tree_del_writes s g p l
cut_here s g p l sib grand_words grand_read parent_read a b c d =
    let sib_is : sib ≡ sibling s p l = c ∙ ap (λ (w : List ℕ). if word 3 w == l then word 4 w else word 3 w) b in
    let grand_is : grand_words ≡ redirect (words_at s g) p (sibling s p l) = d ∙ ap (λ (u : List ℕ). redirect u p sib) a ∙
    ap (redirect (words_at s g) p) sib_is in cc

-- other writes that are the same are of objects in range
pub within_as : (ws vs : Writes) (n : ℕ) → ws ≡ vs → AreWithin vs n → AreWithin ws n
within_as ws vs n e w = subst (λ (u : Writes). AreWithin u n) (sym e) w

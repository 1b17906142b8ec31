-- The steps that are made are those whose words were read.
use Rattle.std.proofs.Common.{◌≡◌, ℕ, ◌+◌, ◌≤◌, ◌⊎◌, inl, inr, true, List, [], ◌∷◌, length, set, refl, sym, ap, ◌∙◌, arith}
use Rattle.mv_history.specs.State.{State, Writes, written}
use Rattle.mv_history.specs.Legal.{are_distinct}
use Rattle.mv_history.specs.Meaning.{words_at}
use Rattle.section_work.specs.Held.{count_unheld}
use Rattle.set_model.specs.Objects.{link}
use Rattle.set_model.proofs.ObjectWords.{word}
use Rattle.tree_set.specs.Places.{IsInner, IsChild, IsParent, redirect}
use Rattle.tree_balance.specs.Steps.{HasInner, lowered, raised}
use Rattle.tree_balance.specs.Drafts.{merged, Extends}
use Rattle.tree_balance.proofs.Drafting.{extends_rank, extends_rotate}

inner_of : (s : State) (root o : ℕ) (words : List ℕ) → words ≡ words_at s o → HasInner root o words → IsInner s root o
inner_of s root o words e h = (h.0, ap (word 0) (sym e) ∙ h.1, ap (word 1) (sym e) ∙ h.2)

child_of : (s : State) (o child : ℕ) (words : List ℕ) → words ≡ words_at s o → (word 3 words ≡ child) ⊎ (word 4 words ≡ child) → IsChild s o child
child_of s o child words e (inl f) = inl (ap (word 3) (sym e) ∙ f)
child_of s o child words e (inr f) = inr (ap (word 4) (sym e) ∙ f)

parent_of_words : (s : State) (root o child : ℕ) (words : List ℕ) → words ≡ words_at s o
    → ((o ≡ root) × (word 3 words ≡ child)) ⊎ (HasInner root o words × ((word 3 words ≡ child) ⊎ (word 4 words ≡ child))) → IsParent s root o child
parent_of_words s root o child words e (inl (q, f)) = inl (q, ap (link s) (sym q) ∙ ap (word 3) (sym e) ∙ f)
parent_of_words s root o child words e (inr (h, f)) = inr (inner_of s root o words e h, child_of s o child words e f)

pub rank_made : (s : State) (root limit n r held : ℕ) (words : List ℕ) (ws vs : Writes) → are_distinct ws ≡ true → words ≡ words_at (written s ws) n
    → HasInner root n words → held ≡ count_unheld ws (n ∷ []) → (count : ℕ) → count ≡ length ws → count + held ≤ limit
    → vs ≡ merged ws ((n, set words 5 r) ∷ []) → Extends s root limit ws vs
rank_made s root limit n r held words ws vs d here inner h count c room e =
    extends_rank s root limit n r words (set words 5 r) ws vs d here (inner_of (written s ws) root n words here inner) refl (omega arith) e

pub rotate_made : (s t u : State) (root limit g p c : ℕ) (gw pw cw : List ℕ) (ws vs : Writes) → t ≡ s → u ≡ s → are_distinct ws ≡ true
    → gw ≡ words_at (written s ws) g → pw ≡ words_at (written t ws) p → cw ≡ words_at (written u ws) c
    → ((g ≡ root) × (word 3 gw ≡ p)) ⊎ (HasInner root g gw × ((word 3 gw ≡ p) ⊎ (word 4 gw ≡ p))) → HasInner root p pw
    → (word 3 pw ≡ c) ⊎ (word 4 pw ≡ c) → HasInner root c cw → (count hg hp hc : ℕ) → count ≡ length ws → hg ≡ count_unheld ws (g ∷ [])
    → hp ≡ count_unheld ws (p ∷ []) → hc ≡ count_unheld ws (c ∷ []) → count + (hg + hp + hc) ≤ limit → (led low high : List ℕ) → led ≡ redirect gw p c
    → low ≡ lowered pw c cw → high ≡ raised pw p c cw → vs ≡ merged ws ((g, led) ∷ (p, low) ∷ (c, high) ∷ []) → Extends s root limit ws vs
rotate_made s t u root limit g p c gw pw cw ws vs st su d eg ep0 ec0 parent p_inner child c_inner count hg hp hc cl hgl hpl hcl room led low high a b f e =
    let ep : pw ≡ words_at (written s ws) p = ep0 ∙ ap (λ (x : State). words_at (written x ws) p) st in
    let ec : cw ≡ words_at (written s ws) c = ec0 ∙ ap (λ (x : State). words_at (written x ws) c) su in
    extends_rotate s root limit g p c gw pw cw ws vs d eg ep ec (
      parent_of_words (written s ws) root g p gw eg parent,
      inner_of (written s ws) root p pw ep p_inner,
      child_of (written s ws) p c pw ep child,
      inner_of (written s ws) root c cw ec c_inner,
    ) (omega arith) (e ∙ cc)

-- An add and the steps after it are an add.
use Rattle.std.proofs.Common.{◌≡◌, ◌≢◌, ℕ, suc, ◌^◌, ◌<◌, ◌≤◌, ◌⊎◌, inl, inr, Bool, true, false, ◌||◌, [], length, refl, sym, ap, ◌∙◌, subst, arith}
use Rattle.std.proofs.lemmas.Bool.{cases_eq}
use Rattle.std.proofs.lemmas.List.{set-get_or}
use Rattle.mv_history.specs.State.{State, Writes, written, touches}
use Rattle.mv_history.specs.Meaning.{words_at}
use Rattle.mv_history.proofs.Writing.{length-written}
use Rattle.set_model.specs.Catalogue.{Map, map_of, put}
use Rattle.set_model.specs.CatalogueOf.{name_of, map_in, catalogue_of}
use Rattle.set_model.specs.Objects.{owner}
use Rattle.set_model.specs.Trees.{HoldsTree, EndsAt}
use Rattle.set_model.specs.Lawful.{IsLawful}
use Rattle.set_model.proofs.ObjectWords.{word}
use Rattle.set_model.proofs.Frames.{IsOf, IsWithin, ends_stay}
use Rattle.set_model.proofs.Heads.{name_bound}
use Rattle.set_model.proofs.Mapped.{catalogue_set}
use Rattle.set_model.proofs.NameMaps.{map_in-alone}
use Rattle.set_model.proofs.FrameMaps.{map_in-within}
use Rattle.set_model.proofs.TreeMaps.{map_at-tree, map_of-tree}
use Rattle.set_model.proofs.Halves.{Half}
use Rattle.set_model.proofs.Ways.{IsVacant, Lacks}
use Rattle.tree_set.specs.Paths.{plug}
use Rattle.tree_set.specs.Places.{IsGrowPlace, grow_writes}
use Rattle.tree_set.proofs.Growing.{sprout, grown_more}
use Rattle.tree_set.proofs.GrowFit.{grow_site, grow_sprouts, grow_half}
use Rattle.tree_balance.specs.Steps.{names}
use Rattle.tree_balance.specs.Drafts.{IsDraft}
use Rattle.tree_balance.proofs.Reshaping.{Rebalances, rebalances_within, rebalances_lawful, rebalances_ends}
use Rattle.tree_balance.proofs.Stepping.{steps_rebalance}

module _ (s1 s2 : State) (root : ℕ) (lo : 170 ≤ root) (lt : root < 180) (r : Rebalances s1 s2 root) where
  same_map : map_in s2 (name_of root) ≡ map_of (name_of root) (catalogue_of s1)
  same_map =
      map_in-alone s2 root (inr lo) ∙ map_at-tree s2 root r.next r.grows ∙ r.entries ∙ sym (map_of-tree s1 root r.tree lo lt r.grown)

  -- The catalogue is the same.
  pub rebalances_catalogue : catalogue_of s2 ≡ catalogue_of s1
  rebalances_catalogue =
      catalogue_set s1 s2 (name_of root) (map_of (name_of root) (catalogue_of s1)) (name_bound root lt)
      (λ n ne. map_in-within s1 s2 root n lt r.len (rebalances_within s1 s2 root r) ne) same_map ∙ set-get_or (catalogue_of s1) (name_of root) []

  module _ (s : State) (gw ws : Writes) (Fits : Map → Type 0) (change : Map → Map) (h : Half s s1 gw root Fits change)
      (covers : (o : ℕ) → touches ws o ≡ false → touches gw o ≡ false) where
    of_still : (o : ℕ) → owner s2 o ≡ owner s1 o → IsOf s1 root o → IsOf s2 root o
    of_still o e (inl z) = inl (e ∙ z)
    of_still o e (inr z) = inr (e ∙ z)

    both_within : IsWithin s s2 root
    both_within o = go (h.within o) (r.within o)
      where
        go : (words_at s1 o ≡ words_at s o) ⊎ ((o ≡ root) ⊎ ((180 ≤ o) × IsOf s root o × IsOf s1 root o))
            → (words_at s2 o ≡ words_at s1 o) ⊎ ((o ≡ root) ⊎ ((180 ≤ o) × (owner s1 o ≡ suc root)))
            → (words_at s2 o ≡ words_at s o) ⊎ ((o ≡ root) ⊎ ((180 ≤ o) × IsOf s root o × IsOf s2 root o))
        go (inl e) (inl f) = inl (f ∙ e)
        go (inl e) (inr (inl q)) = inr (inl q)
        go (inl e) (inr (inr i)) = inr (inr (i.0, inr (sym (ap (word 0) e) ∙ i.1), inr (r.keeps o 0 (omega arith) ∙ i.1)))
        go (inr (inl q)) _ = inr (inl q)
        go (inr (inr i)) _ = inr (inr (i.0, i.1, of_still o (r.keeps o 0 (omega arith)) i.2))

    both_ends : (g k l : ℕ) → g < 180 → EndsAt s1 g k l → (g ≡ root) ⊎ (g ≢ root) → EndsAt s2 g k l
    both_ends g k l g1 e (inl q) =
        subst (λ (u : ℕ). EndsAt s2 u k l) (sym q) (rebalances_ends s1 s2 root k l r (subst (λ (u : ℕ). EndsAt s1 u k l) q e))
    both_ends g k l g1 e (inr ne) = ends_stay s1 s2 root g k l lt (rebalances_within s1 s2 root r) ne g1 e

    -- A change after which the tree is rebalanced does the same.
    pub half_after : Half s s2 ws root Fits change
    half_after = record {
      within = both_within;
      keeps = record {
        lawful_before = h.keeps.lawful_before;
        lawful_after = rebalances_lawful s1 s2 root lo lt h.keeps.lawful_after r;
        keys = λ o some same. (let x = h.keeps.keys o some (sym (r.keeps o 0 (omega arith)) ∙ same) in (
          r.keeps o 1 (omega arith) ∙ x.0,
          r.keeps o 2 (omega arith) ∙ x.1,
        ));
        ends = λ g k l g0 g1 e out. both_ends g k l g1 (h.keeps.ends g k l g0 g1 e (covers l out)) (cases_eq g root);
      };
      fits = h.fits;
      leaves = rebalances_catalogue ∙ h.leaves;
    }

covered : (a b : Bool) → a || b ≡ false → a ≡ false
covered true b e = e
covered false b e = refl

-- What an add and steps after it write does what the add does.
pub balanced_half : (s : State) (root k v p l m w : ℕ) (ws : Writes) → IsLawful s → 170 ≤ root → root < 180 → k < 2 ^ 32 → IsGrowPlace s root k p l
    → IsVacant s m → IsVacant s w → m ≢ w → IsDraft s root (grow_writes s root k v p l m w) ws → Half s (written s ws) ws root (Lacks k) (put k v)
balanced_half s root k v p l m w ws law lo lt fits place vm vw ne d =
    half_after (written s (grow_writes s root k v p l m w)) (written s ws) root lo lt steps s (grow_writes s root k v p l m w) ws (Lacks k) (put k v)
    (grow_half s root k v p l m w law lo lt fits place vm vw ne)
    (λ o out. covered (touches (grow_writes s root k v p l m w) o) (names d.steps o) (sym (d.named o) ∙ out))
  where
    some : 180 < length (written s (grow_writes s root k v p l m w))
    some = subst (λ (n : ℕ). 180 < n) (sym (length-written s (grow_writes s root k v p l m w))) law.some

    steps : Rebalances (written s (grow_writes s root k v p l m w)) (written s ws) root
    steps =
        let r = grow_site s root k p l m w fits place vm vw ne in
        let grown : HoldsTree (written s (grow_writes s root k v p l m w)) root (plug r.2 (sprout k v m w l r.0 r.1)) =
        grown_more s (written s (grow_writes s root k v p l m w)) root k v p l m w r.0 r.1 r.2 lt r.3
        (grow_sprouts s root k v p l m w r.0 r.1 r.2 law lt r.3) in
        subst (λ (u : State). Rebalances (written s (grow_writes s root k v p l m w)) u root) (sym d.leaves)
        (steps_rebalance (written s (grow_writes s root k v p l m w)) root d.steps (plug r.2 (sprout k v m w l r.0 r.1)) lt some grown d.fits)

-- A change within a root, after which a tree stands there, changes the map of its name alone.
use Rattle.std.proofs.Common.{◌≡◌, ◌≢◌, ℕ, ◌<◌, ◌≤◌, ◌⊎◌, inl, inr, false, [], sym, ap, ◌∙◌, subst, Option, Some, None}
use Rattle.std.proofs.lemmas.Bool.{cases_eq}
use Rattle.mv_history.specs.State.{State, Writes, written, touches}
use Rattle.mv_history.proofs.Writing.{length-written}
use Rattle.set_model.specs.Catalogue.{Map, map_of}
use Rattle.set_model.specs.CatalogueOf.{name_of, map_in, map_at, catalogue_of}
use Rattle.set_model.specs.Objects.{owner, kind, key}
use Rattle.set_model.specs.Trees.{Tree, entries_in, IsTree, EndsAt}
use Rattle.set_model.specs.Lawful.{IsLawful}
use Rattle.set_model.proofs.Frames.{IsWithin, ends_stay, lawful_by_tree}
use Rattle.set_model.proofs.Heads.{name_bound}
use Rattle.set_model.proofs.Mapped.{catalogue_set}
use Rattle.set_model.proofs.NameMaps.{map_in-alone}
use Rattle.set_model.proofs.FrameMaps.{map_in-within}
use Rattle.set_model.proofs.TreeMaps.{map_at-tree, map_at-empty, map_of-tree, map_of-empty}
use Rattle.set_model.proofs.Halves.{Half}

-- the entries of the tree of a root, if it has one
abbrev pub entries_at : Option Tree → Map
entries_at None = []
entries_at (Some t) = entries_in t

map_at-entries : (s : State) (root : ℕ) (t : Option Tree) → IsTree s root t → map_at s root ≡ entries_at t
map_at-entries s root None q = map_at-empty s root q
map_at-entries s root (Some t) q = map_at-tree s root t q

pub map_of-entries : (s : State) (root : ℕ) (t : Option Tree) → 170 ≤ root → root < 180 → IsTree s root t
    → map_of (name_of root) (catalogue_of s) ≡ entries_at t
map_of-entries s root None lo lt q = map_of-empty s root lo lt q
map_of-entries s root (Some t) lo lt q = map_of-tree s root t lo lt q

-- what the objects of a change keep, and where the searches in its tree end
pub record TreeKeeps (s s' : State) (root : ℕ) (ws : Writes) : Type 0 where
  pub within : IsWithin s s' root
  pub keys : (o : ℕ) → owner s o ≢ 0 → owner s' o ≡ owner s o → (kind s' o ≡ kind s o) × (key s' o ≡ key s o)
  pub ends : (k l : ℕ) → EndsAt s root k l → touches ws l ≡ false → EndsAt s' root k l

pub tree_half : (s : State) (ws : Writes) (root : ℕ) (Fits : Map → Type 0) (change : Map → Map) (t u : Option Tree) → IsLawful s → 170 ≤ root → root < 180
    → IsTree s root t → IsTree (written s ws) root u → TreeKeeps s (written s ws) root ws → Fits (entries_at t) → entries_at u ≡ change (entries_at t)
    → Half s (written s ws) ws root Fits change
tree_half s ws root Fits change t u l lo lt old new keeps fits leaves = record {
  within = keeps.within;
  keeps = record {
    lawful_before = l;
    lawful_after = lawful_by_tree s (written s ws) root u lo lt (length-written s ws) keeps.within l new;
    keys = keeps.keys;
    ends = λ g k n g0 g1 e out. ends g k n g1 e out (cases_eq g root);
  };
  fits = subst Fits (sym before) fits;
  leaves = catalogue_set s (written s ws) (name_of root) (change (map_of (name_of root) (catalogue_of s))) (name_bound root lt)
      (λ name n. map_in-within s (written s ws) root name lt (length-written s ws) keeps.within n) after;
}
  where
    before : map_of (name_of root) (catalogue_of s) ≡ entries_at t
    before = map_of-entries s root t lo lt old

    after : map_in (written s ws) (name_of root) ≡ change (map_of (name_of root) (catalogue_of s))
    after =
        map_in-alone (written s ws) root (inr lo) ∙ map_at-entries (written s ws) root u new ∙ leaves ∙ ap change (sym before)

    ends : (g k n : ℕ) → g < 180 → EndsAt s g k n → touches ws n ≡ false → (g ≡ root) ⊎ (g ≢ root) → EndsAt (written s ws) g k n
    ends g k n lg e out (inr ne) = ends_stay s (written s ws) root g k n lt keeps.within ne lg e
    ends g k n lg e out (inl q) =
        subst (λ (r : ℕ). EndsAt (written s ws) r k n) (sym q) (keeps.ends k n (subst (λ (r : ℕ). EndsAt s r k n) q e) out)

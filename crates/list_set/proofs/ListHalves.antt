-- What an add, a del and a put of a list or a bucket do, and that the place of an add stays.
use Rattle.std.proofs.Common.{◌≡◌, ◌≢◌, ℕ, suc, ◌<◌, ◌≤◌, ◌⊎◌, inl, inr, false, [], ◌∷◌, ◌++◌, length, sym, ap, ◌∙◌, subst, arith, Some}
use Rattle.std.proofs.lemmas.Bool.{cases_eq}
use Rattle.mv_history.specs.State.{State, Writes, written, touches}
use Rattle.mv_history.specs.Meaning.{words_at}
use Rattle.set_model.specs.Catalogue.{map_of, has_key, value_of, put, take_out}
use Rattle.set_model.specs.CatalogueOf.{name_of, map_at, catalogue_of}
use Rattle.set_model.specs.Objects.{owner, kind, key, link, value, relink, revalue}
use Rattle.set_model.specs.Trees.{EndsAt}
use Rattle.set_model.specs.Lists.{Nodes, first_of, FitsHead, Links, IsList}
use Rattle.set_model.specs.Lawful.{IsLawful}
use Rattle.set_model.proofs.ObjectWords.{word, kind-relink, key-relink, kind-revalue, key-revalue}
use Rattle.set_model.proofs.Chains.{Links-right}
use Rattle.set_model.proofs.Frames.{IsWithin, ends_stay}
use Rattle.set_model.proofs.MapLemmas.{has_key-some}
use Rattle.set_model.proofs.Entries.{has_entry-other}
use Rattle.set_model.proofs.Mapped.{map_of-catalogue_of}
use Rattle.set_model.proofs.Heads.{name_bound, owned_fits}
use Rattle.set_model.proofs.ListMaps.{node_value}
use Rattle.set_model.proofs.NameMaps.{map_of-value}
use Rattle.set_model.proofs.Halves.{KeepsOf, Half}
use Rattle.set_model.proofs.Ways.{Has, Lacks, HasOther}
use Rattle.list_set.specs.Places.{IsInList, IsAddPlace, add_writes, IsDelPlace, del_writes, IsPutPlace, put_writes}
use Rattle.list_set.proofs.Changes.{Added, Taken}
use Rattle.list_set.proofs.Parts.{part_at, whole_list, place_in_range, place_not_vacant}
use Rattle.list_set.proofs.Adding.{add_writes_do, added_within, add_lawful, add_absent, add_catalogue}
use Rattle.list_set.proofs.Removing.{Removal, removal, del_writes_do, taken_within, del_catalogue}
use Rattle.list_set.proofs.Putting.{Revalued, put_writes_do, put_within, put_in_range, put_lawful, put_catalogue}

-- behind an object of the list is nothing, or another one of its nodes
next_owner : (s : State) (head p : ℕ) → IsLawful s → head < 170 → IsInList s head p → (link s p ≡ 0) ⊎ ((180 ≤ link s p) × (owner s (link s p) ≡ suc head))
next_owner s head p l lh i =
    let m = l.lists head lh in
    let r = part_at s head p m.0 m.1 i in
    go r.0 r.1 (whole_list s head m.0 (r.0 ++ r.1) r.2.whole m.1) r.2.leads
  where
    go : (fs bs : Nodes) → IsList s head (fs ++ bs) → link s p ≡ first_of bs → (link s p ≡ 0) ⊎ ((180 ≤ link s p) × (owner s (link s p) ≡ suc head))
    go fs [] w e = inl e
    go fs (b ∷ bs) w e =
        let lk : Links s head (b ∷ bs) = Links-right s head fs (b ∷ bs) w.links in
        let lo : 180 ≤ b.object = lk.0 in
        inr (omega arith, ap (owner s) e ∙ ap (word 0) lk.2)

pub still_in : (s s' : State) (head p : ℕ) → words_at s' p ≡ words_at s p → IsInList s head p → IsInList s' head p
still_in s s' head p e (inl q) = inl q
still_in s s' head p e (inr g) = inr (g.0, ap (word 0) e ∙ g.1)

-- The place of an add stays where others leave its predecessor, since the node behind keeps its key.
pub add_place_stays : (s s' : State) (ws : Writes) (head k p : ℕ) → head < 170 → KeepsOf head s s' ws → words_at s' p ≡ words_at s p → IsAddPlace s head k p
    → IsAddPlace s' head k p
add_place_stays s s' ws head k p lh keeps e a = record {
  within = still_in s s' head p e a.within;
  below = elim a.below [ inl z ↦ inl z | inr lt ↦ (let f : key s' p ≡ key s p = ap (word 2) e in inr (omega arith)) ];
  above = above a.above (next_owner s head p keeps.before lh a.within) (next_owner s' head p keeps.after lh (still_in s s' head p e a.within));
}
  where
    same : link s' p ≡ link s p
    same = ap (word 3) e

    above : (link s p ≡ 0) ⊎ (k < key s (link s p)) → (link s p ≡ 0) ⊎ ((180 ≤ link s p) × (owner s (link s p) ≡ suc head))
        → (link s' p ≡ 0) ⊎ ((180 ≤ link s' p) × (owner s' (link s' p) ≡ suc head)) → (link s' p ≡ 0) ⊎ (k < key s' (link s' p))
    above (inl z) _ _ = inl (same ∙ z)
    above (inr lt) (inl z) _ = inl (same ∙ z)
    above (inr lt) (inr g) (inl z) = inl z
    above (inr lt) (inr g) (inr m) =
        let q : key s' (link s p) ≡ key s (link s p) = (keeps.keys (link s p) g.0 g.1 (ap (owner s') (sym same) ∙ m.1)).1 in
        let f : key s' (link s' p) ≡ key s' (link s p) = ap (key s') same in inr (omega arith)

-- a change within a list leaves every search of every tree
ends_elsewhere : (s s' : State) (ws : Writes) (head : ℕ) → head < 170 → IsWithin s s' head → (r k l : ℕ) → 170 ≤ r → r < 180 → EndsAt s r k l
    → touches ws l ≡ false → EndsAt s' r k l
ends_elsewhere s s' ws head lh w r k l r0 r1 e out = ends_stay s s' head r k l (omega arith) w (omega arith) r1 e

-- What an add does.
pub add_half : (s : State) (head k v p n : ℕ) → IsLawful s → head < 170 → FitsHead head k → IsAddPlace s head k p → 180 ≤ n → n < length s → owner s n ≡ 0
    → Half s (written s (add_writes s head k v p n)) (add_writes s head k v p n) head (Lacks k) (put k v)
add_half s head k v p n l lh fit a ln lr vac =
    let s' : State = written s (add_writes s head k v p n) in
    let c : Added s s' head p (record { object = n; key = k; value = v }) (link s p) =
    add_writes_do s head p (record { object = n; key = k; value = v }) (place_in_range s head p l lh a.within) lr
    (place_not_vacant s head p n (omega arith) a.within ln vac) in
    let w : IsWithin s s' head = added_within s s' head p (record { object = n; key = k; value = v }) (link s p) c a.within ln vac in
    record {
      within = w;
      keeps = record {
        lawful_before = l;
        lawful_after = add_lawful s head k v p n l lh fit a ln lr vac;
        keys = λ o some same. keys s' c o some (cases_eq o p) (cases_eq o n);
        ends = λ r j e r0 r1. ends_elsewhere s s' (add_writes s head k v p n) head lh w r j e r0 r1;
      };
      fits = ap (has_key k) (map_of-catalogue_of s (name_of head) (name_bound head (omega arith))) ∙ add_absent s head k p l lh fit a;
      leaves = add_catalogue s head k v p n l lh fit a ln lr vac;
    }
  where
    keys : (s' : State) → Added s s' head p (record { object = n; key = k; value = v }) (link s p) → (o : ℕ) → owner s o ≢ 0 → (o ≡ p) ⊎ (o ≢ p)
        → (o ≡ n) ⊎ (o ≢ n) → (kind s' o ≡ kind s o) × (key s' o ≡ key s o)
    keys s' c o some (inl e) _ =
        let f : words_at s' o ≡ relink (words_at s o) n = ap (words_at s') e ∙ c.before ∙ ap (λ u. relink (words_at s u) n) (sym e) in
        (ap (word 1) f ∙ kind-relink (words_at s o) n, ap (word 2) f ∙ key-relink (words_at s o) n)
    keys s' c o some (inr a) (inl e) = absurd (some (ap (owner s) e ∙ vac))
    keys s' c o some (inr a) (inr b) = let f = c.others o a b in (ap (word 1) f, ap (word 2) f)

-- a node's value in the map of the list's name
pub node_has : (s : State) (head k n : ℕ) → IsLawful s → head < 170 → 180 ≤ n → owner s n ≡ suc head → key s n ≡ k
    → value_of k (map_of (name_of head) (catalogue_of s)) ≡ Some (value s n)
node_has s head k n l lh lo own has =
    let fit : FitsHead head k = subst (λ j. FitsHead head j) has (owned_fits s head n l lh lo own) in
    map_of-value s head k l lh fit ∙ ap (λ j. value_of j (map_at s head)) (sym has) ∙ node_value s head n l lh lo own

-- What a del does.
pub del_half : (s : State) (head k v p n : ℕ) → IsLawful s → head < 170 → IsDelPlace s head k p n → value s n ≡ v
    → Half s (written s (del_writes s p n)) (del_writes s p n) head (Has k v) (take_out k)
del_half s head k v p n l lh d val =
    let m : Removal s head k p n = removal s head k p n l lh d in
    let s' : State = written s (del_writes s p n) in
    let c : Taken s s' p n (link s n) = del_writes_do s p n m.previous_in m.node_in m.apart in
    let w : IsWithin s s' head = taken_within s s' head p n (link s n) c d.within m.node m.own in
    record {
      within = w;
      keeps = record {
        lawful_before = l;
        lawful_after = m.lawful;
        keys = λ o some same. keys s' c o some same (cases_eq o p) (cases_eq o n);
        ends = λ r j e r0 r1. ends_elsewhere s s' (del_writes s p n) head lh w r j e r0 r1;
      };
      fits = node_has s head k n l lh m.node m.own d.has ∙ ap Some val;
      leaves = del_catalogue s head k p n l lh d;
    }
  where
    keys : (s' : State) → Taken s s' p n (link s n) → (o : ℕ) → owner s o ≢ 0 → owner s' o ≡ owner s o → (o ≡ p) ⊎ (o ≢ p) → (o ≡ n) ⊎ (o ≢ n)
        → (kind s' o ≡ kind s o) × (key s' o ≡ key s o)
    keys s' c o some same (inl e) _ =
        let f : words_at s' o ≡ relink (words_at s o) (link s n) = ap (words_at s') e ∙ c.before ∙ ap (λ u. relink (words_at s u) (link s n)) (sym e) in
        (ap (word 1) f ∙ kind-relink (words_at s o) (link s n), ap (word 2) f ∙ key-relink (words_at s o) (link s n))
    keys s' c o some same (inr a) (inl e) = absurd (some (sym same ∙ ap (owner s') e ∙ ap (word 0) c.gone))
    keys s' c o some same (inr a) (inr b) = let f = c.others o a b in (ap (word 1) f, ap (word 2) f)

-- What a put of a key that is there does.
pub put_half : (s : State) (head k v n : ℕ) → IsLawful s → head < 170 → IsPutPlace s head k n → value s n ≢ v
    → Half s (written s (put_writes s n v)) (put_writes s n v) head (HasOther k v) (put k v)
put_half s head k v n l lh p ne =
    let s' : State = written s (put_writes s n v) in
    let c : Revalued s s' n v = put_writes_do s n v (put_in_range s head k n p) in
    let has : value_of k (map_of (name_of head) (catalogue_of s)) ≡ Some (value s n) = node_has s head k n l lh p.is_node p.own p.has in
    let w : IsWithin s s' head = put_within s s' head n v p.is_node p.own c in
    record {
      within = w;
      keeps = record {
        lawful_before = l;
        lawful_after = put_lawful s head k v n l lh p;
        keys = λ o some same. keys s' c o (cases_eq o n);
        ends = λ r j e r0 r1. ends_elsewhere s s' (put_writes s n v) head lh w r j e r0 r1;
      };
      fits = (
        has_key-some k (value s n) (map_of (name_of head) (catalogue_of s)) has,
        has_entry-other k (value s n) v (map_of (name_of head) (catalogue_of s)) has ne,
      );
      leaves = put_catalogue s head k v n l lh p;
    }
  where
    keys : (s' : State) → Revalued s s' n v → (o : ℕ) → (o ≡ n) ⊎ (o ≢ n) → (kind s' o ≡ kind s o) × (key s' o ≡ key s o)
    keys s' c o (inl e) =
        let f : words_at s' o ≡ revalue (words_at s o) v = ap (words_at s') e ∙ c.here ∙ ap (λ u. revalue (words_at s u) v) (sym e) in
        (ap (word 1) f ∙ kind-revalue (words_at s o) v, ap (word 2) f ∙ key-revalue (words_at s o) v)
    keys s' c o (inr a) = let f = c.others o a in (ap (word 1) f, ap (word 2) f)

-- The map of a list or a bucket: the keys of its nodes, with their values, in their order.
use Rattle.std.proofs.Common.{◌≡◌, ℕ, suc, ◌+◌, ◌-◌, ◌<◌, ◌≤◌, inl, inr, Bool, true, false, cond, eqb, eqb-true, []}
use Rattle.std.proofs.Common.{◌∷◌, refl, sym, ap, ◌∙◌, subst, arith, Option, Some, None, get_or-drop, length-drop}
use Rattle.mv_history.specs.State.{State}
use Rattle.mv_history.specs.Meaning.{words_at}
use Rattle.set_model.specs.Catalogue.{IsAboveKey, IsMap, has_key, value_of}
use Rattle.set_model.specs.CatalogueOf.{is_key_of, is_key_at, map_at}
use Rattle.set_model.specs.Objects.{owner, key, value}
use Rattle.set_model.specs.Lists.{Nodes, FitsHead, entries_of, Links, IsAbove, IsRising, IsList}
use Rattle.set_model.specs.Lawful.{IsLawful}
use Rattle.set_model.proofs.ObjectWords.{word, owned_in_range}
use Rattle.set_model.proofs.Chains.{IsAmong, only_among, above_key}
use Rattle.set_model.proofs.MapLemmas.{value_of-first, value_of-later, has_key-none, same_maps}
use Rattle.set_model.proofs.Mapped.{at-drop, has-map_among, map_among-has, map_among-value, IsMap-map_among}
use Rattle.set_model.proofs.Heads.{head_low, is_key_at-from, is_key_at-to, home, owned_fits, home_is}

-- some node of the head has the key
abbrev pub HoldsAt : State → ℕ → ℕ → Type 0
HoldsAt s head k = (o : ℕ) × (180 ≤ o) × (is_key_at head (words_at s o) ≡ true) × (key s o ≡ k)

pub holds-map_at : (s : State) (head k : ℕ) → HoldsAt s head k → has_key k (map_at s head) ≡ true
holds-map_at s head k (o, lo, e, q) =
    let f = at-drop s o lo in
    let here : o < _ = owned_in_range s o head (is_key_at-from head (words_at s o) e).0 in
    has-map_among (is_key_at head) _ k (o - 180) (omega (arith, length-drop 180 s)) (ap (is_key_at head) f ∙ e) (ap (word 2) f ∙ q)

pub map_at-holds : (s : State) (head k : ℕ) → has_key k (map_at s head) ≡ true → HoldsAt s head k
map_at-holds s head k h =
    let u = map_among-has (is_key_at head) _ k h in
    let f : words_at s (180 + u.0) ≡ _ = sym (get_or-drop 180 s u.0 []) in
    (180 + u.0, omega arith, ap (is_key_at head) f ∙ u.1, ap (word 2) f ∙ u.2)

-- a value of the head's map is that of one of its nodes
pub record HasValueAt (s : State) (head k v o : ℕ) : Type 0 where
  pub node : 180 ≤ o
  pub own : owner s o ≡ suc head
  pub picked : is_key_at head (words_at s o) ≡ true
  pub key_is : key s o ≡ k
  pub value_is : value s o ≡ v

pub map_at-value : (s : State) (head k v : ℕ) → value_of k (map_at s head) ≡ Some v → (o : ℕ) × HasValueAt s head k v o
map_at-value s head k v e =
    let u = map_among-value (is_key_at head) _ k v e in
    let f : words_at s (180 + u.0) ≡ _ = sym (get_or-drop 180 s u.0 []) in
    let t : is_key_at head (words_at s (180 + u.0)) ≡ true = ap (is_key_at head) f ∙ u.1 in (
      180 + u.0,
      record {
        node = omega arith;
        own = (is_key_at-from head (words_at s (180 + u.0)) t).0;
        picked = t;
        key_is = ap (word 2) f ∙ u.2;
        value_is = ap (word 5) f ∙ u.3;
      },
    )

pub IsAboveKey-entries : (k : ℕ) (ns : Nodes) → IsAbove k ns → IsAboveKey k (entries_of ns)
IsAboveKey-entries k [] a = tt
IsAboveKey-entries k (n ∷ ns) a = (a.0, IsAboveKey-entries k ns a.1)

pub IsMap-entries : (ns : Nodes) → IsRising ns → IsMap (entries_of ns)
IsMap-entries [] r = tt
IsMap-entries (n ∷ ns) r = (IsAboveKey-entries n.key ns r.0, IsMap-entries ns r.1)

pub entry_value : (s : State) (head : ℕ) (ns : Nodes) → Links s head ns → IsRising ns → (o : ℕ) → IsAmong o ns
    → value_of (key s o) (entries_of ns) ≡ Some (value s o)
entry_value s head [] l r o i = absurd i
entry_value s head (n ∷ ns) l r o (inl e) =
    let k : key s o ≡ n.key = ap (key s) e ∙ ap (word 2) l.2 in
    let v : value s o ≡ n.value = ap (value s) e ∙ ap (word 5) l.2 in
    ap (λ j. value_of j (entries_of (n ∷ ns))) k ∙ value_of-first n.key n.value (entries_of ns) ∙ ap Some (sym v)
entry_value s head (n ∷ ns) l r o (inr i) =
    let up : n.key < key s o = above_key s head n.key ns l.3 r.0 o i in
    value_of-later (key s o) (n.key, n.value) (entries_of ns) (omega arith) ∙ entry_value s head ns l.3 r.1 o i

entry_node : (s : State) (head : ℕ) (ns : Nodes) → Links s head ns → (k v : ℕ) → value_of k (entries_of ns) ≡ Some v → HoldsAt s head k
entry_node s head [] l k v e = absurd (cc)
entry_node s head (n ∷ ns) l k v e = go (eqb n.key k) refl (entry_node s head ns l.3 k v) e
  where
    go : (b : Bool) → eqb n.key k ≡ b → (value_of k (entries_of ns) ≡ Some v → HoldsAt s head k) → cond b (Some n.value) (value_of k (entries_of ns)) ≡ Some v
        → HoldsAt s head k
    go false q r f = r f
    go true q r f =
        let z : word 1 (words_at s n.object) ≡ 0 = ap (word 1) l.2 in
        (n.object, l.0, is_key_at-to head (words_at s n.object) (ap (word 0) l.2) (omega arith), ap (word 2) l.2 ∙ eqb-true n.key k q)

-- The map of a list or a bucket has the keys of its nodes, with their values.
pub map_at-list : (s : State) (head : ℕ) (ns : Nodes) → IsList s head ns → map_at s head ≡ entries_of ns
map_at-list s head ns q =
    same_maps (map_at s head) (entries_of ns) (IsMap-map_among (is_key_at head) _) (IsMap-entries ns q.rising)
    (λ k. by_value k (value_of k (map_at s head)) refl)
  where
    none : (k : ℕ) → (r : Option ℕ) → value_of k (entries_of ns) ≡ r → has_key k (map_at s head) ≡ false → None ≡ r
    none k None e h = refl
    none k (Some v) e h = absurd (let there = holds-map_at s head k (entry_node s head ns q.links k v e) in cc)

    by_value : (k : ℕ) (r : Option ℕ) → value_of k (map_at s head) ≡ r → value_of k (map_at s head) ≡ value_of k (entries_of ns)
    by_value k None e = e ∙ none k (value_of k (entries_of ns)) refl (has_key-none k (map_at s head) e)
    by_value k (Some v) e =
        let u = map_at-value s head k v e in
        let there : value_of (key s u.0) (entries_of ns) ≡ Some (value s u.0) =
        entry_value s head ns q.links q.rising u.0 (only_among s head ns q u.0 u.1.node u.1.own) in
        e ∙ ap Some (sym u.1.value_is) ∙ sym there ∙ ap (λ j. value_of j (entries_of ns)) u.1.key_is

-- the value of a node in the head's map
pub node_value : (s : State) (head o : ℕ) → IsLawful s → head < 170 → 180 ≤ o → owner s o ≡ suc head → value_of (key s o) (map_at s head) ≡ Some (value s o)
node_value s head o l lh lo e =
    let m = l.lists head lh in
    ap (value_of (key s o)) (map_at-list s head m.0 m.1) ∙ entry_value s head m.0 m.1.links m.1.rising o (only_among s head m.0 m.1 o lo e)

-- in one list a key is that of one node
list_key_once : (s : State) (head : ℕ) (ns : Nodes) → Links s head ns → IsRising ns → (o u : ℕ) → IsAmong o ns → IsAmong u ns → key s o ≡ key s u → o ≡ u
list_key_once s head [] l r o u i j e = absurd i
list_key_once s head (n ∷ ns) l r o u (inl a) (inl b) e = a ∙ sym b
list_key_once s head (n ∷ ns) l r o u (inr i) (inr j) e = list_key_once s head ns l.3 r.1 o u i j e
list_key_once s head (n ∷ ns) l r o u (inl a) (inr j) e =
    let is : key s o ≡ n.key = ap (key s) a ∙ ap (word 2) l.2 in
    let up : n.key < key s u = above_key s head n.key ns l.3 r.0 u j in absurd (omega arith)
list_key_once s head (n ∷ ns) l r o u (inr i) (inl b) e =
    let is : key s u ≡ n.key = ap (key s) b ∙ ap (word 2) l.2 in
    let up : n.key < key s o = above_key s head n.key ns l.3 r.0 o i in absurd (omega arith)

pub owned_key_once : (s : State) (head : ℕ) → IsLawful s → head < 170 → (o u : ℕ) → 180 ≤ o → 180 ≤ u → owner s o ≡ suc head → owner s u ≡ suc head
    → key s o ≡ key s u → o ≡ u
owned_key_once s head l lh o u lo lu a b e =
    let m = l.lists head lh in
    list_key_once s head m.0 m.1.links m.1.rising o u (only_among s head m.0 m.1 o lo a) (only_among s head m.0 m.1 u lu b) e

-- a key of the name of a list or of buckets is that of one node
pub key_once : (s : State) (name : ℕ) → IsLawful s → name < 20 → (o u : ℕ) → 180 ≤ o → 180 ≤ u → is_key_of name (words_at s o) ≡ true
    → is_key_of name (words_at s u) ≡ true → key s o ≡ key s u → o ≡ u
key_once s name l low o u lo lu a b e =
    let h = home s name o l lo a in
    let lh : h.0 < 170 = head_low h.0 (subst (λ (n : ℕ). n < 20) (sym h.1.named) low) in
    let fit : FitsHead h.0 (key s u) = subst (λ (k : ℕ). FitsHead h.0 k) e (owned_fits s h.0 o l lh lo h.1.own) in
    let own : owner s u ≡ suc h.0 = home_is s h.0 u l lh fit lu (subst (λ (n : ℕ). is_key_of n (words_at s u) ≡ true) (sym h.1.named) b) in
    owned_key_once s h.0 l lh o u lo lu h.1.own own e

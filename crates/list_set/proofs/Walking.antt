-- The steps of a search along a list.
use Rattle.std.proofs.Common.{◌≡◌, ◌≢◌, ℕ, ◌+◌, ◌-◌, ◌^◌, ◌<◌, ◌≤◌, ◌⊎◌, inl, inr, Bool, true, false, cond, not}
use Rattle.std.proofs.Common.{◌&&◌, eqb, eqb-true, eq-eqb, List, [], ◌∷◌, length, refl, sym, ap, ◌∙◌, subst, arith, ne_eqb, Option, Some, None}
use Rattle.std.proofs.lemmas.Bool.{cases_eq, cases_lt, false_from_ne_true}
use Rattle.mv_history.specs.State.{State}
use Rattle.mv_history.specs.Meaning.{words_at}
use Rattle.set_model.specs.Catalogue.{has_key, value_of, next_key}
use Rattle.set_model.specs.CatalogueOf.{is_key_at, map_at}
use Rattle.set_model.specs.Objects.{first_node, owner, kind, key, link, value}
use Rattle.set_model.proofs.ObjectWords.{word, owned_in_range}
use Rattle.set_model.proofs.Heads.{is_key_at-from, is_key_at-to}
use Rattle.set_model.proofs.MapLemmas.{has_key-none, has_key-some}
use Rattle.set_model.proofs.Mapped.{IsMap-map_among}
use Rattle.set_model.proofs.NextKeys.{next_is, next_none}
use Rattle.set_model.proofs.ListMaps.{holds-map_at, map_at-holds, map_at-value}
use Rattle.list_set.specs.Places.{IsInList}
use Rattle.list_set.specs.Linked.{IsNodeOf, IsLinked}
use Rattle.list_set.specs.Walks.{walk_left, IsBehind, IsWindow, IsKeyWindow}
use Rattle.list_set.proofs.Linking.{head_no_node}

pub left_at : (s : State) (node : ℕ) → node ≢ 0 → walk_left s node ≡ 2 ^ 32 - key s node
unfolding walk_left
left_at s node n = ap (λ (b : Bool). cond b 0 (2 ^ 32 - key s node)) (ne_eqb node 0 n)

pub left_end : (s : State) → walk_left s 0 ≡ 0
unfolding walk_left
left_end s = refl

-- a node of a list is in range, and holds its key
pub node_in_range : (s : State) (head n : ℕ) → IsNodeOf s head n → n < length s
node_in_range s head n i = owned_in_range s n head i.1

pub node_picked : (s : State) (head n : ℕ) → IsLinked s head → IsNodeOf s head n → is_key_at head (words_at s n) ≡ true
node_picked s head n l i = is_key_at-to head (words_at s n) i.1 (let z : kind s n ≡ 0 = l.kinds n i in omega arith)

-- along a list the way that is left falls
pub list_falls : (s : State) (head o : ℕ) → IsLinked s head → IsNodeOf s head o → walk_left s (link s o) < walk_left s o
list_falls s head o l i =
    let some : o ≢ 0 = let lo : 180 ≤ o = i.0 in omega arith in
    let here : walk_left s o ≡ 2 ^ 32 - key s o = left_at s o some in
    let fit : key s o < 2 ^ 32 = l.fits o i in
    elim (cases_eq (link s o) 0) [
      | inl z ↦ (let there : walk_left s (link s o) ≡ 0 = ap (walk_left s) z ∙ left_end s in omega arith)
      | inr n ↦ (let r = l.leads o (inr i) n in
          let up : key s o < key s (link s o) = r.1 i in
          let more : key s (link s o) < 2 ^ 32 = l.fits (link s o) r.0 in
          let there : walk_left s (link s o) ≡ 2 ^ 32 - key s (link s o) = left_at s (link s o) n in omega arith)
    ]

-- What the map of a head has where a search for k stopped behind this object.
module _ (s : State) (head k p : ℕ) (l : IsLinked s head) (within : IsInList s head p) (below : (p ≡ head) ⊎ (key s p < k)) where
  ahead : (u : ℕ) → IsNodeOf s head u → k ≤ key s u → (link s p ≢ 0) × (key s (link s p) ≤ key s u)
  ahead u j le = l.least p u within j (λ i. elim below [
    | inl e ↦ absurd (head_no_node s head l.unowned p e i)
    | inr lt ↦ omega arith
  ])

  held : (j : ℕ) → has_key j (map_at s head) ≡ true → (u : ℕ) × IsNodeOf s head u × (key s u ≡ j)
  held j h =
      let u = map_at-holds s head j h in (u.0, (u.1, (is_key_at-from head (words_at s u.0) u.2).0), u.3)

  end_has : link s p ≡ 0 → has_key k (map_at s head) ≡ false
  end_has z = false_from_ne_true (has_key k (map_at s head)) (λ h.
      (let u = held k h in let e : key s u.0 ≡ k = u.2 in (ahead u.0 u.1 (omega arith)).0 z))

  end_least : link s p ≡ 0 → next_key k (map_at s head) ≡ None
  end_least z = next_none k (map_at s head) (λ i h.
      (let u = held i h in let e : key s u.0 ≡ i = u.2 in
      elim (cases_lt i k) [ inl lt ↦ lt | inr ge ↦ absurd ((ahead u.0 u.1 (omega arith)).0 z) ]))

  value_none : has_key k (map_at s head) ≡ false → value_of k (map_at s head) ≡ None
  value_none f = go (value_of k (map_at s head)) refl
    where
      go : (r : Option ℕ) → value_of k (map_at s head) ≡ r → r ≡ None
      go None e = refl
      go (Some v) e = absurd (let h : has_key k (map_at s head) ≡ true = has_key-some k v (map_at s head) e in cc)

  module _ (n : link s p ≢ 0) (le : k ≤ key s (link s p)) where
    there : IsNodeOf s head (link s p)
    there = (l.leads p within n).0

    node_has : has_key k (map_at s head) ≡ eqb (key s (link s p)) k
    node_has = elim (cases_eq (key s (link s p)) k) [
      | inl e ↦ holds-map_at s head k (link s p, there.0, node_picked s head (link s p) l there, e) ∙ sym (eq-eqb (key s (link s p)) k e)
      | inr ne ↦ false_from_ne_true (has_key k (map_at s head)) (λ h.
          (let u = held k h in let e : key s u.0 ≡ k = u.2 in
          let x : key s (link s p) ≤ key s u.0 = (ahead u.0 u.1 (omega arith)).1 in omega arith))
          ∙ sym (ne_eqb (key s (link s p)) k ne)
    ]

    node_value : value_of k (map_at s head) ≡ cond (eqb (key s (link s p)) k) (Some (value s (link s p))) None
    node_value = go (eqb (key s (link s p)) k) refl (value_of k (map_at s head)) refl
      where
        go : (b : Bool) → eqb (key s (link s p)) k ≡ b → (r : Option ℕ) → value_of k (map_at s head) ≡ r → r ≡ cond b (Some (value s (link s p))) None
        go false q r e = sym e ∙ value_none (node_has ∙ q)
        go true q None e = absurd (let h : has_key k (map_at s head) ≡ false = has_key-none k (map_at s head) e in let g = node_has ∙ q in cc)
        go true q (Some v) e =
            let u = map_at-value s head k v e in
            let same : u.0 ≡ link s p = l.once u.0 (link s p) (u.1.node, u.1.own) there (u.1.key_is ∙ sym (eqb-true (key s (link s p)) k q)) in
            ap Some (sym u.1.value_is ∙ ap (value s) same)

    node_least : next_key k (map_at s head) ≡ Some (key s (link s p))
    node_least = next_is k (map_at s head) (key s (link s p)) (IsMap-map_among (is_key_at head) _) (record {
      has = holds-map_at s head (key s (link s p)) (link s p, there.0, node_picked s head (link s p) l there, refl);
      from = le;
      least = λ i h ge. (let u = held i h in let e : key s u.0 ≡ i = u.2 in
          let x : key s (link s p) ≤ key s u.0 = (ahead u.0 u.1 (omega arith)).1 in omega arith);
    })

-- What the search's loop keeps: `next` is the link of `previous`, an object of the list with a key below k.
pub record IsWindowLoop (s t : State) (head k previous next : ℕ) : Type 0 where
  pub same : t ≡ s
  pub within : IsInList s head previous
  pub leads : next ≡ link s previous
  pub below : (previous ≡ head) ⊎ (key s previous < k)

pub window_start : (s : State) (head k previous next : ℕ) → IsBehind s head k previous next → IsWindowLoop s s head k previous next
window_start s head k previous next b = record { same = refl; within = b.within; leads = b.leads; below = b.below }

-- a walk may go on from the head, whose link was read
pub behind_head : (s t : State) (head k first : ℕ) → t ≡ s → first ≡ link t head → IsBehind s head k head first
behind_head s t head k first same e =
    record { within = inl refl; leads = e ∙ ap (λ (u : State). link u head) same; below = inl refl }

-- and from a node whose owner, and whose key and link were read, where it is in the list and its key is below k
pub behind_node : (s t : State) (head k node owned found next : ℕ) → t ≡ s → first_node ≤ node → owned ≡ owner s node → owned ≡ head + 1
    → found ≡ key t node → found < k → next ≡ link t node → IsBehind s head k node next
behind_node s t head k node owned found next same from own is ky lt e =
    let here : found ≡ key s node = ky ∙ ap (λ (u : State). key u node) same in
    record {
      within = inr (from, sym own ∙ is ∙ (omega arith));
      leads = e ∙ ap (λ (u : State). link u node) same;
      below = inr (omega arith);
    }

-- the node to which the link leads
ahead_node : (s t : State) (head k previous next : ℕ) → IsLinked s head → IsWindowLoop s t head k previous next → next ≢ 0 → IsNodeOf s head next
ahead_node s t head k previous next l i n = subst (IsNodeOf s head) (sym i.leads) (l.leads previous i.within (λ z. n (i.leads ∙ z))).0

-- both objects are in range
pub next_in_range : (s t : State) (head k previous next : ℕ) → IsLinked s head → IsWindowLoop s t head k previous next → next ≢ 0 → next < length s
next_in_range s t head k previous next l i n = node_in_range s head next (ahead_node s t head k previous next l i n)

pub previous_in_range : (s t : State) (head k previous next : ℕ) → IsLinked s head → IsWindowLoop s t head k previous next → previous < length s
previous_in_range s t head k previous next l i = elim i.within [
  | inl e ↦ subst (λ (u : ℕ). u < length s) (sym e) l.here
  | inr j ↦ node_in_range s head previous j
]

-- The key and the link of the node that comes next were read.
module _ (s t : State) (head k previous node : ℕ) (l : IsLinked s head) (i : IsWindowLoop s t head k previous node) (n : node ≢ 0) where
  ahead_is : IsNodeOf s head node
  ahead_is = ahead_node s t head k previous node l i n

  module _ (u : State) (next : ℕ) (f : u ≡ t) (e : next ≡ link t node) where
    next_link : next ≡ link s node
    next_link = e ∙ ap (λ (v : State). link v node) i.same

    pub next_falls : walk_left u next < walk_left t node
    next_falls =
        let a : walk_left t node ≡ walk_left s node = ap (λ (v : State). walk_left v node) i.same in
        let b : walk_left u next ≡ walk_left s (link s node) = ap (λ (v : State). walk_left v next) (f ∙ i.same) ∙ ap (walk_left s) next_link in
        let lt : walk_left s (link s node) < walk_left s node = list_falls s head node l ahead_is in omega arith

    pub window_step : (found : ℕ) → found ≡ key t node → found < k → IsWindowLoop s u head k node next
    window_step found is lt =
        let ky : found ≡ key s node = is ∙ ap (λ (v : State). key v node) i.same in
        record { same = f ∙ i.same; within = inr ahead_is; leads = next_link; below = inr (omega arith) }

  module _ (found : ℕ) (is : found ≡ key t node) (le : k ≤ found) where
    pub key_window_found : IsKeyWindow s head k previous node found
    key_window_found =
        let own : found ≡ key s node = is ∙ ap (λ (v : State). key v node) i.same in
        let fit : key s node < 2 ^ 32 = l.fits node ahead_is in
        let some : link s previous ≢ 0 = λ z. n (i.leads ∙ z) in
        let up : k ≤ key s (link s previous) = subst (λ u. k ≤ key s u) i.leads (omega arith) in
        let back : found ≡ key s (link s previous) = own ∙ ap (key s) i.leads in
        let test : (not (eqb node 0) && eqb found k) ≡ eqb (key s (link s previous)) k =
        ap (λ (u : Bool). not u && eqb found k) (ne_eqb node 0 n) ∙ ap (λ (u : ℕ). eqb u k) back in
        record {
          within = i.within;
          below = i.below;
          next = i.leads;
          found = inr (record { is_node = ahead_is.0; own = ahead_is.1; key_is = own; above = le });
          fits = omega arith;
          has = test ∙ sym (node_has s head k previous l i.within i.below some up);
          value_is =
              ap (λ (u : Bool). cond u (Some (value s node)) None) test
              ∙ ap (λ (v : ℕ). cond (eqb (key s (link s previous)) k) (Some (value s v)) None) i.leads
              ∙ sym (node_value s head k previous l i.within i.below some up);
          least =
              ap (λ (u : Bool). cond u None (Some found)) (ne_eqb node 0 n) ∙ ap Some back
              ∙ sym (node_least s head k previous l i.within i.below some up);
        }

pub key_window_end : (s t : State) (head k previous next : ℕ) → IsLinked s head → IsWindowLoop s t head k previous next → next ≡ 0
    → IsKeyWindow s head k previous 0 0
key_window_end s t head k previous next l i e =
    let z : link s previous ≡ 0 = sym i.leads ∙ e in
    let none : has_key k (map_at s head) ≡ false = end_has s head k previous l i.within i.below z in
    record {
      within = i.within;
      below = i.below;
      next = sym z;
      found = inl refl;
      fits = omega arith;
      has = sym none;
      value_is = sym (value_none s head k previous l i.within i.below none);
      least = sym (end_least s head k previous l i.within i.below z);
    }

-- both objects of a key_window are in range
module _ (s : State) (head k previous node found : ℕ) (l : IsLinked s head) (w : IsKeyWindow s head k previous node found) where
  pub key_window_previous : previous < length s
  key_window_previous = previous_in_range s s head k previous node l (record { same = refl; within = w.within; leads = w.next; below = w.below })

  pub key_window_node : node ≢ 0 → node < length s
  key_window_node n = next_in_range s s head k previous node l (record { same = refl; within = w.within; leads = w.next; below = w.below }) n

-- where a walk ended at no node there is none to read
pub window_none : (s : State) (head k previous node found : ℕ) (words : List ℕ) → IsKeyWindow s head k previous node found → node ≡ 0
    → words ≡ words_at s previous → IsWindow s head k previous words node (0 ∷ 0 ∷ 0 ∷ 0 ∷ 0 ∷ 0 ∷ [])
window_none s head k previous node found words w z words_are =
    let off : (x : ℕ) → (not (eqb node 0) && eqb x k) ≡ false = λ x. ap (λ (u : ℕ). not (eqb u 0) && eqb x k) z in
    record {
      within = w.within;
      words_are = words_are;
      below = w.below;
      next = w.next;
      found = inl z;
      fits = omega arith;
      has = off 0 ∙ sym (off found) ∙ w.has;
      value = ap (λ (u : Bool). cond u (Some 0) None) (off 0) ∙ sym (ap (λ (u : Bool). cond u (Some (value s node)) None) (off found)) ∙ w.value_is;
      least = ap (λ (u : ℕ). cond (eqb u 0) None (Some 0)) z ∙ sym (ap (λ (u : ℕ). cond (eqb u 0) None (Some found)) z) ∙ w.least;
    }

-- where it ended at a node, both objects' words make it a window
pub window_read : (s : State) (head k previous node found : ℕ) (words node_words : List ℕ) → IsKeyWindow s head k previous node found → node ≢ 0
    → words ≡ words_at s previous → node_words ≡ words_at s node → IsWindow s head k previous words node node_words
window_read s head k previous node found words node_words w n words_are read = elim w.found [
  | inl z ↦ absurd (n z)
  | inr r ↦
      let same : word 2 node_words ≡ found = ap (word 2) read ∙ sym r.key_is in
      let test : (not (eqb node 0) && eqb (word 2 node_words) k) ≡ (not (eqb node 0) && eqb found k) =
      ap (λ (u : ℕ). not (eqb node 0) && eqb u k) same in
      let fit : found < 2 ^ 32 = w.fits in
      let up : k ≤ found = r.above in
      let own : found ≡ key s node = r.key_is in
      record {
        within = w.within;
        words_are = words_are;
        below = w.below;
        next = w.next;
        found = inr (record { is_node = r.is_node; own = r.own; words_are = read; above = omega arith });
        fits = omega arith;
        has = test ∙ w.has;
        value =
            ap (λ (u : Bool). cond u (Some (word 5 node_words)) None) test
            ∙ ap (λ (v : ℕ). cond (not (eqb node 0) && eqb found k) (Some v) None) (ap (word 5) read) ∙ w.value_is;
        least = ap (λ (u : ℕ). cond (eqb node 0) None (Some u)) same ∙ w.least;
      }
]

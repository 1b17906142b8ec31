-- Reading the lists, buckets and trees of a state one after another.
use Rattle.std.proofs.Common.{◌≡◌, ◌≢◌, ℕ, suc, ◌+◌, ◌-◌, ◌/◌, ◌%◌, ◌^◌, ◌<◌, ◌≤◌, ◌⊎◌, inl, inr, Bool, true, false, cond}
use Rattle.std.proofs.Common.{eq-eqb, ne_eqb, lt-ltb, le-ltb, List, [], ◌∷◌, length, length-set, set, Option, Some, None}
use Rattle.std.specs.Prelude.{⊤}
use Rattle.std.proofs.Common.{refl, sym, ap, ◌∙◌, subst, arith, ext_get_or, get_or-set_same, get_or-set_other, get_or-drop}
use Rattle.std.proofs.lemmas.Bool.{cases_lt, cases_eq}
use Rattle.std.proofs.lemmas.List.{get_or-replicate, length-replicate}
use Rattle.mv_history.specs.State.{State}
use Rattle.mv_history.specs.Meaning.{words_at}
use Rattle.set_model.specs.Catalogue.{Map, Maps, IsMap, empty, put, map_of, has_key, value_of}
use Rattle.set_model.specs.CatalogueOf.{name_of, is_key_of, map_at, catalogue_of}
use Rattle.set_model.specs.Objects.{owner, key}
use Rattle.set_model.specs.Lists.{Nodes, FitsHead, first_of, entries_of, Links, IsAbove, IsRising}
use Rattle.set_model.specs.Lawful.{IsLawful}
use Rattle.set_model.proofs.ObjectWords.{word, owned_in_range}
use Rattle.set_model.proofs.MapLaws.{put_is_map}
use Rattle.set_model.proofs.MapLemmas.{value_of-put, value_of-above, value_of-first, value_of-later, has_key-some, same_maps}
use Rattle.set_model.proofs.Mapped.{IsMap-map_among, map_among-value, map_of-catalogue_of, length-catalogue_of, is_key-from}
use Rattle.set_model.proofs.Heads.{name_of-list, name_of-bucket, name_bound, owned_fits}
use Rattle.set_model.proofs.ListMaps.{map_at-value, map_at-list}
use Rattle.set_model.proofs.NameMaps.{map_of-value}
use Rattle.set_model.proofs.TreeMaps.{map_of-root}
use Rattle.hash_set.specs.list_set.Walks.{walk_left}
use Rattle.set_catalog.specs.Needs.{first_tree}
use Rattle.set_catalog.specs.Plans.{head_of}
use Rattle.set_catalog.specs.Readings.{value_under, HasHeads}
use Rattle.set_catalog.proofs.HeadNames.{head_list, head_bucket, head_root, head_below, head_named, low_fits, low_head}
use Rattle.set_catalog.proofs.NodeReads.{key_fits}

-- the value under a head that was read, and under one that was not
under_read : (s : State) (heads name k : ℕ) → head_of name k < heads → value_under s heads name k ≡ value_of k (map_at s (head_of name k))
under_read s heads name k lt = ap (λ (b : Bool). cond b (value_of k (map_at s (head_of name k))) None) (lt-ltb (head_of name k) heads lt)

under_unread : (s : State) (heads name k : ℕ) → heads ≤ head_of name k → value_under s heads name k ≡ None
under_unread s heads name k le = ap (λ (b : Bool). cond b (value_of k (map_at s (head_of name k))) None) (le-ltb (head_of name k) heads le)

-- before any head was read
pub heads_none : (s : State) (all : Maps) → all ≡ empty → HasHeads s 0 all
heads_none s all e = subst (HasHeads s 0) (sym e) (record {
  whole = length-replicate {A = Map} 30 [];
  rising = λ name lt. subst IsMap (sym (nothing name lt)) tt;
  values = λ name k lt. ap (value_of k) (nothing name lt) ∙ sym (under_unread s 0 name k (omega arith));
})
  where
    nothing : (name : ℕ) → name < 30 → map_of name empty ≡ []
    nothing name lt = get_or-replicate 30 name [] [] lt

-- a key in the map of a head stands under it
pub stands_here : (s : State) (head k v : ℕ) → IsLawful s → head < 180 → value_of k (map_at s head) ≡ Some v → head_of (name_of head) k ≡ head
stands_here s head k v l lt e = elim (cases_lt head 10) [
  | inl low ↦ (let n = name_of-list head low in ap (λ (m : ℕ). head_of m k) n ∙ head_list head k low)
  | inr ge ↦ elim (cases_lt head 170) [
    | inl mid ↦ (let u = map_at-value s head k v e in
        let n = name_of-bucket head ge mid in
        let fit : FitsHead head (key s u.0) = owned_fits s head u.0 l mid u.1.node u.1.own in
        let rest : key s u.0 % 16 ≡ (head - 10) % 16 = fit.1 ge in
        let same : key s u.0 ≡ k = u.1.key_is in
        let rests : k % 16 ≡ (head - 10) % 16 = ap (λ (x : ℕ). x % 16) (sym same) ∙ rest in
        ap (λ (m : ℕ). head_of m k) n ∙ head_bucket (10 + (head - 10) / 16) k (omega arith) (omega arith) ∙ omega arith)
    | inr high ↦ (let n : name_of head ≡ head - 150 = grind (arith, cases_lt) in
        ap (λ (m : ℕ). head_of m k) n ∙ head_root (head - 150) k (omega arith) ∙ omega arith)
  ]
]

-- the entries that are left are of the head's map
abbrev pub AreOf : State → ℕ → Map → Type 0
AreOf s head [] = ⊤
AreOf s head (e ∷ m) = (value_of e.0 (map_at s head) ≡ Some e.1) × AreOf s head m

are_of : (s : State) (head : ℕ) (m : Map) → IsMap m → ((k v : ℕ) → value_of k m ≡ Some v → value_of k (map_at s head) ≡ Some v) → AreOf s head m
are_of s head [] r f = tt
are_of s head (e ∷ m) r f = (f e.0 e.1 (value_of-first e.0 e.1 m), are_of s head m r.1 (λ k v q. f k v (later k v q (cases_eq e.0 k))))
  where
    later : (k v : ℕ) → value_of k m ≡ Some v → (e.0 ≡ k) ⊎ (e.0 ≢ k) → value_of k (e ∷ m) ≡ Some v
    later k v q (inl same) =
        let none : value_of k m ≡ None = ap (λ (x : ℕ). value_of x m) (sym same) ∙ value_of-above e.0 m r.0 in absurd (cc)
    later k v q (inr other) = value_of-later k e m other ∙ q

-- While a head is read: what stands under those before it and what was read of it is there; these entries are left.
pub record HasPart (s : State) (head : ℕ) (left : Map) (all : Maps) : Type 0 where
  pub whole : length all ≡ 30
  pub rising : (name : ℕ) → name < 30 → IsMap (map_of name all)
  pub entries : AreOf s head left
  pub values : (name k : ℕ) → name < 30 → (name ≡ name_of head → has_key k left ≡ false) →
      value_of k (map_of name all) ≡ value_under s (suc head) name k

no_key : (k : ℕ) (m : Map) → has_key k m ≡ false → (r : Option ℕ) → value_of k m ≡ r → r ≡ None
no_key k m h None e = refl
no_key k m h (Some v) e = absurd (let there = has_key-some k v m e in cc)

pub part_start : (s : State) (head : ℕ) (m : Map) (all : Maps) → IsLawful s → head < 180 → m ≡ map_at s head → HasHeads s head all → HasPart s head m all
part_start s head m all l lt e h = record {
  whole = h.whole;
  rising = h.rising;
  entries = are_of s head m (subst IsMap (sym e) (IsMap-map_among _ _)) (λ k v q. ap (value_of k) (sym e) ∙ q);
  values = λ name k few f. h.values name k few ∙ same name k few f (cases_lt (head_of name k) head) (cases_eq (head_of name k) head);
}
  where
    same : (name k : ℕ) → name < 30 → (name ≡ name_of head → has_key k m ≡ false) → (head_of name k < head) ⊎ (head ≤ head_of name k) →
        (head_of name k ≡ head) ⊎ (head_of name k ≢ head) → value_under s head name k ≡ value_under s (suc head) name k
    same name k few f (inl low) _ = under_read s head name k low ∙ sym (under_read s (suc head) name k (omega arith))
    same name k few f (inr ge) (inr ne) = under_unread s head name k ge ∙ sym (under_unread s (suc head) name k (omega arith))
    same name k few f (inr ge) (inl here) =
        let named : name ≡ name_of head = sym (head_named name k few) ∙ ap name_of here in
        let none : value_of k (map_at s head) ≡ None = no_key k (map_at s head) (ap (has_key k) (sym e) ∙ f named) _ refl in
        under_unread s head name k ge ∙ sym (under_read s (suc head) name k (omega arith) ∙ ap (λ (x : ℕ). value_of k (map_at s x)) here ∙ none)

-- one entry more was put
pub part_puts : (s : State) (head k v : ℕ) (left m : Map) (all more : Maps) (name : ℕ) → IsLawful s → head < 180 → name ≡ name_of head →
    m ≡ (k, v) ∷ left → more ≡ set all name (put k v (map_of name all)) → HasPart s head m all → HasPart s head left more
part_puts s head k v left m all more name l lt named first is p0 = record {
  whole = ap length is ∙ length-set all name _ ∙ p.whole;
  rising = λ n few. rises n few (cases_eq n name);
  entries = p.entries.1;
  values = λ n j few f. values n j few f (cases_eq n name);
}
  where
    p : HasPart s head ((k, v) ∷ left) all
    p = subst (λ (x : Map). HasPart s head x all) first p0

    few_names : name < 30
    few_names = let b = name_bound head lt in omega arith

    at_name : map_of name more ≡ put k v (map_of name all)
    at_name = ap (map_of name) is ∙ get_or-set_same all name (put k v (map_of name all)) [] (let w = p.whole in omega (arith, few_names))

    elsewhere : (n : ℕ) → n ≢ name → map_of n more ≡ map_of n all
    elsewhere n ne = ap (map_of n) is ∙ get_or-set_other all name n (put k v (map_of name all)) [] ne

    rises : (n : ℕ) → n < 30 → (n ≡ name) ⊎ (n ≢ name) → IsMap (map_of n more)
    rises n few (inl e) = subst IsMap (sym (ap (λ (x : ℕ). map_of x more) e ∙ at_name)) (put_is_map k v (map_of name all) (p.rising name few_names))
    rises n few (inr ne) = subst IsMap (sym (elsewhere n ne)) (p.rising n few)

    here : head_of name k ≡ head
    here = ap (λ (x : ℕ). head_of x k) named ∙ stands_here s head k v l lt p.entries.0

    value : (j : ℕ) → (name ≡ name_of head → has_key j left ≡ false) → (k ≡ j) ⊎ (k ≢ j) → value_of j (map_of name more) ≡ value_under s (suc head) name j
    value j f (inl e) =
        ap (value_of j) at_name ∙ value_of-put j k v (map_of name all)
        ∙ ap (λ (b : Bool). cond b (Some v) (value_of j (map_of name all))) (eq-eqb k j e)
        ∙ sym (subst (λ (x : ℕ). value_under s (suc head) name x ≡ Some v) e
        (under_read s (suc head) name k (omega (arith, here)) ∙ ap (λ (x : ℕ). value_of k (map_at s x)) here ∙ p.entries.0))
    value j f (inr ne) =
        ap (value_of j) at_name ∙ value_of-put j k v (map_of name all)
        ∙ ap (λ (b : Bool). cond b (Some v) (value_of j (map_of name all))) (ne_eqb k j ne)
        ∙ p.values name j few_names (λ q. ap (λ (b : Bool). cond b true (has_key j left)) (ne_eqb k j ne) ∙ f q)

    values : (n j : ℕ) → n < 30 → (n ≡ name_of head → has_key j left ≡ false) → (n ≡ name) ⊎ (n ≢ name) →
        value_of j (map_of n more) ≡ value_under s (suc head) n j
    values n j few f (inl e) =
        ap (λ (x : ℕ). value_of j (map_of x more)) e ∙ value j (λ q. f (e ∙ q)) (cases_eq k j) ∙ ap (λ (x : ℕ). value_under s (suc head) x j) (sym e)
    values n j few f (inr ne) = ap (value_of j) (elsewhere n ne) ∙ p.values n j few (λ q. absurd (ne (q ∙ sym named)))

-- all of the head was read
pub part_end : (s : State) (head : ℕ) (left : Map) (all : Maps) → left ≡ [] → HasPart s head left all → HasHeads s (head + 1) all
part_end s head left all none p = record {
  whole = p.whole;
  rising = p.rising;
  values =
      λ name k few. p.values name k few (λ q. ap (has_key k) none) ∙ ap (λ (h : ℕ). value_under s h name k) (let e : suc head ≡ head + 1 = omega arith in e);
}

-- A key has its value in the catalogue where it stands.
none_high : (r : Option ℕ) → ((v : ℕ) → r ≡ Some v → ⊥) → r ≡ None
none_high None f = refl
none_high (Some v) f = absurd (f v refl)

value_in : (s : State) (name k : ℕ) → IsLawful s → name < 30 → value_of k (map_of name (catalogue_of s)) ≡ value_of k (map_at s (head_of name k))
value_in s name k l few = elim (cases_lt name first_tree) [
  | inr tree ↦ (let h = head_root name k tree in
      ap (λ (n : ℕ). value_of k (map_of n (catalogue_of s))) (sym (head_named name k few))
      ∙ ap (value_of k) (map_of-root s (head_of name k) (omega arith) (omega arith)))
  | inl low ↦ elim (cases_lt k (2 ^ 32)) [
    | inl fits ↦ (let named = head_named name k few in
        ap (λ (n : ℕ). value_of k (map_of n (catalogue_of s))) (sym named)
        ∙ map_of-value s (head_of name k) k l (low_head name k low) (low_fits name k low fits))
    | inr high ↦ none_high (value_of k (map_of name (catalogue_of s))) (λ v e. named_low v high e)
        ∙ sym (none_high (value_of k (map_at s (head_of name k))) (λ v e. head_low v high e))
  ]
]
  where
    head_low : (v : ℕ) → 2 ^ 32 ≤ k → value_of k (map_at s (head_of name k)) ≡ Some v → ⊥
    head_low v high e =
        let u = map_at-value s (head_of name k) k v e in
        let own : owner s u.0 ≢ 0 = λ z. absurd (let o : owner s u.0 ≡ suc (head_of name k) = u.1.own in omega arith) in
        let fits : key s u.0 < 2 ^ 32 = key_fits s u.0 l u.1.node own in
        let is : key s u.0 ≡ k = u.1.key_is in absurd (omega arith)

    named_low : (v : ℕ) → 2 ^ 32 ≤ k → value_of k (map_of name (catalogue_of s)) ≡ Some v → ⊥
    named_low v high e =
        let u = map_among-value (is_key_of name) _ k v (ap (value_of k) (sym (map_of-catalogue_of s name few)) ∙ e) in
        let f : words_at s (180 + u.0) ≡ _ = sym (get_or-drop 180 s u.0 []) in
        let some : 0 < owner s (180 + u.0) = (is_key-from name (words_at s (180 + u.0)) (ap (is_key_of name) f ∙ u.1)).0 in
        let own : owner s (180 + u.0) ≢ 0 = λ z. absurd (omega arith) in
        let fits : key s (180 + u.0) < 2 ^ 32 = key_fits s (180 + u.0) l (omega arith) own in
        let is : key s (180 + u.0) ≡ k = ap (word 2) f ∙ u.2 in absurd (omega arith)

pub heads_are : (s : State) (n heads : ℕ) (all : Maps) → n ≡ heads → HasHeads s n all → HasHeads s heads all
heads_are s n heads all e h = subst (λ (x : ℕ). HasHeads s x all) e h

-- once all heads were read
pub heads_all : (s : State) (all : Maps) → IsLawful s → HasHeads s 180 all → all ≡ catalogue_of s
heads_all s all l h = ext_get_or [] all (catalogue_of s) (h.whole ∙ sym (length-catalogue_of s)) (λ i lt. (let few : i < 30 = subst (λ u. i < u) h.whole lt in
    same_maps (map_of i all) (map_of i (catalogue_of s)) (h.rising i few) (subst IsMap (sym (map_of-catalogue_of s i few)) (IsMap-map_among _ _))
    (λ k. h.values i k few ∙ under_read s 180 i k (head_below i k few) ∙ sym (value_in s i k l few))))

-- The walk along the nodes of a head, which have these entries.
pub record AtNode (s : State) (head node : ℕ) (left : Map) : Type 0 where
  pub nodes : Nodes
  pub here : node ≡ first_of nodes
  pub links : Links s head nodes
  pub rising : IsRising nodes
  pub entries : left ≡ entries_of nodes

pub list_start : (s : State) (head : ℕ) (words : List ℕ) → IsLawful s → head < 170 → words ≡ words_at s head → AtNode s head (word 3 words) (map_at s head)
list_start s head words l lt e =
    let ns = l.lists head lt in
    record { nodes = ns.0; here = ap (word 3) e ∙ ap (word 3) ns.1.first; links = ns.1.links; rising = ns.1.rising; entries = map_at-list s head ns.0 ns.1 }

-- one node further, whose entry is the first
pub record IsNextNode (s : State) (head node : ℕ) (words : List ℕ) (left : Map) : Type 0 where
  pub key_fits : word 2 words < 2 ^ 32
  pub rest : Map
  pub first : left ≡ (word 2 words, word 5 words) ∷ rest
  pub next : AtNode s head (word 3 words) rest
  pub less : walk_left s (word 3 words) < walk_left s node

pub node_in_range : (s : State) (head node : ℕ) (left : Map) → IsLawful s → node ≢ 0 → AtNode s head node left → (node < length s) × (node < 2 ^ 32)
node_in_range s head node left l n a = go a.nodes a.here a.links
  where
    go : (ns : Nodes) → node ≡ first_of ns → Links s head ns → (node < length s) × (node < 2 ^ 32)
    go [] h q = absurd (n h)
    go (m ∷ ns) h q =
        let in_range : m.object < length s = owned_in_range s m.object head (ap (word 0) q.2) in let few = l.few in (omega arith, omega arith)

left_at : (s : State) (node : ℕ) → node ≢ 0 → walk_left s node ≡ 2 ^ 32 - key s node
unfolding walk_left
left_at s node n = ap (λ (b : Bool). cond b 0 (2 ^ 32 - key s node)) (ne_eqb node 0 n)

left_end : (s : State) → walk_left s 0 ≡ 0
unfolding walk_left
left_end s = refl

pub next_node : (s : State) (head node : ℕ) (words : List ℕ) (left : Map) → node ≢ 0 → words ≡ words_at s node → AtNode s head node left →
    IsNextNode s head node words left
next_node s head node words left n e a = go a.nodes a.here a.links a.rising a.entries
  where
    less : (k : ℕ) (ns : Nodes) → Links s head ns → IsAbove k ns → k < 2 ^ 32 → key s node ≡ k → (o : ℕ) → o ≡ first_of ns → walk_left s o < walk_left s node
    less k [] q up fits is o h =
        let here = left_at s node n in let end : walk_left s o ≡ 0 = ap (walk_left s) h ∙ left_end s in omega arith
    less k (m ∷ ns) q up fits is o h =
        let low : 180 ≤ m.object = q.0 in
        let there : walk_left s o ≡ 2 ^ 32 - key s o = left_at s o (λ z. absurd (omega arith)) in
        let here = left_at s node n in
        let ko : key s o ≡ m.key = ap (key s) h ∙ ap (word 2) q.2 in
        let above : k < m.key = up.0 in omega arith

    go : (ns : Nodes) → node ≡ first_of ns → Links s head ns → IsRising ns → left ≡ entries_of ns → IsNextNode s head node words left
    go [] h q r f = absurd (n h)
    go (m ∷ ns) h q r f =
        let w : words ≡ _ = e ∙ ap (words_at s) h ∙ q.2 in
        let kw : word 2 words ≡ m.key = ap (word 2) w in
        let vw : word 5 words ≡ m.value = ap (word 5) w in
        let lw : word 3 words ≡ first_of ns = ap (word 3) w in
        let fits : m.key < 2 ^ 32 = q.1.0 in
        let kn : key s node ≡ m.key = ap (word 2) (sym e) ∙ kw in
        record {
          key_fits = omega arith;
          rest = entries_of ns;
          first = f ∙ (let x : (m.key, m.value) ∷ entries_of ns ≡ (word 2 words, word 5 words) ∷ entries_of ns = cc in x);
          next = record { nodes = ns; here = lw; links = q.3; rising = r.1; entries = refl };
          less = less m.key ns q.3 r.0 fits kn (word 3 words) lw;
        }

-- The cost of a lawful state's catalogue is the number of its nodes that are not vacant.
use Rattle.std.proofs.Common.{◌≡◌, ◌≢◌, ℕ, zero, suc, ◌+◌, ◌-◌, ◌*◌, ◌<◌, ◌≤◌, ◌⊎◌, inl, inr, Bool, true}
use Rattle.std.proofs.Common.{false, cond, eqb, not, ◌&&◌, eqb-true, eq-eqb, ne_eqb, lt-ltb, le-ltb, List, [], ◌∷◌, length, map, drop, refl}
use Rattle.std.proofs.Common.{sym, ap, ◌∙◌, subst, arith, true≢false, length-drop, Option, Some, None}
use Rattle.std.proofs.lemmas.Bool.{cases_eq, cases_lt}
use Rattle.mv_history.specs.State.{State}
use Rattle.mv_history.specs.Meaning.{words_at}
use Rattle.set_model.specs.Catalogue.{Map, cost_of, cost_from, cost}
use Rattle.set_model.specs.CatalogueOf.{name_of, is_key_of, map_in, map_at, numbers, catalogue_of, count_used, used}
use Rattle.set_model.specs.Objects.{owner, kind}
use Rattle.set_model.specs.Trees.{Tree, objects_in, entries_in, IsTree}
use Rattle.set_model.specs.Lawful.{IsLawful}
use Rattle.set_model.proofs.ObjectWords.{word, owned_in_range}
use Rattle.set_model.proofs.Mapped.{is_key-from, is_key-to}
use Rattle.set_model.proofs.Heads.{head_low, name_bound, owned_kind}
use Rattle.set_model.proofs.ListMaps.{key_once}
use Rattle.set_model.proofs.NameMaps.{map_in-alone}
use Rattle.set_model.proofs.TreeShape.{Stands-node, Stands-owner, only_in, objects_count}
use Rattle.set_model.proofs.TreeMaps.{map_at-tree, map_at-empty}
use Rattle.set_model.proofs.Tally.{tally, tally-none, tally-same, length-map_among, node_at, tally_list}

-- whether these are the words of a node of this name, inner nodes of trees among them
abbrev is_node_of : ℕ → List ℕ → Bool
is_node_of name w = not (eqb (word 0 w) 0) && eqb (name_of (word 0 w - 1)) name

node-from : (name : ℕ) (w : List ℕ) → is_node_of name w ≡ true → (0 < word 0 w) × (name_of (word 0 w - 1) ≡ name)
node-from name w e = grind (arith, eqb-true)

node-to : (name : ℕ) (w : List ℕ) → 0 < word 0 w → name_of (word 0 w - 1) ≡ name → is_node_of name w ≡ true
node-to name w p e = grind (arith, eq-eqb)

-- in lists and buckets each node holds a key
node_is_key : (s : State) (name o : ℕ) → IsLawful s → name < 20 → 180 ≤ o → is_node_of name (words_at s o) ≡ is_key_of name (words_at s o)
node_is_key s name o l low lo = go (is_node_of name (words_at s o)) refl (is_key_of name (words_at s o)) refl
  where
    holds : is_node_of name (words_at s o) ≡ true → is_key_of name (words_at s o) ≡ true
    holds e =
        let f = node-from name (words_at s o) e in
        let some : 0 < owner s o = f.0 in
        let lh : owner s o - 1 < 170 = head_low (owner s o - 1) (subst (λ (n : ℕ). n < 20) (sym f.1) low) in
        let z : kind s o ≡ 0 = owned_kind s (owner s o - 1) o l lh lo (omega arith) in
        is_key-to name (words_at s o) f.0 (omega arith) f.1

    go : (a : Bool) → is_node_of name (words_at s o) ≡ a → (b : Bool) → is_key_of name (words_at s o) ≡ b
        → is_node_of name (words_at s o) ≡ is_key_of name (words_at s o)
    go true e b f = e ∙ sym (holds e)
    go false e false f = e ∙ sym f
    go false e true f = (let k = is_key-from name (words_at s o) f in absurd (true≢false (sym (node-to name (words_at s o) k.0 k.2) ∙ e)))

-- the cost of the name of a list, or of buckets, is the number of its nodes
cost_low : (s : State) (name : ℕ) → IsLawful s → name < 20 → cost_of name (map_in s name) ≡ tally (is_node_of name) (drop 180 s)
cost_low s name l low =
    let keys : length (map_in s name) ≡ tally (is_key_of name) (drop 180 s) = length-map_among (is_key_of name) (drop 180 s) (λ i j a b e.
    (let q : 180 + i ≡ 180 + j = key_once s name l low (180 + i) (180 + j) (omega arith) (omega arith)
    (ap (is_key_of name) (sym (node_at s i)) ∙ a) (ap (is_key_of name) (sym (node_at s j)) ∙ b)
    (ap (word 2) (sym (node_at s i)) ∙ e ∙ ap (word 2) (node_at s j)) in omega arith)) in
    ap (λ (b : Bool). cond b (length (map_in s name)) (2 * length (map_in s name) - 1)) (lt-ltb name 20 low) ∙ keys
    ∙ sym (tally-same (is_node_of name) (is_key_of name) (drop 180 s)
    (λ i h. ap (is_node_of name) (node_at s i) ∙ node_is_key s name (180 + i) l low (omega arith) ∙ ap (is_key_of name) (sym (node_at s i))))

name_of-root : (name : ℕ) → 20 ≤ name → name < 30 → name_of (name + 150) ≡ name
name_of-root name lo lt = grind (arith, cases_lt)

one_root : (head name : ℕ) → 20 ≤ name → name_of head ≡ name → head ≡ name + 150
one_root head name lo e = grind (arith, cases_lt)

-- the cost of a tree's name is the number of its nodes
cost_root : (s : State) (name : ℕ) → IsLawful s → 20 ≤ name → name < 30 → cost_of name (map_in s name) ≡ tally (is_node_of name) (drop 180 s)
cost_root s name l lo lt =
    let is : map_in s name ≡ map_at s (name + 150) = ap (map_in s) (sym (name_of-root name lo lt)) ∙ map_in-alone s (name + 150) (inr (omega arith)) in
    ap (λ (b : Bool). cond b (length (map_in s name)) (2 * length (map_in s name) - 1)) (le-ltb name 20 lo) ∙ ap (λ (m : Map). 2 * length m - 1) is
    ∙ by_tree (l.trees (name + 150) (omega arith) (omega arith)).0 (l.trees (name + 150) (omega arith) (omega arith)).1
  where
    own_of : (o : ℕ) → is_node_of name (words_at s o) ≡ true → owner s o ≡ suc (name + 150)
    own_of o e =
        let f = node-from name (words_at s o) e in
        let some : 0 < owner s o = f.0 in
        let q : owner s o - 1 ≡ name + 150 = one_root (owner s o - 1) name lo f.1 in omega arith

    picked : (o : ℕ) → owner s o ≡ suc (name + 150) → is_node_of name (words_at s o) ≡ true
    picked o e =
        let q : owner s o - 1 ≡ name + 150 = omega arith in
        node-to name (words_at s o) (omega arith) (ap name_of q ∙ name_of-root name lo lt)

    by_tree : (t : Option Tree) → IsTree s (name + 150) t → 2 * length (map_at s (name + 150)) - 1 ≡ tally (is_node_of name) (drop 180 s)
    by_tree None q =
        let none : tally (is_node_of name) (drop 180 s) ≡ 0 = tally-none (is_node_of name) (drop 180 s) (λ i h e.
        q.1 (180 + i) (omega arith) (own_of (180 + i) (ap (is_node_of name) (sym (node_at s i)) ∙ e))) in
        ap (λ (m : Map). 2 * length m - 1) (map_at-empty s (name + 150) q) ∙ sym none
    by_tree (Some t) q =
        let many : tally (is_node_of name) (drop 180 s) ≡ length (objects_in t) = tally_list (is_node_of name) (objects_in t) s refl q.distinct
        (λ o i. (let own : owner s o ≡ suc (name + 150) = Stands-owner s (name + 150) t q.stands o i in
        (Stands-node s (name + 150) t q.stands o i, owned_in_range s o (name + 150) own, picked o own)))
        (λ o ge e. only_in s (name + 150) t q o ge (own_of o e)) in
        let both = objects_count t in
        let less : 2 * length (entries_in t) - 1 ≡ length (objects_in t) = omega arith in
        ap (λ (m : Map). 2 * length m - 1) (map_at-tree s (name + 150) t q) ∙ less ∙ sym many

-- The names' nodes together: the tallies of `count` names from n on, and how often one object is picked by them.
tallies : ℕ → ℕ → State → ℕ
tallies zero n s = 0
tallies (suc count) n s = tally (is_node_of n) s + tallies count (suc n) s

picks : ℕ → ℕ → List ℕ → ℕ
picks zero n w = 0
picks (suc count) n w = cond (is_node_of n w) 1 0 + picks count (suc n) w

tallies-nil : (count n : ℕ) → tallies count n [] ≡ 0
unfolding tallies
tallies-nil zero n = refl
tallies-nil (suc count) n = let r : tallies count (suc n) [] ≡ 0 = tallies-nil count (suc n) in omega arith

tallies-cons : (count n : ℕ) (w : List ℕ) (s : State) → tallies count n (w ∷ s) ≡ picks count n w + tallies count n s
unfolding tallies picks
tallies-cons zero n w s = refl
tallies-cons (suc count) n w s = let r = tallies-cons count (suc n) w s in omega arith

not_node : (n : ℕ) (w : List ℕ) → (word 0 w ≡ 0) ⊎ (name_of (word 0 w - 1) ≢ n) → is_node_of n w ≡ false
not_node n w h = go h (is_node_of n w) refl
  where
    go : (word 0 w ≡ 0) ⊎ (name_of (word 0 w - 1) ≢ n) → (b : Bool) → is_node_of n w ≡ b → b ≡ false
    go h false e = refl
    go (inl z) true e = let f : 0 < word 0 w = (node-from n w e).0 in absurd (omega arith)
    go (inr ne) true e = absurd (ne (node-from n w e).1)

picks-none : (count n : ℕ) (w : List ℕ) → (word 0 w ≡ 0) ⊎ (name_of (word 0 w - 1) < n) → picks count n w ≡ 0
unfolding picks
picks-none zero n w h = refl
picks-none (suc count) n w h =
    let z : is_node_of n w ≡ false = not_node n w (elim h [ inl e ↦ inl e | inr lt ↦ inr (omega arith) ]) in
    let r : picks count (suc n) w ≡ 0 = picks-none count (suc n) w (elim h [ inl e ↦ inl e | inr lt ↦ inr (omega arith) ]) in
    ap (λ (b : Bool). cond b 1 0 + picks count (suc n) w) z ∙ omega arith

picks-one : (count n : ℕ) (w : List ℕ) → 0 < word 0 w → n ≤ name_of (word 0 w - 1) → name_of (word 0 w - 1) < n + count → picks count n w ≡ 1
unfolding picks
picks-one zero n w p a b = absurd (omega arith)
picks-one (suc count) n w p a b = go (cases_eq (name_of (word 0 w - 1)) n) (picks-one count (suc n) w p)
  where
    go : (name_of (word 0 w - 1) ≡ n) ⊎ (name_of (word 0 w - 1) ≢ n)
        → (suc n ≤ name_of (word 0 w - 1) → name_of (word 0 w - 1) < suc n + count → picks count (suc n) w ≡ 1)
        → cond (is_node_of n w) 1 0 + picks count (suc n) w ≡ 1
    go (inl e) rest =
        let r : picks count (suc n) w ≡ 0 = picks-none count (suc n) w (inr (omega arith)) in
        ap (λ (b : Bool). cond b 1 0 + picks count (suc n) w) (node-to n w p e) ∙ omega arith
    go (inr e) rest =
        let r : picks count (suc n) w ≡ 1 = rest (omega arith) (omega arith) in
        ap (λ (b : Bool). cond b 1 0 + picks count (suc n) w) (not_node n w (inr e)) ∙ omega arith

tallies-used : (s : State) → ((i : ℕ) → i < length s → 0 < word 0 (words_at s i) → name_of (word 0 (words_at s i) - 1) < 30) → tallies 30 0 s ≡ count_used s
tallies-used [] f = tallies-nil 30 0
tallies-used (w ∷ s) f =
    let r : tallies 30 0 s ≡ count_used s = tallies-used s (λ i l. f (suc i) (omega arith)) in
    tallies-cons 30 0 w s ∙ go (cases_eq (word 0 w) 0) r
  where
    go : (word 0 w ≡ 0) ⊎ (word 0 w ≢ 0) → tallies 30 0 s ≡ count_used s → picks 30 0 w + tallies 30 0 s ≡ cond (eqb (word 0 w) 0) 0 1 + count_used s
    go (inl e) r =
        let p : picks 30 0 w ≡ 0 = picks-none 30 0 w (inl e) in
        let q : cond {A = ℕ} (eqb (word 0 w) 0) 0 1 ≡ 0 = ap (λ (b : Bool). cond {A = ℕ} b 0 1) (eq-eqb (word 0 w) 0 e) in omega arith
    go (inr n) r =
        let some : 0 < word 0 w = omega arith in
        let p : picks 30 0 w ≡ 1 = picks-one 30 0 w some (omega arith) (f 0 (omega arith) some) in
        let q : cond {A = ℕ} (eqb (word 0 w) 0) 0 1 ≡ 1 = ap (λ (b : Bool). cond {A = ℕ} b 0 1) (ne_eqb (word 0 w) 0 n) in omega arith

cost-tallies : (s : State) → IsLawful s → (count n : ℕ) → n + count ≤ 30
    → cost_from n (map (λ name. map_in s name) (numbers count n)) ≡ tallies count n (drop 180 s)
unfolding tallies
cost-tallies s l zero n h = refl
cost-tallies s l (suc count) n h =
    let a : cost_of n (map_in s n) ≡ tally (is_node_of n) (drop 180 s) =
    elim (cases_lt n 20) [ inl lt ↦ cost_low s n l lt | inr ge ↦ cost_root s n l ge (omega arith) ] in
    let b = cost-tallies s l count (suc n) (omega arith) in omega arith

pub cost_is : (s : State) → IsLawful s → cost (catalogue_of s) ≡ used s
unfolding cost catalogue_of
cost_is s l = cost-tallies s l 30 0 (omega arith) ∙ tallies-used (drop 180 s) (λ i h p.
    (let b : owner s (180 + i) ≤ 180 = l.owned (180 + i) (omega arith) in
    let own : word 0 (words_at (drop 180 s) i) ≡ owner s (180 + i) = ap (word 0) (node_at s i) in
    name_bound (word 0 (words_at (drop 180 s) i) - 1) (omega arith)))

used-bound : (s : State) → count_used s ≤ length s
used-bound [] = omega arith
used-bound (w ∷ s) = go (eqb (word 0 w) 0) (used-bound s)
  where
    go : (b : Bool) → count_used s ≤ length s → cond b 0 1 + count_used s ≤ suc (length s)
    go true h = omega arith
    go false h = omega arith

-- A lawful state's catalogue fits into its nodes.
pub cost_fits : (s : State) → IsLawful s → cost (catalogue_of s) ≤ length s - 180
cost_fits s l =
    let a : cost (catalogue_of s) ≡ used s = cost_is s l in
    let b : used s ≤ length (drop 180 s) = used-bound (drop 180 s) in
    let c = length-drop 180 s in omega arith

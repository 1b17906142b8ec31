-- From what a search found to what an add, a del and a put leave. Section `a` is the old one, `b` the one in which the locks begin, as it was, and `c` the new
-- one.
use Rattle.std.proofs.Common.{
  ◌≡◌,
  ◌≢◌,
  ℕ,
  ◌<◌,
  ◌≤◌,
  inl,
  inr,
  true,
  false,
  Bool,
  cond,
  not,
  ◌&&◌,
  eqb,
  List,
  [],
  ◌∷◌,
  length,
  refl,
  sym,
  ap,
  ◌∙◌,
  subst,
  arith,
  Option,
  Some,
  None,
}
use Rattle.std.proofs.lemmas.Bool.Decides.{nat_tests}
use Rattle.mv_history.specs.State.{State, Writes}
use Rattle.mv_history.specs.Legal.{are_distinct, AreWithin}
use Rattle.mv_history.specs.Meaning.{InSection, state_of}
use Rattle.mv_history.specs.Calls.{IsAsBefore, GoesOn}
use Rattle.mv_history.proofs.Steps.{GoesOn-GoesOn}
use Rattle.mv_history.proofs.Snapshots.{snapshot_of-goes_on}
use Rattle.set_model.specs.Catalogue.{has_key, value_of}
use Rattle.set_model.specs.CatalogueOf.{map_at, catalogue_of}
use Rattle.set_model.specs.Objects.{owner, key, link}
use Rattle.set_model.specs.Lists.{FitsHead}
use Rattle.set_model.specs.Lawful.{IsLawful}
use Rattle.set_model.proofs.ObjectWords.{word}
use Rattle.list_set.specs.Places.{IsAddPlace, add_writes, IsDelPlace, del_writes, IsPutPlace, put_writes}
use Rattle.section_work.specs.OwnWrites.{with_locks, with_writes, objects_of}
use Rattle.section_work.specs.Held.{count_unheld, HasRoom, HoldsMore}
use Rattle.section_work.specs.Locking.{Rewritten, Refuses}
use Rattle.list_set.specs.Calls.{Adds, Takes, Puts}
use Rattle.list_set.specs.Walks.{IsFound, IsWindow}
use Rattle.section_work.specs.declared.causes.Refusal.{Refusal}
use Rattle.list_set.proofs.Parts.{place_in_range, place_not_vacant}
use Rattle.list_set.proofs.Adding.{add_lawful, add_catalogue}
use Rattle.list_set.proofs.Removing.{removal, del_catalogue}
use Rattle.list_set.proofs.Putting.{put_lawful, put_catalogue}
use Rattle.mv_history.proofs.Holding.{state_of-as_before}

-- What was read before the locks changes nothing.
module _ (a b c : InSection) (le : a.at ≤ length a.seat.seen) (same : IsAsBefore a b) (goes : GoesOn a b) where
  as_before-state : state_of b ≡ state_of a
  as_before-state = state_of-as_before a b le same

  with_locks-before : (os : List ℕ) → with_locks (state_of b) b.own os ≡ with_locks (state_of a) a.own os
  with_locks-before os =
      ap (λ (u : State). with_locks u b.own os) as_before-state ∙ ap (λ (u : Writes). with_locks (state_of a) u os) same.own

  holds_before : (os : List ℕ) (ws : Writes) → HoldsMore b c os ws → HoldsMore a c os ws
  holds_before os ws h = record {
    goes_on = GoesOn-GoesOn goes h.goes_on;
    spare = let e : count_unheld b.own os ≡ count_unheld a.own os = ap (λ (u : Writes). count_unheld u os) same.own in let x = h.spare in let y =
        same.seat.spare in omega arith;
    own = h.own;
    snapshot = h.snapshot ∙ snapshot_of-goes_on a b goes le;
  }

  pub rewritten_before : (os : List ℕ) (ws : Writes) → Rewritten b c os ws → Rewritten a c os ws
  rewritten_before os ws r = record {
    holds = subst (λ (u : Writes). HoldsMore a c os (with_writes u ws)) (with_locks-before os)
        (holds_before os (with_writes (with_locks (state_of b) b.own os) ws) r.holds);
    state = r.state ∙ ap (λ (u : State). Rattle.mv_history.specs.State.written u ws) as_before-state;
  }

pub refuses_before : (a b c : InSection) → a.at ≤ length a.seat.seen → IsAsBefore a b → GoesOn a b
    → (may : Type 0) (found : InSection → InSection → ℕ → ℕ → Type 0) (os : List ℕ) (refusal answer : Refusal) → refusal ≡ answer
    → Refuses may found b c os refusal
    → Refuses may found a c os answer
refuses_before a b c le same goes may found os refusal answer e r = subst (λ (u : Refusal). Refuses may found a c os u) e (record {
  held = r.held;
  object = r.object;
  rest = r.rest;
  parts = r.parts;
  before = r.before;
  holds = subst (λ (u : Writes). HoldsMore a r.before r.held u) (with_locks-before a b r.before le same goes r.held)
      (holds_before a b r.before le same goes r.held (with_locks (state_of b) b.own r.held) r.holds);
  refused = r.refused;
  state = r.state ∙ state_of-as_before a b le same;
})

pub room_before : (a b : InSection) (os : List ℕ) → IsAsBefore a b → HasRoom a os → HasRoom b os
room_before a b os same r =
    let e : count_unheld b.own os ≡ count_unheld a.own os = ap (λ (u : Writes). count_unheld u os) same.own in
    let l : length b.own ≡ length a.own = ap length same.own in
    record {
      spare = let x = r.spare in let y = same.seat.spare in omega arith;
      held = let x = r.held in let y = same.seat.continues.write_max in omega arith;
    }

-- The writes are of different objects in range. Their words do not matter to that.
pub one_within : (o m : ℕ) → o < m → AreWithin ((o, []) ∷ []) m
one_within o m lt = λ u t. grind (arith, nat_tests)

pub two_within : (o p m : ℕ) → o < m → p < m → AreWithin ((o, []) ∷ (p, []) ∷ []) m
two_within o p m lo lp = λ u t. grind (arith, nat_tests)

-- and where the state is as before
pub within_before : (a b : InSection) (ws vs : Writes) → a.at ≤ length a.seat.seen → IsAsBefore a b → ws ≡ vs → AreWithin vs (length (state_of a))
    → AreWithin ws (length (state_of b))
within_before a b ws vs le same e w =
    subst (λ (u : State). AreWithin ws (length u)) (sym (state_of-as_before a b le same)) (subst (λ (u : Writes). AreWithin u (length (state_of a))) (sym e) w)

pub two_distinct : (o p : ℕ) → o ≢ p → are_distinct ((o, []) ∷ (p, []) ∷ []) ≡ true
two_distinct o p n = grind (arith, nat_tests)

-- What a search found, in the state of its view.
module _ (s t : State) (head k p : ℕ) (words : List ℕ) (node : ℕ) (node_words : List ℕ) (has : Bool) (same : s ≡ t)
    (i : IsWindow s head k p words node node_words) (is : has ≡ (not (eqb node 0) && eqb (word 2 node_words) k)) where
  -- where it didn't find the key, it found the place of an add
  add_place : has ≡ false → IsAddPlace s head k p
  add_place missed = record {
    within = i.within;
    below = i.below;
    above = elim i.found [
      | inl z ↦ inl (sym i.next ∙ z)
      | inr f ↦ (let lo : 180 ≤ node = f.is_node in
          let d : k ≤ key s node = f.above in
          let u : word 2 node_words ≡ key s node = ap (word 2) f.words_are in
          let test : (not (eqb node 0) && eqb (word 2 node_words) k) ≡ false = sym is ∙ missed in
          let n : word 2 node_words ≢ k = grind (arith, nat_tests) in
          let x : key s node ≡ key s (link s p) = ap (key s) i.next in inr (omega arith))
    ];
  }

  pub add_found : has ≡ false → (v n : ℕ) (ws : Writes) → ws ≡ add_writes s head k v p n → IsAddPlace t head k p × (ws ≡ add_writes t head k v p n)
  add_found missed v n ws e =
      subst (λ (u : State). IsAddPlace u head k p × (ws ≡ add_writes u head k v p n)) same (add_place missed, e)

  -- where it found the key, it found that of a del and of a put
  found_node : has ≡ true → IsFound s head k node node_words × (key s node ≡ k)
  found_node found = elim i.found [
    | inl z ↦ (let test : (not (eqb node 0) && eqb (word 2 node_words) k) ≡ true = sym is ∙ found in absurd (none z test))
    | inr f ↦ (let test : (not (eqb node 0) && eqb (word 2 node_words) k) ≡ true = sym is ∙ found in
        let e : word 2 node_words ≡ k = grind (arith, nat_tests) in (f, sym (ap (word 2) f.words_are) ∙ e))
  ]
    where
      none : node ≡ 0 → (not (eqb node 0) && eqb (word 2 node_words) k) ≡ true → ⊥
      none z test = grind (arith, nat_tests)

  -- which is not 0
  pub found_some : has ≡ true → node ≢ 0
  found_some found = let lo : 180 ≤ node = (found_node found).0.is_node in omega arith

  pub del_found : has ≡ true → (ws : Writes) → (node ≢ 0 → ws ≡ del_writes s p node) → IsDelPlace t head k p node × (ws ≡ del_writes t p node)
  del_found found ws e =
      let f = found_node found in
      subst (λ (u : State). IsDelPlace u head k p node × (ws ≡ del_writes u p node)) same
      (record { within = i.within; behind = sym i.next; some = found_some found; has = f.1 }, e (found_some found))

  put_found : has ≡ true → (v : ℕ) (ws : Writes) → (node ≢ 0 → ws ≡ put_writes s node v) → IsPutPlace t head k node × (ws ≡ put_writes t node v)
  put_found found v ws e =
      let f = found_node found in
      subst (λ (u : State). IsPutPlace u head k node × (ws ≡ put_writes u node v)) same
      (record { is_node = f.0.is_node; own = f.0.own; has = f.1 }, e (found_some found))

  -- whether the key is in the map of the head
  pub window_has : has ≡ has_key k (map_at t head)
  window_has = is ∙ i.has ∙ ap (λ (u : State). has_key k (map_at u head)) same

  pub window_value : has ≡ true → Some (word 5 node_words) ≡ value_of k (map_at t head)
  window_value found =
      ap (λ (b : Bool). cond b (Some (word 5 node_words)) None) (sym (sym is ∙ found)) ∙ i.value ∙ ap (λ (u : State). value_of k (map_at u head)) same

-- a search for a key that is there found the place of a put, and its value
module _ (s t : State) (head k p : ℕ) (words : List ℕ) (node : ℕ) (node_words : List ℕ) (same : s ≡ t) (i : IsWindow s head k p words node node_words)
    (present : has_key k (map_at t head) ≡ true) where
  present_here : has_key k (map_at s head) ≡ true
  present_here = ap (λ (u : State). has_key k (map_at u head)) same ∙ present

  pub put_value : Some (word 5 node_words) ≡ value_of k (map_at t head)
  put_value = window_value s t head k p words node node_words (has_key k (map_at s head)) same i (sym i.has) present_here

  pub put_window : (v : ℕ) (ws : Writes) → (node ≢ 0 → ws ≡ put_writes s node v) → IsPutPlace t head k node × (ws ≡ put_writes t node v)
  put_window v ws e = put_found s t head k p words node node_words (has_key k (map_at s head)) same i (sym i.has) present_here v ws e

-- another value than that which was found is not the key's
pub other_value : (found value : ℕ) (there : Option ℕ) → Some found ≡ there → (found ≡ value → ⊥) → there ≡ Some value → ⊥
other_value found value there e n q = let same : Some found ≡ Some value = e ∙ q in n (cc)

-- What the rewritten objects are to the catalogue, and what the locks need, for the writes of an add, a del and a put.
module _ (a : InSection) (head k v p n : ℕ) (ws : Writes) (l : IsLawful (state_of a)) (lh : head < 170) (place : IsAddPlace (state_of a) head k p)
    (e : ws ≡ add_writes (state_of a) head k v p n) (lo : 180 ≤ n) (lt : n < length (state_of a)) (vac : owner (state_of a) n ≡ 0) where
  pub add_distinct : are_distinct ws ≡ true
  add_distinct = ap are_distinct e ∙ two_distinct p n (place_not_vacant (state_of a) head p n (omega arith) place.within lo vac)

  pub add_within : (b : InSection) → a.at ≤ length a.seat.seen → IsAsBefore a b → AreWithin ws (length (state_of b))
  add_within b le same =
      within_before a b ws (add_writes (state_of a) head k v p n) le same e
      (two_within p n (length (state_of a)) (place_in_range (state_of a) head p l lh place.within) lt)

  pub add_adds : (c : InSection) → FitsHead head k → Rewritten a c (objects_of ws) ws → Adds a c head k v n
  add_adds c fit r =
      let change : Rewritten a c (p ∷ n ∷ []) (add_writes (state_of a) head k v p n) =
      subst (λ (u : Writes). Rewritten a c (objects_of u) u) e r in
      record {
        previous = p;
        place = place;
        change = change;
        lawful = subst (λ (u : State). IsLawful u) (sym change.state) (add_lawful (state_of a) head k v p n l lh fit place lo lt vac);
        catalogue = ap catalogue_of change.state ∙ add_catalogue (state_of a) head k v p n l lh fit place lo lt vac;
      }

module _ (a : InSection) (head k p n : ℕ) (ws : Writes) (l : IsLawful (state_of a)) (lh : head < 170) (place : IsDelPlace (state_of a) head k p n)
    (e : ws ≡ del_writes (state_of a) p n) where
  pub del_distinct : are_distinct ws ≡ true
  del_distinct = ap are_distinct e ∙ two_distinct p n (removal (state_of a) head k p n l lh place).apart

  pub del_within : (b : InSection) → a.at ≤ length a.seat.seen → IsAsBefore a b → AreWithin ws (length (state_of b))
  del_within b le same =
      let m = removal (state_of a) head k p n l lh place in
      within_before a b ws (del_writes (state_of a) p n) le same e (two_within p n (length (state_of a)) m.previous_in m.node_in)

  pub del_takes : (c : InSection) (answer : ℕ) → n ≡ answer → Rewritten a c (objects_of ws) ws → Takes a c head k answer
  del_takes c answer same r =
      let change : Rewritten a c (p ∷ n ∷ []) (del_writes (state_of a) p n) =
      subst (λ (u : Writes). Rewritten a c (objects_of u) u) e r in
      subst (λ (u : ℕ). Takes a c head k u) same (record {
        previous = p;
        place = place;
        change = change;
        lawful = subst (λ (u : State). IsLawful u) (sym change.state) (removal (state_of a) head k p n l lh place).lawful;
        catalogue = ap catalogue_of change.state ∙ del_catalogue (state_of a) head k p n l lh place;
      })

module _ (a : InSection) (head k v n : ℕ) (ws : Writes) (l : IsLawful (state_of a)) (lh : head < 170) (place : IsPutPlace (state_of a) head k n)
    (e : ws ≡ put_writes (state_of a) n v) where
  pub put_distinct : are_distinct ws ≡ true
  put_distinct = ap are_distinct e ∙ refl

  pub put_within : (b : InSection) → a.at ≤ length a.seat.seen → IsAsBefore a b → AreWithin ws (length (state_of b))
  put_within b le same =
      within_before a b ws (put_writes (state_of a) n v) le same e
      (one_within n (length (state_of a)) (place_in_range (state_of a) head n l lh (inr (place.is_node, place.own))))

  pub put_puts : (c : InSection) → Rewritten a c (objects_of ws) ws → Puts a c head k v
  put_puts c r =
      let change : Rewritten a c (n ∷ []) (put_writes (state_of a) n v) = subst (λ (u : Writes). Rewritten a c (objects_of u) u) e r in
      record {
        node = n;
        place = place;
        change = change;
        lawful = subst (λ (u : State). IsLawful u) (sym change.state) (put_lawful (state_of a) head k v n l lh place);
        catalogue = ap catalogue_of change.state ∙ put_catalogue (state_of a) head k v n l lh place;
      }

-- room for what a place locks, and a refusal, of the writes that it has
pub room_as : (a b : InSection) (ws vs : Writes) → IsAsBefore a b → ws ≡ vs → HasRoom a (objects_of vs) → HasRoom b (objects_of ws)
room_as a b ws vs same e r = subst (λ (u : Writes). HasRoom b (objects_of u)) (sym e) (room_before a b (objects_of vs) same r)

pub refuses_as : (a b c : InSection) → a.at ≤ length a.seat.seen → IsAsBefore a b → GoesOn a b
    → (may : Type 0) (found : InSection → InSection → ℕ → ℕ → Type 0) (ws vs : Writes) (refusal answer : Refusal) → ws ≡ vs → refusal ≡ answer
    → Refuses may found b c (objects_of ws) refusal → Refuses may found a c (objects_of vs) answer
refuses_as a b c le same goes may found ws vs refusal answer e q r =
    subst (λ (u : Writes). Refuses may found a c (objects_of u) answer) e (refuses_before a b c le same goes may found (objects_of ws) refusal answer q r)

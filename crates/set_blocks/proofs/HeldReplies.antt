-- A command that changes nothing replies the same in every state that others may lead to while what its reply depends on is held.
use Rattle.set_model.proofs.ListMaps.{map_at-holds}
use Rattle.set_model.proofs.MapLemmas.{has_key-some}
use Rattle.set_model.proofs.Mapped.{map_of-catalogue_of}
use Rattle.set_model.proofs.TreeMaps.{map_of-root, seek_leaf}
use Rattle.std.proofs.Common.{◌≡◌, ◌≢◌, ◌^◌, ◌<◌, ◌≤◌, ◌&&◌, ◌∷◌, ◌++◌}
use Rattle.set_blocks.proofs.Terms.{ℕ, inl, inr, Bool, true, false, cond, not, List, [], refl, sym, ap, ◌∙◌, subst, arith, true≢false, Option, Some, None, set}
use Rattle.set_blocks.proofs.Terms.{set-get_or, false_from_ne_true, State, Writes, written, words_at, Command, Add, Put, Del, Has, Get, Move, Pair, Reply, Yes}
use Rattle.set_blocks.proofs.Terms.{No, Full, Worn, Both, NoKey, Value, Map, Maps, map_of, has_key, value_of, name_of, catalogue_of, key, value, IsLawful}
use Rattle.set_blocks.proofs.Terms.{objects_of, changed, applies, overflows, value_reply, reply, changes, next, capacity, IsInRange, EndsAt, seek, word}
use Rattle.set_blocks.proofs.Terms.{has_entry-there, name_bound, is_key_at-from, IsIn, in_left, in_right, touches-in, only_in, add_absent, node_has, removal}
use Rattle.set_blocks.proofs.Terms.{found_none, leaf_same, leaf_has, head_of, low_head, low_fits, root_from, root_below, head_named, Remains, LacksAt, HasAt}
use Rattle.set_blocks.proofs.Terms.{ValueAt, TellsAt, HoldPlan, holding, before_gap, no_tree, other_leaf, before_node, own_leaf, in_node, in_leaf, has_yes}
use Rattle.set_blocks.proofs.Terms.{has_no, del_no, add_no, get_none, get_value, put_no, move_from_none, move_to_one, pair_tells}
use Rattle.set_blocks.proofs.Tracking.{AreHeld}
use Rattle.set_blocks.proofs.ListTracks.{add_place_tracks, del_place_tracks}
use Rattle.set_blocks.proofs.Stepping.{Covers, spares_none, Stepped, StepAt}

-- what holds for the name of a head holds for the name itself
of_name : {A : Type 0} (f : ℕ → A) (a : A) (name k : ℕ) → name < 30 → f (name_of (head_of name k)) ≡ a → f name ≡ a
of_name f a name k lt e = sym (ap f (head_named name k lt)) ∙ e

-- a search that ends at a leaf with another key shows that the key is not there
other_lacks : (s : State) (root k l : ℕ) → IsLawful s → 170 ≤ root → root < 180 → EndsAt s root k l → key s l ≢ k
    → has_key k (map_of (name_of root) (catalogue_of s)) ≡ false
other_lacks s root k l law lo lt e ne =
    false_from_ne_true (has_key k (map_of (name_of root) (catalogue_of s)))
    (λ h. (let there = map_at-holds s root k (ap (has_key k) (sym (map_of-root s root lo lt)) ∙ h) in
    let from = is_key_at-from root (words_at s there.0) there.2 in
    let ends = seek_leaf s root e.0 e.1.stands e.1.ordered there.0 (only_in s root e.0 e.1 there.0 there.1 from.0) from.1 in
    let same : there.0 ≡ l = sym ends ∙ ap (λ j. seek j e.0) there.3 ∙ e.2 in
    ne (ap (key s) (sym same) ∙ there.3)))

module _ (z u : State) (name k : ℕ) (lt : name < 30) (fits : k < 2 ^ 32) (held : Writes) (lz : IsLawful z) (r : Remains held z u) where
  -- the key is not there in the other state
  pub lacks_there : (os : List ℕ) → AreHeld held os → LacksAt z name k os → has_key k (map_of name (catalogue_of u)) ≡ false
  lacks_there os h (before_gap p low place) =
      let lh = low_head name k low in
      let there = add_place_tracks held z u (head_of name k) k p lh lz r (h p (inl refl)) place in
      of_name (λ n. has_key k (map_of n (catalogue_of u))) false name k lt
      (ap (has_key k) (map_of-catalogue_of u (name_of (head_of name k)) (name_bound (head_of name k) (omega arith)))
      ∙ add_absent u (head_of name k) k p r.lawful lh (low_fits name k low fits) there)
  lacks_there os h (no_tree high e) =
      of_name (λ n. has_key k (map_of n (catalogue_of u))) false name k lt
      (found_none u u (head_of name k) k refl (ap (word 3) (r.words (head_of name k) (h (head_of name k) (inl refl))) ∙ e) r.lawful (root_from name k high)
      (root_below name k high lt))
  lacks_there os h (other_leaf l high e ne) =
      let hl = h l (inl refl) in
      of_name (λ n. has_key k (map_of n (catalogue_of u))) false name k lt
      (other_lacks u (head_of name k) k l r.lawful (root_from name k high) (root_below name k high lt)
      (r.ends (head_of name k) k l (root_from name k high) (root_below name k high lt) hl e) (λ q. ne (sym (ap (word 2) (r.words l hl)) ∙ q)))

  -- or it is
  pub has_there : (os : List ℕ) → AreHeld held os → HasAt z name k os → has_key k (map_of name (catalogue_of u)) ≡ true
  has_there os h (before_node p n low place) =
      let lh = low_head name k low in
      let there = del_place_tracks held z u (head_of name k) k p n lh lz r (h p (inl refl)) place in
      let m = removal u (head_of name k) k p n r.lawful lh there in
      of_name (λ x. has_key k (map_of x (catalogue_of u))) true name k lt
      (has_key-some k (value u n) (map_of (name_of (head_of name k)) (catalogue_of u)) (node_has u (head_of name k) k n r.lawful lh m.node m.own there.has))
  has_there os h (own_leaf l high is) =
      of_name (λ x. has_key k (map_of x (catalogue_of u))) true name k lt
      (has_key-some k (value u l) (map_of (name_of (head_of name k)) (catalogue_of u))
      (leaf_has u (head_of name k) k l r.lawful (root_from name k high) (root_below name k high lt)
      (leaf_same z u (head_of name k) k l (r.words l (h l (inl refl))) is)))

  -- with this value
  pub value_there : (v : ℕ) (os : List ℕ) → AreHeld held os → ValueAt z name k v os → value_of k (map_of name (catalogue_of u)) ≡ Some v
  value_there v os h (in_node p n low place val) =
      let lh = low_head name k low in
      let there = del_place_tracks held z u (head_of name k) k p n lh lz r (h p (inl refl)) place in
      let m = removal u (head_of name k) k p n r.lawful lh there in
      of_name (λ x. value_of k (map_of x (catalogue_of u))) (Some v) name k lt
      (node_has u (head_of name k) k n r.lawful lh m.node m.own there.has ∙ ap Some (ap (word 5) (r.words n (h n (inr (inl refl)))) ∙ val))
  value_there v os h (in_leaf l high is val) =
      of_name (λ x. value_of k (map_of x (catalogue_of u))) (Some v) name k lt
      (leaf_has u (head_of name k) k l r.lawful (root_from name k high) (root_below name k high lt)
      (leaf_same z u (head_of name k) k l (r.words l (h l (inl refl))) is) ∙ ap Some (ap (word 5) (r.words l (h l (inl refl))) ∙ val))

  pub tells_there : (b : Bool) (os : List ℕ) → AreHeld held os → TellsAt z name k b os → has_key k (map_of name (catalogue_of u)) ≡ b
  tells_there true os h t = has_there os h t
  tells_there false os h t = lacks_there os h t

-- objects that are held as they are change no state
pub written-holding : (s z : State) (os : List ℕ) → ((o : ℕ) → IsIn o os → words_at z o ≡ words_at s o) → written s (holding z os) ≡ s
written-holding s z [] f = refl
written-holding s z (o ∷ os) f =
    let same : set s o (words_at z o) ≡ s = ap (set s o) (f o (inl refl)) ∙ set-get_or s o [] in
    ap (λ w. written w (holding z os)) same ∙ written-holding s z os (λ p i. f p (inr i))

pub objects-holding : (z : State) (os : List ℕ) (o : ℕ) → IsIn o os → IsIn o (objects_of (holding z os))
objects-holding z [] o i = i
objects-holding z (p ∷ os) o (inl e) = inl e
objects-holding z (p ∷ os) o (inr i) = inr (objects-holding z os o i)

-- a reply that comes of no change
module _ (command : Command) (answer : Reply) (z : State) (os : List ℕ) (held : Writes) (u : State) (cover : Covers held (holding z os)) (r : Remains held z u)
  where
    held_os : AreHeld held os
    held_os o i = cover o (touches-in (holding z os) o (objects-holding z os o i))

    settled : reply command (catalogue_of u) (capacity u) false ≡ answer → changes command (catalogue_of u) (capacity u) false ≡ false
        → next command (catalogue_of u) (capacity u) false ≡ catalogue_of u → Stepped command answer false held z u (holding z os)
    settled said nothing stays =
        let eu : written u (holding z os) ≡ u = written-holding u z os (λ o i. sym (r.words o (held_os o i))) in
        let ez : written z (holding z os) ≡ z = written-holding z z os (λ o i. refl) in
        record {
          answer_is = said;
          changing_is = nothing;
          leaves = ap catalogue_of eu ∙ sym stays;
          remains = subst (λ x. Remains held x (written u (holding z os))) (sym ez) (subst (λ x. Remains held z x) (sym eu) r);
          spares = spares_none u (holding z os) eu;
        }

    -- of a command that might change something, and doesn't apply
    unapplied : (does over : Bool) → does ≡ false → (cond does (cond over Full (cond false Worn Yes)) No ≡ No) × (does && not over && not false ≡ false)
    unapplied true over e = absurd (cc)
    unapplied false over e = (refl, refl)

keeps_all : (b : Bool) (x c : Maps) → b ≡ false → cond b x c ≡ c
keeps_all true x c e = absurd (cc)
keeps_all false x c e = refl

-- a command that changes nothing leaves the catalogue
stays_by : (command : Command) (u : State)
    → changes command (catalogue_of u) (capacity u) false ≡ false → next command (catalogue_of u) (capacity u) false ≡ catalogue_of u
stays_by command u e =
    keeps_all (changes command (catalogue_of u) (capacity u) false) (changed command (catalogue_of u)) (catalogue_of u) e

and_not : (a b : Bool) → b ≡ true → a && not b ≡ false
and_not true true e = refl
and_not false b e = refl
and_not true false e = absurd (cc)

and_none : (a b : Bool) → a ≡ false → a && b ≡ false
and_none true b e = absurd (cc)
and_none false b e = refl

-- a key that is not there has no value
none_of : (k : ℕ) (m : Map) → has_key k m ≡ false → value_of k m ≡ None
none_of k m e = go (value_of k m) refl
  where
    go : (v : Option ℕ) → value_of k m ≡ v → v ≡ None
    go None q = refl
    go (Some v) q = absurd (true≢false (sym (has_key-some k v m q) ∙ e))

-- Whatever a command holds that changes nothing.
module _ (z : State) (lz : IsLawful z) where
  pub hold_step : (command : Command) (os : List ℕ) (answer : Reply) → IsInRange command → HoldPlan z command os answer
      → StepAt command z (holding z os) answer false
  hold_step command os answer range (has_yes name k qs at) = record {
    step = λ held u c r.
        settled (Has name k) Yes z qs held u c r
        (ap (λ b. cond b Yes No) (has_there z u name k range.0 range.1 held lz r qs (held_os (Has name k) Yes z qs held u c r) at)) refl refl;
  }
  hold_step command os answer range (has_no name k qs at) = record {
    step = λ held u c r.
        settled (Has name k) No z qs held u c r
        (ap (λ b. cond b Yes No) (lacks_there z u name k range.0 range.1 held lz r qs (held_os (Has name k) No z qs held u c r) at)) refl refl;
  }
  hold_step command os answer range (del_no name k qs at) = record {
    step = λ held u c r.
        (let e = lacks_there z u name k range.0 range.1 held lz r qs (held_os (Del name k) No z qs held u c r) at in
        let x = unapplied (Del name k) No z qs held u c r (has_key k (map_of name (catalogue_of u))) false e in
        settled (Del name k) No z qs held u c r x.0 x.1 (stays_by (Del name k) u x.1));
  }
  hold_step command os answer range (add_no name k qs at) = record {
    step = λ held u c r.
        (let e = ap not (has_there z u name k range.0 range.1 held lz r qs (held_os (Add name k) No z qs held u c r) at) in
        let x = unapplied (Add name k) No z qs held u c r (applies (Add name k) (catalogue_of u)) (overflows (Add name k) (catalogue_of u) (capacity u)) e in
        settled (Add name k) No z qs held u c r x.0 x.1 (stays_by (Add name k) u x.1));
  }
  hold_step command os answer range (get_none name k qs at) = record {
    step = λ held u c r.
        settled (Get name k) NoKey z qs held u c r
        (ap value_reply (none_of k (map_of name (catalogue_of u))
        (lacks_there z u name k range.0 range.1 held lz r qs (held_os (Get name k) NoKey z qs held u c r) at)))
        refl refl;
  }
  hold_step command os answer range (get_value name k v qs at) = record {
    step = λ held u c r.
        settled (Get name k) (Value v) z qs held u c r
        (ap value_reply (value_there z u name k range.0 range.1 held lz r v qs (held_os (Get name k) (Value v) z qs held u c r) at)) refl refl;
  }
  hold_step command os answer range (put_no name k v qs at) = record {
    step = λ held u c r.
        (let e = ap not (has_entry-there k v (map_of name (catalogue_of u))
        (value_there z u name k range.0 range.1 held lz r v qs (held_os (Put name k v) No z qs held u c r) at)) in
        let x = unapplied (Put name k v) No z qs held u c r (applies (Put name k v) (catalogue_of u))
        (overflows (Put name k v) (catalogue_of u) (capacity u)) e in
        settled (Put name k v) No z qs held u c r x.0 x.1 (stays_by (Put name k v) u x.1));
  }
  hold_step command os answer range (move_from_none source target k qs at) = record {
    step = λ held u c r.
        (let e = and_none (has_key k (map_of source (catalogue_of u))) (not (has_key k (map_of target (catalogue_of u))))
        (lacks_there z u source k range.0 range.2 held lz r qs (held_os (Move source target k) No z qs held u c r) at) in
        let x = unapplied (Move source target k) No z qs held u c r (applies (Move source target k) (catalogue_of u))
        (overflows (Move source target k) (catalogue_of u) (capacity u)) e in
        settled (Move source target k) No z qs held u c r x.0 x.1
        (stays_by (Move source target k) u x.1));
  }
  hold_step command os answer range (move_to_one source target k qs at) = record {
    step = λ held u c r.
        (let e = and_not (has_key k (map_of source (catalogue_of u))) (has_key k (map_of target (catalogue_of u)))
        (has_there z u target k range.1 range.2 held lz r qs (held_os (Move source target k) No z qs held u c r) at) in
        let x = unapplied (Move source target k) No z qs held u c r (applies (Move source target k) (catalogue_of u))
        (overflows (Move source target k) (catalogue_of u) (capacity u)) e in
        settled (Move source target k) No z qs held u c r x.0 x.1
        (stays_by (Move source target k) u x.1));
  }
  hold_step command os answer range (pair_tells first second k b c qs rs at more) = record {
    step = λ held u cover r.
        (let h = held_os (Pair first second k) (Both b c) z (qs ++ rs) held u cover r in
        let x = tells_there z u first k range.0 range.2 held lz r b qs (λ o i. h o (in_left qs rs o i)) at in
        let y = tells_there z u second k range.1 range.2 held lz r c rs (λ o i. h o (in_right qs rs o i)) more in
        settled (Pair first second k) (Both b c) z (qs ++ rs) held u cover r
        (ap (λ p. Both p (has_key k (map_of second (catalogue_of u)))) x ∙ ap (Both b) y) refl refl);
  }

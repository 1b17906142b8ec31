-- An add at its place keeps the state lawful, and puts its key into the catalogue.
use Rattle.std.proofs.Common.{◌≡◌, ◌≢◌, ℕ, suc, ◌-◌, ◌<◌, ◌≤◌, ◌⊎◌, inl, inr, true, false, [], ◌∷◌, ◌++◌}
use Rattle.std.proofs.Common.{length, set, refl, sym, ap, ◌∙◌, subst, arith, get_or-set_other, get_or-set_same, length-set}
use Rattle.std.proofs.lemmas.Bool.{cases_eq, false_from_ne_true}
use Rattle.mv_history.specs.State.{State, written}
use Rattle.mv_history.specs.Meaning.{words_at}
use Rattle.set_model.specs.Catalogue.{has_key, put, map_of, with_key}
use Rattle.set_model.specs.CatalogueOf.{name_of, is_key_of, map_in, catalogue_of}
use Rattle.set_model.specs.Objects.{owner, key, link, list_words, relink}
use Rattle.set_model.specs.Lists.{Node, Nodes, first_of, FitsHead, Links, IsAbove, IsList}
use Rattle.set_model.specs.Lawful.{IsLawful}
use Rattle.set_model.proofs.ObjectWords.{word}
use Rattle.set_model.proofs.Chains.{IsAmong, only_among, last_of, last_among, Links-node, Links-right, IsRising-right, above_key, IsAmong-left, IsAmong-cases}
use Rattle.set_model.proofs.Frames.{IsOf, IsWithin, lawful_by_list}
use Rattle.set_model.proofs.Mapped.{Holds, map_in-holds, is_key-to, is_key-vacant, is_key-other, map_in-none, map_in-more, map_of-catalogue_of, catalogue_set}
use Rattle.set_model.proofs.Heads.{name_bound, home_is}
use Rattle.set_model.proofs.Edits.{map_in-relink}
use Rattle.list_set.specs.Places.{IsInList, IsAddPlace, add_writes}
use Rattle.list_set.proofs.Changes.{Added, add_list, IsAbove-below, front_upto}
use Rattle.list_set.proofs.Parts.{part_at, whole_list, in_list_range, place_not_vacant, relink_owner}

pub add_writes_do : (s : State) (head p : ℕ) (y : Node) → p < length s → y.object < length s → p ≢ y.object
    → Added s (written s (add_writes s head y.key y.value p y.object)) head p y (link s p)
add_writes_do s head p y lp ly apart =
    let n : ℕ = y.object in
    record {
      before = get_or-set_other (set s p (relink (words_at s p) y.object)) y.object p (list_words head y.key y.value (link s p)) [] apart
          ∙ get_or-set_same s p (relink (words_at s p) y.object) [] lp;
      new = get_or-set_same (set s p (relink (words_at s p) y.object)) y.object (list_words head y.key y.value (link s p)) []
          (omega (arith, length-set s p (relink (words_at s p) y.object)));
      others = λ o a b. get_or-set_other (set s p (relink (words_at s p) y.object)) y.object o (list_words head y.key y.value (link s p)) [] b
          ∙ get_or-set_other s p o (relink (words_at s p) y.object) [] a;
    }

pub added_within : (s s' : State) (head p : ℕ) (y : Node) (next : ℕ) → Added s s' head p y next → IsInList s head p → 180 ≤ y.object → owner s y.object ≡ 0
    → IsWithin s s' head
added_within s s' head p y next c i ly vac o = go (cases_eq o p) (cases_eq o y.object) i
  where
    go : (o ≡ p) ⊎ (o ≢ p) → (o ≡ y.object) ⊎ (o ≢ y.object) → IsInList s head p
        → (words_at s' o ≡ words_at s o) ⊎ ((o ≡ head) ⊎ ((180 ≤ o) × IsOf s head o × IsOf s' head o))
    go (inr n) (inr m) _ = inl (c.others o n m)
    go (inl e) _ (inl q) = inr (inl (e ∙ q))
    go (inl e) _ (inr g) =
        let b : 180 ≤ p = g.0 in
        inr (inr (omega arith, inr (ap (owner s) e ∙ g.1), inr (ap (owner s') e ∙ relink_owner s s' p y.object c.before ∙ g.1)))
    go (inr n) (inl e) _ =
        inr (inr (omega arith, inl (ap (owner s) e ∙ vac), inr (ap (owner s') e ∙ ap (word 0) c.new)))

-- behind the place of an add all keys are above
above_place : (s : State) (head k p : ℕ) (fs bs : Nodes) → IsList s head (fs ++ bs) → link s p ≡ first_of bs
    → (link s p ≡ 0) ⊎ (k < key s (link s p)) → IsAbove k bs
above_place s head k p fs [] m e g = tt
above_place s head k p fs (b ∷ bs) m e (inl z) = let n : 180 ≤ b.object = (Links-right s head fs (b ∷ bs) m.links).0 in absurd (omega arith)
above_place s head k p fs (b ∷ bs) m e (inr g) =
    let lk : Links s head (b ∷ bs) = Links-right s head fs (b ∷ bs) m.links in
    let is : key s (link s p) ≡ b.key = ap (key s) e ∙ ap (word 2) lk.2 in
    (omega arith, IsAbove-below k b.key bs (omega arith) (IsRising-right fs (b ∷ bs) m.rising).0)

-- An add at its place leaves a lawful state.
pub add_lawful : (s : State) (head k v p n : ℕ) → IsLawful s → head < 170 → FitsHead head k → IsAddPlace s head k p → 180 ≤ n → n < length s → owner s n ≡ 0
    → IsLawful (written s (add_writes s head k v p n))
add_lawful s head k v p n l lh fit a ln lr vac = with_list (l.lists head lh).0 (l.lists head lh).1
  where
    with_list : (ns : Nodes) → IsList s head ns → IsLawful (written s (add_writes s head k v p n))
    with_list ns m =
        let y : Node = record { object = n; key = k; value = v } in
        let s' : State = written s (add_writes s head k v p n) in
        let r = part_at s head p ns m a.within in
        let whole : IsList s head (r.0 ++ r.1) = whole_list s head ns (r.0 ++ r.1) r.2.whole m in
        let c : Added s s' head p y (link s p) =
        add_writes_do s head p y (in_list_range s head p ns m a.within) lr (place_not_vacant s head p n (omega arith) a.within ln vac) in
        let c' : Added s s' head p y (first_of r.1) = subst (λ (u : ℕ). Added s s' head p y u) r.2.leads c in
        lawful_by_list s s' head (r.0 ++ y ∷ r.1) lh
        (length-set (set s p (relink (words_at s p) n)) n (list_words head k v (link s p)) ∙ length-set s p (relink (words_at s p) n))
        (added_within s s' head p y (link s p) c a.within ln vac) l
        (add_list s s' head p y r.0 r.1 (omega arith) ln vac fit c' whole r.2.last (above_place s head k p r.0 r.1 whole r.2.leads a.above) a.below)

-- at the place of an add the key isn't there
pub add_absent : (s : State) (head k p : ℕ) → IsLawful s → head < 170 → FitsHead head k → IsAddPlace s head k p → has_key k (map_in s (name_of head)) ≡ false
add_absent s head k p l lh fit a = false_from_ne_true (has_key k (map_in s (name_of head))) (λ h. there (map_in-holds s (name_of head) k h))
  where
    front : (o : ℕ) → key s o ≡ k → (fs bs : Nodes) → IsList s head (fs ++ bs) → last_of head fs ≡ p → IsAmong o fs → ⊥
    front o q [] bs m g i = i
    front o q (x ∷ fs) bs m g i =
        let u : key s o ≤ key s (last_of x.object fs) = front_upto s head x fs bs m.links m.rising o i in
        let e : key s (last_of x.object fs) ≡ key s p = ap (key s) g in
        let n : 180 ≤ last_of x.object fs =
        Links-node s head (x ∷ fs ++ bs) m.links (last_of x.object fs) (IsAmong-left (x ∷ fs) bs (last_of x.object fs) (last_among x fs)) in
        elim a.below [ inl z ↦ omega arith | inr z ↦ omega arith ]

    there : Holds s (name_of head) k → ⊥
    there (o, lo, e, q) =
        let own : owner s o ≡ suc head = home_is s head o l lh (subst (λ (j : ℕ). FitsHead head j) (sym q) fit) lo e in
        let m = l.lists head lh in
        let r = part_at s head p m.0 m.1 a.within in
        let w : IsList s head (r.0 ++ r.1) = whole_list s head m.0 (r.0 ++ r.1) r.2.whole m.1 in
        elim (IsAmong-cases r.0 r.1 o (only_among s head (r.0 ++ r.1) w o lo own)) [
          | inl i ↦ front o q r.0 r.1 w r.2.last i
          | inr i ↦ (let up : k < key s o = above_key s head k r.1 (Links-right s head r.0 r.1 w.links) (above_place s head k p r.0 r.1 w r.2.leads a.above) o
              i in omega arith)
        ]

pub add_catalogue : (s : State) (head k v p n : ℕ) → IsLawful s → head < 170 → FitsHead head k → IsAddPlace s head k p → 180 ≤ n → n < length s
    → owner s n ≡ 0 → catalogue_of (written s (add_writes s head k v p n)) ≡ with_key (name_of head) k v (catalogue_of s)
add_catalogue s head k v p n l lh fit a ln lr vac =
    catalogue_set s (written s (add_writes s head k v p n)) (name_of head) (put k v (map_of (name_of head) (catalogue_of s)))
    (name_bound head (omega arith)) others here
  where
    at_n : words_at (set s p (relink (words_at s p) n)) n ≡ words_at s n
    at_n = get_or-set_other s p n (relink (words_at s p) n) [] (λ e. place_not_vacant s head p n (omega arith) a.within ln vac (sym e))

    none : (name : ℕ) → is_key_of name (words_at (set s p (relink (words_at s p) n)) n) ≡ false
    none name = is_key-vacant name (words_at (set s p (relink (words_at s p) n)) n) (ap (word 0) at_n ∙ vac)

    others : (name : ℕ) → name ≢ name_of head → map_in (written s (add_writes s head k v p n)) name ≡ map_in s name
    others name ne =
        map_in-none (set s p (relink (words_at s p) n)) name n (list_words head k v (link s p)) ln (none name)
        (is_key-other name head (list_words head k v (link s p)) refl ne) ∙ map_in-relink s name p n

    picked : is_key_of (name_of head) (list_words head k v (link s p)) ≡ true
    picked =
        let q : suc head - 1 ≡ head = omega arith in is_key-to (name_of head) (list_words head k v (link s p)) (omega arith) (omega arith) (ap name_of q)

    here : map_in (written s (add_writes s head k v p n)) (name_of head) ≡ put k v (map_of (name_of head) (catalogue_of s))
    here =
        let e : map_in (set s p (relink (words_at s p) n)) (name_of head) ≡ map_in s (name_of head) = map_in-relink s (name_of head) p n in
        map_in-more (set s p (relink (words_at s p) n)) (name_of head) n (list_words head k v (link s p)) ln
        (omega (arith, length-set s p (relink (words_at s p) n))) (none (name_of head)) picked (ap (has_key k) e ∙ add_absent s head k p l lh fit a)
        ∙ ap (put k v) (e ∙ sym (map_of-catalogue_of s (name_of head) (name_bound head (omega arith))))

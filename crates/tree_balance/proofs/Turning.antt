-- A rotation keeps what a tree stands for.
use Rattle.std.proofs.Common.{◌≡◌, ◌≢◌, ℕ, ◌<◌, ◌≤◌, ◌⊎◌, inl, inr, Bool, true, false, cond, eqb, eq-eqb, ne_eqb, get_or-set_other, set, List, ◌++◌, length}
use Rattle.std.proofs.Common.{refl, sym, ap, ◌∙◌, subst, arith}
use Rattle.std.proofs.lemmas.Bool.{cases_eq}
use Rattle.mv_history.specs.State.{State}
use Rattle.mv_history.specs.Meaning.{words_at}
use Rattle.set_model.specs.Objects.{kind, link, right_link, rank, inner_words}
use Rattle.set_model.specs.Trees.{Tree, top, objects_in, Stands, HoldsTree}
use Rattle.set_model.specs.Trees.Tree.{leaf, inner}
use Rattle.set_model.proofs.ObjectWords.{word}
use Rattle.set_model.proofs.Ways.{IsAt}
use Rattle.section_work.proofs.Objects.{IsIn, in_left, in_right}
use Rattle.set_model.proofs.TreeShape.{top_in, only_in, Stands-same, Stands-node, Stands-owner}
use Rattle.tree_set.specs.Paths.{Path, plug, parent_of, around}
use Rattle.tree_set.specs.Places.{IsInner, IsChild, IsParent, redirect}
use Rattle.tree_set.proofs.Plugging.{part_in, plug_in, plug_apart, distinct_part, stands_part, ordered_part, ordered_within}
use Rattle.tree_set.proofs.Around.{part_not_parent, parent_at}
use Rattle.tree_set.proofs.Replacing.{Replaced, replaced, redirect_keeps, ranked, parent_is}
use Rattle.tree_balance.specs.Steps.{lowered, raised}
use Rattle.tree_balance.proofs.Shapes.{IsReshaped, IsApart, rest_low, rest_high, low_apart, high_apart, right_turn, left_turn}
use Rattle.tree_balance.proofs.Reshaping.{path_of, beside_same, seek_same, entries_same, Rebalances}

-- the words of the three objects of a rotation; the rest is as before
pub record Rotates (s s' : State) (g p c : ℕ) : Type 0 where
  pub grand : words_at s' g ≡ redirect (words_at s g) p c
  pub parent : words_at s' p ≡ lowered (words_at s p) c (words_at s c)
  pub child : words_at s' c ≡ raised (words_at s p) p c (words_at s c)
  pub others : (o : ℕ) → o ≢ g → o ≢ p → o ≢ c → words_at s' o ≡ words_at s o
  pub len : length s' ≡ length s

-- words of which one link changed
link_keeps : (b : Bool) (words : List ℕ) (x y j k i : ℕ) → i ≢ j → i ≢ k → word i (cond b (set words j x) (set words k y)) ≡ word i words
link_keeps true words x y j k i n m = get_or-set_other words j i x 0 n
link_keeps false words x y j k i n m = get_or-set_other words k i y 0 m

pub rotates_keeps : (s s' : State) (g p c : ℕ) → Rotates s s' g p c → (o i : ℕ) → i < 3 → word i (words_at s' o) ≡ word i (words_at s o)
rotates_keeps s s' g p c r o i lt = go (cases_eq o g) (cases_eq o p) (cases_eq o c)
  where
    go : (o ≡ g) ⊎ (o ≢ g) → (o ≡ p) ⊎ (o ≢ p) → (o ≡ c) ⊎ (o ≢ c) → word i (words_at s' o) ≡ word i (words_at s o)
    go (inl e) _ _ =
        ap (λ (x : ℕ). word i (words_at s' x)) e
        ∙ ap (word i) r.grand ∙ redirect_keeps (words_at s g) p c i (omega arith) (omega arith) ∙ ap (λ (x : ℕ). word i (words_at s x)) (sym e)
    go (inr _) (inl e) _ =
        ap (λ (x : ℕ). word i (words_at s' x)) e ∙ ap (word i) r.parent
        ∙ link_keeps (eqb (word 3 (words_at s p)) c) (words_at s p) (word 4 (words_at s c)) (word 3 (words_at s c)) 3 4 i (omega arith) (omega arith)
        ∙ ap (λ (x : ℕ). word i (words_at s x)) (sym e)
    go (inr _) (inr _) (inl e) =
        ap (λ (x : ℕ). word i (words_at s' x)) e ∙ ap (word i) r.child
        ∙ link_keeps (eqb (word 3 (words_at s p)) c) (words_at s c) p p 4 3 i (omega arith) (omega arith) ∙ ap (λ (x : ℕ). word i (words_at s x)) (sym e)
    go (inr ng) (inr np) (inr nc) = ap (word i) (r.others o ng np nc)

-- A part at the end of a path, with the parent on top and the child in it, that the rotation reshapes.
module _ (s s' : State) (root g p c : ℕ) (ps : Path) (u v : Tree) (lt : root < 180) (grown : HoldsTree s root (plug ps u)) (above : parent_of root ps ≡ g)
    (r : Rotates s s' g p c) (top_was : top u ≡ p) (top_is : top v ≡ c) (p_in : IsIn p (objects_in u)) (c_in : IsIn c (objects_in u))
    (shape : IsReshaped u v) (stands : Stands s' root v) where
  part_not_grand : (o : ℕ) → IsIn o (objects_in u) → o ≢ g
  part_not_grand = part_not_parent s root ps u lt grown g above

  other_stays : (o : ℕ) → (o ≡ root) ⊎ IsIn o (around ps) → o ≢ parent_of root ps → words_at s' o ≡ words_at s o
  other_stays o (inl e) n =
      let up : 180 ≤ p = Stands-node s root (plug ps u) grown.stands p (part_in ps u p p_in) in
      let uc : 180 ≤ c = Stands-node s root (plug ps u) grown.stands c (part_in ps u c c_in) in
      r.others o (λ z. n (z ∙ sym above)) (omega arith) (omega arith)
  other_stays o (inr i) n =
      r.others o (λ z. n (z ∙ sym above)) (λ z. plug_apart ps u grown.distinct o i (subst (λ (y : ℕ). IsIn y (objects_in u)) (sym z) p_in))
      (λ z. plug_apart ps u grown.distinct o i (subst (λ (y : ℕ). IsIn y (objects_in u)) (sym z) c_in))

  turned_as : Replaced s s' root ps u v
  turned_as = record {
    leads = ap (words_at s') above
        ∙ r.grand ∙ ap (λ (z : ℕ). redirect (words_at s z) p c) (sym above) ∙ ap (λ (z : ℕ). redirect (words_at s (parent_of root ps)) z c) (sym top_was)
        ∙ ap (λ (z : ℕ). redirect (words_at s (parent_of root ps)) (top u) z) (sym top_is);
    others = other_stays;
    stands = stands;
    ordered = shape.ordered;
    within = beside_same ps u v shape (ordered_within ps u grown.ordered);
    distinct = shape.distinct;
    apart = λ o i n. plug_apart ps u grown.distinct o i (shape.back o n);
    only = λ o lo e. elim (plug_in ps u o (only_in s root (plug ps u) grown o lo (sym (rotates_keeps s s' g p c r o 0 (omega arith)) ∙ e))) [
      | inl i ↦ inl i
      | inr i ↦ inr (shape.inside o i)
    ];
  }

  turned_within : (o : ℕ) → (words_at s' o ≡ words_at s o) ⊎ IsAt s root o
  turned_within o = go (cases_eq o g) (cases_eq o p) (cases_eq o c)
    where
      here : (q : ℕ) → IsIn q (objects_in u) → IsAt s root q
      here q i = inr (Stands-node s root (plug ps u) grown.stands q (part_in ps u q i), Stands-owner s root (plug ps u) grown.stands q (part_in ps u q i))

      go : (o ≡ g) ⊎ (o ≢ g) → (o ≡ p) ⊎ (o ≢ p) → (o ≡ c) ⊎ (o ≢ c) → (words_at s' o ≡ words_at s o) ⊎ IsAt s root o
      go (inl e) _ _ = inr (subst (λ (q : ℕ). IsAt s root q) (sym e) (parent_at s root ps u grown g above))
      go (inr _) (inl e) _ = inr (subst (λ (q : ℕ). IsAt s root q) (sym e) (here p p_in))
      go (inr _) (inr _) (inl e) = inr (subst (λ (q : ℕ). IsAt s root q) (sym e) (here c c_in))
      go (inr ng) (inr np) (inr nc) = inl (r.others o ng np nc)

  turned : Rebalances s s' root
  turned = record {
    tree = plug ps u;
    next = plug ps v;
    grown = grown;
    grows = replaced s s' root ps u v lt grown turned_as;
    seeks = λ k. seek_same k ps u v (shape.seeks k);
    entries = entries_same ps u v shape.entries;
    keeps = rotates_keeps s s' g p c r;
    within = turned_within;
    len = r.len;
  }

-- Two inner nodes n and m, and m is a child of n.
module _ (s s' : State) (root g n m d e : ℕ) (ps : Path) (lt : root < 180) (above : parent_of root ps ≡ g) (r : Rotates s s' g n m) (a b f : Tree) where
  abbrev rest : List ℕ
  rest = objects_in a ++ (objects_in b ++ objects_in f)

  -- the subtrees stand as before
  kept : (u : Tree) → HoldsTree s root (plug ps u) → ((o : ℕ) → IsIn o rest → IsIn o (objects_in u)) → (IsIn n rest → ⊥) → (IsIn m rest → ⊥) → (t : Tree)
      → ((o : ℕ) → IsIn o (objects_in t) → IsIn o rest) → Stands s root t → Stands s' root t
  kept u grown in_u nn nm t in_rest q =
      Stands-same s s' root t q
      (λ o i. r.others o (part_not_parent s root ps u lt grown g above o (in_u o (in_rest o i)))
      (λ z. nn (subst (λ (x : ℕ). IsIn x rest) z (in_rest o i))) (λ z. nm (subst (λ (x : ℕ). IsIn x rest) z (in_rest o i))))

  a_in : (o : ℕ) → IsIn o (objects_in a) → IsIn o rest
  a_in o i = in_left (objects_in a) (objects_in b ++ objects_in f) o i

  b_in : (o : ℕ) → IsIn o (objects_in b) → IsIn o rest
  b_in o i = in_right (objects_in a) (objects_in b ++ objects_in f) o (in_left (objects_in b) (objects_in f) o i)

  f_in : (o : ℕ) → IsIn o (objects_in f) → IsIn o rest
  f_in o i = in_right (objects_in a) (objects_in b ++ objects_in f) o (in_right (objects_in b) (objects_in f) o i)

  -- The left child takes its parent's place.
  pub turned_right : HoldsTree s root (plug ps (inner n d (inner m e a b) f)) → Rebalances s s' root
  turned_right grown =
      turned s s' root g n m ps u v lt grown above r refl refl (inl refl) (inr (inl refl))
      (right_turn n d m e a b f (ordered_part ps u grown.ordered) (distinct_part ps u grown.distinct))
      (low.0, low.1, ranked s' root e (top a) n (rank s m) m child_words, keep a a_in low.3, stands_lower)
    where
      u : Tree
      u = inner n d (inner m e a b) f

      v : Tree
      v = inner m e a (inner n d b f)

      stood : Stands s root (inner n d (inner m e a b) f)
      stood = stands_part s root ps u grown.stands

      low : Stands s root (inner m e a b)
      low = stood.3

      apart : IsApart n m (objects_in a) (objects_in b) (objects_in f)
      apart = low_apart n m (objects_in a) (objects_in b) (objects_in f) (distinct_part ps u grown.distinct)

      keep : (t : Tree) → ((o : ℕ) → IsIn o (objects_in t) → IsIn o rest) → Stands s root t → Stands s' root t
      keep = kept u grown (rest_low n m (objects_in a) (objects_in b) (objects_in f)) apart.first apart.second

      parent_words : words_at s' n ≡ inner_words root d (top b) (top f) (rank s n)
      parent_words =
          r.parent ∙ ap (λ (w : List ℕ). lowered w m (words_at s m)) stood.2
          ∙ ap (λ (w : List ℕ). lowered (inner_words root d m (top f) (rank s n)) m w) low.2
          ∙ ap (λ (z : Bool). cond z (inner_words root d (top b) (top f) (rank s n)) (inner_words root d m (top a) (rank s n))) (eq-eqb m m refl)

      child_words : words_at s' m ≡ inner_words root e (top a) n (rank s m)
      child_words =
          r.child ∙ ap (λ (w : List ℕ). raised w n m (words_at s m)) stood.2
          ∙ ap (λ (w : List ℕ). raised (inner_words root d m (top f) (rank s n)) n m w) low.2
          ∙ ap (λ (z : Bool). cond z (inner_words root e (top a) n (rank s m)) (inner_words root e n (top b) (rank s m))) (eq-eqb m m refl)

      stands_lower : Stands s' root (inner n d b f)
      stands_lower = (stood.0, stood.1, ranked s' root d (top b) (top f) (rank s n) n parent_words, keep b b_in low.4, keep f f_in stood.4)

  -- The right child takes its parent's place.
  pub turned_left : HoldsTree s root (plug ps (inner n d a (inner m e b f))) → Rebalances s s' root
  turned_left grown =
      turned s s' root g n m ps u v lt grown above r refl refl (inl refl) (inr (in_right (objects_in a) (objects_in (inner m e b f)) m (inl refl)))
      (left_turn m e n d a b f (ordered_part ps u grown.ordered) (distinct_part ps u grown.distinct))
      (low.0, low.1, ranked s' root e n (top f) (rank s m) m child_words, stands_lower, keep f f_in low.4)
    where
      u : Tree
      u = inner n d a (inner m e b f)

      v : Tree
      v = inner m e (inner n d a b) f

      stood : Stands s root (inner n d a (inner m e b f))
      stood = stands_part s root ps u grown.stands

      low : Stands s root (inner m e b f)
      low = stood.4

      apart : IsApart m n (objects_in a) (objects_in b) (objects_in f)
      apart = high_apart m n (objects_in a) (objects_in b) (objects_in f) (distinct_part ps u grown.distinct)

      keep : (t : Tree) → ((o : ℕ) → IsIn o (objects_in t) → IsIn o rest) → Stands s root t → Stands s' root t
      keep = kept u grown (rest_high m n (objects_in a) (objects_in b) (objects_in f)) apart.second apart.first

      other : top a ≢ m
      other z = apart.first (in_left (objects_in a) (objects_in b ++ objects_in f) m (subst (λ (x : ℕ). IsIn x (objects_in a)) z (top_in a)))

      parent_words : words_at s' n ≡ inner_words root d (top a) (top b) (rank s n)
      parent_words =
          r.parent ∙ ap (λ (w : List ℕ). lowered w m (words_at s m)) stood.2
          ∙ ap (λ (w : List ℕ). lowered (inner_words root d (top a) m (rank s n)) m w) low.2
          ∙ ap (λ (z : Bool). cond z (inner_words root d (top f) m (rank s n)) (inner_words root d (top a) (top b) (rank s n))) (ne_eqb (top a) m other)

      child_words : words_at s' m ≡ inner_words root e n (top f) (rank s m)
      child_words =
          r.child ∙ ap (λ (w : List ℕ). raised w n m (words_at s m)) stood.2
          ∙ ap (λ (w : List ℕ). raised (inner_words root d (top a) m (rank s n)) n m w) low.2
          ∙ ap (λ (z : Bool). cond z (inner_words root e (top b) n (rank s m)) (inner_words root e n (top f) (rank s m))) (ne_eqb (top a) m other)

      stands_lower : Stands s' root (inner n d a b)
      stands_lower = (stood.0, stood.1, ranked s' root d (top a) (top b) (rank s n) n parent_words, keep a a_in stood.3, keep b b_in low.3)

-- A rotation of two inner nodes, one a child of the other, under the parent of both.
pub rotation_rebalances : (s s' : State) (root g p c : ℕ) (t : Tree) → root < 180 → HoldsTree s root t → IsParent s root g p → IsInner s root p → IsChild s p c
    → IsInner s root c → (p ≢ g → c ≢ g → p ≢ c → Rotates s s' g p c) → Rebalances s s' root
rotation_rebalances s s' root g p c t lt grown above p_inner child c_inner r =
    part (path_of t p (only_in s root t grown p p_inner.0 p_inner.1))
  where
    turns : (ps : Path) (u : Tree) (n m : ℕ) → n ≡ p → m ≡ c → HoldsTree s root (plug ps u) → parent_of root ps ≡ g → IsIn n (objects_in u)
        → IsIn m (objects_in u) → n ≢ m → Rotates s s' g n m
    turns ps u n m e f gr up i j ne =
        subst (λ (x : ℕ). Rotates s s' g x m) (sym e) (subst (λ (x : ℕ). Rotates s s' g p x) (sym f)
        (r (λ z. part_not_parent s root ps u lt gr g up n i (e ∙ z)) (λ z. part_not_parent s root ps u lt gr g up m j (f ∙ z)) (λ z. ne (e ∙ z ∙ sym f))))

    over : (ps : Path) (n d : ℕ) (a b : Tree) → n ≡ p → HoldsTree s root (plug ps (inner n d a b)) → parent_of root ps ≡ g → Stands s root (inner n d a b)
        → Rebalances s s' root
    over ps n d a b e gr up st = side child
      where
        at_left : (q : Tree) → top q ≡ c → Stands s root q → HoldsTree s root (plug ps (inner n d q b)) → Rebalances s s' root
        at_left (leaf m k v) h w _ = absurd (let two = c_inner.2 in let one : kind s c ≡ 1 = ap (kind s) (sym h) ∙ ap (word 1) w.2 in omega arith)
        at_left (inner m k x y) h w gn =
            turned_right s s' root g n m d k ps lt up (turns ps (inner n d (inner m k x y) b) n m e h gn up (inl refl) (inr (inl refl))
            (low_apart n m (objects_in x) (objects_in y) (objects_in b) (distinct_part ps (inner n d (inner m k x y) b) gn.distinct)).differ) x y b gn

        at_right : (q : Tree) → top q ≡ c → Stands s root q → HoldsTree s root (plug ps (inner n d a q)) → Rebalances s s' root
        at_right (leaf m k v) h w _ = absurd (let two = c_inner.2 in let one : kind s c ≡ 1 = ap (kind s) (sym h) ∙ ap (word 1) w.2 in omega arith)
        at_right (inner m k x y) h w gn =
            turned_left s s' root g n m d k ps lt up (turns ps (inner n d a (inner m k x y)) n m e h gn up (inl refl)
            (inr (in_right (objects_in a) (objects_in (inner m k x y)) m (inl refl)))
            (λ z. (high_apart m n (objects_in a) (objects_in x) (objects_in y) (distinct_part ps (inner n d a (inner m k x y)) gn.distinct)).differ (sym z)))
            a x y gn

        side : IsChild s p c → Rebalances s s' root
        side (inl f) = at_left a (sym (ap (word 3) st.2) ∙ ap (link s) e ∙ f) st.3 gr
        side (inr f) = at_right b (sym (ap (word 4) st.2) ∙ ap (right_link s) e ∙ f) st.4 gr

    whole : (ps : Path) (u : Tree) → top u ≡ p → HoldsTree s root (plug ps u) → Stands s root u → Rebalances s s' root
    whole ps (leaf n k v) e gr st = absurd (let two = p_inner.2 in let one : kind s p ≡ 1 = ap (kind s) (sym e) ∙ ap (word 1) st.2 in omega arith)
    whole ps (inner n d a b) e gr st =
        over ps n d a b e gr (parent_is s root ps (inner n d a b) gr g (subst (λ (x : ℕ). IsParent s root g x) (sym e) above)) st

    part : (ps : Path) × (u : Tree) × (t ≡ plug ps u) × (top u ≡ p) → Rebalances s s' root
    part (ps, u, e, f) =
        let gr : HoldsTree s root (plug ps u) = subst (λ (x : Tree). HoldsTree s root x) e grown in
        whole ps u f gr (stands_part s root ps u gr.stands)

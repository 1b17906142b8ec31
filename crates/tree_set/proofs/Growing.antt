-- One leaf more in a tree.
use Rattle.std.proofs.Common.{◌≡◌, ◌≢◌, ℕ, suc, ◌^◌, ◌<◌, ◌≤◌, ◌⊎◌, inl, inr, Bool, true, false, cond, ltb, lt-ltb}
use Rattle.std.proofs.Common.{le-ltb, [], ◌∷◌, refl, sym, ap, ◌∙◌, subst, arith}
use Rattle.std.proofs.lemmas.Bool.{cases_eq, cases_lt}
use Rattle.mv_history.specs.State.{State}
use Rattle.mv_history.specs.Meaning.{words_at}
use Rattle.set_model.specs.Objects.{owner, kind, key, leaf_words, inner_words}
use Rattle.set_model.specs.Trees.{Tree, top, objects_in, IsDistinct, IsOrdered, Stands, HoldsTree, seek}
use Rattle.set_model.specs.Trees.Tree.{leaf, inner}
use Rattle.set_model.proofs.ObjectWords.{word}
use Rattle.set_model.proofs.Frames.{IsOf, IsWithin}
use Rattle.section_work.proofs.Objects.{IsIn}
use Rattle.set_model.proofs.TreeShape.{is_in-none, only_in}
use Rattle.set_model.proofs.Ways.{IsVacant}
use Rattle.tree_set.specs.Paths.{Path, plug, parent_of, Follows, around}
use Rattle.tree_set.specs.Paths.PathStep.{left, right}
use Rattle.tree_set.specs.Places.{redirect, inner_over}
use Rattle.tree_set.proofs.Plugging.{plug_in, plug_apart, stands_part, IsWithin as IsBeside, ordered_within, seek_plug, seek_beside}
use Rattle.tree_set.proofs.Around.{around_owner, parent_at, part_not_parent, owned_not_vacant}
use Rattle.tree_set.proofs.Replacing.{Replaced, replaced, redirect_keeps, ranked}

-- the words of the new leaf m, the new inner node w and the parent p; the rest is as before
pub record Sprouts (s s' : State) (root k v p l m w : ℕ) : Type 0 where
  pub parent : words_at s' p ≡ redirect (words_at s p) l w
  pub new_leaf : words_at s' m ≡ leaf_words root k v
  pub new_inner : words_at s' w ≡ inner_over root k m (key s l) l
  pub others : (o : ℕ) → o ≢ p → o ≢ m → o ≢ w → words_at s' o ≡ words_at s o

-- The leaf l at the end of the search's path, its parent p, and two vacant nodes.
pub record IsSite (s : State) (root k p l m w j x : ℕ) (ps : Path) : Type 0 where
  pub grown : HoldsTree s root (plug ps (leaf l j x))
  pub follows : Follows k ps
  pub parent : parent_of root ps ≡ p
  pub other : j ≢ k
  pub fits : k < 2 ^ 32
  pub new_leaf : IsVacant s m
  pub new_inner : IsVacant s w
  pub differ : m ≢ w

-- the new leaf and the old one under the new inner node
abbrev pub sprout : ℕ → ℕ → ℕ → ℕ → ℕ → ℕ → ℕ → Tree
sprout k v m w l j x = cond (ltb k j) (inner w j (leaf m k v) (leaf l j x)) (inner w k (leaf l j x) (leaf m k v))

beside_leaf : (ps : Path) (m k v : ℕ) → Follows k ps → IsBeside ps (leaf m k v)
beside_leaf [] m k v f = tt
beside_leaf (left n d b ∷ ps) m k v f = (f.0, beside_leaf ps m k v f.1)
beside_leaf (right n d a ∷ ps) m k v f = (f.0, beside_leaf ps m k v f.1)

beside_both : (ps : Path) (w d : ℕ) (a b : Tree) → IsBeside ps a → IsBeside ps b → IsBeside ps (inner w d a b)
beside_both [] w d a b p q = tt
beside_both (left n e c ∷ ps) w d a b p q = ((p.0, q.0), beside_both ps w d a b p.1 q.1)
beside_both (right n e c ∷ ps) w d a b p q = ((p.0, q.0), beside_both ps w d a b p.1 q.1)

module _ (s s' : State) (root k v p l m w j x : ℕ) (ps : Path) (lt : root < 180) (a : IsSite s root k p l m w j x ps) (c : Sprouts s s' root k v p l m w) where
  stood : Stands s root (leaf l j x)
  stood = stands_part s root ps (leaf l j x) a.grown.stands

  old_owner : owner s l ≡ suc root
  old_owner = ap (word 0) stood.2

  old_key : key s l ≡ j
  old_key = ap (word 2) stood.2

  not_fresh : (o n : ℕ) → owner s o ≡ suc root → IsVacant s n → o ≢ n
  not_fresh o n e f = owned_not_vacant s root o n e f

  around_is : (o : ℕ) → IsIn o (around ps) → owner s o ≡ suc root
  around_is = around_owner s root ps (leaf l j x) a.grown

  leaf_not_parent : l ≢ p
  leaf_not_parent = part_not_parent s root ps (leaf l j x) lt a.grown p a.parent l (inl refl)

  leaf_stays : words_at s' l ≡ words_at s l
  leaf_stays =
      c.others l leaf_not_parent (not_fresh l m old_owner a.new_leaf) (not_fresh l w old_owner a.new_inner)

  other_stays : (o : ℕ) → (o ≡ root) ⊎ IsIn o (around ps) → o ≢ parent_of root ps → words_at s' o ≡ words_at s o
  other_stays o (inl e) n =
      let um : 180 ≤ m = a.new_leaf.0 in let uw : 180 ≤ w = a.new_inner.0 in
      c.others o (λ q. n (q ∙ sym a.parent)) (omega arith) (omega arith)
  other_stays o (inr i) n =
      c.others o (λ q. n (q ∙ sym a.parent)) (not_fresh o m (around_is o i) a.new_leaf) (not_fresh o w (around_is o i) a.new_inner)

  -- where the owner names the root afterwards, and the object is not new, it did before
  owner_before : (o : ℕ) → 180 ≤ o → owner s' o ≡ suc root → o ≢ m → o ≢ w → owner s o ≡ suc root
  owner_before o lo e nm nw = go (cases_eq o p)
    where
      go : (o ≡ p) ⊎ (o ≢ p) → owner s o ≡ suc root
      go (inr n) = sym (ap (word 0) (c.others o n nm nw)) ∙ e
      go (inl q) = ap (owner s) q ∙ sym (ap (word 0) c.parent ∙ redirect_keeps (words_at s p) l w 0 (omega arith) (omega arith)) ∙ ap (owner s') (sym q) ∙ e

  module _ (u : Tree) (top_is : top u ≡ w) (stands : Stands s' root u) (ordered : IsOrdered u) (beside : IsBeside ps u) (distinct : IsDistinct (objects_in u))
      (of : (o : ℕ) → IsIn o (objects_in u) → (o ≡ w) ⊎ ((o ≡ m) ⊎ (o ≡ l))) (has : (o : ℕ) → (o ≡ w) ⊎ ((o ≡ m) ⊎ (o ≡ l)) → IsIn o (objects_in u)) where
    sprouted_as : Replaced s s' root ps (leaf l j x) u
    sprouted_as = record {
      leads = ap (words_at s') a.parent ∙ c.parent ∙ ap (λ (q : ℕ). redirect (words_at s q) l w) (sym a.parent)
          ∙ ap (λ (q : ℕ). redirect (words_at s (parent_of root ps)) l q) (sym top_is);
      others = other_stays;
      stands = stands;
      ordered = ordered;
      within = beside;
      distinct = distinct;
      apart = λ o i n. elim (of o n) [
        | inl e ↦ not_fresh o w (around_is o i) a.new_inner e
        | inr (inl e) ↦ not_fresh o m (around_is o i) a.new_leaf e
        | inr (inr e) ↦ plug_apart ps (leaf l j x) a.grown.distinct o i (inl e)
      ];
      only = λ o lo e. only o lo e (cases_eq o m) (cases_eq o w);
    }
      where
        only : (o : ℕ) → 180 ≤ o → owner s' o ≡ suc root → (o ≡ m) ⊎ (o ≢ m) → (o ≡ w) ⊎ (o ≢ w) → IsIn o (around ps) ⊎ IsIn o (objects_in u)
        only o lo e (inl q) _ = inr (has o (inr (inl q)))
        only o lo e (inr _) (inl q) = inr (has o (inl q))
        only o lo e (inr nm) (inr nw) = elim (plug_in ps (leaf l j x) o (only_in s root (plug ps (leaf l j x)) a.grown o lo (owner_before o lo e nm nw))) [
          | inl i ↦ inl i
          | inr (inl q) ↦ inr (has o (inr (inr q)))
          | inr (inr q) ↦ absurd q
        ]

  w_not_m : w ≢ m
  w_not_m e = a.differ (sym e)

  w_not_l : w ≢ l
  w_not_l e = not_fresh l w old_owner a.new_inner (sym e)

  m_not_l : m ≢ l
  m_not_l e = not_fresh l m old_owner a.new_leaf (sym e)

  new_stands : Stands s' root (leaf m k v)
  new_stands = (a.new_leaf.0, a.fits, c.new_leaf)

  old_stands : Stands s' root (leaf l j x)
  old_stands = (stood.0, stood.1, leaf_stays ∙ stood.2)

  inner_is : words_at s' w ≡ inner_over root k m j l
  inner_is = c.new_inner ∙ ap (λ (q : ℕ). inner_over root k m q l) old_key

  below_old : k < j → Replaced s s' root ps (leaf l j x) (sprout k v m w l j x)
  below_old lo =
      subst (λ (u : Tree). Replaced s s' root ps (leaf l j x) u)
      (sym (ap (λ (b : Bool). cond b (inner w j (leaf m k v) (leaf l j x)) (inner w k (leaf l j x) (leaf m k v))) (lt-ltb k j lo)))
      (sprouted_as (inner w j (leaf m k v) (leaf l j x)) refl (
        a.new_inner.0,
        stood.1,
        ranked s' root j m l 0 w (inner_is ∙ ap (λ (b : Bool). cond b (inner_words root j m l 0) (inner_words root k l m 0)) (lt-ltb k j lo)),
        new_stands,
        old_stands,
      )
      (lo, omega arith, tt, tt)
      (beside_both ps w j (leaf m k v) (leaf l j x) (beside_leaf ps m k v a.follows) (ordered_within ps (leaf l j x) a.grown.ordered)) (
        is_in-none w (m ∷ l ∷ []) (λ i. elim i [ inl e ↦ w_not_m e | inr (inl e) ↦ w_not_l e | inr (inr e) ↦ e ]),
        (is_in-none m (l ∷ []) (λ i. elim i [ inl e ↦ m_not_l e | inr e ↦ e ]), (refl, tt)),
      )
      (λ o i. elim i [ inl e ↦ inl e | inr (inl e) ↦ inr (inl e) | inr (inr (inl e)) ↦ inr (inr e) | inr (inr (inr e)) ↦ absurd e ])
      (λ o i. elim i [ inl e ↦ inl e | inr (inl e) ↦ inr (inl e) | inr (inr e) ↦ inr (inr (inl e)) ]))

  above_old : j < k → Replaced s s' root ps (leaf l j x) (sprout k v m w l j x)
  above_old hi =
      let le : j ≤ k = omega arith in
      subst (λ (u : Tree). Replaced s s' root ps (leaf l j x) u)
      (sym (ap (λ (b : Bool). cond b (inner w j (leaf m k v) (leaf l j x)) (inner w k (leaf l j x) (leaf m k v))) (le-ltb k j le)))
      (sprouted_as (inner w k (leaf l j x) (leaf m k v)) refl (
        a.new_inner.0,
        a.fits,
        ranked s' root k l m 0 w (inner_is ∙ ap (λ (b : Bool). cond b (inner_words root j m l 0) (inner_words root k l m 0)) (le-ltb k j le)),
        old_stands,
        new_stands,
      )
      (hi, omega arith, tt, tt)
      (beside_both ps w k (leaf l j x) (leaf m k v) (ordered_within ps (leaf l j x) a.grown.ordered) (beside_leaf ps m k v a.follows)) (
        is_in-none w (l ∷ m ∷ []) (λ i. elim i [ inl e ↦ w_not_l e | inr (inl e) ↦ w_not_m e | inr (inr e) ↦ e ]),
        (is_in-none l (m ∷ []) (λ i. elim i [ inl e ↦ m_not_l (sym e) | inr e ↦ e ]), (refl, tt)),
      )
      (λ o i. elim i [ inl e ↦ inl e | inr (inl e) ↦ inr (inr e) | inr (inr (inl e)) ↦ inr (inl e) | inr (inr (inr e)) ↦ absurd e ])
      (λ o i. elim i [ inl e ↦ inl e | inr (inl e) ↦ inr (inr (inl e)) | inr (inr e) ↦ inr (inl e) ]))

  -- The tree with the new leaf.
  pub grown_more : HoldsTree s' root (plug ps (sprout k v m w l j x))
  grown_more = replaced s s' root ps (leaf l j x) (sprout k v m w l j x) lt a.grown (elim (cases_lt k j) [
    | inl lo ↦ below_old lo
    | inr le ↦ (let n = a.other in above_old (omega arith))
  ])

  pub grow_within : IsWithin s s' root
  grow_within o = go (cases_eq o p) (cases_eq o m) (cases_eq o w)
    where
      parent_owner : owner s' p ≡ owner s p
      parent_owner = ap (word 0) c.parent ∙ redirect_keeps (words_at s p) l w 0 (omega arith) (omega arith)

      go : (o ≡ p) ⊎ (o ≢ p) → (o ≡ m) ⊎ (o ≢ m) → (o ≡ w) ⊎ (o ≢ w)
          → (words_at s' o ≡ words_at s o) ⊎ ((o ≡ root) ⊎ ((180 ≤ o) × IsOf s root o × IsOf s' root o))
      go (inr np) (inr nm) (inr nw) = inl (c.others o np nm nw)
      go (inr np) (inl e) _ =
          let lo : 180 ≤ m = a.new_leaf.0 in
          inr (inr (omega arith, inl (ap (owner s) e ∙ a.new_leaf.2), inr (ap (owner s') e ∙ ap (word 0) c.new_leaf)))
      go (inr np) (inr nm) (inl e) =
          let lo : 180 ≤ w = a.new_inner.0 in
          inr (inr (omega arith, inl (ap (owner s) e ∙ a.new_inner.2), inr (ap (owner s') e ∙ inner_owner)))
        where
          over : (b : Bool) → word 0 (cond b (inner_words root (key s l) m l 0) (inner_words root k l m 0)) ≡ suc root
          over true = refl
          over false = refl

          inner_owner : owner s' w ≡ suc root
          inner_owner = ap (word 0) c.new_inner ∙ over (ltb k (key s l))
      go (inl e) _ _ = elim (parent_at s root ps (leaf l j x) a.grown p a.parent) [
        | inl q ↦ inr (inl (e ∙ q))
        | inr q ↦ (let lo : 180 ≤ p = q.0 in inr (inr (omega arith, inr (ap (owner s) e ∙ q.1), inr (ap (owner s') e ∙ parent_owner ∙ q.1))))
      ]

  -- an object that stays in its structure keeps its kind and key
  pub grow_keys : (o : ℕ) → owner s o ≢ 0 → owner s' o ≡ owner s o → (kind s' o ≡ kind s o) × (key s' o ≡ key s o)
  grow_keys o some same = go (cases_eq o p) (cases_eq o m) (cases_eq o w)
    where
      go : (o ≡ p) ⊎ (o ≢ p) → (o ≡ m) ⊎ (o ≢ m) → (o ≡ w) ⊎ (o ≢ w) → (kind s' o ≡ kind s o) × (key s' o ≡ key s o)
      go (inr np) (inr nm) (inr nw) = let e = c.others o np nm nw in (ap (word 1) e, ap (word 2) e)
      go (inr np) (inl e) _ = absurd (some (ap (owner s) e ∙ a.new_leaf.2))
      go (inr np) (inr nm) (inl e) = absurd (some (ap (owner s) e ∙ a.new_inner.2))
      go (inl e) _ _ = (
        ap (kind s') e ∙ ap (word 1) c.parent ∙ redirect_keeps (words_at s p) l w 1 (omega arith) (omega arith) ∙ ap (kind s) (sym e),
        ap (key s') e
            ∙ ap (word 2) c.parent ∙ redirect_keeps (words_at s p) l w 2 (omega arith) (omega arith) ∙ ap (key s) (sym e),
      )

  -- a search that ended at another leaf ends there still
  pub grow_ends : (i n : ℕ) → seek i (plug ps (leaf l j x)) ≡ n → n ≢ l → seek i (plug ps (sprout k v m w l j x)) ≡ n
  grow_ends i n e ne = elim (seek_beside i ps (leaf l j x) (sprout k v m w l j x)) [
    | inl f ↦ absurd (ne (sym (sym (seek_plug i ps (leaf l j x) f) ∙ e)))
    | inr q ↦ sym q ∙ e
  ]

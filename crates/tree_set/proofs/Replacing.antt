-- A part of a tree replaced by another one.
use Rattle.std.proofs.Common.{◌≡◌, ◌≢◌, ℕ, suc, ◌<◌, ◌≤◌, ◌⊎◌, inl, inr, Bool, true, false, cond, eqb, eq-eqb, ne_eqb}
use Rattle.std.proofs.Common.{get_or-set_other, set, List, [], ◌∷◌, ◌++◌, refl, sym, ap, ◌∙◌, subst, arith}
use Rattle.std.proofs.lemmas.List.{set-get_or}
use Rattle.std.proofs.lemmas.Bool.{cases_eq}
use Rattle.mv_history.specs.State.{State}
use Rattle.mv_history.specs.Meaning.{words_at}
use Rattle.set_model.specs.Objects.{owner, kind, link, right_link, rank, head_words, inner_words}
use Rattle.set_model.specs.Trees.{Tree, top, objects_in, IsDistinct, IsOrdered, Stands, HoldsTree}
use Rattle.set_model.specs.Trees.Tree.{leaf, inner}
use Rattle.set_model.proofs.ObjectWords.{word}
use Rattle.section_work.proofs.Objects.{IsIn, in_left, in_right, in_either}
use Rattle.set_model.proofs.TreeShape.{not_in, is_in-from, distinct_left, distinct_right, distinct_apart, top_in}
use Rattle.set_model.proofs.TreeShape.{child_in, only_in, Stands-same, Stands-node}
use Rattle.tree_set.specs.Paths.{PathStep, Path, plug, parent_of, around}
use Rattle.tree_set.specs.Paths.PathStep.{left, right}
use Rattle.tree_set.specs.Places.{IsInner, IsChild, IsParent, redirect}
use Rattle.tree_set.proofs.Plugging.{around_in, part_in, top_plug, parent_in, IsWithin, ordered_plug, distinct_plug}

-- At the end of the path stands another part: what led to the one leads to the other, and all else around it is as before.
pub record Replaced (s s' : State) (root : ℕ) (ps : Path) (u v : Tree) : Type 0 where
  pub leads : words_at s' (parent_of root ps) ≡ redirect (words_at s (parent_of root ps)) (top u) (top v)
  pub others : (o : ℕ) → (o ≡ root) ⊎ IsIn o (around ps) → o ≢ parent_of root ps → words_at s' o ≡ words_at s o
  pub stands : Stands s' root v
  pub ordered : IsOrdered v
  pub within : IsWithin ps v
  pub distinct : IsDistinct (objects_in v)
  pub apart : (o : ℕ) → IsIn o (around ps) → IsIn o (objects_in v) → ⊥
  pub only : (o : ℕ) → 180 ≤ o → owner s' o ≡ suc root → IsIn o (around ps) ⊎ IsIn o (objects_in v)

-- the words of an inner node whose link is led elsewhere
redirect_left : (root d a b r w : ℕ) → redirect (inner_words root d a b r) a w ≡ inner_words root d w b r
redirect_left root d a b r w = ap (λ (c : Bool). cond c (inner_words root d w b r) (inner_words root d a w r)) (eq-eqb a a refl)

redirect_right : (root d a b r w : ℕ) → a ≢ b → redirect (inner_words root d a b r) b w ≡ inner_words root d a w r
redirect_right root d a b r w n = ap (λ (c : Bool). cond c (inner_words root d w b r) (inner_words root d a w r)) (ne_eqb a b n)

-- an inner node with some rank has its own
pub ranked : (s : State) (root d a b r n : ℕ) → words_at s n ≡ inner_words root d a b r → words_at s n ≡ inner_words root d a b (rank s n)
ranked s root d a b r n e = e ∙ ap (λ (q : ℕ). inner_words root d a b q) (sym (ap (word 5) e))

pub redirect_head : (a w : ℕ) → redirect (head_words a) a w ≡ head_words w
redirect_head a w = ap (λ (c : Bool). cond c (head_words w) (0 ∷ 0 ∷ 0 ∷ a ∷ w ∷ 0 ∷ [])) (eq-eqb a a refl)

-- all but the links stays
pub redirect_keeps : (words : List ℕ) (a w i : ℕ) → i ≢ 3 → i ≢ 4 → word i (redirect words a w) ≡ word i words
redirect_keeps words a w i n m = go (eqb (word 3 words) a)
  where
    go : (c : Bool) → word i (cond c (set words 3 w) (set words 4 w)) ≡ word i words
    go true = get_or-set_other words 3 i w 0 n
    go false = get_or-set_other words 4 i w 0 m

-- The tree stands with the other part.
stands_plug : (s s' : State) (root parent : ℕ) (ps : Path) (u v : Tree) → Stands s root (plug ps u) → IsDistinct (objects_in (plug ps u))
    → words_at s' (parent_of parent ps) ≡ redirect (words_at s (parent_of parent ps)) (top u) (top v)
    → ((o : ℕ) → IsIn o (around ps) → o ≢ parent_of parent ps → words_at s' o ≡ words_at s o) → Stands s' root v → Stands s' root (plug ps v)
stands_plug s s' root parent [] u v q dis leads others new = new
stands_plug s s' root parent (left n d b ∷ []) u v q dis leads others new = (
  q.0,
  q.1,
  ranked s' root d (top v) (top b) (rank s n) n
      (leads ∙ ap (λ (w : List ℕ). redirect w (top u) (top v)) q.2 ∙ redirect_left root d (top u) (top b) (rank s n) (top v)),
  new,
  Stands-same s s' root b q.4
      (λ o i. others o (inr i)
      (λ e. not_in n (objects_in u ++ objects_in b) dis.0 (in_right (objects_in u) (objects_in b) n (subst (λ (x : ℕ). IsIn x (objects_in b)) e i)))),
)
stands_plug s s' root parent (right n d a ∷ []) u v q dis leads others new =
    let apart : top a ≢ top u =
    λ e. distinct_apart (objects_in a) (objects_in u) dis.1 (top u) (subst (λ (x : ℕ). IsIn x (objects_in a)) e (top_in a)) (top_in u) in (
      q.0,
      q.1,
      ranked s' root d (top a) (top v) (rank s n) n
          (leads ∙ ap (λ (w : List ℕ). redirect w (top u) (top v)) q.2 ∙ redirect_right root d (top a) (top u) (rank s n) (top v) apart),
      Stands-same s s' root a q.3
          (λ o i. others o (inr (in_left (objects_in a) [] o i))
          (λ e. not_in n (objects_in a ++ objects_in u) dis.0 (in_left (objects_in a) (objects_in u) n (subst (λ (x : ℕ). IsIn x (objects_in a)) e i)))),
      new,
    )
stands_plug s s' root parent (left n d b ∷ p ∷ ps) u v q dis leads others new =
    let t : Tree = plug (p ∷ ps) u in
    let below : IsIn (parent_of n (p ∷ ps)) (objects_in (plug (p ∷ ps) u)) = around_in (p ∷ ps) u _ (parent_in n p ps) in
    let apart : n ≢ parent_of n (p ∷ ps) =
    λ e. not_in n (objects_in (plug (p ∷ ps) u) ++ objects_in b) dis.0
    (in_left (objects_in (plug (p ∷ ps) u)) (objects_in b) n (subst (λ (x : ℕ). IsIn x (objects_in (plug (p ∷ ps) u))) (sym e) below)) in (
      q.0,
      q.1,
      ranked s' root d (top (plug (p ∷ ps) v)) (top b) (rank s n) n
          (others n (inl refl) apart ∙ q.2 ∙ ap (λ (x : ℕ). inner_words root d x (top b) (rank s n)) (top_plug p ps u ∙ sym (top_plug p ps v))),
      stands_plug s s' root n (p ∷ ps) u v q.3 (distinct_left (objects_in (plug (p ∷ ps) u)) (objects_in b) dis.1) leads
          (λ o i. others o (inr (in_left (around (p ∷ ps)) (objects_in b) o i))) new,
      Stands-same s s' root b q.4
          (λ o i. others o (inr (in_right (around (p ∷ ps)) (objects_in b) o i))
          (λ e. distinct_apart (objects_in (plug (p ∷ ps) u)) (objects_in b) dis.1 o (subst (λ (x : ℕ). IsIn x (objects_in (plug (p ∷ ps) u))) (sym e) below)
          i)),
    )
stands_plug s s' root parent (right n d a ∷ p ∷ ps) u v q dis leads others new =
    let below : IsIn (parent_of n (p ∷ ps)) (objects_in (plug (p ∷ ps) u)) = around_in (p ∷ ps) u _ (parent_in n p ps) in
    let apart : n ≢ parent_of n (p ∷ ps) =
    λ e. not_in n (objects_in a ++ objects_in (plug (p ∷ ps) u)) dis.0
    (in_right (objects_in a) (objects_in (plug (p ∷ ps) u)) n (subst (λ (x : ℕ). IsIn x (objects_in (plug (p ∷ ps) u))) (sym e) below)) in (
      q.0,
      q.1,
      ranked s' root d (top a) (top (plug (p ∷ ps) v)) (rank s n) n
          (others n (inl refl) apart ∙ q.2 ∙ ap (λ (x : ℕ). inner_words root d (top a) x (rank s n)) (top_plug p ps u ∙ sym (top_plug p ps v))),
      Stands-same s s' root a q.3
          (λ o i. others o (inr (in_left (objects_in a) (around (p ∷ ps)) o i))
          (λ e. distinct_apart (objects_in a) (objects_in (plug (p ∷ ps) u)) dis.1 o i
          (subst (λ (x : ℕ). IsIn x (objects_in (plug (p ∷ ps) u))) (sym e) below))),
      stands_plug s s' root n (p ∷ ps) u v q.4 (distinct_right (objects_in a) (objects_in (plug (p ∷ ps) u)) dis.1) leads
          (λ o i. others o (inr (in_right (objects_in a) (around (p ∷ ps)) o i))) new,
    )

-- The root's tree is the one with the other part.
pub replaced : (s s' : State) (root : ℕ) (ps : Path) (u v : Tree) → root < 180 → HoldsTree s root (plug ps u) → Replaced s s' root ps u v
    → HoldsTree s' root (plug ps v)
replaced s s' root ps u v lt g r = record {
  first = first ps g r.leads r.others;
  stands = stands_plug s s' root root ps u v g.stands g.distinct r.leads (λ o i. r.others o (inr i)) r.stands;
  ordered = ordered_plug ps u v g.ordered r.ordered r.within;
  distinct = distinct_plug ps u v g.distinct r.distinct r.apart;
  only = λ o lo e. is_in-from o (objects_in (plug ps v)) (elim (r.only o lo e) [ inl i ↦ around_in ps v o i | inr i ↦ part_in ps v o i ]);
}
  where
    first : (ps : Path) → HoldsTree s root (plug ps u) → words_at s' (parent_of root ps) ≡ redirect (words_at s (parent_of root ps)) (top u) (top v)
        → ((o : ℕ) → (o ≡ root) ⊎ IsIn o (around ps) → o ≢ parent_of root ps → words_at s' o ≡ words_at s o) → words_at s' root ≡ head_words (top (plug ps v))
    first [] g leads others = leads ∙ ap (λ (w : List ℕ). redirect w (top u) (top v)) g.first ∙ redirect_head (top u) (top v)
    first (p ∷ ps) g leads others =
        let node : 180 ≤ parent_of root (p ∷ ps) = Stands-node s root (plug (p ∷ ps) u) g.stands _ (around_in (p ∷ ps) u _ (parent_in root p ps)) in
        others root (inl refl) (omega arith) ∙ g.first ∙ ap head_words (top_plug p ps u ∙ sym (top_plug p ps v))

-- What leads to the part is the parent at the end of the path.

-- a child is not at the top
child_not_top : (s : State) (root : ℕ) (t : Tree) → Stands s root t → IsDistinct (objects_in t) → (p : ℕ) → IsIn p (objects_in t) → kind s p ≡ 2
    → (link s p ≡ top t) ⊎ (right_link s p ≡ top t) → ⊥
child_not_top s root (leaf n k v) q dis p (inl e) z c = let one : kind s p ≡ 1 = ap (kind s) e ∙ ap (word 1) q.2 in omega arith
child_not_top s root (leaf n k v) q dis p (inr i) z c = i
child_not_top s root (inner n d a b) q dis p (inl e) z (inl c) =
    let f : n ≡ top a = sym c ∙ ap (link s) e ∙ ap (word 3) q.2 in
    not_in n (objects_in a ++ objects_in b) dis.0 (in_left (objects_in a) (objects_in b) n (subst (λ (u : ℕ). IsIn u (objects_in a)) (sym f) (top_in a)))
child_not_top s root (inner n d a b) q dis p (inl e) z (inr c) =
    let f : n ≡ top b = sym c ∙ ap (right_link s) e ∙ ap (word 4) q.2 in
    not_in n (objects_in a ++ objects_in b) dis.0 (in_right (objects_in a) (objects_in b) n (subst (λ (u : ℕ). IsIn u (objects_in b)) (sym f) (top_in b)))
child_not_top s root (inner n d a b) q dis p (inr i) z c = elim (in_either (objects_in a) (objects_in b) p i) [
  | inl j ↦ not_in n (objects_in a ++ objects_in b) dis.0 (in_left (objects_in a) (objects_in b) n (child_in s root a q.3 p j z n c))
  | inr j ↦ not_in n (objects_in a ++ objects_in b) dis.0 (in_right (objects_in a) (objects_in b) n (child_in s root b q.4 p j z n c))
]

-- the top of a longer path is not that of the part
top_apart : (p : PathStep) (ps : Path) (u : Tree) → IsDistinct (objects_in (plug (p ∷ ps) u)) → top (plug (p ∷ ps) u) ≢ top u
top_apart (left n d b) ps u dis e =
    not_in n (objects_in (plug ps u) ++ objects_in b) dis.0
    (in_left (objects_in (plug ps u)) (objects_in b) n (subst (λ (x : ℕ). IsIn x (objects_in (plug ps u))) (sym e) (part_in ps u (top u) (top_in u))))
top_apart (right n d a) ps u dis e =
    not_in n (objects_in a ++ objects_in (plug ps u)) dis.0
    (in_right (objects_in a) (objects_in (plug ps u)) n (subst (λ (x : ℕ). IsIn x (objects_in (plug ps u))) (sym e) (part_in ps u (top u) (top_in u))))

-- the path leads to the part's top where its first node does
ends_here : (parent : ℕ) (ps : Path) (u : Tree) → IsDistinct (objects_in (plug ps u)) → top (plug ps u) ≡ top u → parent_of parent ps ≡ parent
ends_here parent [] u dis e = refl
ends_here parent (p ∷ ps) u dis e = absurd (top_apart p ps u dis e)

inner_parent : (s : State) (root parent : ℕ) (ps : Path) (u : Tree) → Stands s root (plug ps u) → IsDistinct (objects_in (plug ps u)) → (p : ℕ)
    → IsIn p (objects_in (plug ps u)) → kind s p ≡ 2 → (link s p ≡ top u) ⊎ (right_link s p ≡ top u) → parent_of parent ps ≡ p
inner_parent s root parent [] u q dis p i z c = absurd (child_not_top s root u q dis p i z c)
inner_parent s root parent (left n d b ∷ ps) u q dis p (inl e) z (inl c) =
    ends_here n ps u (distinct_left (objects_in (plug ps u)) (objects_in b) dis.1) (sym (ap (link s) e ∙ ap (word 3) q.2) ∙ c) ∙ sym e
inner_parent s root parent (left n d b ∷ ps) u q dis p (inl e) z (inr c) =
    let f : top b ≡ top u = sym (ap (right_link s) e ∙ ap (word 4) q.2) ∙ c in
    absurd (distinct_apart (objects_in (plug ps u)) (objects_in b) dis.1 (top u) (part_in ps u (top u) (top_in u))
    (subst (λ (x : ℕ). IsIn x (objects_in b)) f (top_in b)))
inner_parent s root parent (left n d b ∷ ps) u q dis p (inr i) z c = elim (in_either (objects_in (plug ps u)) (objects_in b) p i) [
  | inl j ↦ inner_parent s root n ps u q.3 (distinct_left (objects_in (plug ps u)) (objects_in b) dis.1) p j z c
  | inr j ↦ absurd
      (distinct_apart (objects_in (plug ps u)) (objects_in b) dis.1 (top u) (part_in ps u (top u) (top_in u)) (child_in s root b q.4 p j z (top u) c))
]
inner_parent s root parent (right n d a ∷ ps) u q dis p (inl e) z (inr c) =
    ends_here n ps u (distinct_right (objects_in a) (objects_in (plug ps u)) dis.1) (sym (ap (right_link s) e ∙ ap (word 4) q.2) ∙ c) ∙ sym e
inner_parent s root parent (right n d a ∷ ps) u q dis p (inl e) z (inl c) =
    let f : top a ≡ top u = sym (ap (link s) e ∙ ap (word 3) q.2) ∙ c in
    absurd (distinct_apart (objects_in a) (objects_in (plug ps u)) dis.1 (top u) (subst (λ (x : ℕ). IsIn x (objects_in a)) f (top_in a))
    (part_in ps u (top u) (top_in u)))
inner_parent s root parent (right n d a ∷ ps) u q dis p (inr i) z c = elim (in_either (objects_in a) (objects_in (plug ps u)) p i) [
  | inl j ↦ absurd
      (distinct_apart (objects_in a) (objects_in (plug ps u)) dis.1 (top u) (child_in s root a q.3 p j z (top u) c) (part_in ps u (top u) (top_in u)))
  | inr j ↦ inner_parent s root n ps u q.4 (distinct_right (objects_in a) (objects_in (plug ps u)) dis.1) p j z c
]

pub parent_is : (s : State) (root : ℕ) (ps : Path) (u : Tree) → HoldsTree s root (plug ps u) → (p : ℕ) → IsParent s root p (top u) → parent_of root ps ≡ p
parent_is s root ps u g p (inl (e, c)) =
    ends_here root ps u g.distinct (sym (ap (word 3) g.first) ∙ c) ∙ sym e
parent_is s root ps u g p (inr (i, c)) =
    inner_parent s root root ps u g.stands g.distinct p (only_in s root (plug ps u) g p i.0 i.1) i.2 c

-- and it does lead to the part
inner_leads : (s : State) (root parent : ℕ) (p : PathStep) (ps : Path) (u : Tree) → Stands s root (plug (p ∷ ps) u)
    → IsInner s root (parent_of parent (p ∷ ps)) × IsChild s (parent_of parent (p ∷ ps)) (top u)
inner_leads s root parent (left n d b) [] u q = ((q.0, ap (word 0) q.2, ap (word 1) q.2), inl (ap (word 3) q.2))
inner_leads s root parent (right n d a) [] u q = ((q.0, ap (word 0) q.2, ap (word 1) q.2), inr (ap (word 4) q.2))
inner_leads s root parent (left n d b) (t ∷ ps) u q = inner_leads s root n t ps u q.3
inner_leads s root parent (right n d a) (t ∷ ps) u q = inner_leads s root n t ps u q.4

pub parent_leads : (s : State) (root : ℕ) (ps : Path) (u : Tree) → HoldsTree s root (plug ps u) → IsParent s root (parent_of root ps) (top u)
parent_leads s root [] u g = inl (refl, ap (word 3) g.first)
parent_leads s root (p ∷ ps) u g = inr (inner_leads s root root p ps u g.stands)

-- words that lead there are led to where they led
pub redirect_same : (words : List ℕ) (l : ℕ) → (word 3 words ≡ l) ⊎ (word 4 words ≡ l) → redirect words l l ≡ words
redirect_same words l leads = go (cases_eq (word 3 words) l) leads
  where
    go : (word 3 words ≡ l) ⊎ (word 3 words ≢ l) → (word 3 words ≡ l) ⊎ (word 4 words ≡ l) → redirect words l l ≡ words
    go (inl e) _ =
        ap (λ (c : Bool). cond c (set words 3 l) (set words 4 l)) (eq-eqb (word 3 words) l e) ∙ ap (set words 3) (sym e) ∙ set-get_or words 3 0
    go (inr n) (inl e) = absurd (n e)
    go (inr n) (inr e) =
        ap (λ (c : Bool). cond c (set words 3 l) (set words 4 l)) (ne_eqb (word 3 words) l n) ∙ ap (set words 4) (sym e) ∙ set-get_or words 4 0

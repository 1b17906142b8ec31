-- One node more, or one less, in a list.
use Rattle.std.proofs.Common.{◌≡◌, ◌≢◌, ℕ, suc, ◌<◌, ◌≤◌, ◌⊎◌, inl, inr, List, [], ◌∷◌, ◌++◌, refl, sym, ap, ◌∙◌, subst, arith}
use Rattle.std.proofs.lemmas.Bool.{cases_eq}
use Rattle.mv_history.specs.State.{State}
use Rattle.mv_history.specs.Meaning.{words_at}
use Rattle.set_model.specs.Objects.{owner, key, head_words, list_words, no_words, relink}
use Rattle.set_model.specs.Lists.{Node, Nodes, first_of, FitsHead, Links, IsAbove, IsRising, IsList}
use Rattle.set_model.proofs.ObjectWords.{word, owner-relink}
use Rattle.set_model.proofs.Chains.{IsAmong, is_among-from, only_among, last_of, last_among, Links-kept, Links-owner, Links-node, Links-right}
use Rattle.set_model.proofs.Chains.{IsRising-right, Links-splice, above_key, IsAmong-left, IsAmong-right, IsAmong-cases}

IsAbove-more : (k : ℕ) (x : Node) (fs bs : Nodes) → k < x.key → IsAbove k (fs ++ bs) → IsAbove k (fs ++ x ∷ bs)
IsAbove-more k x [] bs h a = (h, a)
IsAbove-more k x (y ∷ fs) bs h a = (a.0, IsAbove-more k x fs bs h a.1)

IsAbove-less : (k : ℕ) (x : Node) (fs bs : Nodes) → IsAbove k (fs ++ x ∷ bs) → IsAbove k (fs ++ bs)
IsAbove-less k x [] bs a = a.1
IsAbove-less k x (y ∷ fs) bs a = (a.0, IsAbove-less k x fs bs a.1)

pub IsAbove-below : (j k : ℕ) (ns : Nodes) → j ≤ k → IsAbove k ns → IsAbove j ns
IsAbove-below j k [] h a = tt
IsAbove-below j k (x ∷ ns) h a = let q : k < x.key = a.0 in (omega arith, IsAbove-below j k ns h a.1)

IsRising-less : (x : Node) (fs bs : Nodes) → IsRising (fs ++ x ∷ bs) → IsRising (fs ++ bs)
IsRising-less x [] bs r = r.1
IsRising-less x (y ∷ fs) bs r = (IsAbove-less y.key x fs bs r.0, IsRising-less x fs bs r.1)

-- every key of a front is at most that of its last node
under_last : (s : State) (head : ℕ) (x : Node) (fs bs : Nodes) → Links s head (x ∷ fs ++ bs) → IsRising (x ∷ fs ++ bs) → x.key ≤ key s (last_of x.object fs)
under_last s head x [] bs l r = let e : key s x.object ≡ x.key = ap (word 2) l.2 in omega arith
under_last s head x (y ∷ fs) bs l r =
    let a : y.key ≤ key s (last_of y.object fs) = under_last s head y fs bs l.3 r.1 in let b : x.key < y.key = r.0.0 in omega arith

pub front_upto : (s : State) (head : ℕ) (x : Node) (fs bs : Nodes) → Links s head (x ∷ fs ++ bs) → IsRising (x ∷ fs ++ bs) → (o : ℕ) → IsAmong o (x ∷ fs)
    → key s o ≤ key s (last_of x.object fs)
front_upto s head x fs bs l r o (inl e) =
    let is : key s o ≡ x.key = ap (key s) e ∙ ap (word 2) l.2 in
    let u : x.key ≤ key s (last_of x.object fs) = under_last s head x fs bs l r in omega arith
front_upto s head x [] bs l r o (inr i) = absurd i
front_upto s head x (y ∷ fs) bs l r o (inr i) = front_upto s head y fs bs l.3 r.1 o i

IsRising-more : (s : State) (head : ℕ) (x y : Node) (fs bs : Nodes) → Links s head (x ∷ fs ++ bs) → IsRising (x ∷ fs ++ bs)
    → key s (last_of x.object fs) < y.key → IsAbove y.key bs → IsRising (x ∷ fs ++ y ∷ bs)
IsRising-more s head x y [] bs l r u a =
    let b : x.key ≤ key s x.object = under_last s head x [] bs l r in
    let lt : x.key < y.key = omega arith in ((lt, r.0), (a, r.1))
IsRising-more s head x y (z ∷ fs) bs l r u a =
    let b : x.key ≤ key s (last_of z.object fs) = under_last s head x (z ∷ fs) bs l r in
    let lt : x.key < y.key = omega arith in
    (IsAbove-more x.key y (z ∷ fs) bs lt r.0, IsRising-more s head z y fs bs l.3 r.1 u a)

IsAmong-more : (y : Node) (fs bs : Nodes) (o : ℕ) → (o ≡ y.object) ⊎ IsAmong o (fs ++ bs) → IsAmong o (fs ++ y ∷ bs)
IsAmong-more y fs bs o (inl e) = IsAmong-right fs (y ∷ bs) o (inl e)
IsAmong-more y fs bs o (inr i) =
    elim (IsAmong-cases fs bs o i) [ inl j ↦ IsAmong-left fs (y ∷ bs) o j | inr j ↦ IsAmong-right fs (y ∷ bs) o (inr j) ]

IsAmong-less : (x : Node) (fs bs : Nodes) (o : ℕ) → o ≢ x.object → IsAmong o (fs ++ x ∷ bs) → IsAmong o (fs ++ bs)
IsAmong-less x [] bs o n (inl e) = absurd (n e)
IsAmong-less x [] bs o n (inr i) = i
IsAmong-less x (y ∷ fs) bs o n (inl e) = inl e
IsAmong-less x (y ∷ fs) bs o n (inr i) = inr (IsAmong-less x fs bs o n i)

-- the new node y stands behind p, before `next`
pub record Added (s s' : State) (head p : ℕ) (y : Node) (next : ℕ) : Type 0 where
  pub before : words_at s' p ≡ relink (words_at s p) y.object
  pub new : words_at s' y.object ≡ list_words head y.key y.value next
  pub others : (o : ℕ) → o ≢ p → o ≢ y.object → words_at s' o ≡ words_at s o

add_links : (s s' : State) (head p : ℕ) (y : Node) (fs bs : Nodes) → head < 170 → 180 ≤ y.object → owner s y.object ≡ 0 → FitsHead head y.key
    → Added s s' head p y (first_of bs) → Links s head (fs ++ bs) → IsRising (fs ++ bs) → last_of head fs ≡ p → IsAbove y.key bs
    → ((p ≡ head) ⊎ (key s p < y.key)) → Links s' head (fs ++ y ∷ bs) × IsRising (fs ++ y ∷ bs)
add_links s s' head p y [] bs lh ly vac fit c l r e a b =
    ((ly, fit, c.new, Links-kept s s' head bs l (λ o i. c.others o (λ q. ne o i q) (λ q. nv o i q))), (a, r))
  where
    ne : (o : ℕ) → IsAmong o bs → o ≢ p
    ne o i q = let g : 180 ≤ o = Links-node s head bs l o i in omega arith

    nv : (o : ℕ) → IsAmong o bs → o ≢ y.object
    nv o i q = let g : owner s o ≡ suc head = Links-owner s head bs l o i in let z : owner s o ≡ owner s y.object = ap (owner s) q in omega arith
add_links s s' head p y (x ∷ fs) bs lh ly vac fit c l r e a b = (
  Links-splice s s' head p x fs bs (y ∷ bs) l r e c.before front (ly, fit, c.new, Links-kept s s' head bs tail back),
  IsRising-more s head x y fs bs l r below a,
)
  where
    tail : Links s head bs
    tail = Links-right s head (x ∷ fs) bs l

    inside : IsAmong p (x ∷ fs)
    inside = subst (λ (u : ℕ). IsAmong u (x ∷ fs)) e (last_among x fs)

    node : 180 ≤ p
    node = Links-node s head (x ∷ fs ++ bs) l p (IsAmong-left (x ∷ fs) bs p inside)

    under : key s p < y.key
    under = elim b [ inl q ↦ absurd (omega (arith, node)) | inr q ↦ q ]

    below : key s (last_of x.object fs) < y.key
    below = subst (λ (u : ℕ). key s u < y.key) (sym e) under

    nv : (o : ℕ) → owner s o ≡ suc head → o ≢ y.object
    nv o g q = let z : owner s o ≡ owner s y.object = ap (owner s) q in omega arith

    front : (o : ℕ) → IsAmong o (x ∷ fs) → o ≢ p → words_at s' o ≡ words_at s o
    front o i n = c.others o n (nv o (Links-owner s head (x ∷ fs ++ bs) l o (IsAmong-left (x ∷ fs) bs o i)))

    back : (o : ℕ) → IsAmong o bs → words_at s' o ≡ words_at s o
    back o i = c.others o (λ q. let up : y.key < key s o = above_key s head y.key bs tail a o i in let z : key s o ≡ key s p = ap (key s) q in
        omega (arith, under)) (nv o (Links-owner s head bs tail o i))

last_node : (s : State) (head p : ℕ) (x : Node) (fs bs : Nodes) → Links s head (x ∷ fs ++ bs) → last_of x.object fs ≡ p → 180 ≤ p
last_node s head p x fs bs l e =
    Links-node s head (x ∷ fs ++ bs) l p (IsAmong-left (x ∷ fs) bs p (subst (λ (u : ℕ). IsAmong u (x ∷ fs)) e (last_among x fs)))

pub add_list : (s s' : State) (head p : ℕ) (y : Node) (fs bs : Nodes) → head < 170 → 180 ≤ y.object → owner s y.object ≡ 0 → FitsHead head y.key
    → Added s s' head p y (first_of bs) → IsList s head (fs ++ bs) → last_of head fs ≡ p → IsAbove y.key bs → ((p ≡ head) ⊎ (key s p < y.key))
    → IsList s' head (fs ++ y ∷ bs)
add_list s s' head p y fs bs lh ly vac fit c l e a b = record {
  first = first fs bs l.first l.links e;
  links = both.0;
  rising = both.1;
  only = λ o lo g. is_among-from o (fs ++ y ∷ bs) (IsAmong-more y fs bs o (only o lo g (cases_eq o y.object) (cases_eq o p)));
}
  where
    both : Links s' head (fs ++ y ∷ bs) × IsRising (fs ++ y ∷ bs)
    both = add_links s s' head p y fs bs lh ly vac fit c l.links l.rising e a b

    first : (fs bs : Nodes) → words_at s head ≡ head_words (first_of (fs ++ bs)) → Links s head (fs ++ bs) → last_of head fs ≡ p
        → words_at s' head ≡ head_words (first_of (fs ++ y ∷ bs))
    first [] bs w m q = ap (words_at s') q ∙ c.before ∙ ap (λ (u : ℕ). relink (words_at s u) y.object) (sym q) ∙ ap (λ (u : List ℕ). relink u y.object) w
    first (x ∷ fs) bs w m q = let g : 180 ≤ p = last_node s head p x fs bs m q in c.others head (omega arith) (omega arith) ∙ w

    only : (o : ℕ) → 180 ≤ o → owner s' o ≡ suc head → (o ≡ y.object) ⊎ (o ≢ y.object) → (o ≡ p) ⊎ (o ≢ p) → (o ≡ y.object) ⊎ IsAmong o (fs ++ bs)
    only o lo g (inl q) _ = inl q
    only o lo g (inr n) (inr m) = inr (only_among s head (fs ++ bs) l o lo (ap (word 0) (sym (c.others o m n)) ∙ g))
    only o lo g (inr n) (inl q) =
        inr (only_among s head (fs ++ bs) l o lo
        (ap (owner s) q ∙ sym (owner-relink (words_at s p) y.object) ∙ ap (word 0) (sym c.before) ∙ ap (owner s') (sym q) ∙ g))

-- node n, behind p, is taken out and becomes zero
pub record Taken (s s' : State) (p n next : ℕ) : Type 0 where
  pub before : words_at s' p ≡ relink (words_at s p) next
  pub gone : words_at s' n ≡ no_words
  pub others : (o : ℕ) → o ≢ p → o ≢ n → words_at s' o ≡ words_at s o

-- a node of the front has a key below each later one
pub front_below : (s : State) (head : ℕ) (fs bs : Nodes) (x : Node) → Links s head (fs ++ x ∷ bs) → IsRising (fs ++ x ∷ bs) → (o : ℕ) → IsAmong o fs
    → key s o < x.key
front_below s head [] bs x l r o i = absurd i
front_below s head (y ∷ fs) bs x l r o (inr i) = front_below s head fs bs x l.3 r.1 o i
front_below s head (y ∷ fs) bs x l r o (inl e) =
    let is : key s o ≡ y.key = ap (key s) e ∙ ap (word 2) l.2 in
    let m : Links s head (x ∷ bs) = Links-right s head fs (x ∷ bs) l.3 in
    let kx : key s x.object ≡ x.key = ap (word 2) m.2 in
    let up : y.key < key s x.object = above_key s head y.key (fs ++ x ∷ bs) l.3 r.0 x.object (IsAmong-right fs (x ∷ bs) x.object (inl refl)) in omega arith

pub del_list : (s s' : State) (head p : ℕ) (x : Node) (fs bs : Nodes) → head < 170 → Taken s s' p x.object (first_of bs) → IsList s head (fs ++ x ∷ bs)
    → last_of head fs ≡ p → IsList s' head (fs ++ bs)
del_list s s' head p x fs bs lh c l e = record {
  first = first fs l.first l.links e;
  links = links fs l.links l.rising e front;
  rising = IsRising-less x fs bs l.rising;
  only = λ o lo g. is_among-from o (fs ++ bs) (only o lo g (cases_eq o x.object) (cases_eq o p));
}
  where
    tail : Links s head (x ∷ bs)
    tail = Links-right s head fs (x ∷ bs) l.links

    up : IsRising (x ∷ bs)
    up = IsRising-right fs (x ∷ bs) l.rising

    key_x : key s x.object ≡ x.key
    key_x = ap (word 2) tail.2

    -- p isn't the node, nor behind it
    at_p : (fs : Nodes) → Links s head (fs ++ x ∷ bs) → IsRising (fs ++ x ∷ bs) → last_of head fs ≡ p → (p ≡ head) ⊎ (key s p < x.key)
    at_p [] m r q = inl (sym q)
    at_p (y ∷ fs) m r q = inr (front_below s head (y ∷ fs) bs x m r p (subst (λ (u : ℕ). IsAmong u (y ∷ fs)) q (last_among y fs)))

    back : (o : ℕ) → IsAmong o bs → words_at s' o ≡ words_at s o
    back o i =
        let more : x.key < key s o = above_key s head x.key bs tail.3 up.0 o i in
        let lo : 180 ≤ o = Links-node s head bs tail.3 o i in
        c.others o
        (λ q. elim (at_p fs l.links l.rising e) [ inl m ↦ absurd (omega arith) | inr m ↦ let z : key s o ≡ key s p = ap (key s) q in absurd (omega arith) ])
        (λ q. let z : key s o ≡ key s x.object = ap (key s) q in omega (arith, key_x))

    front : (o : ℕ) → IsAmong o fs → o ≢ p → words_at s' o ≡ words_at s o
    front o i m =
        let less : key s o < x.key = front_below s head fs bs x l.links l.rising o i in
        c.others o m (λ q. let z : key s o ≡ key s x.object = ap (key s) q in omega (arith, key_x))

    links : (fs : Nodes) → Links s head (fs ++ x ∷ bs) → IsRising (fs ++ x ∷ bs) → last_of head fs ≡ p
        → ((o : ℕ) → IsAmong o fs → o ≢ p → words_at s' o ≡ words_at s o) → Links s' head (fs ++ bs)
    links [] m r q f = Links-kept s s' head bs tail.3 back
    links (y ∷ fs) m r q f = Links-splice s s' head p y fs (x ∷ bs) bs m r q c.before f (Links-kept s s' head bs tail.3 back)

    first : (fs : Nodes) → words_at s head ≡ head_words (first_of (fs ++ x ∷ bs)) → Links s head (fs ++ x ∷ bs) → last_of head fs ≡ p
        → words_at s' head ≡ head_words (first_of (fs ++ bs))
    first [] w m q = ap (words_at s') q ∙ c.before ∙ ap (λ (u : ℕ). relink (words_at s u) (first_of bs)) (sym q) ∙ ap (λ (u : List ℕ). relink u (first_of bs)) w
    first (y ∷ fs) w m q =
        let g : 180 ≤ p = last_node s head p y fs (x ∷ bs) m q in let j : 180 ≤ x.object = tail.0 in c.others head (omega arith) (omega arith) ∙ w

    only : (o : ℕ) → 180 ≤ o → owner s' o ≡ suc head → (o ≡ x.object) ⊎ (o ≢ x.object) → (o ≡ p) ⊎ (o ≢ p) → IsAmong o (fs ++ bs)
    only o lo g (inl q) _ = let z : owner s' o ≡ 0 = ap (owner s') q ∙ ap (word 0) c.gone in cc
    only o lo g (inr m) (inr j) = IsAmong-less x fs bs o m (only_among s head (fs ++ x ∷ bs) l o lo (ap (word 0) (sym (c.others o j m)) ∙ g))
    only o lo g (inr m) (inl q) =
        IsAmong-less x fs bs o m
        (only_among s head (fs ++ x ∷ bs) l o lo
        (ap (owner s) q ∙ sym (owner-relink (words_at s p) (first_of bs)) ∙ ap (word 0) (sym c.before) ∙ ap (owner s') (sym q) ∙ g))

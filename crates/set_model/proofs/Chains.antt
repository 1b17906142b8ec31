-- The nodes of one list.
use Rattle.std.proofs.Common.{◌≡◌, ◌≢◌, ℕ, suc, ◌<◌, ◌≤◌, ◌⊎◌, inl, inr, true, List, [], ◌∷◌, ◌++◌, refl, sym, ap, ◌∙◌, subst, arith}
use Rattle.std.proofs.lemmas.Bool.Decides.{nat_tests}
use Rattle.mv_history.specs.State.{State}
use Rattle.mv_history.specs.Meaning.{words_at}
use Rattle.set_model.specs.Objects.{owner, kind, key, link, list_words, relink}
use Rattle.set_model.specs.Lists.{Node, Nodes, first_of, is_among, FitsHead, Links, IsAbove, IsRising, IsList}
use Rattle.set_model.proofs.ObjectWords.{word}

-- the object is one of the nodes, as a choice of one of them
abbrev pub IsAmong : ℕ → Nodes → Type 0
IsAmong o [] = ⊥
IsAmong o (n ∷ ns) = (o ≡ n.object) ⊎ IsAmong o ns

pub IsAmong-from : (o : ℕ) (ns : Nodes) → is_among o ns ≡ true → IsAmong o ns
IsAmong-from o [] e = cc
IsAmong-from o (n ∷ ns) e = grind (arith, nat_tests, IsAmong-from o ns)

pub is_among-from : (o : ℕ) (ns : Nodes) → IsAmong o ns → is_among o ns ≡ true
is_among-from o [] i = absurd i
is_among-from o (n ∷ ns) (inl e) = grind (arith, nat_tests)
is_among-from o (n ∷ ns) (inr i) = let r = is_among-from o ns i in grind (arith, nat_tests)

pub only_among : (s : State) (head : ℕ) (ns : Nodes) → IsList s head ns → (o : ℕ) → 180 ≤ o → owner s o ≡ suc head → IsAmong o ns
only_among s head ns l o lo e = IsAmong-from o ns (l.only o lo e)

-- the node before what follows these nodes, or the head
abbrev pub last_of : ℕ → Nodes → ℕ
last_of previous [] = previous
last_of previous (n ∷ ns) = last_of n.object ns

pub Links-kept : (s s' : State) (head : ℕ) (ns : Nodes) → Links s head ns → ((o : ℕ) → IsAmong o ns → words_at s' o ≡ words_at s o) → Links s' head ns
Links-kept s s' head [] l f = tt
Links-kept s s' head (n ∷ ns) l f = (l.0, l.1, f n.object (inl refl) ∙ l.2, Links-kept s s' head ns l.3 (λ o i. f o (inr i)))

pub Links-owner : (s : State) (head : ℕ) (ns : Nodes) → Links s head ns → (o : ℕ) → IsAmong o ns → owner s o ≡ suc head
Links-owner s head [] l o i = absurd i
Links-owner s head (n ∷ ns) l o (inl e) = ap (owner s) e ∙ ap (word 0) l.2
Links-owner s head (n ∷ ns) l o (inr i) = Links-owner s head ns l.3 o i

pub Links-node : (s : State) (head : ℕ) (ns : Nodes) → Links s head ns → (o : ℕ) → IsAmong o ns → 180 ≤ o
Links-node s head [] l o i = absurd i
Links-node s head (n ∷ ns) l o (inl e) = let lo : 180 ≤ n.object = l.0 in omega (arith, e)
Links-node s head (n ∷ ns) l o (inr i) = Links-node s head ns l.3 o i

pub Links-kind : (s : State) (head : ℕ) (ns : Nodes) → Links s head ns → (o : ℕ) → IsAmong o ns → kind s o ≡ 0
Links-kind s head [] l o i = absurd i
Links-kind s head (n ∷ ns) l o (inl e) = ap (kind s) e ∙ ap (word 1) l.2
Links-kind s head (n ∷ ns) l o (inr i) = Links-kind s head ns l.3 o i

pub Links-fits : (s : State) (head : ℕ) (ns : Nodes) → Links s head ns → (o : ℕ) → IsAmong o ns → FitsHead head (key s o)
Links-fits s head [] l o i = absurd i
Links-fits s head (n ∷ ns) l o (inl e) = subst (λ (k : ℕ). FitsHead head k) (sym (ap (key s) e ∙ ap (word 2) l.2)) l.1
Links-fits s head (n ∷ ns) l o (inr i) = Links-fits s head ns l.3 o i

pub above_key : (s : State) (head k : ℕ) (ns : Nodes) → Links s head ns → IsAbove k ns → (o : ℕ) → IsAmong o ns → k < key s o
above_key s head k [] l a o i = absurd i
above_key s head k (n ∷ ns) l a o (inl e) =
    let is : key s o ≡ n.key = ap (key s) e ∙ ap (word 2) l.2 in
    let lt : k < n.key = a.0 in omega arith
above_key s head k (n ∷ ns) l a o (inr i) = above_key s head k ns l.3 a.1 o i

pub IsAmong-left : (fs bs : Nodes) (o : ℕ) → IsAmong o fs → IsAmong o (fs ++ bs)
IsAmong-left [] bs o i = absurd i
IsAmong-left (n ∷ fs) bs o (inl e) = inl e
IsAmong-left (n ∷ fs) bs o (inr i) = inr (IsAmong-left fs bs o i)

pub IsAmong-right : (fs bs : Nodes) (o : ℕ) → IsAmong o bs → IsAmong o (fs ++ bs)
IsAmong-right [] bs o i = i
IsAmong-right (n ∷ fs) bs o i = inr (IsAmong-right fs bs o i)

pub IsAmong-cases : (fs bs : Nodes) (o : ℕ) → IsAmong o (fs ++ bs) → IsAmong o fs ⊎ IsAmong o bs
IsAmong-cases [] bs o i = inr i
IsAmong-cases (n ∷ fs) bs o (inl e) = inl (inl e)
IsAmong-cases (n ∷ fs) bs o (inr i) = elim (IsAmong-cases fs bs o i) [ inl j ↦ inl (inr j) | inr j ↦ inr j ]

pub Links-right : (s : State) (head : ℕ) (fs bs : Nodes) → Links s head (fs ++ bs) → Links s head bs
Links-right s head [] bs l = l
Links-right s head (n ∷ fs) bs l = Links-right s head fs bs l.3

pub IsRising-right : (fs bs : Nodes) → IsRising (fs ++ bs) → IsRising bs
IsRising-right [] bs r = r
IsRising-right (n ∷ fs) bs r = IsRising-right fs bs r.1

-- a node of the list parts it behind that node
pub part_behind : (o : ℕ) (ns : Nodes) (previous : ℕ) → IsAmong o ns → (fs : Nodes) × (bs : Nodes) × (ns ≡ fs ++ bs) × (last_of previous fs ≡ o)
part_behind o [] previous i = absurd i
part_behind o (n ∷ ns) previous (inl e) = (n ∷ [], ns, refl, sym e)
part_behind o (n ∷ ns) previous (inr i) =
    let r = part_behind o ns n.object i in (n ∷ r.0, r.1, ap (λ (q : Nodes). n ∷ q) r.2, r.3)

-- the last of a front leads to what follows it
pub last_leads : (s : State) (head : ℕ) (fs bs : Nodes) (previous : ℕ) → link s previous ≡ first_of (fs ++ bs) → Links s head (fs ++ bs)
    → link s (last_of previous fs) ≡ first_of bs
last_leads s head [] bs previous e l = e
last_leads s head (n ∷ fs) bs previous e l = last_leads s head fs bs n.object (ap (word 3) l.2) l.3

pub last_among : (n : Node) (fs : Nodes) → IsAmong (last_of n.object fs) (n ∷ fs)
last_among n [] = inl refl
last_among n (m ∷ fs) = inr (last_among m fs)

-- Where the words of the front's nodes stay but for the link of the last one, the list goes on with another rest.
pub Links-splice : (s s' : State) (head p : ℕ) (n : Node) (fs cs ds : Nodes) → Links s head (n ∷ fs ++ cs) → IsRising (n ∷ fs ++ cs) → last_of n.object fs ≡ p
    → words_at s' p ≡ relink (words_at s p) (first_of ds) → ((o : ℕ) → IsAmong o (n ∷ fs) → o ≢ p → words_at s' o ≡ words_at s o) → Links s' head ds
    → Links s' head (n ∷ fs ++ ds)
Links-splice s s' head p n [] cs ds l r e w f m =
    let now : words_at s' n.object ≡ list_words head n.key n.value (first_of ds) =
    ap (words_at s') e ∙ w ∙ ap (λ (u : ℕ). relink (words_at s u) (first_of ds)) (sym e) ∙ ap (λ (u : List ℕ). relink u (first_of ds)) l.2 in
    (l.0, l.1, now, m)
Links-splice s s' head p n (k ∷ fs) cs ds l r e w f m =
    let there : IsAmong p (k ∷ fs ++ cs) = IsAmong-left (k ∷ fs) cs p (subst (λ (u : ℕ). IsAmong u (k ∷ fs)) e (last_among k fs)) in
    let up : n.key < key s p = above_key s head n.key (k ∷ fs ++ cs) l.3 r.0 p there in
    let here : key s n.object ≡ n.key = ap (word 2) l.2 in
    let apart : n.object ≢ p = λ q. let same : key s n.object ≡ key s p = ap (key s) q in omega arith in
    (l.0, l.1, f n.object (inl refl) apart ∙ l.2, Links-splice s s' head p k fs cs ds l.3 r.1 e w (λ o i. f o (inr i)) m)

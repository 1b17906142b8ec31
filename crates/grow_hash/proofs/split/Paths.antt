-- The nodes through which the links of a list lead.
use Rattle.std.proofs.Common.{◌≡◌, ◌<◌, ◌≤◌, ◌∷◌, ℕ, inl, inr, List, [], refl, sym, ◌∙◌, subst, arith}
use Rattle.grow_hash.proofs.Terms.{⊤, cases_eq, State, key, link, IsIn, IsInList, IsNodeOf, IsAfter, IsLinked, head_no_node, IsPath}

-- nodes of the head, with strictly rising keys
abbrev pub AreRising : State → ℕ → List ℕ → Type 0
AreRising s head [] = ⊤
AreRising s head (n ∷ ns) = IsNodeOf s head n × ((m : ℕ) → IsIn m ns → key s n < key s m) × AreRising s head ns

-- each of them is a node of the head
pub rising_node : (s : State) (head : ℕ) (ns : List ℕ) → AreRising s head ns → (m : ℕ) → IsIn m ns → IsNodeOf s head m
rising_node s head [] r m i = absurd i
rising_node s head (n ∷ ns) r m (inl e) = subst (IsNodeOf s head) (sym e) r.0
rising_node s head (n ∷ ns) r m (inr i) = rising_node s head ns r.2 m i

module _ (s : State) (head : ℕ) (l : IsLinked s head) where
  -- the links lead through nodes that come after the object, with strictly rising keys
  pub path_rises : (o : ℕ) (ns : List ℕ) → IsInList s head o → IsPath s o ns → AreRising s head ns × ((m : ℕ) → IsIn m ns → IsAfter s head o m)
  path_rises o [] i p = (tt, λ m j. absurd j)
  path_rises o (n ∷ ns) i p =
      let led : IsNodeOf s head (link s o) × IsAfter s head o (link s o) = l.leads o i (λ z. p.1 (sym p.0 ∙ z)) in
      let here : IsNodeOf s head n = subst (IsNodeOf s head) p.0 led.0 in
      let first : IsAfter s head o n = subst (IsAfter s head o) p.0 led.1 in
      let more = path_rises n ns (inr here) p.2 in (
        (here, λ m j. more.1 m j here, more.0),
        λ m j. elim j [
          | inl e ↦ subst (IsAfter s head o) (sym e) first
          | inr k ↦ λ a. (let x : key s o < key s n = first a in let y : key s n < key s m = more.1 m k here in omega arith)
        ],
      )

  -- and through each node that comes after it
  pub path_has : (o : ℕ) (ns : List ℕ) → IsInList s head o → IsPath s o ns → (m : ℕ) → IsNodeOf s head m → IsAfter s head o m → IsIn m ns
  path_has o [] i p m j a = absurd ((l.least o m i j a).0 p)
  path_has o (n ∷ ns) i p m j a =
      let led : IsNodeOf s head (link s o) × IsAfter s head o (link s o) = l.leads o i (λ z. p.1 (sym p.0 ∙ z)) in
      let here : IsNodeOf s head n = subst (IsNodeOf s head) p.0 led.0 in
      let up : key s (link s o) ≤ key s m = (l.least o m i j a).1 in
      let le : key s n ≤ key s m = subst (λ u. key s u ≤ key s m) p.0 up in
      elim (cases_eq (key s m) (key s n)) [
        | inl e ↦ inl (l.once m n j here e)
        | inr ne ↦ inr (path_has n ns (inr here) p.2 m j (λ _. omega arith))
      ]

  -- From the head they lead through exactly its nodes.
  pub head_path_rises : (ns : List ℕ) → IsPath s head ns → AreRising s head ns
  head_path_rises ns p = (path_rises head ns (inl refl) p).0

  pub head_path_has : (ns : List ℕ) → IsPath s head ns → (m : ℕ) → IsNodeOf s head m → IsIn m ns
  head_path_has ns p m j = path_has head ns (inl refl) p m j (λ i. absurd (head_no_node s head l.unowned head refl i))

-- a path stays where the words of its objects do
pub path_kept : (s s' : State) (o : ℕ) (ns : List ℕ) → link s' o ≡ link s o → ((m : ℕ) → IsIn m ns → link s' m ≡ link s m) → IsPath s o ns
    → IsPath s' o ns
path_kept s s' o [] e f p = e ∙ p
path_kept s s' o (n ∷ ns) e f p = (e ∙ p.0, p.1, path_kept s s' n ns (f n (inl refl)) (λ m i. f m (inr i)) p.2)

-- The two lists into which a split parts the nodes of a bucket.
use Rattle.std.proofs.Common.{◌≡◌, ◌≢◌, ◌^◌, ◌<◌, ◌≤◌, ◌∷◌, ℕ, suc, inl, inr, Bool, cond, List, [], length, refl, sym, ap, ◌∙◌, subst, arith, eq-eqb, ne_eqb}
use Rattle.grow_hash.proofs.Terms.{⊤, cases_eq, State, words_at, owner, key, link, value, list_words, word, IsIn, IsInList, IsNodeOf, IsAfter, IsLinked}
use Rattle.grow_hash.proofs.Terms.{head_no_node, head_at, split_bucket, first_to}
use Rattle.grow_hash.proofs.split.Paths.{AreRising, rising_node}

-- the first node is the first of the bucket, or not
pub first_here : (levels : ℕ) (s : State) (b n : ℕ) (ns : List ℕ) → split_bucket levels s n ≡ b → first_to levels s b (n ∷ ns) ≡ n
first_here levels s b n ns e = ap (λ (t : Bool). cond t n (first_to levels s b ns)) (eq-eqb (split_bucket levels s n) b e)

pub first_later : (levels : ℕ) (s : State) (b n : ℕ) (ns : List ℕ) → split_bucket levels s n ≢ b → first_to levels s b (n ∷ ns) ≡ first_to levels s b ns
first_later levels s b n ns ne = ap (λ (t : Bool). cond t n (first_to levels s b ns)) (ne_eqb (split_bucket levels s n) b ne)

-- the first node of the bucket is one of them
pub first_in : (levels : ℕ) (s : State) (b : ℕ) (ns : List ℕ) → first_to levels s b ns ≢ 0
    → IsIn (first_to levels s b ns) ns × (split_bucket levels s (first_to levels s b ns) ≡ b)
first_in levels s b [] nz = absurd (nz refl)
first_in levels s b (n ∷ ns) nz = elim (cases_eq (split_bucket levels s n) b) [
  | inl e ↦ (inl (first_here levels s b n ns e), ap (split_bucket levels s) (first_here levels s b n ns e) ∙ e)
  | inr ne ↦ (let q = first_later levels s b n ns ne in
      let r = first_in levels s b ns (λ z. nz (q ∙ z)) in (inr (subst (λ u. IsIn u ns) (sym q) r.0), ap (split_bucket levels s) q ∙ r.1))
]

-- and has the least key of those of the bucket
pub first_least : (levels : ℕ) (s : State) (head b : ℕ) (ns : List ℕ) → AreRising s head ns → (m : ℕ) → IsIn m ns → split_bucket levels s m ≡ b
    → (first_to levels s b ns ≢ 0) × (key s (first_to levels s b ns) ≤ key s m)
first_least levels s head b [] r m i e = absurd i
first_least levels s head b (n ∷ ns) r m i e = elim (cases_eq (split_bucket levels s n) b) [
  | inl q ↦ (let f : first_to levels s b (n ∷ ns) ≡ n = first_here levels s b n ns q in
      let lo : 180 ≤ n = r.0.0 in
      let le : key s n ≤ key s m = elim i [
        | inl h ↦ (let x : key s m ≡ key s n = ap (key s) h in omega arith)
        | inr j ↦ (let x : key s n < key s m = r.1 m j in omega arith)
      ] in (
        (λ z. (let x : n ≡ 0 = sym f ∙ z in omega arith)),
        subst (λ u. key s u ≤ key s m) (sym f) le,
      ))
  | inr ne ↦ (let f : first_to levels s b (n ∷ ns) ≡ first_to levels s b ns = first_later levels s b n ns ne in
      let j : IsIn m ns = elim i [ inl h ↦ absurd (ne (ap (split_bucket levels s) (sym h) ∙ e)) | inr j ↦ j ] in
      let r2 = first_least levels s head b ns r.2 m j e in ((λ z. r2.0 (sym f ∙ z)), subst (λ u. key s u ≤ key s m) (sym f) r2.1))
]

-- In the second state each of these nodes is in the list of the bucket to which the split brings it, and leads to the next one there.
abbrev pub AreParted : ℕ → State → State → List ℕ → Type 0
AreParted levels s s' [] = ⊤
AreParted levels s s' (n ∷ ns) =
    (words_at s' n ≡ list_words (head_at (split_bucket levels s n)) (key s n) (value s n) (first_to levels s (split_bucket levels s n) ns))
    × AreParted levels s s' ns

-- the words of each of them, but the link
pub parted_words : (levels : ℕ) (s s' : State) (ns : List ℕ) → AreParted levels s s' ns → (n : ℕ) → IsIn n ns
    → (to : ℕ) × (words_at s' n ≡ list_words (head_at (split_bucket levels s n)) (key s n) (value s n) to)
parted_words levels s s' [] p n i = absurd i
parted_words levels s s' (m ∷ ns) p n (inl e) =
    subst (λ u. (to : ℕ) × (words_at s' u ≡ list_words (head_at (split_bucket levels s u)) (key s u) (value s u) to)) (sym e) (
      first_to levels s
          (split_bucket levels s m) ns,
      p.0,
    )
parted_words levels s s' (m ∷ ns) p n (inr i) = parted_words levels s s' ns p.1 n i

-- each leads to a node of its bucket with a greater key
parted_leads : (levels : ℕ) (s s' : State) (head : ℕ) (ns : List ℕ) → AreRising s head ns → AreParted levels s s' ns → (n : ℕ) → IsIn n ns → link s' n ≢ 0
    → IsIn (link s' n) ns × (split_bucket levels s (link s' n) ≡ split_bucket levels s n) × (key s n < key s (link s' n))
parted_leads levels s s' head [] r p n i nz = absurd i
parted_leads levels s s' head (m ∷ ns) r p n (inl e) nz =
    let to : link s' n ≡ first_to levels s (split_bucket levels s m) ns = ap (link s') e ∙ ap (word 3) p.0 in
    let f = first_in levels s (split_bucket levels s m) ns (λ z. nz (to ∙ z)) in
    let up : key s m < key s (first_to levels s (split_bucket levels s m) ns) = r.1 (first_to levels s (split_bucket levels s m) ns) f.0 in
    let x : key s n ≡ key s m = ap (key s) e in
    let y : key s (link s' n) ≡ key s (first_to levels s (split_bucket levels s m) ns) = ap (key s) to in
    (inr (subst (λ u. IsIn u ns) (sym to) f.0), ap (split_bucket levels s) to ∙ f.1 ∙ ap (split_bucket levels s) (sym e), omega arith)
parted_leads levels s s' head (m ∷ ns) r p n (inr i) nz = let q = parted_leads levels s s' head ns r.2 p.1 n i nz in (inr q.0, q.1, q.2)

-- and that to the one with the least
parted_least : (levels : ℕ) (s s' : State) (head : ℕ) (ns : List ℕ) → AreRising s head ns → AreParted levels s s' ns → (n u : ℕ) → IsIn n ns → IsIn u ns
    → split_bucket levels s u ≡ split_bucket levels s n → key s n < key s u → (link s' n ≢ 0) × (key s (link s' n) ≤ key s u)
parted_least levels s s' head [] r p n u i j e lt = absurd i
parted_least levels s s' head (m ∷ ns) r p n u (inl q) (inl g) e lt = absurd (let x : key s n ≡ key s u = ap (key s) (q ∙ sym g) in omega arith)
parted_least levels s s' head (m ∷ ns) r p n u (inl q) (inr j) e lt =
    let to : link s' n ≡ first_to levels s (split_bucket levels s m) ns = ap (link s') q ∙ ap (word 3) p.0 in
    let f = first_least levels s head (split_bucket levels s m) ns r.2 u j (e ∙ ap (split_bucket levels s) q) in
    ((λ z. f.0 (sym to ∙ z)), subst (λ v. key s v ≤ key s u) (sym to) f.1)
parted_least levels s s' head (m ∷ ns) r p n u (inr i) (inl g) e lt =
    absurd (let x : key s m < key s n = r.1 n i in let y : key s u ≡ key s m = ap (key s) g in omega arith)
parted_least levels s s' head (m ∷ ns) r p n u (inr i) (inr j) e lt = parted_least levels s s' head ns r.2 p.1 n u i j e lt

-- The nodes of a list in the first state, of which those of the bucket b alone are in the list of its head in the second.
module _ (levels : ℕ) (s s' : State) (from b : ℕ) (ns : List ℕ) (l : IsLinked s from) (rising : AreRising s from ns) (parted : AreParted levels s s' ns)
    (unowned : owner s' (head_at b) ≡ 0) (to_first : link s' (head_at b) ≡ first_to levels s b ns)
    (back : (n : ℕ) → IsNodeOf s' (head_at b) n → IsIn n ns) where
  now : (n : ℕ) → IsIn n ns → split_bucket levels s n ≡ b → IsNodeOf s' (head_at b) n
  now n i e =
      ((rising_node s from ns rising n i).0, ap (word 0) (parted_words levels s s' ns parted n i).1 ∙ ap (λ c. suc (head_at c)) e)

  same_key : (n : ℕ) → IsIn n ns → key s' n ≡ key s n
  same_key n i = ap (word 2) (parted_words levels s s' ns parted n i).1

  same_bucket : (n : ℕ) → IsNodeOf s' (head_at b) n → split_bucket levels s n ≡ b
  same_bucket n j =
      let x : owner s' n ≡ suc (head_at (split_bucket levels s n)) = ap (word 0) (parted_words levels s s' ns parted n (back n j)).1 in
      let y : owner s' n ≡ suc (head_at b) = j.1 in omega arith

  no_head : (o : ℕ) → o ≡ head_at b → IsNodeOf s' (head_at b) o → ⊥
  no_head = head_no_node s' (head_at b) unowned

  leads : (o : ℕ) → IsInList s' (head_at b) o → link s' o ≢ 0 → IsNodeOf s' (head_at b) (link s' o) × IsAfter s' (head_at b) o (link s' o)
  leads o (inl e) nz =
      let to : link s' o ≡ first_to levels s b ns = ap (link s') e ∙ to_first in
      let f = first_in levels s b ns (λ z. nz (to ∙ z)) in
      (subst (IsNodeOf s' (head_at b)) (sym to) (now (first_to levels s b ns) f.0 f.1), λ i. absurd (no_head o e i))
  leads o (inr j) nz =
      let r = parted_leads levels s s' from ns rising parted o (back o j) nz in
      let x = same_key o (back o j) in
      let y : key s' (link s' o) ≡ key s (link s' o) = same_key (link s' o) r.0 in
      let up : key s o < key s (link s' o) = r.2 in
      (now (link s' o) r.0 (r.1 ∙ same_bucket o j), λ _. omega arith)

  least : (o n : ℕ) → IsInList s' (head_at b) o → IsNodeOf s' (head_at b) n → IsAfter s' (head_at b) o n
      → (link s' o ≢ 0) × (key s' (link s' o) ≤ key s' n)
  least o n (inl e) j a =
      let to : link s' o ≡ first_to levels s b ns = ap (link s') e ∙ to_first in
      let f = first_least levels s from b ns rising n (back n j) (same_bucket n j) in
      let g = first_in levels s b ns f.0 in
      let x : key s' (first_to levels s b ns) ≡ key s (first_to levels s b ns) = same_key (first_to levels s b ns) g.0 in
      let y = same_key n (back n j) in
      let le : key s (first_to levels s b ns) ≤ key s n = f.1 in
      ((λ z. f.0 (sym to ∙ z)), subst (λ v. key s' v ≤ key s' n) (sym to) (omega arith))
  least o n (inr i) j a =
      let x = same_key o (back o i) in
      let y = same_key n (back n j) in
      let lt : key s' o < key s' n = a i in
      let f = parted_least levels s s' from ns rising parted o n (back o i) (back n j) (same_bucket n j ∙ sym (same_bucket o i)) (omega arith) in
      let g = parted_leads levels s s' from ns rising parted o (back o i) f.0 in
      let z : key s' (link s' o) ≡ key s (link s' o) = same_key (link s' o) g.0 in
      let le : key s (link s' o) ≤ key s n = f.1 in
      (f.0, omega arith)

  -- They are a list.
  pub list_parted : head_at b < length s' → IsLinked s' (head_at b)
  list_parted here = record {
    here = here;
    unowned = unowned;
    kinds = λ n j. ap (word 1) (parted_words levels s s' ns parted n (back n j)).1;
    fits = λ n j. (let x = same_key n (back n j) in
        let y : key s n < 2 ^ 32 = l.fits n (rising_node s from ns rising n (back n j)) in omega arith);
    leads = leads;
    least = least;
    once = λ n m i j e.
        l.once n m (rising_node s from ns rising n (back n i)) (rising_node s from ns rising m (back m j))
        (sym (same_key n (back n i)) ∙ e ∙ same_key m (back m j));
  }

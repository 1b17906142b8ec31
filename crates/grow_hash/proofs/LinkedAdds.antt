-- A list with one node more.
use Rattle.grow_hash.proofs.Terms.{ℕ, suc, inl, inr, length, sym, ap, ◌∙◌, subst, arith, cases_eq, cases_lt, State, words_at, owner, kind, key, link, word}
use Rattle.grow_hash.proofs.Terms.{IsInList, IsAddPlace, IsNodeOf, IsAfter, IsLinked, head_no_node, ◌≡◌, ◌≢◌, ◌^◌, ◌<◌, ◌≤◌, ◌⊎◌}

-- the place of an add parts the nodes of the list into those with keys up to that of its node, and those with greater ones
module _ (s : State) (head k p : ℕ) (l : IsLinked s head) (place : IsAddPlace s head k p) where
  -- behind the place no key is below k
  above : link s p ≢ 0 → k < key s (link s p)
  above n = elim place.above [ inl z ↦ absurd (n z) | inr lt ↦ lt ]

  below : IsNodeOf s head p → key s p < k
  below i = elim place.below [ inl e ↦ absurd (head_no_node s head l.unowned p e i) | inr lt ↦ lt ]

  -- a node with a key up to k is the place or before it
  pub upto_place : (m : ℕ) → IsNodeOf s head m → key s m ≤ k → IsNodeOf s head p × (key s m ≤ key s p)
  upto_place m j le = go place.within
    where
      not_after : IsAfter s head p m → ⊥
      not_after a =
          let r = l.least p m place.within j a in
          let x : key s (link s p) ≤ key s m = r.1 in let y : k < key s (link s p) = above r.0 in omega arith

      go : (p ≡ head) ⊎ IsNodeOf s head p → IsNodeOf s head p × (key s m ≤ key s p)
      go (inl e) = absurd (not_after (λ i. absurd (head_no_node s head l.unowned p e i)))
      go (inr i) = elim (cases_lt (key s p) (key s m)) [ inl lt ↦ absurd (not_after (λ _. lt)) | inr ge ↦ (i, ge) ]

  -- no node has the key
  pub add_new : (m : ℕ) → IsNodeOf s head m → key s m ≢ k
  add_new m j e =
      let r = upto_place m j (omega arith) in
      let x : key s p < k = below r.0 in let y : key s m ≤ key s p = r.1 in omega arith

  -- to a node with a greater key the place leads, or before it
  pub from_place : (m : ℕ) → IsNodeOf s head m → k < key s m → (link s p ≢ 0) × (key s (link s p) ≤ key s m)
  from_place m j gt = l.least p m place.within j (λ i. (let x : key s p < k = below i in omega arith))

  -- another object of the list that comes before k leads to the place, or before it
  pub before_place : (o : ℕ) → IsInList s head o → o ≢ p → (IsNodeOf s head o → key s o < k) → (link s o ≢ 0) × (key s (link s o) < k)
  before_place o i n a = go i
    where
      up_to : IsNodeOf s head p → IsAfter s head o p → (link s o ≢ 0) × (key s (link s o) < k)
      up_to j b =
          let r = l.least o p i j b in
          let x : key s (link s o) ≤ key s p = r.1 in let y : key s p < k = below j in (r.0, omega arith)

      go : (o ≡ head) ⊎ IsNodeOf s head o → (link s o ≢ 0) × (key s (link s o) < k)
      go (inl e) = elim place.within [
        | inl f ↦ absurd (n (e ∙ sym f))
        | inr j ↦ up_to j (λ m. absurd (head_no_node s head l.unowned o e m))
      ]
      go (inr m) =
          let lt : key s o < k = a m in
          let r = upto_place o m (omega arith) in
          let ne : key s o ≢ key s p = λ q. n (l.once o p m r.0 q) in
          let le : key s o ≤ key s p = r.1 in up_to r.0 (λ _. omega arith)

-- what is written of the words by an add: the link of its place, and the new node
pub record Inserted (s s' : State) (head k p n : ℕ) : Type 0 where
  pub is_node : 180 ≤ n
  pub vacant : owner s n ≡ 0
  pub no_head : n ≢ head
  pub apart : n ≢ p
  pub same_owner : owner s' p ≡ owner s p
  pub same_kind : kind s' p ≡ kind s p
  pub same_key : key s' p ≡ key s p
  pub to_new : link s' p ≡ n
  pub new_owner : owner s' n ≡ suc head
  pub new_kind : kind s' n ≡ 0
  pub new_key : key s' n ≡ k
  pub new_link : link s' n ≡ link s p
  pub others : (o : ℕ) → o ≢ p → o ≢ n → words_at s' o ≡ words_at s o

module _ (s s' : State) (head k p n : ℕ) (l : IsLinked s head) (place : IsAddPlace s head k p) (w : Inserted s s' head k p n) where
  pub more_owner : (o : ℕ) → o ≢ n → owner s' o ≡ owner s o
  more_owner o a = elim (cases_eq o p) [
    | inl e ↦ ap (owner s') e ∙ w.same_owner ∙ sym (ap (owner s) e)
    | inr b ↦ ap (word 0) (w.others o b a)
  ]

  pub more_key : (o : ℕ) → o ≢ n → key s' o ≡ key s o
  more_key o a = elim (cases_eq o p) [
    | inl e ↦ ap (key s') e ∙ w.same_key ∙ sym (ap (key s) e)
    | inr b ↦ ap (word 2) (w.others o b a)
  ]

  not_new : (o : ℕ) → IsNodeOf s head o → o ≢ n
  not_new o i e = let x : owner s o ≡ owner s n = ap (owner s) e in let y : owner s o ≡ suc head = i.1 in let z = w.vacant in omega arith

  back : (o : ℕ) → o ≢ n → IsNodeOf s' head o → IsNodeOf s head o
  back o a i = (i.0, sym (more_owner o a) ∙ i.1)

  now : (o : ℕ) → IsNodeOf s head o → IsNodeOf s' head o
  now o i = (i.0, more_owner o (not_new o i) ∙ i.1)

  list_back : (o : ℕ) → o ≢ n → IsInList s' head o → IsInList s head o
  list_back o a (inl e) = inl e
  list_back o a (inr i) = inr (back o a i)

  new_node : IsNodeOf s' head n
  new_node = (w.is_node, w.new_owner)

  -- the node to which an object of the old list led
  led_key : (o : ℕ) → IsInList s head o → link s o ≢ 0 → key s' (link s o) ≡ key s (link s o)
  led_key o i nz = more_key (link s o) (not_new (link s o) (l.leads o i nz).0)

  abbrev Leads : ℕ → Type 0
  Leads o = link s' o ≢ 0 → IsNodeOf s' head (link s' o) × IsAfter s' head o (link s' o)

  leads_new : Leads n
  leads_new nz =
      let some : link s p ≢ 0 = λ z. nz (w.new_link ∙ z) in
      let r = l.leads p place.within some in
      let f : key s' (link s p) ≡ key s (link s p) = led_key p place.within some in
      let up : k < key s (link s p) = above s head k p l place some in
      let own = w.new_key in
      subst (λ u. IsNodeOf s' head u × IsAfter s' head n u) (sym w.new_link) (now (link s p) r.0, λ _. omega arith)

  leads_place : Leads p
  leads_place nz =
      subst (λ u. IsNodeOf s' head u × IsAfter s' head p u) (sym w.to_new) (
        new_node,
        λ i.
            (let x : key s p < k = below s head k p l place (back p (λ e. w.apart (sym e)) i) in
            let y = w.same_key in let z = w.new_key in omega arith),
      )

  leads_other : (o : ℕ) → IsInList s' head o → o ≢ p → o ≢ n → Leads o
  leads_other o i a b nz =
      let e : link s' o ≡ link s o = ap (word 3) (w.others o a b) in
      let j = list_back o b i in
      let some : link s o ≢ 0 = λ z. nz (e ∙ z) in
      let r = l.leads o j some in
      let f : key s' (link s o) ≡ key s (link s o) = led_key o j some in
      subst (λ u. IsNodeOf s' head u × IsAfter s' head o u) (sym e) (
        now (link s o) r.0,
        λ m.
            (let x : key s o < key s (link s o) = r.1 (back o b m) in let g = more_key o b in omega arith),
      )

  abbrev Least : ℕ → ℕ → Type 0
  Least o m = IsAfter s' head o m → (link s' o ≢ 0) × (key s' (link s' o) ≤ key s' m)

  least_new_new : Least n n
  least_new_new a = absurd (let x : key s' n < key s' n = a new_node in omega arith)

  least_new_old : (m : ℕ) → IsNodeOf s head m → Least n m
  least_new_old m j a =
      let x : key s' n < key s' m = a new_node in
      let e = w.new_key in let f : key s' m ≡ key s m = more_key m (not_new m j) in
      let r = from_place s head k p l place m j (omega arith) in
      let g : key s' (link s p) ≡ key s (link s p) = led_key p place.within r.0 in
      let y : key s (link s p) ≤ key s m = r.1 in
      (λ z. r.0 (sym w.new_link ∙ z), subst (λ u. key s' u ≤ key s' m) (sym w.new_link) (omega arith))

  not_none : n ≢ 0
  not_none = let x = w.is_node in omega arith

  least_place_new : Least p n
  least_place_new a = (λ z. not_none (sym w.to_new ∙ z), subst (λ u. key s' u ≤ key s' n) (sym w.to_new) (omega arith))

  least_place_old : (m : ℕ) → IsNodeOf s head m → Least p m
  least_place_old m j a =
      let f : key s' m ≡ key s m = more_key m (not_new m j) in
      let e = w.new_key in
      let up : k ≤ key s m = elim (cases_lt (key s m) k) [
        | inl lt ↦ (let r = upto_place s head k p l place m j (omega arith) in
            let x : key s' p < key s' m = a (now p r.0) in let y = w.same_key in let z : key s m ≤ key s p = r.1 in absurd (omega arith))
        | inr ge ↦ ge
      ] in
      (λ z. not_none (sym w.to_new ∙ z), subst (λ u. key s' u ≤ key s' m) (sym w.to_new) (omega arith))

  least_other_new : (o : ℕ) → IsInList s' head o → o ≢ p → o ≢ n → Least o n
  least_other_new o i a b after =
      let e : link s' o ≡ link s o = ap (word 3) (w.others o a b) in
      let j = list_back o b i in
      let q = w.new_key in
      let r = before_place s head k p l place o j a (λ m. (let x : key s' o < key s' n = after (now o m) in let f = more_key o b in omega arith)) in
      let y : key s (link s o) < k = r.1 in
      let g : key s' (link s o) ≡ key s (link s o) = led_key o j r.0 in
      (λ z. r.0 (sym e ∙ z), subst (λ u. key s' u ≤ key s' n) (sym e) (omega arith))

  least_other_old : (o m : ℕ) → IsInList s' head o → o ≢ p → o ≢ n → IsNodeOf s head m → Least o m
  least_other_old o m i a b j after =
      let e : link s' o ≡ link s o = ap (word 3) (w.others o a b) in
      let f : key s' m ≡ key s m = more_key m (not_new m j) in
      let h = list_back o b i in
      let r = l.least o m h j (λ c. (let x : key s' o < key s' m = after (now o c) in let g = more_key o b in omega arith)) in
      let y : key s (link s o) ≤ key s m = r.1 in
      let g : key s' (link s o) ≡ key s (link s o) = led_key o h r.0 in
      (λ z. r.0 (sym e ∙ z), subst (λ u. key s' u ≤ key s' m) (sym e) (omega arith))

  least : (o m : ℕ) → IsInList s' head o → IsNodeOf s' head m → (o ≡ p) ⊎ (o ≢ p) → (o ≡ n) ⊎ (o ≢ n) → (m ≡ n) ⊎ (m ≢ n) → Least o m
  least o m i j _ (inl e) (inl f) = subst (λ u. Least u m) (sym e) (subst (λ u. Least n u) (sym f) least_new_new)
  least o m i j _ (inl e) (inr g) = subst (λ u. Least u m) (sym e) (least_new_old m (back m g j))
  least o m i j (inl e) (inr _) (inl f) = subst (λ u. Least u m) (sym e) (subst (λ u. Least p u) (sym f) least_place_new)
  least o m i j (inl e) (inr _) (inr g) = subst (λ u. Least u m) (sym e) (least_place_old m (back m g j))
  least o m i j (inr a) (inr b) (inl f) = subst (λ u. Least o u) (sym f) (least_other_new o i a b)
  least o m i j (inr a) (inr b) (inr g) = least_other_old o m i a b (back m g j)

  once : (u m : ℕ) → IsNodeOf s' head u → IsNodeOf s' head m → key s' u ≡ key s' m → (u ≡ n) ⊎ (u ≢ n) → (m ≡ n) ⊎ (m ≢ n) → u ≡ m
  once u m i j e (inl a) (inl b) = a ∙ sym b
  once u m i j e (inl a) (inr b) =
      absurd (add_new s head k p l place m (back m b j) (sym (more_key m b) ∙ sym e ∙ ap (key s') a ∙ w.new_key))
  once u m i j e (inr a) (inl b) =
      absurd (add_new s head k p l place u (back u a i) (sym (more_key u a) ∙ e ∙ ap (key s') b ∙ w.new_key))
  once u m i j e (inr a) (inr b) = l.once u m (back u a i) (back m b j) (sym (more_key u a) ∙ e ∙ more_key m b)

  -- A list with the new node at its place is one.
  pub list_more : length s' ≡ length s → k < 2 ^ 32 → IsLinked s' head
  list_more len fit = record {
    here = let x = l.here in omega arith;
    unowned = more_owner head (λ e. w.no_head (sym e)) ∙ l.unowned;
    kinds = λ m i. elim (cases_eq m n) [
      | inl e ↦ ap (kind s') e ∙ w.new_kind
      | inr a ↦ elim (cases_eq m p) [
        | inl e ↦ ap (kind s') e ∙ w.same_kind ∙ sym (ap (kind s) e) ∙ l.kinds m (back m a i)
        | inr b ↦ ap (word 1) (w.others m b a) ∙ l.kinds m (back m a i)
      ]
    ];
    fits = λ m i. elim (cases_eq m n) [
      | inl e ↦ (let x : key s' m ≡ key s' n = ap (key s') e in let y = w.new_key in omega arith)
      | inr a ↦ (let x : key s m < 2 ^ 32 = l.fits m (back m a i) in let y = more_key m a in omega arith)
    ];
    leads = λ o i nz. elim (cases_eq o n) [
      | inl e ↦ subst Leads (sym e) leads_new nz
      | inr b ↦ elim (cases_eq o p) [ inl e ↦ subst Leads (sym e) leads_place nz | inr a ↦ leads_other o i a b nz ]
    ];
    least = λ o m i j after. least o m i j (cases_eq o p) (cases_eq o n) (cases_eq m n) after;
    once = λ u m i j e. once u m i j e (cases_eq u n) (cases_eq m n);
  }

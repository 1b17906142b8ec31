-- A list with one node less.
use Rattle.grow_hash.proofs.Terms.{ℕ, suc, inl, inr, length, sym, ap, ◌∙◌, subst, arith, cases_eq, cases_order, State, words_at, owner, kind, key, link, word}
use Rattle.grow_hash.proofs.Terms.{IsInList, IsDelPlace, IsNodeOf, IsAfter, IsLinked, head_no_node, ◌≡◌, ◌≢◌, ◌^◌, ◌<◌, ◌≤◌, ◌⊎◌}

-- what is known at the place of a del
module _ (s : State) (head k p n : ℕ) (l : IsLinked s head) (place : IsDelPlace s head k p n) where
  led : (link s p ≢ 0) × IsNodeOf s head n × IsAfter s head p n
  led =
      let some : link s p ≢ 0 = λ z. place.some (sym place.behind ∙ z) in
      let r = l.leads p place.within some in
      (some, subst (IsNodeOf s head) place.behind r.0, subst (IsAfter s head p) place.behind r.1)

  pub del_node : IsNodeOf s head n
  del_node = led.1

  pub del_apart : p ≢ n
  del_apart e = elim place.within [
    | inl f ↦ head_no_node s head l.unowned n (sym e ∙ f) del_node
    | inr i ↦ (let x : key s p < key s n = led.2 i in let y : key s p ≡ key s n = ap (key s) e in omega arith)
  ]

  -- no other object of the list leads to the node
  pub one_leads : (o : ℕ) → IsInList s head o → o ≢ p → link s o ≢ n
  one_leads o i ne e = go i place.within
    where
      -- an object that comes after one that leads to the node doesn't lead to it itself
      later : (u v : ℕ) → IsInList s head u → IsNodeOf s head v → link s u ≡ n → (IsNodeOf s head u → key s u < key s v) → link s v ≡ n → ⊥
      later u v iu jv eu a ev =
          let r = l.least u v iu jv a in
          let x : key s (link s u) ≤ key s v = r.1 in
          let y : key s (link s u) ≡ key s n = ap (key s) eu in
          let q = l.leads v (inr jv) (λ z. place.some (sym ev ∙ z)) in
          let z : key s v < key s (link s v) = q.1 jv in
          let t : key s (link s v) ≡ key s n = ap (key s) ev in omega arith

      go : (o ≡ head) ⊎ IsNodeOf s head o → (p ≡ head) ⊎ IsNodeOf s head p → ⊥
      go (inl f) (inl g) = ne (f ∙ sym g)
      go (inl f) (inr j) = later o p i j e (λ m. absurd (head_no_node s head l.unowned o f m)) place.behind
      go (inr j) (inl g) = later p o place.within j place.behind (λ m. absurd (head_no_node s head l.unowned p g m)) e
      go (inr j) (inr m) = elim (cases_order (key s o) (key s p)) [
        | inl q ↦ ne (l.once o p j m q)
        | inr (inl lt) ↦ later o p i m e (λ _. lt) place.behind
        | inr (inr gt) ↦ later p o place.within j place.behind (λ _. gt) e
      ]

-- what is written of the words by a del: the link of its place, and the node, which becomes vacant
pub record Unlinked (s s' : State) (p n : ℕ) : Type 0 where
  pub same_owner : owner s' p ≡ owner s p
  pub same_kind : kind s' p ≡ kind s p
  pub same_key : key s' p ≡ key s p
  pub past : link s' p ≡ link s n
  pub gone : owner s' n ≡ 0
  pub others : (o : ℕ) → o ≢ p → o ≢ n → words_at s' o ≡ words_at s o

module _ (s s' : State) (head k p n : ℕ) (l : IsLinked s head) (place : IsDelPlace s head k p n) (w : Unlinked s s' p n) where
  node : IsNodeOf s head n
  node = del_node s head k p n l place

  pub less_owner : (o : ℕ) → o ≢ n → owner s' o ≡ owner s o
  less_owner o a = elim (cases_eq o p) [
    | inl e ↦ ap (owner s') e ∙ w.same_owner ∙ sym (ap (owner s) e)
    | inr b ↦ ap (word 0) (w.others o b a)
  ]

  pub less_key : (o : ℕ) → o ≢ n → key s' o ≡ key s o
  less_key o a = elim (cases_eq o p) [
    | inl e ↦ ap (key s') e ∙ w.same_key ∙ sym (ap (key s) e)
    | inr b ↦ ap (word 2) (w.others o b a)
  ]

  not_gone : (o : ℕ) → IsNodeOf s' head o → o ≢ n
  not_gone o i e = let x : owner s' o ≡ owner s' n = ap (owner s') e in let y : owner s' o ≡ suc head = i.1 in let z = w.gone in omega arith

  back : (o : ℕ) → IsNodeOf s' head o → IsNodeOf s head o
  back o i = (i.0, sym (less_owner o (not_gone o i)) ∙ i.1)

  now : (o : ℕ) → o ≢ n → IsNodeOf s head o → IsNodeOf s' head o
  now o a i = (i.0, less_owner o a ∙ i.1)

  list_back : (o : ℕ) → IsInList s' head o → IsInList s head o
  list_back o (inl e) = inl e
  list_back o (inr i) = inr (back o i)

  head_apart : head ≢ n
  head_apart e = head_no_node s head l.unowned n (sym e) node

  in_apart : (o : ℕ) → IsInList s' head o → o ≢ n
  in_apart o (inl e) f = head_apart (sym e ∙ f)
  in_apart o (inr i) f = not_gone o i f

  abbrev Leads : ℕ → Type 0
  Leads o = link s' o ≢ 0 → IsNodeOf s' head (link s' o) × IsAfter s' head o (link s' o)

  leads_place : IsInList s' head p → Leads p
  leads_place i nz =
      let some : link s n ≢ 0 = λ z. nz (w.past ∙ z) in
      let r = l.leads n (inr node) some in
      let up : key s n < key s (link s n) = r.1 node in
      let ne : link s n ≢ n = λ e. (let x : key s (link s n) ≡ key s n = ap (key s) e in omega arith) in
      let f : key s' (link s n) ≡ key s (link s n) = less_key (link s n) ne in
      subst (λ u. IsNodeOf s' head u × IsAfter s' head p u) (sym w.past) (
        now (link s n) ne r.0,
        λ m.
            (let x : key s p < key s n = (led s head k p n l place).2 (back p m) in let y = w.same_key in omega arith),
      )

  leads_other : (o : ℕ) → IsInList s' head o → o ≢ p → Leads o
  leads_other o i a nz =
      let e : link s' o ≡ link s o = ap (word 3) (w.others o a (in_apart o i)) in
      let j = list_back o i in
      let r = l.leads o j (λ z. nz (e ∙ z)) in
      let ne : link s o ≢ n = one_leads s head k p n l place o j a in
      let f : key s' (link s o) ≡ key s (link s o) = less_key (link s o) ne in
      subst (λ u. IsNodeOf s' head u × IsAfter s' head o u) (sym e) (
        now (link s o) ne r.0,
        λ m.
            (let x : key s o < key s (link s o) = r.1 (back o m) in let g = less_key o (in_apart o i) in omega arith),
      )

  abbrev Least : ℕ → ℕ → Type 0
  Least o m = IsAfter s' head o m → (link s' o ≢ 0) × (key s' (link s' o) ≤ key s' m)

  least_place : (m : ℕ) → IsNodeOf s' head m → Least p m
  least_place m j after =
      let i : IsNodeOf s head m = back m j in
      let f : key s' m ≡ key s m = less_key m (not_gone m j) in
      let a = l.least p m place.within i (λ c. (let x : key s' p < key s' m = after (now p (del_apart s head k p n l place) c) in let g = w.same_key in
      omega arith)) in
      let x : key s (link s p) ≤ key s m = a.1 in
      let y : key s (link s p) ≡ key s n = ap (key s) place.behind in
      let ne : key s n ≢ key s m = λ q. not_gone m j (sym (l.once n m node i q)) in
      let r = l.least n m (inr node) i (λ _. omega arith) in
      let z : key s (link s n) ≤ key s m = r.1 in
      let q = l.leads n (inr node) r.0 in
      let up : key s n < key s (link s n) = q.1 node in
      let ng : link s n ≢ n = λ e. (let x : key s (link s n) ≡ key s n = ap (key s) e in omega arith) in
      let g : key s' (link s n) ≡ key s (link s n) = less_key (link s n) ng in
      (λ z. r.0 (sym w.past ∙ z), subst (λ u. key s' u ≤ key s' m) (sym w.past) (omega arith))

  least_other : (o m : ℕ) → IsInList s' head o → IsNodeOf s' head m → o ≢ p → Least o m
  least_other o m i j a after =
      let e : link s' o ≡ link s o = ap (word 3) (w.others o a (in_apart o i)) in
      let h = list_back o i in
      let f : key s' m ≡ key s m = less_key m (not_gone m j) in
      let r = l.least o m h (back m j) (λ c.
      (let x : key s' o < key s' m = after (now o (in_apart o i) c) in let g = less_key o (in_apart o i) in omega arith)) in
      let y : key s (link s o) ≤ key s m = r.1 in
      let g : key s' (link s o) ≡ key s (link s o) = less_key (link s o) (one_leads s head k p n l place o h a) in
      (λ z. r.0 (sym e ∙ z), subst (λ u. key s' u ≤ key s' m) (sym e) (omega arith))

  -- A list without the node is one.
  pub list_less : length s' ≡ length s → IsLinked s' head
  list_less len = record {
    here = let x = l.here in omega arith;
    unowned = less_owner head head_apart ∙ l.unowned;
    kinds = λ m i. elim (cases_eq m p) [
      | inl e ↦ ap (kind s') e ∙ w.same_kind ∙ sym (ap (kind s) e) ∙ l.kinds m (back m i)
      | inr b ↦ ap (word 1) (w.others m b (not_gone m i)) ∙ l.kinds m (back m i)
    ];
    fits = λ m i. (let x : key s m < 2 ^ 32 = l.fits m (back m i) in let y = less_key m (not_gone m i) in omega arith);
    leads = λ o i nz. elim (cases_eq o p) [
      | inl e ↦ subst Leads (sym e) (leads_place (subst (IsInList s' head) e i)) nz
      | inr a ↦ leads_other o i a nz
    ];
    least = λ o m i j after. elim (cases_eq o p) [
      | inl e ↦ subst (λ u. Least u m) (sym e) (least_place m j) after
      | inr a ↦ least_other o m i j a after
    ];
    once = λ u m i j e. l.once u m (back u i) (back m j) (sym (less_key u (not_gone u i)) ∙ e ∙ less_key m (not_gone m j));
  }

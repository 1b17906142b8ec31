-- What a source gave, one item more and all of a list, and what all workers did.
use Rattle.item_workers.proofs.Terms.{◌∷◌, ◌++◌, ◌≡◌, ◌+◌, ◌≤◌, ◌∙◌, suc, length, take, drop, sum_by, Some, slice_get, Vec, sym, ap, arith, ℕ, List, [], refl}
use Rattle.item_workers.proofs.Terms.{subst, Answer, IsGiven, Serves, drop_more, drop_all, slice_get_within, get_or_from_slice_get, Seat, Chain, HaveNumbers}
use Rattle.item_workers.proofs.Terms.{EachDid, answered, IsAt, GaveOwn, AreOwn, EachServed, MayDo, map, AllZip, Global, RanBy, keeps, stands_at, source_of}
use Rattle.item_workers.proofs.Terms.{answers_of}
use Rattle.item_workers.specs.declared.source.Own.{Own}
use Rattle.item_workers.specs.declared.threads.Worker.{Worker}

module _ {X I D P : Type 0} (link : X → X → I → D → Type 0) (gives : P → ℕ → I → P → Type 0) (seat : ℕ) where
  pub serves_more : (s : X) (a : P) (t : X) (b : P) (u : X) (c : P) (ds : List (Answer D)) (d : Answer D)
      → Serves link gives seat s a t b ds → IsGiven link gives seat t b u c d → Serves link gives seat s a u c (ds ++ d ∷ [])
  serves_more s a t b u c [] d h g =
      (u, c, subst (λ (x : X). IsGiven link gives seat x a u c d) h.0 (subst (λ (x : P). IsGiven link gives seat t x u c d) h.1 g), (refl, refl))
  serves_more s a t b u c (e ∷ ds) d h g = (h.0, h.1, h.2, serves_more h.0 h.1 t b u c ds d h.3 g)

-- at first no item was given
pub at_first : {I : Type 0} (does : I → Type 0) (width : I → ℕ) (own : Own I) → MayDo does width own.items.now → own.next ≡ 0 → own.number ≡ 1
    → IsAt does width own
at_first does width own may next number = record {
  may = may;
  within = omega (arith, next);
  number_is = number ∙ ap (λ n. 1 + sum_by width (take n own.items.now)) (sym next);
}

-- the items that are left, with the first of them ahead
left_there : {I : Type 0} (items : List I) (i : ℕ) (item : I) → slice_get items i ≡ Some item → drop i items ≡ item ∷ drop (suc i) items
left_there items i item there =
    let next : i + 1 ≡ suc i = omega arith in
    drop_more items i item (slice_get_within items i item there)
    ∙ ap (λ x. x ∷ drop (i + 1) items) (get_or_from_slice_get items i item item there)
    ∙ ap (λ n. item ∷ drop n items) next

module _ {X I D : Type 0} (link : X → X → I → D → Type 0) (width : I → ℕ) (seat : ℕ) where
  -- what was left of a list is done, where no item is left then
  list_done : (s t : X) (a b : Own I) (todo : List I) (ds : List (Answer D)) → drop a.next a.items.now ≡ todo → Serves link (GaveOwn width) seat s a t b ds
      → length b.items.now ≤ b.next → Chain (answered link) s t todo ds × HaveNumbers width seat a.number todo ds
  list_done s t a b [] [] left h ended = (h.0, tt)
  list_done s t a b (i ∷ todo) [] left h ended =
      let over : length a.items.now ≤ a.next = subst (λ (o : Own I). length o.items.now ≤ o.next) h.1 ended in
      let none = drop_all a.next a.items.now over in absurd (cc)
  list_done s t a b [] (d ∷ ds) left h ended =
      let there = left_there a.items.now a.next h.2.item h.2.given.there in absurd (cc)
  list_done s t a b (i ∷ todo) (d ∷ ds) left h ended =
      let gave = h.2.given in
      let there = left_there a.items.now a.next h.2.item gave.there in
      let same : h.2.item ≡ i = cc in
      let rest : drop (suc a.next) a.items.now ≡ todo = cc in
      let others = list_done h.0 t h.1 b todo ds (rw (gave.items, gave.next) rest) h.3 ended in (
        (h.0, subst (λ x. link s h.0 x d.done) same h.2.linked, others.0),
        (h.2.by, gave.numbered, subst (λ n. HaveNumbers width seat n todo ds) (gave.after ∙ ap (λ x. a.number + width x) same) others.1),
      )

-- so each list was done
pub own_did : {X I D : Type 0} (seat_of : X → Seat) (link : X → X → I → D → Type 0) (width : I → ℕ) (os : List X) (lists : List (List I))
    (sources : List (Own I)) (ns : List Seat) (after : List (Own I)) (rows : List (Vec (Answer D) Global)) → AreOwn lists sources
    → EachServed seat_of link (GaveOwn width) (λ (old : Own I) new. length old.items.now ≤ old.next) os sources ns after rows
    → EachDid seat_of link width os ns lists rows
own_did seat_of link width [] [] [] [] [] [] own h = tt
own_did seat_of link width (o ∷ os) (l ∷ lists) (a ∷ sources) (n ∷ ns) (b ∷ after) (r ∷ rows) own h =
    let served = h.0.served in
    let done = list_done link width (seat_of o).number o h.0.end a served.last l r.items
    (ap (λ k. drop k a.items.now) own.0.1 ∙ own.0.0) served.serves served.ended_is in (
      record {
        end = h.0.end;
        seat_is = h.0.seat_is;
        did = record { chain = done.0; numbers = subst (λ k. HaveNumbers width (seat_of o).number k l r.items) own.0.2 done.1 };
      },
      own_did seat_of link width os lists sources ns after rows own.1 h.1,
    )
own_did seat_of link width os [] (a ∷ sources) ns after rows own h = absurd own
own_did seat_of link width os (l ∷ lists) [] ns after rows own h = absurd own
own_did seat_of link width _ _ _ _ _ _ own h = absurd h

-- what all workers did
pub each_served : {W X I P D : Type 0} (kept_of : W → X) (seat_of : X → Seat) (link : X → X → I → D → Type 0) (gives : P → ℕ → I → P → Type 0)
    (ended : P → P → Type 0) (os ns : List (Worker W P D)) → AllZip (RanBy kept_of seat_of link gives ended) os ns
    → EachServed seat_of link gives ended (map (keeps kept_of) os) (map source_of os) (map (stands_at kept_of seat_of) ns) (map source_of ns)
    (map answers_of ns)
each_served kept_of seat_of link gives ended [] [] h = tt
each_served kept_of seat_of link gives ended (o ∷ os) (n ∷ ns) h =
    (record { end = kept_of n.runner; seat_is = refl; served = h.0 }, each_served kept_of seat_of link gives ended os ns h.1)
each_served kept_of seat_of link gives ended _ _ h = absurd h

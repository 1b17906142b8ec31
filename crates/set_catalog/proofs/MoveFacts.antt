-- A move: its del, and its add in the state that the del leaves.
use Rattle.std.proofs.Common.{◌≡◌, ◌≢◌, ℕ, ◌+◌, ◌^◌, ◌<◌, ◌≤◌, Bool, true, false, ◌==◌, if◌then◌else◌, List}
use Rattle.std.proofs.Common.{[], ◌∷◌, ◌++◌, length, Some, refl, sym, ap, ◌∙◌, subst, arith}
use Rattle.std.proofs.lemmas.Bool.Decides.{nat_tests}
use Rattle.mv_history.specs.State.{State, Writes, written, touches}
use Rattle.mv_history.specs.Drift.{IsFit}
use Rattle.mv_history.proofs.Writing.{words-written_other, length-written}
use Rattle.set_model.specs.Catalogue.{Map, map_of, has_key, value_of}
use Rattle.set_model.specs.CatalogueOf.{name_of, catalogue_of}
use Rattle.set_model.specs.Lawful.{IsLawful}
use Rattle.set_model.specs.Objects.{value, link}
use Rattle.section_work.specs.OwnWrites.{with_locks, with_writes, objects_of}
use Rattle.set_model.specs.Rules.{IsSetCommit}
use Rattle.set_model.specs.Tags.{tag_of}
use Rattle.set_model.specs.declared.commands.Command.TheVariants.{Move}
use Rattle.set_model.proofs.Entries.{value_once}
use Rattle.set_model.proofs.Fits.{move_fit}
use Rattle.set_model.proofs.ObjectWords.{word}
use Rattle.set_model.proofs.TwoWays.{place_after, writes_after, joined}
use Rattle.set_model.proofs.Ways.{Way, AreVacant}
use Rattle.section_work.specs.Held.{count_unheld}
use Rattle.hash_set.specs.list_set.Places.{add_writes}
use Rattle.hash_set.proofs.list_set_lemmas.ListHalves.{node_has}
use Rattle.hash_set.proofs.list_set_lemmas.ListWays.{list_add_way}
use Rattle.hash_set.proofs.list_set_lemmas.Removing.{Removal, removal}
use Rattle.tree_balance.specs.tree_set.Places.{tree_add_writes, grow_writes}
use Rattle.tree_balance.proofs.tree_set_lemmas.TreeWays.{grow_way, tree_add_way, leaf_has}
use Rattle.set_catalog.specs.Ends.{EndsAt, adds_at, objects_added}
use Rattle.set_catalog.specs.Merges.{merged}
use Rattle.set_catalog.specs.Needs.{taken, freed, wanted, AreEnough}
use Rattle.set_catalog.specs.Picks.{IsVacant}
use Rattle.set_catalog.specs.Plans.{head_of, DelPlan, AddPlan}
use Rattle.set_catalog.specs.Plans.DelPlan.{unlinks, bares, cuts}
use Rattle.set_catalog.specs.Plans.AddPlan.{links, tree_adds, grows}
use Rattle.set_catalog.specs.declared.ends.End.{End}
use Rattle.set_catalog.specs.declared.ends.End.TheVariants.{InList, Empty, InTree}
use Rattle.set_catalog.proofs.DelFacts.{Left, del_left}
use Rattle.set_catalog.proofs.EndFacts.{grown_takes}
use Rattle.set_catalog.proofs.EndPlans.{listed_place, grown_place}
use Rattle.set_catalog.proofs.HeadNames.{low_head, low_fits, root_from, root_below, head_below, head_named}
use Rattle.set_catalog.proofs.Merging.{merged-is}
use Rattle.set_catalog.proofs.PlanWays.{AddedBy, RemovedBy, renamed}
use Rattle.set_catalog.proofs.SetCalls.{taken_some}

-- a vacant object that the del doesn't write stays vacant
stays_vacant : (s : State) (ws : Writes) (o : ℕ) → touches ws o ≡ false → IsVacant s o → IsVacant (written s ws) o
stays_vacant s ws o t v = record {
  node = v.node;
  in_range = let l : o < length s = v.in_range in omega (arith, length-written s ws);
  free = ap (word 0) (words-written_other s ws o t) ∙ v.free;
}

-- the objects that the del left, and where they are too few a picked one, are enough for the add
pub enough_left : (s : State) (source target key node inner first second : ℕ) (ws : Writes) → source < 30 → IsLawful s → DelPlan s source key node inner ws
    → AreEnough s (wanted (Move source target key) (catalogue_of s)) first second
    → AreEnough (written s ws) (taken target (map_of target (catalogue_of s))) node (if inner == 0 then first else inner)
enough_left s source target key node inner first second ws lt l plan e = record { one = λ _. left.node_vacant; two = λ t. go (inner == 0) refl t }
  where
    left : Left s source key node inner ws
    left = del_left s source key node inner ws l lt plan

    go : (b : Bool) → (inner == 0) ≡ b → 2 ≤ taken target (map_of target (catalogue_of s)) → IsVacant (written s ws) (if b then first else inner)
        × ((if b then first else inner) ≢ node)
    go false q t = let n : inner ≢ 0 = grind (arith, nat_tests) in let v = left.inner_vacant n in (v.0, v.1)
    go true q t =
        let z : inner ≡ 0 = grind (arith, nat_tests) in
        let f : freed source (map_of source (catalogue_of s)) ≡ 1 = left.frees z in
        let v : IsVacant s first = e.one (omega arith) in
        (stays_vacant s ws first (left.others first v) v, λ q. left.node_used (subst (λ (x : ℕ). IsVacant s x) q v))

-- the value that the removed node had is the key's
value_there : (s : State) (name k node inner : ℕ) (ws : Writes) → name < 30 → IsLawful s → DelPlan s name k node inner ws
    → value_of k (map_of name (catalogue_of s)) ≡ Some (value s node)
value_there s name k node inner ws lt l (unlinks previous low place) =
    let m : Removal s (head_of name k) k previous node = removal s (head_of name k) k previous node l (low_head name k low) place in
    subst (λ (n : ℕ). value_of k (map_of n (catalogue_of s)) ≡ Some (value s node)) (head_named name k lt)
    (node_has s (head_of name k) k node l (low_head name k low) m.node m.own place.has)
value_there s name k node inner ws lt l (bares high place) =
    subst (λ (n : ℕ). value_of k (map_of n (catalogue_of s)) ≡ Some (value s node)) (head_named name k lt)
    (leaf_has s (head_of name k) k node l (root_from name k high) (root_below name k high lt) place.is_leaf)
value_there s name k node inner ws lt l (cuts grand parent high place) =
    subst (λ (n : ℕ). value_of k (map_of n (catalogue_of s)) ≡ Some (value s node)) (head_named name k lt)
    (leaf_has s (head_of name k) k node l (root_from name k high) (root_below name k high lt) place.is_leaf)

pub value_gone : (s : State) (name k node inner v : ℕ) (ws : Writes) → name < 30 → IsLawful s → value_of k (map_of name (catalogue_of s)) ≡ Some v
    → DelPlan s name k node inner ws → value s node ≡ v
value_gone s name k node inner v ws lt l has plan =
    value_once k (value s node) v (map_of name (catalogue_of s)) (value_there s name k node inner ws lt l plan) has

count_held : (own : Writes) (o : ℕ) (os : List ℕ) → touches own o ≡ true → count_unheld own (o ∷ os) ≡ count_unheld own os
count_held own o os t = ap (λ (b : Bool). (if b then 0 else 1) + count_unheld own os) t ∙ omega arith

count_more : (own : Writes) (o : ℕ) (os : List ℕ) → count_unheld own (o ∷ os) ≤ 1 + count_unheld own os
count_more own o os = go (touches own o)
  where
    go : (b : Bool) → (if b then 0 else 1) + count_unheld own os ≤ 1 + count_unheld own os
    go true = omega arith
    go false = omega arith

-- what the add locks beside the objects that the del holds
add_unheld : (own : Writes) (node second more : ℕ) (end : End) → touches own node ≡ true → count_unheld own (second ∷ []) ≤ more
    → count_unheld own (objects_added node second end) ≤ 2 + more
add_unheld own node second more (InList head window) t m = omega (arith, count_more own window.previous (node ∷ []), count_held own node [] t)
add_unheld own node second more (Empty root) t m = omega (arith, count_more own root (node ∷ []), count_held own node [] t)
add_unheld own node second more (InTree root descent) t m =
    omega (
      arith,
      count_more own descent.parent (descent.leaf ∷ node ∷ second ∷ []),
      count_more own descent.leaf (node ∷ second ∷ []),
      count_held own node (second ∷ []) t,
      m,
    )

-- A plan has room for a move's add after its del.
pub move_room : (s : State) (source key node inner first : ℕ) (dels : Writes) (end : End) → source < 30 → IsLawful s → DelPlan s source key node inner dels
    → length dels + count_unheld dels (objects_added node (if inner == 0 then first else inner) end) ≤ 5
move_room s source key node inner first dels end lt l plan = go (inner == 0) refl
  where
    left : Left s source key node inner dels
    left = del_left s source key node inner dels l lt plan

    few : (b : Bool) → (inner == 0) ≡ b → (more : ℕ) → count_unheld dels ((if b then first else inner) ∷ []) ≤ more
        → count_unheld dels (objects_added node (if inner == 0 then first else inner) end) ≤ 2 + more
    few b q more m =
        subst (λ (x : Bool). count_unheld dels (objects_added node (if x then first else inner) end) ≤ 2 + more) (sym q)
        (add_unheld dels node (if b then first else inner) more end left.node_held m)

    go : (b : Bool) → (inner == 0) ≡ b → length dels + count_unheld dels (objects_added node (if inner == 0 then first else inner) end) ≤ 5
    go true q =
        let c : length dels ≡ 2 = left.count ∙ ap (λ (x : Bool). if x then 2 else 3) q in
        let f = few true q 1 (count_more dels first []) in omega arith
    go false q =
        let n : inner ≢ 0 = grind (arith, nat_tests) in
        let c : length dels ≡ 3 = left.count ∙ ap (λ (x : Bool). if x then 2 else 3) q in
        let h = count_held dels inner [] (left.inner_vacant n).2 in
        let f = few false q 0 (omega arith) in omega arith

module _ (s : State) (source target k : ℕ) (l : IsLawful s) (ls : source < 30) (lt : target < 30) (apart : source ≢ target) (fits : k < 2 ^ 32) (u : ℕ)
    (dels : Writes) (d : RemovedBy s source k u dels) where
  other : head_of target k ≢ head_of source k
  other e = apart (sym (head_named source k ls) ∙ ap name_of (sym e) ∙ head_named target k lt)

  -- a change of the target has its place and its writes after the del too
  after : {Fits : Map → Type 0} {change : Map → Map} (a : Way (head_of target k) Fits change) → a.Place s → a.Place (written s dels)
      × (a.writes (written s dels) ≡ a.writes s)
  after a q =
      subst (λ (w : Writes). a.Place (written s w) × (a.writes (written s w) ≡ a.writes s)) d.same (
        place_after (head_of source k) (head_of target k) d.way a (head_below source k ls) (head_below target k lt) other s l d.place d.vacant q,
        writes_after (head_of source k) (head_of target k) d.way a (head_below source k ls) (head_below target k lt) other s l d.place d.vacant q,
      )

  -- So the add that the search in the target found is one in the state that the del leaves.
  pub move_added : (end : End) (v first second : ℕ) → EndsAt s target k end → has_key k (map_of target (catalogue_of s)) ≡ false
      → AreEnough (written s dels) (taken target (map_of target (catalogue_of s))) first second
      → AddPlan (written s dels) target k v first second (adds_at s k v first second end)
  unfolding list_add_way tree_add_way grow_way
  move_added (InList head window) v first second e missed enough =
      let r = after (list_add_way (head_of target k) k v window.previous first (low_head target k e.0) (low_fits target k e.0 fits))
      (listed_place s target k l lt fits head window e.0 e.1 e.2 missed) in
      subst (λ (h : ℕ). AddPlan (written s dels) target k v first second (add_writes s h k v window.previous first)) (sym e.1)
      (subst (λ (w : Writes). AddPlan (written s dels) target k v first second w) r.1
      (links window.previous e.0 r.0 (enough.one (taken_some target (map_of target (catalogue_of s))))))
  move_added (Empty root) v first second e missed enough =
      let r = after (tree_add_way (head_of target k) k v first (root_from target k e.0) (root_below target k e.0 lt) fits)
      (subst (λ (h : ℕ). link s h ≡ 0) e.1 e.2) in
      subst (λ (h : ℕ). AddPlan (written s dels) target k v first second (tree_add_writes s h k v first)) (sym e.1)
      (subst (λ (w : Writes). AddPlan (written s dels) target k v first second w) r.1
      (tree_adds e.0 r.0 (enough.one (taken_some target (map_of target (catalogue_of s))))))
  move_added (InTree root descent) v first second e missed enough =
      let two : 2 ≡ taken target (map_of target (catalogue_of s)) = grown_takes s target k root l lt e.1 descent e.0 e.2 in
      let more = enough.two (omega arith) in
      let r = after (grow_way (head_of target k) k v descent.parent descent.leaf first second (root_from target k e.0) (root_below target k e.0 lt) fits
      (λ q. more.1 (sym q)))
      (grown_place s target k l lt fits root descent e.0 e.1 e.2 missed) in
      subst (λ (h : ℕ). AddPlan (written s dels) target k v first second (grow_writes s h k v descent.parent descent.leaf first second)) (sym e.1)
      (subst (λ (w : Writes). AddPlan (written s dels) target k v first second w) r.1
      (grows descent.parent descent.leaf e.0 r.0 (enough.one (omega arith)) more.0 more.1))

  -- Both are one fit commit.
  pub move_fits : (adds : Writes) → AddedBy (written s dels) target k u adds → IsFit IsSetCommit s (tag_of (Move source target k)) (merged dels adds)
  move_fits adds a =
      renamed s (merged dels adds) target k (λ n. Move source n k) lt
      (renamed s (merged dels adds) source k (λ n. Move n (name_of (head_of target k)) k) ls
      (subst (λ (w : Writes). IsFit IsSetCommit s (tag_of (Move (name_of (head_of source k)) (name_of (head_of target k)) k)) w) both
      (move_fit (head_of source k) (head_of target k) k u d.way a.way s (head_below source k ls) (head_below target k lt) names fits l d.place d.vacant
      (subst (λ (w : Writes). a.way.Place (written s w)) (sym d.same) a.place)
      (subst (λ (w : Writes). AreVacant (written s w) a.way.fresh) (sym d.same) a.vacant))))
    where
      names : name_of (head_of source k) ≢ name_of (head_of target k)
      names e = apart (sym (head_named source k ls) ∙ e ∙ head_named target k lt)

      both : joined (head_of source k) (head_of target k) d.way a.way s ≡ merged dels adds
      both =
          ap (λ (w : Writes). with_writes (with_locks (written s w) w (a.way.objects ++ a.way.fresh)) (a.way.writes (written s w))) d.same
          ∙ ap (λ (os : List ℕ). with_writes (with_locks (written s dels) dels os) (a.way.writes (written s dels))) (sym (a.way.names (written s dels)))
          ∙ ap (λ (w : Writes). with_writes (with_locks (written s dels) dels (objects_of w)) w) a.same
          ∙ merged-is (written s dels) dels adds

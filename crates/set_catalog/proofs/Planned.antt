-- The plans of commands, with all that a commit needs of them.
use Rattle.std.proofs.Common.{◌≡◌, ◌≢◌, ℕ, zero, suc, ◌^◌, ◌+◌, ◌<◌, ◌≤◌, inl, inr, Bool, true, false, if◌then◌else◌, length, take, Some}
use Rattle.std.proofs.Common.{refl, sym, ap, ◌∙◌, subst, arith}
use Rattle.std.specs.Prelude.{nat_lt}
use Rattle.std.proofs.lemmas.Bool.Decides.{nat_tests}
use Rattle.mv_history.specs.State.{State, Writes, written, touches}
use Rattle.mv_history.specs.Drift.{IsFit}
use Rattle.mv_history.specs.Legal.{are_distinct, AreWithin}
use Rattle.mv_history.proofs.Writing.{length-written}
use Rattle.set_model.specs.Catalogue.{map_of, has_key, has_entry, value_of}
use Rattle.set_model.specs.CatalogueOf.{catalogue_of}
use Rattle.set_model.specs.Lawful.{IsLawful}
use Rattle.set_model.specs.Objects.{owner, value}
use Rattle.set_model.specs.Rules.{IsSetCommit}
use Rattle.set_model.specs.Tags.{tag_of}
use Rattle.set_model.specs.declared.commands.Command.{Command}
use Rattle.set_model.specs.declared.commands.Command.TheVariants.{Add, Put, Del, Has, Get, Move, Pair, Size, Next}
use Rattle.section_work.specs.Held.{count_unheld}
use Rattle.section_work.specs.OwnWrites.{objects_of}
use Rattle.tree_balance.specs.declared.plan.WritePlan.{WritePlan}
use Rattle.tree_balance.proofs.Drafting.{count_is, length-merged_within}
use Rattle.tree_balance.proofs.Fitting.{adds_are_fit}
use Rattle.set_catalog.specs.Ends.{EndsAt, adds_at, objects_added}
use Rattle.set_catalog.specs.Findings.{IsPlanned, IsPlannedWithin, IsFound, IsFoundWithin, IsNew}
use Rattle.set_catalog.specs.Merges.{writes_in, merged}
use Rattle.set_catalog.specs.Needs.{first_tree, taken, AreEnough}
use Rattle.set_catalog.specs.Plans.{head_of, AddPlan, DelPlan, PutPlan, TurnedPlan, AddsWithin, PlanWithin, PlanOf}
use Rattle.set_catalog.specs.Plans.DelPlan.{unlinks, bares, cuts}
use Rattle.set_catalog.specs.Plans.AddPlan.{links, tree_adds, grows}
use Rattle.set_catalog.specs.Plans.PutPlan.{in_list, in_tree}
use Rattle.set_catalog.specs.Steps.{most_locks, most_locks_of}
use Rattle.set_catalog.specs.declared.ends.End.{End}
use Rattle.set_catalog.specs.declared.ends.End.TheVariants.{InList, Empty, InTree}
use Rattle.set_catalog.specs.declared.finding.Finding.{Finding}
use Rattle.set_catalog.specs.declared.finding.Finding.TheVariants.{Settled, Open}
use Rattle.set_catalog.specs.declared.plan.Vacated.{Vacated}
use Rattle.set_catalog.proofs.HeadNames.{head_below, root_from, root_below}
use Rattle.set_catalog.proofs.Merging.{merged-is, merged-none, merged-distinct, touches-merged, length-merged}
use Rattle.set_catalog.proofs.MoveFacts.{value_gone, move_added, move_fits}
use Rattle.set_catalog.proofs.PlanWays.{AddedBy, added_by, removed_by, updated_by, by_distinct, by_within, fit_add, fit_put_new, fit_put, fit_del, renamed}

-- each plan writes something
add_some : (s : State) (name k v first second : ℕ) (ws : Writes) → AddPlan s name k v first second ws → 0 < length ws
add_some s name k v first second ws (links _ _ _ _) = omega arith
add_some s name k v first second ws (tree_adds _ _ _) = omega arith
add_some s name k v first second ws (grows _ _ _ _ _ _ _) = omega arith

del_some : (s : State) (name k node inner : ℕ) (ws : Writes) → DelPlan s name k node inner ws → 0 < length ws
del_some s name k node inner ws (unlinks _ _ _) = omega arith
del_some s name k node inner ws (bares _ _) = omega arith
del_some s name k node inner ws (cuts _ _ _ _) = omega arith

put_some : (s : State) (name k v : ℕ) (ws : Writes) → PutPlan s name k v ws → 0 < length ws
put_some s name k v ws (in_list _ _ _) = omega arith
put_some s name k v ws (in_tree _ _ _) = omega arith

-- and not too much
add_few : (s : State) (name k v first second : ℕ) (ws : Writes) → AddPlan s name k v first second ws → length ws ≤ 5
add_few s name k v first second ws (links _ _ _ _) = omega arith
add_few s name k v first second ws (tree_adds _ _ _) = omega arith
add_few s name k v first second ws (grows _ _ _ _ _ _ _) = omega arith

del_few : (s : State) (name k node inner : ℕ) (ws : Writes) → DelPlan s name k node inner ws → length ws ≤ 5
del_few s name k node inner ws (unlinks _ _ _) = omega arith
del_few s name k node inner ws (bares _ _) = omega arith
del_few s name k node inner ws (cuts _ _ _ _) = omega arith

put_few : (s : State) (name k v : ℕ) (ws : Writes) → PutPlan s name k v ws → length ws ≤ 5
put_few s name k v ws (in_list _ _ _) = omega arith
put_few s name k v ws (in_tree _ _ _) = omega arith

five_within : (b : Bool) (n : ℕ) → 5 ≤ (if b then 5 else suc n + 4)
five_within true n = omega arith
five_within false n = omega arith

-- each command may lock as many objects as a move
pub least_locks : (most : ℕ) (command : Command) → 5 ≤ most_locks_of most command
least_locks zero command = omega arith
least_locks (suc n) (Add name key) = five_within (nat_lt name first_tree) n
least_locks (suc n) (Put name key value) = five_within (nat_lt name first_tree) n
least_locks (suc n) (Del name key) = omega arith
least_locks (suc n) (Has name key) = omega arith
least_locks (suc n) (Get name key) = omega arith
least_locks (suc n) (Move source target key) = omega arith
least_locks (suc n) (Pair first second key) = omega arith
least_locks (suc n) (Size name) = omega arith
least_locks (suc n) (Next name key) = omega arith

-- a plan with no steps is one where steps may follow
pub adds_alone : (most : ℕ) (s : State) (name k v first second : ℕ) (ws : Writes) → AddPlan s name k v first second ws
    → AddsWithin most s name k v first second ws
adds_alone zero s name k v first second ws p = p
adds_alone (suc n) s name k v first second ws p = inl p

pub plan_within : (most : ℕ) (command : Command) (s : State) (ws : Writes) → PlanOf command s ws → PlanWithin most command s ws
plan_within most (Add name key) s ws (first, second, p) = (first, second, adds_alone most s name key 0 first second ws p)
plan_within most (Put name key v) s ws (inl p) = inl p
plan_within most (Put name key v) s ws (inr (first, second, p)) = inr (first, second, adds_alone most s name key v first second ws p)
plan_within most (Del name key) s ws p = p
plan_within most (Has name key) s ws p = absurd p
plan_within most (Get name key) s ws p = absurd p
plan_within most (Move source target key) s ws p = p
plan_within most (Pair first second key) s ws p = absurd p
plan_within most (Size name) s ws p = absurd p
plan_within most (Next name key) s ws p = absurd p

-- what was found without steps is found where steps may follow
pub found_within : (most : ℕ) (command : Command) (s : State) (finding : Finding) → IsFound command s finding → IsFoundWithin most command s finding
found_within most command s (Settled answer) f = f
found_within most command s (Open plan gone) f =
    let more = least_locks most command in
    let count : plan.count ≤ 5 = f.1 in
    let few : length (writes_in plan) ≤ 5 = f.2.few in (
      f.0,
      omega arith,
      record {
        plan = plan_within most command s (writes_in plan) f.2.plan;
        few = omega arith;
        distinct = f.2.distinct;
        within = f.2.within;
        some = f.2.some;
        fit = f.2.fit;
        goes = f.2.goes;
      },
    )

-- what a plan has that was empty before
pub planned_alone : (old new : WritePlan) (ws : Writes) → old.count ≡ 0 → are_distinct ws ≡ true → writes_in new ≡ merged (writes_in old) ws
    → writes_in new ≡ ws
planned_alone old new ws z d e = e ∙ ap (λ (n : ℕ). merged (take n old.writes) ws) z ∙ merged-none ws d

-- and how many writes it has
pub planned_count : (plan : WritePlan) (n : ℕ) → length (writes_in plan) ≤ n → plan.count ≤ n
planned_count plan n le = let e = count_is plan in omega arith

in_tree_locks : (name n : ℕ) → first_tree ≤ name → (if nat_lt name first_tree then most_locks else suc n + 4) ≡ suc n + 4
in_tree_locks name n high = grind (arith, nat_tests)

-- What a commit of an add or of a put of a new key needs.
record Adds (most : ℕ) (s : State) (name k v first second : ℕ) (ws : Writes) : Type 0 where
  few : (command : Command) → IsNew name k v command → length ws ≤ most_locks_of most command
  distinct : are_distinct ws ≡ true
  within : AreWithin ws (length s)
  some : 0 < length ws
  put : IsFit IsSetCommit s (tag_of (Put name k v)) ws
  add : v ≡ 0 → IsFit IsSetCommit s (tag_of (Add name k)) ws

module _ (s : State) (l : IsLawful s) (name k : ℕ) (lt : name < 30) (fit : k < 2 ^ 32) where
  adds_none : (most v first second : ℕ) (ws : Writes) → v < 2 ^ 64 → AddPlan s name k v first second ws → Adds most s name k v first second ws
  adds_none most v first second ws lv plan =
      let d : AddedBy s name k v ws = added_by s name k lt fit v first second ws plan in
      record {
        few = λ command n. (let x = add_few s name k v first second ws plan in let y = least_locks most command in omega arith);
        distinct = by_distinct s (head_of name k) (head_below name k lt) l ws d;
        within = by_within s (head_of name k) (head_below name k lt) l ws d;
        some = add_some s name k v first second ws plan;
        put = fit_put_new s name k ws lt fit l v lv d;
        add = λ z. fit_add s name k ws lt fit l (subst (λ (x : ℕ). AddedBy s name k x ws) z d);
      }

  turned_few : (n v : ℕ) (command : Command) → first_tree ≤ name → IsNew name k v command → most_locks_of (suc n) command ≡ suc n + 4
  turned_few n v command high (inl (is, z)) = ap (most_locks_of (suc n)) is ∙ in_tree_locks name n high
  turned_few n v command high (inr is) = ap (most_locks_of (suc n)) is ∙ in_tree_locks name n high

  adds_turned : (n v first second : ℕ) (ws : Writes) → v < 2 ^ 64 → TurnedPlan (suc n) s name k v first second ws → Adds (suc n) s name k v first second ws
  adds_turned n v first second ws lv t =
      let vm : (180 ≤ first) × (first < length s) × (owner s first ≡ 0) = (t.first_vacant.node, t.first_vacant.in_range, t.first_vacant.free) in
      let vw : (180 ≤ second) × (second < length s) × (owner s second ≡ 0) = (t.second_vacant.node, t.second_vacant.in_range, t.second_vacant.free) in
      let x = adds_are_fit s (head_of name k) k v t.parent t.leaf first second ws (root_from name k t.of_tree) (root_below name k t.of_tree lt) fit lv l t.place
      vm vw (λ e. t.other (sym e)) t.adds.draft in
      record {
        few = λ command is. (let a = t.adds.few in let b = turned_few n v command t.of_tree is in omega arith);
        distinct = x.distinct;
        within = x.within;
        some = x.some;
        put = renamed s ws name k (λ m. Put m k v) lt x.put;
        add = λ z. renamed s ws name k (λ m. Add m k) lt (x.add z);
      }

  adds_any : (most v first second : ℕ) (ws : Writes) → v < 2 ^ 64 → AddsWithin most s name k v first second ws → Adds most s name k v first second ws
  adds_any zero v first second ws lv plan = adds_none zero v first second ws lv plan
  adds_any (suc n) v first second ws lv (inl plan) = adds_none (suc n) v first second ws lv plan
  adds_any (suc n) v first second ws lv (inr turned) = adds_turned n v first second ws lv turned

  pub planned_add : (most v first second : ℕ) (ws : Writes) (gone : Vacated) (command : Command) → v < 2 ^ 64 → AddsWithin most s name k v first second ws
      → IsNew name k v command → (gone.node ≡ 0) × (gone.inner ≡ 0) → IsPlannedWithin most command s ws gone
  planned_add most v first second ws gone command lv plan (inl (is, z)) nothing =
      let x = adds_any most v first second ws lv plan in
      subst (λ (c : Command). IsPlannedWithin most c s ws gone) (sym is) (record {
        plan = (first, second, subst (λ (u : ℕ). AddsWithin most s name k u first second ws) z plan);
        few = x.few (Add name k) (inl (refl, z));
        distinct = x.distinct;
        within = x.within;
        some = x.some;
        fit = x.add z;
        goes = nothing;
      })
  planned_add most v first second ws gone command lv plan (inr is) nothing =
      let x = adds_any most v first second ws lv plan in
      subst (λ (c : Command). IsPlannedWithin most c s ws gone) (sym is) (record {
        plan = inr (first, second, plan);
        few = x.few (Put name k v) (inr refl);
        distinct = x.distinct;
        within = x.within;
        some = x.some;
        fit = x.put;
        goes = nothing;
      })

  pub planned_put : (most v : ℕ) (ws : Writes) (gone : Vacated) → v < 2 ^ 64 → has_entry k v (map_of name (catalogue_of s)) ≡ false → PutPlan s name k v ws
      → (gone.node ≡ 0) × (gone.inner ≡ 0) → IsPlannedWithin most (Put name k v) s ws gone
  planned_put most v ws gone lv lacks plan nothing =
      let d = updated_by s name k lt fit v ws l lacks plan in
      record {
        plan = inl plan;
        few = (let x = put_few s name k v ws plan in let y = least_locks most (Put name k v) in omega arith);
        distinct = by_distinct s (head_of name k) (head_below name k lt) l ws d;
        within = by_within s (head_of name k) (head_below name k lt) l ws d;
        some = put_some s name k v ws plan;
        fit = fit_put s name k ws lt fit l v lv d;
        goes = nothing;
      }

  pub planned_del : (node inner : ℕ) (ws : Writes) (gone : Vacated) → gone.node ≡ node → gone.inner ≡ inner → DelPlan s name k node inner ws
      → IsPlanned (Del name k) s ws gone
  planned_del node inner ws gone n i plan =
      let d = removed_by s name k lt fit node inner ws plan in
      record {
        plan = (node, inner, plan);
        few = del_few s name k node inner ws plan;
        distinct = by_distinct s (head_of name k) (head_below name k lt) l ws d;
        within = by_within s (head_of name k) (head_below name k lt) l ws d;
        some = del_some s name k node inner ws plan;
        fit = fit_del s name k ws lt fit l (value s node) d;
        goes = subst (λ (x : ℕ). DelPlan s name k x gone.inner ws) (sym n) (subst (λ (x : ℕ). DelPlan s name k node x ws) (sym i) plan);
      }

-- the objects of an add where a search ended
objects_adds : (s : State) (k v first second : ℕ) (end : End) → objects_of (adds_at s k v first second end) ≡ objects_added first second end
objects_adds s k v first second (InList head window) = refl
objects_adds s k v first second (Empty root) = refl
objects_adds s k v first second (InTree root descent) = refl

-- a move
module _ (s : State) (l : IsLawful s) (source target k : ℕ) (ls : source < 30) (lt : target < 30) (apart : source ≢ target) (fit : k < 2 ^ 32) where
  pub planned_move : (end : End) (v node inner first second : ℕ) (dels : Writes) (gone : Vacated) → EndsAt s target k end
      → has_key k (map_of target (catalogue_of s)) ≡ false → value_of k (map_of source (catalogue_of s)) ≡ Some v → DelPlan s source k node inner dels
      → AreEnough (written s dels) (taken target (map_of target (catalogue_of s))) first second → first ≡ node → (inner ≢ 0 → second ≡ inner)
      → length dels + count_unheld dels (objects_added first second end) ≤ 5
      → (gone.node ≡ 0) × (gone.inner ≡ 0) → IsPlanned (Move source target k) s (merged dels (adds_at s k v first second end)) gone
  planned_move end v node inner first second dels gone e missed has del enough takes_node takes_inner room nothing =
      let adds : Writes = adds_at s k v first second end in
      let is : value s node ≡ v = value_gone s source k node inner v dels ls l has del in
      let d = removed_by s source k ls fit node inner dels del in
      let found : AddPlan (written s dels) target k v first second (adds_at s k v first second end) =
      move_added s source target k l ls lt apart fit (value s node) dels d end v first second e missed enough in
      let add : AddPlan (written s dels) target k (value s node) first second (adds_at s k v first second end) =
      subst (λ (x : ℕ). AddPlan (written s dels) target k x first second (adds_at s k v first second end)) (sym is) found in
      let a : AddedBy (written s dels) target k (value s node) (adds_at s k v first second end) =
      added_by (written s dels) target k lt fit (value s node) first second (adds_at s k v first second end) add in
      let lawful : IsLawful (written s dels) = subst (λ (w : Writes). IsLawful (written s w)) d.same (d.way.half s l d.place d.vacant).keeps.lawful_after in
      let del_in : AreWithin dels (length s) = by_within s (head_of source k) (head_below source k ls) l dels d in
      let add_in : AreWithin (adds_at s k v first second end) (length (written s dels)) =
      by_within (written s dels) (head_of target k) (head_below target k lt) lawful (adds_at s k v first second end) a in
      record {
        plan = record {
          node = node;
          inner = inner;
          dels = dels;
          del = del;
          first = first;
          second = second;
          adds = adds_at s k v first second end;
          add = add;
          takes_node = takes_node;
          takes_inner = takes_inner;
          both = sym (merged-is (written s dels) dels (adds_at s k v first second end));
        };
        few = few;
        distinct = merged-distinct dels (adds_at s k v first second end) (by_distinct s (head_of source k) (head_below source k ls) l dels d);
        within = within dels adds del_in add_in;
        some = (let x = del_some s source k node inner dels del in let y = length-merged dels (adds_at s k v first second end) in omega arith);
        fit = move_fits s source target k l ls lt apart fit (value s node) dels d (adds_at s k v first second end) a;
        goes = nothing;
      }
    where
      few : length (merged dels (adds_at s k v first second end)) ≤ 5
      few =
          let x = length-merged_within dels (adds_at s k v first second end) in
          let y = ap (count_unheld dels) (objects_adds s k v first second end) in omega arith

      within : (dels adds : Writes) → AreWithin dels (length s) → AreWithin adds (length (written s dels)) → AreWithin (merged dels adds) (length s)
      within dels adds d a o t = go (touches dels o) refl (touches adds o) refl
        where
          go : (x : Bool) → touches dels o ≡ x → (y : Bool) → touches adds o ≡ y → o < length s
          go true p y q = d o p
          go false p true q = let m = a o q in let e = length-written s dels in omega arith
          go false p false q = absurd (let e = touches-merged dels adds o in cc)

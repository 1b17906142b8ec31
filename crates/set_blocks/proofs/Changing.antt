-- What is planned for a command that changes something does the same in every state that others may lead to meanwhile.
use Rattle.set_model.specs.Tags.{tag_of}
use Rattle.set_catalog.proofs.MoveFacts.{move_fits}
use Rattle.std.proofs.Common.{◌≡◌, ◌≢◌, ◌^◌, ◌<◌, ◌&&◌, ◌||◌, ℕ, inl, inr, Bool, true, false, cond, not, refl, sym, ap, ◌∙◌, subst}
use Rattle.set_blocks.proofs.Terms.{State, Writes, written, touches, are_distinct, allowed_at_once, Command, Add, Put, Del, Has, Move, Map, ByWay, IsFit}
use Rattle.set_blocks.proofs.Terms.{Yes, No, Full, Worn, Maps, map_of, has_key, has_entry, take_out, catalogue_of, value, IsLawful, applies, overflows, reply}
use Rattle.set_blocks.proofs.Terms.{changes, capacity, IsInRange, Makes, IsSetCommit, merged, head_of, DelPlan, AddPlan, PutPlan, MovePlan, PlanOf, changes_in}
use Rattle.set_blocks.proofs.Terms.{head_below, merged-is, touches-merged, AddedBy, RemovedBy, fit_add, fit_put_new, fit_put, fit_del, by_distinct, Remains}
use Rattle.set_blocks.proofs.Remaining.{remains_itself}
use Rattle.set_blocks.proofs.Stepping.{Covers, Spares, spares_both, written-merged, Stepped, StepAt}
use Rattle.set_blocks.proofs.TrackedPlans.{ByTracked, by_way_there, tracked_remains, tracked_spares, added_tracked, removed_tracked, updated_tracked}
use Rattle.set_model.proofs.Ways as ways

-- a command that may change something and replies yes changes something
yes_changes : (does over : Bool) → cond does (cond over Full (cond false Worn Yes)) No ≡ Yes → does && not over && not false ≡ true
yes_changes true true e = absurd (cc)
yes_changes true false e = refl
yes_changes false over e = absurd (cc)

-- From what a command makes of a state to what it does there.
made : (command : Command) (held : Writes) (z u : State) (ws : Writes) → (reply command (catalogue_of u) (capacity u) false ≡ Yes
    → changes command (catalogue_of u) (capacity u) false ≡ true) → Makes command u (written u ws) → Remains held (written z ws) (written u ws)
    → Spares u ws → Stepped command Yes true held z u ws
made command held z u ws does m r s = record { answer_is = m.answer; changing_is = does m.answer; leaves = m.leaves; remains = r; spares = s }

and_first : (a b : Bool) → a && b ≡ true → a ≡ true
and_first true b e = refl
and_first false b e = absurd (cc)

negated : (a : Bool) → not a ≡ true → a ≡ false
negated true e = absurd (cc)
negated false e = refl

-- a move that applies is between two sets
move_apart : (source target k : ℕ) (c : Maps) → applies (Move source target k) c ≡ true → source ≢ target
move_apart source target k c e same = go (has_key k (map_of source c)) (has_key k (map_of target c)) (ap (λ n. has_key k (map_of n c)) same) e
  where
    go : (a b : Bool) → a ≡ b → a && not b ≡ true → ⊥
    go true true q e = absurd (cc)
    go _ _ q e = absurd (cc)

module _ (z : State) (ws : Writes) (lz : IsLawful z) where
  -- what a way writes that others don't disturb, where it is fit for the command
  one_step : {Fits : Map → Type 0} {change : Map → Map} (command : Command) (head : ℕ) → head < 180 → ByTracked z head Fits change ws
      → ((u : State) → IsLawful u → ByWay u head Fits change ws → IsFit IsSetCommit u (tag_of command) ws)
      → ((u : State) → IsSetCommit (tag_of command) u ws → Makes command u (written u ws))
      → ((u : State) → reply command (catalogue_of u) (capacity u) false ≡ Yes → changes command (catalogue_of u) (capacity u) false ≡ true)
      → StepAt command z ws Yes true
  one_step command head lh t fit makes does = record {
    step = λ held u cover r.
        (let c : IsSetCommit (tag_of command) u ws = allowed_at_once IsSetCommit u (tag_of command) ws
        (fit u r.lawful (by_way_there z u head lh ws t held lz r cover)) in
        made command held z u ws (does u) (makes u c) (tracked_remains z u head lh ws t held lz r cover) (tracked_spares z u head lh ws t held lz r cover));
  }

  pub add_step : (name k : ℕ) → name < 30 → k < 2 ^ 32 → (first second : ℕ) → AddPlan z name k 0 first second ws → StepAt (Add name k) z ws Yes true
  add_step name k lt fits first second plan =
      one_step (Add name k) (head_of name k) (head_below name k lt) (added_tracked z name k lt fits 0 first second ws plan)
      (λ u l d. fit_add u name k ws lt fits l d) (λ u c. c.makes)
      (λ u. yes_changes (applies (Add name k) (catalogue_of u)) (overflows (Add name k) (catalogue_of u) (capacity u)))

  pub put_new_step : (name k v : ℕ) → name < 30 → k < 2 ^ 32 → v < 2 ^ 64 → (first second : ℕ) → AddPlan z name k v first second ws
      → StepAt (Put name k v) z ws Yes true
  put_new_step name k v lt fits lv first second plan =
      one_step (Put name k v) (head_of name k) (head_below name k lt) (added_tracked z name k lt fits v first second ws plan)
      (λ u l d. fit_put_new u name k ws lt fits l v lv d) (λ u c. c.makes)
      (λ u. yes_changes (applies (Put name k v) (catalogue_of u)) (overflows (Put name k v) (catalogue_of u) (capacity u)))

  pub put_step : (name k v : ℕ) → name < 30 → k < 2 ^ 32 → v < 2 ^ 64 → has_entry k v (map_of name (catalogue_of z)) ≡ false → PutPlan z name k v ws
      → StepAt (Put name k v) z ws Yes true
  put_step name k v lt fits lv lacks plan =
      one_step (Put name k v) (head_of name k) (head_below name k lt) (updated_tracked z name k lt fits v ws lz lacks plan)
      (λ u l d. fit_put u name k ws lt fits l v lv d) (λ u c. c.makes)
      (λ u. yes_changes (applies (Put name k v) (catalogue_of u)) (overflows (Put name k v) (catalogue_of u) (capacity u)))

  pub del_step : (name k : ℕ) → name < 30 → k < 2 ^ 32 → (node inner : ℕ) → DelPlan z name k node inner ws → StepAt (Del name k) z ws Yes true
  del_step name k lt fits node inner plan =
      one_step (Del name k) (head_of name k) (head_below name k lt) (removed_tracked z name k lt fits node inner ws plan)
      (λ u l d. fit_del u name k ws lt fits l (value z node) d) (λ u c. c.makes)
      (λ u. yes_changes (applies (Del name k) (catalogue_of u)) (overflows (Del name k) (catalogue_of u) (capacity u)))

-- A move: its del, and then its add, in the state that the del leaves.
module _ (z : State) (source target k : ℕ) (lz : IsLawful z) (ls : source < 30) (lt : target < 30) (apart : source ≢ target) (fits : k < 2 ^ 32)
    (node inner first second : ℕ) (dels adds : Writes) (del : DelPlan z source k node inner dels)
    (add : AddPlan (written z dels) target k (value z node) first second adds) where
  dt : ByTracked z (head_of source k) (ways.Has k (value z node)) (take_out k) dels
  dt = removed_tracked z source k ls fits node inner dels del

  move_step_at : (held : Writes) (u : State) → Covers held (merged dels adds) → Remains held z u
      → Stepped (Move source target k) Yes true held z u (merged dels adds)
  move_step_at held u cover r =
      let lh = head_below source k ls in
      let lg = head_below target k lt in
      let cd : Covers held dels = λ o t. cover o (touches-merged dels adds o ∙ left (touches dels o) (touches adds o) t) in
      let ca : Covers held adds = λ o t. cover o (touches-merged dels adds o ∙ right (touches dels o) (touches adds o) t) in
      let d : RemovedBy u source k (value z node) dels = by_way_there z u (head_of source k) lh dels dt held lz r cd in
      let r1 : Remains held (written z dels) (written u dels) = tracked_remains z u (head_of source k) lh dels dt held lz r cd in
      let l1 : IsLawful (written z dels) = (tracked_remains z z (head_of source k) lh dels dt held lz
      (remains_itself held z lz) cd).lawful in
      let at = added_tracked (written z dels) target k lt fits (value z node) first second adds add in
      let a : AddedBy (written u dels) target k (value z node) adds =
      by_way_there (written z dels) (written u dels) (head_of target k) lg adds at held l1 r1 ca in
      let r2 : Remains held (written (written z dels) adds) (written (written u dels) adds) =
      tracked_remains (written z dels) (written u dels) (head_of target k) lg adds at held l1 r1 ca in
      let dis : are_distinct dels ≡ true = by_distinct u (head_of source k) lh r.lawful dels d in
      let c : IsSetCommit (tag_of (Move source target k)) u (merged dels adds) =
      allowed_at_once IsSetCommit u (tag_of (Move source target k)) (merged dels adds)
      (move_fits u source target k r.lawful ls lt apart fits (value z node) dels d adds a) in
      made (Move source target k) held z u (merged dels adds)
      (yes_changes (applies (Move source target k) (catalogue_of u)) (overflows (Move source target k) (catalogue_of u) (capacity u))) c.makes
      (subst (λ x. Remains held x (written u (merged dels adds))) (sym (written-merged z dels adds dis))
      (subst (λ x. Remains held (written (written z dels) adds) x) (sym (written-merged u dels adds dis)) r2))
      (spares_both u dels adds dis (tracked_spares z u (head_of source k) lh dels dt held lz r cd)
      (tracked_spares (written z dels) (written u dels) (head_of target k) lg adds at held l1 r1 ca))
    where
      left : (x y : Bool) → x ≡ true → x || y ≡ true
      left true y e = refl
      left false y e = absurd (cc)

      right : (x y : Bool) → y ≡ true → x || y ≡ true
      right true y e = refl
      right false y e = e

pub move_step : (z : State) (ws : Writes) (source target k : ℕ) → IsLawful z → source < 30 → target < 30 → k < 2 ^ 32
    → changes_in (Move source target k) z false ≡ true → MovePlan z source target k ws → StepAt (Move source target k) z ws Yes true
move_step z ws source target k lz ls lt fits does plan =
    let apart = move_apart source target k (catalogue_of z)
    (and_first (applies (Move source target k) (catalogue_of z)) (not (overflows (Move source target k) (catalogue_of z) (capacity z)))
    (and_first (applies (Move source target k) (catalogue_of z) && not (overflows (Move source target k) (catalogue_of z) (capacity z))) (not false) does)) in
    let both : ws ≡ merged plan.dels plan.adds = plan.both ∙ merged-is (written z plan.dels) plan.dels plan.adds in
    subst (λ (w : Writes). StepAt (Move source target k) z w Yes true) (sym both)
    (record { step = move_step_at z source target k lz ls lt apart fits plan.node plan.inner plan.first plan.second plan.dels plan.adds plan.del plan.add })

-- Whatever is planned for a command that changes something.
pub change_step : (command : Command) (z : State) (ws : Writes) → IsLawful z → IsInRange command → changes_in command z false ≡ true → PlanOf command z ws
    → StepAt command z ws Yes true
change_step (Add name k) z ws lz range does plan = add_step z ws lz name k range.0 range.1 plan.0 plan.1 plan.2
change_step (Put name k v) z ws lz range does (inl plan) =
    put_step z ws lz name k v range.0 range.1 range.2 (negated (has_entry k v (map_of name (catalogue_of z)))
    (and_first (applies (Put name k v) (catalogue_of z)) (not (overflows (Put name k v) (catalogue_of z) (capacity z)))
    (and_first (applies (Put name k v) (catalogue_of z) && not (overflows (Put name k v) (catalogue_of z) (capacity z))) (not false) does))) plan
change_step (Put name k v) z ws lz range does (inr plan) = put_new_step z ws lz name k v range.0 range.1 range.2 plan.0 plan.1 plan.2
change_step (Del name k) z ws lz range does plan = del_step z ws lz name k range.0 range.1 plan.0 plan.1 plan.2
change_step (Move source target k) z ws lz range does plan = move_step z ws source target k lz range.0 range.1 range.2 does plan
change_step _ z ws lz range does plan = absurd plan

-- What a block locks and writes: objects of the state alone, and something where it changes something.
use Rattle.std.proofs.Common.{◌≡◌, ◌^◌, ◌<◌, ◌||◌, ◌∷◌, ℕ, inl, inr, Bool, true, false, List, [], length, refl, sym, ap, ◌∙◌, subst, arith}
use Rattle.set_blocks.proofs.Terms.{State, Writes, written, touches, AreWithin, length-written, Command, Add, Put, Del, Move, Reply}
use Rattle.set_blocks.proofs.Terms.{IsLawful, value, objects_of, IsInRange, IsIn, in_either, in-touches, touches-in, IsAt, del_writes, put_writes, at_in_range}
use Rattle.set_blocks.proofs.Terms.{ends_at_root, merged, head_of, DelPlan, AddPlan, PutPlan, MovePlan, PlanOf, links, tree_adds, grows, unlinks, bares, cuts}
use Rattle.set_blocks.proofs.Terms.{in_list, in_tree, head_below, merged-is, touches-merged, length-merged, added_by, removed_by, by_within, LacksAt, HasAt}
use Rattle.set_blocks.proofs.Terms.{ValueAt, TellsAt, HoldPlan, StepPlan, BlockPlan, holding, before_gap, no_tree, other_leaf, before_node, own_leaf, in_node}
use Rattle.set_blocks.proofs.Terms.{in_leaf, has_yes, has_no, del_no, add_no, get_none, get_value, put_no, move_from_none, move_to_one, pair_tells, changing}
use Rattle.set_blocks.proofs.Terms.{keeping, nothing_yet, one_more}
use Rattle.set_blocks.proofs.WholeTurns.{ran_here}

-- of merged writes each is of the one or of the other
within_merged : (own ws : Writes) (n : ℕ) → AreWithin own n → AreWithin ws n → AreWithin (merged own ws) n
within_merged own ws n a b o t = go (touches own o) refl (touches ws o) refl (sym (touches-merged own ws o) ∙ t)
  where
    go : (x : Bool) → touches own o ≡ x → (y : Bool) → touches ws o ≡ y → x || y ≡ true → o < n
    go true p y q e = a o p
    go false p true q e = b o q
    go false p false q e = absurd (cc)

one_of : (p o n : ℕ) → IsIn o (p ∷ []) → p < n → o < n
one_of p o n (inl e) lt = subst (λ (u : ℕ). u < n) (sym e) lt
one_of p o n (inr i) lt = absurd i

module _ (s : State) (l : IsLawful s) (name k : ℕ) (lt : name < 30) (fits : k < 2 ^ 32) where
  at_within : (o : ℕ) → IsAt s (head_of name k) o → o < length s
  at_within o a = at_in_range s (head_of name k) o l (head_below name k lt) a

  add_within : (v first second : ℕ) (ws : Writes) → AddPlan s name k v first second ws → AreWithin ws (length s)
  add_within v first second ws plan = by_within s (head_of name k) (head_below name k lt) l ws (added_by s name k lt fits v first second ws plan)

  del_within : (node inner : ℕ) (ws : Writes) → DelPlan s name k node inner ws → AreWithin ws (length s)
  del_within node inner ws plan = by_within s (head_of name k) (head_below name k lt) l ws (removed_by s name k lt fits node inner ws plan)

  put_within : (v : ℕ) (ws : Writes) → PutPlan s name k v ws → AreWithin ws (length s)
  put_within v ws (in_list node low place) o t =
      one_of node o (length s) (in-touches (put_writes s node v) o t) (at_within node (inr (place.is_node, place.own)))
  put_within v ws (in_tree leaf high is) o t =
      one_of leaf o (length s) (in-touches (put_writes s leaf v) o t) (at_within leaf (inr (is.0, is.1)))

  lacks_within : (os : List ℕ) → LacksAt s name k os → (o : ℕ) → IsIn o os → o < length s
  lacks_within os (before_gap p low place) o i = one_of p o (length s) i (at_within p place.within)
  lacks_within os (no_tree high e) o i = one_of (head_of name k) o (length s) i (at_within (head_of name k) (inl refl))
  lacks_within os (other_leaf leaf high ends other) o i =
      one_of leaf o (length s) i (at_within leaf (ends_at_root s (head_of name k) k leaf ends))

  has_within : (os : List ℕ) → HasAt s name k os → (o : ℕ) → IsIn o os → o < length s
  has_within os (before_node p node low place) o i = one_of p o (length s) i (at_within p place.within)
  has_within os (own_leaf leaf high is) o i = one_of leaf o (length s) i (at_within leaf (inr (is.0, is.1)))

  tells_within : (b : Bool) (os : List ℕ) → TellsAt s name k b os → (o : ℕ) → IsIn o os → o < length s
  tells_within true os t o i = has_within os t o i
  tells_within false os t o i = lacks_within os t o i

  -- the two objects of a list are those of a del
  value_within : (v : ℕ) (os : List ℕ) → ValueAt s name k v os → (o : ℕ) → IsIn o os → o < length s
  value_within v os (in_node p node low place e) o i =
      del_within node 0 (del_writes s p node) (unlinks p low place) o (touches-in (del_writes s p node) o i)
  value_within v os (in_leaf leaf high is e) o i = one_of leaf o (length s) i (at_within leaf (inr (is.0, is.1)))

-- a command that changes nothing
hold_within : (s : State) (l : IsLawful s) (command : Command) (os : List ℕ) (answer : Reply) → IsInRange command → HoldPlan s command os answer
    → (o : ℕ) → IsIn o os → o < length s
hold_within s l command os answer range (has_yes name k qs at) o i = has_within s l name k range.0 range.1 qs at o i
hold_within s l command os answer range (has_no name k qs at) o i = lacks_within s l name k range.0 range.1 qs at o i
hold_within s l command os answer range (del_no name k qs at) o i = lacks_within s l name k range.0 range.1 qs at o i
hold_within s l command os answer range (add_no name k qs at) o i = has_within s l name k range.0 range.1 qs at o i
hold_within s l command os answer range (get_none name k qs at) o i = lacks_within s l name k range.0 range.1 qs at o i
hold_within s l command os answer range (get_value name k v qs at) o i = value_within s l name k range.0 range.1 v qs at o i
hold_within s l command os answer range (put_no name k v qs at) o i = value_within s l name k range.0 range.1 v qs at o i
hold_within s l command os answer range (move_from_none source target k qs at) o i = lacks_within s l source k range.0 range.2 qs at o i
hold_within s l command os answer range (move_to_one source target k qs at) o i = has_within s l target k range.1 range.2 qs at o i
hold_within s l command os answer range (pair_tells first second k b c qs rs at more) o i = elim (in_either qs rs o i) [
  | inl j ↦ tells_within s l first k range.0 range.2 b qs at o j
  | inr j ↦ tells_within s l second k range.1 range.2 c rs more o j
]

-- a move: those of its del, and of its add in the state that the del leaves
move_within : (s : State) (l : IsLawful s) (source target k : ℕ) (ws : Writes) → source < 30 → target < 30 → k < 2 ^ 32
    → MovePlan s source target k ws → AreWithin ws (length s)
move_within s l source target k ws ls lt fits m =
    let d = removed_by s source k ls fits m.node m.inner m.dels m.del in
    let lawful : IsLawful (written s m.dels) = subst (λ (w : Writes). IsLawful (written s w)) d.same (d.way.half s l d.place d.vacant).keeps.lawful_after in
    let adds : AreWithin m.adds (length (written s m.dels)) =
    add_within (written s m.dels) lawful target k lt fits (value s m.node) m.first m.second m.adds m.add in
    let both : ws ≡ merged m.dels m.adds = m.both ∙ merged-is (written s m.dels) m.dels m.adds in
    subst (λ (w : Writes). AreWithin w (length s)) (sym both)
    (within_merged m.dels m.adds (length s) (del_within s l source k ls fits m.node m.inner m.dels m.del)
    (subst (λ (n : ℕ). AreWithin m.adds n) (length-written s m.dels) adds))

change_within : (s : State) (l : IsLawful s) (command : Command) (ws : Writes) → IsInRange command → PlanOf command s ws → AreWithin ws (length s)
change_within s l (Add name k) ws range plan = add_within s l name k range.0 range.1 0 plan.0 plan.1 ws plan.2
change_within s l (Put name k v) ws range (inl plan) = put_within s l name k range.0 range.1 v ws plan
change_within s l (Put name k v) ws range (inr plan) = add_within s l name k range.0 range.1 v plan.0 plan.1 ws plan.2
change_within s l (Del name k) ws range plan = del_within s l name k range.0 range.1 plan.0 plan.1 ws plan.2
change_within s l (Move source target k) ws range plan = move_within s l source target k ws range.0 range.1 range.2 plan
change_within s l _ ws range plan = absurd plan

objects-held : (s : State) (os : List ℕ) → objects_of (holding s os) ≡ os
objects-held s [] = refl
objects-held s (o ∷ os) = ap (λ (qs : List ℕ). o ∷ qs) (objects-held s os)

step_within : (s : State) (l : IsLawful s) (command : Command) (ws : Writes) (answer : Reply) (c : Bool) → IsInRange command
    → StepPlan command s ws answer c → AreWithin ws (length s)
step_within s l command ws answer c range (changing vs does plan) = change_within s l command vs range plan
step_within s l command ws answer c range (keeping os said hold) = λ o t.
    hold_within s l command os said range hold o (subst (λ (qs : List ℕ). IsIn o qs) (objects-held s os) (in-touches (holding s os) o t))

-- All that a block plans.
pub plan_within : (s : State) (commands : List Command) (ws : Writes) (said : List Reply) (b : Bool) → IsLawful s → BlockPlan s commands ws said b
    → AreWithin ws (length s)
plan_within s commands ws said b l nothing_yet = λ o t. absurd (cc)
plan_within s commands ws said b l (one_more before own answers c command more answer d plan range step) =
    let lawful = (ran_here s before own answers c l plan).remains.lawful in
    within_merged own more (length s) (plan_within s before own answers c l plan)
    (subst (λ (n : ℕ). AreWithin more n) (length-written s own) (step_within (written s own) lawful command more answer d range step))

-- A command that changes something writes something.
del_some : (s : State) (name k node inner : ℕ) (ws : Writes) → DelPlan s name k node inner ws → 0 < length ws
del_some s name k node inner ws (unlinks _ _ _) = omega arith
del_some s name k node inner ws (bares _ _) = omega arith
del_some s name k node inner ws (cuts _ _ _ _) = omega arith

plan_some : (command : Command) (s : State) (ws : Writes) → PlanOf command s ws → 0 < length ws
plan_some (Add name k) s ws (first, second, links _ _ _ _) = omega arith
plan_some (Add name k) s ws (first, second, tree_adds _ _ _) = omega arith
plan_some (Add name k) s ws (first, second, grows _ _ _ _ _ _ _) = omega arith
plan_some (Put name k v) s ws (inl (in_list _ _ _)) = omega arith
plan_some (Put name k v) s ws (inl (in_tree _ _ _)) = omega arith
plan_some (Put name k v) s ws (inr (first, second, links _ _ _ _)) = omega arith
plan_some (Put name k v) s ws (inr (first, second, tree_adds _ _ _)) = omega arith
plan_some (Put name k v) s ws (inr (first, second, grows _ _ _ _ _ _ _)) = omega arith
plan_some (Del name k) s ws (node, inner, plan) = del_some s name k node inner ws plan
plan_some (Move source target k) s ws m =
    let del = del_some s source k m.node m.inner m.dels m.del in
    let more = length-merged m.dels m.adds in
    omega (arith, del, more, ap length (m.both ∙ merged-is (written s m.dels) m.dels m.adds))
plan_some _ s ws plan = absurd plan

touched_some : (ws : Writes) (o : ℕ) → touches ws o ≡ true → 0 < length ws
touched_some [] o t = absurd (cc)
touched_some (w ∷ ws) o t = omega arith

merged_some : (own ws : Writes) → 0 < length ws → 0 < length (merged own ws)
merged_some own [] lt = absurd (omega arith)
merged_some own (w ∷ ws) lt =
    touched_some (merged own (w ∷ ws)) w.0
    (touches-merged own (w ∷ ws) w.0 ∙ right (touches own w.0) (touches (w ∷ ws) w.0) (touches-in (w ∷ ws) w.0 (inl refl)))
  where
    right : (x y : Bool) → y ≡ true → x || y ≡ true
    right true y e = refl
    right false y e = e

-- So does a block.
pub plan_writes : (s : State) (commands : List Command) (ws : Writes) (said : List Reply) (b : Bool) → BlockPlan s commands ws said b → b ≡ true
    → 0 < length ws
plan_writes s commands ws said b nothing_yet e = absurd (cc)
plan_writes s commands ws said b (one_more before own answers true command more answer d plan range step) e =
    let some = plan_writes s before own answers true plan refl in
    let longer = length-merged own more in
    omega arith
plan_writes s commands ws said b (one_more before own answers false command more answer d plan range (changing vs does by)) e =
    merged_some own vs (plan_some command (written s own) vs by)
plan_writes s commands ws said b (one_more before own answers false command more answer d plan range (keeping os told hold)) e = absurd (cc)

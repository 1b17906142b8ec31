-- What a command comes to at its turn, from what was found and held.
use Rattle.std.proofs.lemmas.List.{length-take}
use Rattle.set_blocks.proofs.Terms.{drop, take, slice_index_or, refl, sym, ap, ap₂, ◌∙◌, subst, arith, true≢false, Option, Some, None, length-drop}
use Rattle.set_blocks.proofs.Terms.{length-take-le, State, Writes, written, are_distinct, words_at, Command, Add, Put, Del, Has, Get, Move, Pair, Reply, Yes}
use Rattle.set_blocks.proofs.Terms.{No, Full, Worn, Both, NoKey, Value, map_of, has_key, value_of, has_entry, catalogue_of, IsLawful, applies, overflows}
use Rattle.set_blocks.proofs.Terms.{value_reply, capacity, has_entry-value, has_entry-absent, touches-in, merged, merged_one, count_vacant, vacant_nodes}
use Rattle.set_blocks.proofs.Terms.{reply_in, changes_in, ValueAt, TellsAt, StepPlan, holding, has_yes, has_no, del_no, add_no, get_none, get_value, put_no}
use Rattle.set_blocks.proofs.Terms.{move_from_none, move_to_one, pair_tells, keeping, is_full, HoldsReply, ◌≡◌, ◌+◌, ◌-◌, ◌^◌, ◌==◌, ◌<◌, ◌≤◌, ◌&&◌, ◌∷◌, ◌++◌}
use Rattle.set_blocks.proofs.Terms.{ℕ, suc, min, Bool, true, false, not, eqb, eqb-true, cond, List, [], length}
use Rattle.set_blocks.specs.Holds.{HoldsKey, HoldsValue}
use Rattle.set_blocks.specs.declared.overlay.Overlay.{Overlay}
use Rattle.set_blocks.proofs.HeldReplies.{tells_there, value_there, objects-holding, written-holding}
use Rattle.set_blocks.proofs.Remaining.{remains_itself}
use Rattle.set_blocks.proofs.Stepping.{written-merged}
use Rattle.set_blocks.proofs.Tracking.{AreHeld}

-- writes that are merged one after another
pub merged-both : (own xs ys : Writes) → merged (merged own xs) ys ≡ merged own (xs ++ ys)
merged-both own [] ys = refl
merged-both own (x ∷ xs) ys = merged-both (merged_one own x.0 x.1) xs ys

holding-both : (s : State) (os qs : List ℕ) → holding s (os ++ qs) ≡ holding s os ++ holding s qs
holding-both s [] qs = refl
holding-both s (o ∷ os) qs = ap (λ (ws : Writes). (o, words_at s o) ∷ ws) (holding-both s os qs)

-- what is held as it is changes no state
pub key_stays : (base mid : State) (own new : Writes) (name k : ℕ) (b : Bool) → are_distinct own ≡ true → mid ≡ base
    → HoldsKey (written base own) name k b own new → written mid new ≡ written base own
key_stays base mid own new name k b d e x =
    ap (λ (s : State). written s new) e ∙ ap (written base) x.2 ∙ written-merged base own (holding (written base own) x.0) d
    ∙ written-holding (written base own) (written base own) x.0 (λ o i. refl)

-- what two sets tell
pub pair_held : (base mid : State) (own between new : Writes) (first second k : ℕ) (b c : Bool) → are_distinct own ≡ true → mid ≡ base
    → HoldsKey (written base own) first k b own between → HoldsKey (written mid between) second k c between new
    → HoldsReply (Pair first second k) (written base own) (Both b c) own new
pair_held base mid own between new first second k b c d e x y =
    go (subst (λ (s : State). HoldsKey s second k c between new) (key_stays base mid own between first k b d e x) y)
  where
    go : HoldsKey (written base own) second k c between new → HoldsReply (Pair first second k) (written base own) (Both b c) own new
    go w = (
      x.0 ++ w.0,
      pair_tells first second k b c x.0 w.0 x.1 w.1,
      w.2 ∙ ap (λ (ws : Writes). merged ws (holding (written base own) w.0)) x.2
          ∙ merged-both own (holding (written base own) x.0) (holding (written base own) w.0)
          ∙ ap (merged own) (sym (holding-both (written base own) x.0 w.0)),
    )

module _ (z : State) (lz : IsLawful z) (name k : ℕ) (lt : name < 30) (fits : k < 2 ^ 32) where
  held_here : (os : List ℕ) → AreHeld (holding z os) os
  held_here os o i = touches-in (holding z os) o (objects-holding z os o i)

  -- what is told of a key in a state is so there
  pub tells_here : (b : Bool) (os : List ℕ) → TellsAt z name k b os → has_key k (map_of name (catalogue_of z)) ≡ b
  tells_here b os t = tells_there z z name k lt fits (holding z os) lz (remains_itself (holding z os) z lz) b os (held_here os) t

  pub value_here : (v : ℕ) (os : List ℕ) → ValueAt z name k v os → value_of k (map_of name (catalogue_of z)) ≡ Some v
  value_here v os t = value_there z z name k lt fits (holding z os) lz (remains_itself (holding z os) z lz) v os (held_here os) t

  -- a command with nothing to change
  pub add_held : (b : Bool) (own new : Writes) → HoldsKey z name k b own new → applies (Add name k) (catalogue_of z) ≡ false
      → HoldsReply (Add name k) z No own new
  add_held true own new x a = (x.0, add_no name k x.0 x.1, x.2)
  add_held false own new x a = absurd (true≢false (sym (ap not (tells_here false x.0 x.1)) ∙ a))

  pub del_held : (b : Bool) (own new : Writes) → HoldsKey z name k b own new → applies (Del name k) (catalogue_of z) ≡ false
      → HoldsReply (Del name k) z No own new
  del_held false own new x a = (x.0, del_no name k x.0 x.1, x.2)
  del_held true own new x a = absurd (true≢false (sym (tells_here true x.0 x.1) ∙ a))

  pub put_held : (v : ℕ) (r : Option ℕ) (own new : Writes) → HoldsValue z name k r own new → applies (Put name k v) (catalogue_of z) ≡ false
      → HoldsReply (Put name k v) z No own new
  put_held v None own new x a = absurd (true≢false (sym (ap not (none (tells_here false x.0 x.1))) ∙ a))
    where
      none : has_key k (map_of name (catalogue_of z)) ≡ false → has_entry k v (map_of name (catalogue_of z)) ≡ false
      none e = has_entry-absent k v (map_of name (catalogue_of z)) e
  put_held v (Some w) own new x a = go (eqb w v) refl
    where
      e : has_entry k v (map_of name (catalogue_of z)) ≡ eqb w v
      e = has_entry-value k w v (map_of name (catalogue_of z)) (value_here w x.0 x.1)

      go : (b : Bool) → eqb w v ≡ b → HoldsReply (Put name k v) z No own new
      go true q = (x.0, put_no name k v x.0 (subst (λ (u : ℕ). ValueAt z name k u x.0) (eqb-true w v q) x.1), x.2)
      go false q = absurd (true≢false (sym (ap not (e ∙ q)) ∙ a))

  -- a move whose source lacks the key
  pub move_held : (target : ℕ) (b : Bool) (own new : Writes) → HoldsKey z name k b own new → has_key k (map_of name (catalogue_of z)) ≡ false
      → HoldsReply (Move name target k) z No own new
  move_held target false own new x a = (x.0, move_from_none name target k x.0 x.1, x.2)
  move_held target true own new x a = absurd (true≢false (sym (tells_here true x.0 x.1) ∙ a))

  -- and one whose target has it
  pub moved_held : (source : ℕ) (b : Bool) (own new : Writes) → HoldsKey z name k b own new → has_key k (map_of source (catalogue_of z)) ≡ true
      → applies (Move source name k) (catalogue_of z) ≡ false → HoldsReply (Move source name k) z No own new
  moved_held source true own new x there a = (x.0, move_to_one source name k x.0 x.1, x.2)
  moved_held source false own new x there a =
      absurd (true≢false (sym (both _ _ there (tells_here false x.0 x.1)) ∙ a))
    where
      both : (p q : Bool) → p ≡ true → q ≡ false → p && not q ≡ true
      both true false e f = refl
      both true true e f = absurd (cc)
      both false q e f = absurd (cc)

-- what is held after a search, which leaves the view as it was
pub key_after : (name k : ℕ) (b : Bool) (a z : State) (mid own new : Writes) → a ≡ z → mid ≡ own → HoldsKey a name k b mid new
    → HoldsKey z name k b own new
key_after name k b a z mid own new e f h =
    subst (λ (s : State). HoldsKey s name k b own new) e (subst (λ (w : Writes). HoldsKey a name k b w new) f h)

pub held_after : (command : Command) (answer : Reply) (a z : State) (mid own new : Writes) → a ≡ z → mid ≡ own → HoldsReply command a answer mid new
    → HoldsReply command z answer own new
held_after command answer a z mid own new e f h =
    subst (λ (s : State). HoldsReply command s answer own new) e (subst (λ (w : Writes). HoldsReply command a answer w new) f h)

-- what changes nothing plans what it holds
pub turn_kept : (command : Command) (s : State) (answer : Reply) (own new : Writes) → HoldsReply command s answer own new
    → (ws : Writes) × StepPlan command s ws answer false × (new ≡ merged own ws)
turn_kept command s answer own new h = (holding s h.0, keeping h.0 answer h.1, h.2)

-- where a command isn't full and changes nothing there is nothing for it to change
pub nothing_applies : (command : Command) (s : State) → changes_in command s false ≡ false → is_full (reply_in command s false) ≡ false
    → applies command (catalogue_of s) ≡ false
nothing_applies command s none opens = by command none opens
  where
    either : (a o : Bool) → a && not o && not false ≡ false → is_full (cond a (cond o Full (cond false Worn Yes)) No) ≡ false → a ≡ false
    either false o e n = refl
    either true true e n = absurd (true≢false n)
    either true false e n = absurd (true≢false e)

    by : (x : Command) → changes_in x s false ≡ false → is_full (reply_in x s false) ≡ false → applies x (catalogue_of s) ≡ false
    by (Add name key) e n = either (applies (Add name key) (catalogue_of s)) (overflows (Add name key) (catalogue_of s) (capacity s)) e n
    by (Put name key v) e n = either (applies (Put name key v) (catalogue_of s)) (overflows (Put name key v) (catalogue_of s) (capacity s)) e n
    by (Del name key) e n = either (applies (Del name key) (catalogue_of s)) (overflows (Del name key) (catalogue_of s) (capacity s)) e n
    by (Move source target key) e n =
        either (applies (Move source target key) (catalogue_of s)) (overflows (Move source target key) (catalogue_of s) (capacity s)) e n
    by _ e n = refl

full_is : (r : Reply) → is_full r ≡ true → r ≡ Full
full_is Full e = refl
full_is _ e = absurd (true≢false (sym e))

pub is_full_there : (command : Command) (s : State) (r : Reply) → r ≡ reply_in command s false → is_full r ≡ true → reply_in command s false ≡ Full
is_full_there command s r e f = sym e ∙ full_is r f

-- what a set tells of a key, and of its value
pub has_turn : (s : State) (name k : ℕ) (b : Bool) (own new : Writes) (answer : Reply) → HoldsKey s name k b own new → answer ≡ cond b Yes No
    → (ws : Writes) × StepPlan (Has name k) s ws answer false × (new ≡ merged own ws)
has_turn s name k b own new answer x e =
    subst (λ (r : Reply). (ws : Writes) × StepPlan (Has name k) s ws r false × (new ≡ merged own ws)) (sym e) (by b x)
  where
    by : (c : Bool) → HoldsKey s name k c own new → (ws : Writes) × StepPlan (Has name k) s ws (cond c Yes No) false × (new ≡ merged own ws)
    by true x = turn_kept (Has name k) s Yes own new (x.0, has_yes name k x.0 x.1, x.2)
    by false x = turn_kept (Has name k) s No own new (x.0, has_no name k x.0 x.1, x.2)

pub get_turn : (s : State) (name k : ℕ) (r : Option ℕ) (own new : Writes) (answer : Reply) → HoldsValue s name k r own new → answer ≡ value_reply r
    → (ws : Writes) × StepPlan (Get name k) s ws answer false × (new ≡ merged own ws)
get_turn s name k r own new answer x e =
    subst (λ (a : Reply). (ws : Writes) × StepPlan (Get name k) s ws a false × (new ≡ merged own ws)) (sym e) (by r x)
  where
    by : (c : Option ℕ) → HoldsValue s name k c own new → (ws : Writes) × StepPlan (Get name k) s ws (value_reply c) false × (new ≡ merged own ws)
    by None x = turn_kept (Get name k) s NoKey own new (x.0, get_none name k x.0 x.1, x.2)
    by (Some v) x = turn_kept (Get name k) s (Value v) own new (x.0, get_value name k v x.0 x.1, x.2)

-- fewer nodes are vacant than there are objects
count_most : (ws : State) → count_vacant ws ≤ length ws
count_most [] = omega arith
count_most (w ∷ ws) = one (slice_index_or w 0 0 == 0) (count_most ws)
  where
    one : (b : Bool) → count_vacant ws ≤ length ws → cond b 1 0 + count_vacant ws ≤ suc (length ws)
    one true l = omega arith
    one false l = omega arith

pub vacant_few : (s : State) → IsLawful s → vacant_nodes s < length s
vacant_few s l =
    let most : count_vacant (drop 180 s) ≤ length (drop 180 s) = count_most (drop 180 s) in
    let len : length (drop 180 s) ≡ length s - 180 = length-drop 180 s in
    let some : 180 < length s = l.some in
    omega arith

-- What a search leaves of what is planned over a view, where it plans nothing.
module _ {V : Type 0} (o mid : Overlay V) (as_before : take mid.count mid.writes ≡ take o.count o.writes) where
  -- as many are planned as before
  pub count_same : mid.count ≡ o.count
  count_same =
      let a : length (take mid.count mid.writes) ≡ mid.count = length-take-le mid.count mid.writes (omega (arith, mid.whole, mid.few)) in
      let b : length (take o.count o.writes) ≡ o.count = length-take-le o.count o.writes (omega (arith, o.whole, o.few)) in
      sym a ∙ ap length as_before ∙ b

  -- the state is the one before
  pub state_same : (state : V → State) → state mid.view ≡ state o.view
      → written (state mid.view) (take mid.count mid.writes) ≡ written (state o.view) (take o.count o.writes)
  state_same state same = ap₂ (λ (s : State) (w : Writes). written s w) same as_before

  -- there is room for as many as before,
  pub room_after : (j i : ℕ) → o.count + i ≤ 40 → j ≤ i → mid.count + j ≤ 40
  room_after j i room few = let same = count_same in omega arith

  -- and what is planned after it is as much more
  pub more_after : (j i k : ℕ) → k ≤ mid.count + j → j ≤ i → k ≤ o.count + i
  more_after j i k most few = let same = count_same in omega arith

-- and a plan writes no more than it counts
pub count_plan : (ws made : Writes) (n : ℕ) → made ≡ take n ws → length made ≤ n
count_plan ws made n e =
    let a : length (take n ws) ≡ min n (length ws) = length-take n ws in
    let b : length made ≡ length (take n ws) = ap length e in
    omega arith

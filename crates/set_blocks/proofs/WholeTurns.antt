-- What a block replies and changes in a state, from the turns of its commands.
use Rattle.set_blocks.proofs.Terms.{subst, true≢false, arith, list_any, list_any-append, State, Writes, written, length-written, Command, Size, Next, Reply}
use Rattle.set_blocks.proofs.Terms.{Full, Worn, Maps, catalogue_of, IsLawful, reply, next, capacity, reply_in, changes_in, stands_alone, IsBlock, replies_in}
use Rattle.set_blocks.proofs.Terms.{block_changes_in, IsBlockFound, found_by, HoldPlan, StepPlan, BlockPlan, has_yes, changing, keeping, nothing_yet, one_more}
use Rattle.set_blocks.proofs.Terms.{turn_replies, after_turns, some_changes, is_full, some_full, would_change, Settled, Open, ◌≡◌, ◌-◌, ◌&&◌, ◌||◌, ◌∷◌, ◌++◌}
use Rattle.set_blocks.proofs.Terms.{ℕ, Bool, true, false, not, cond, List, [], length, replicate, get_or, refl, sym, ap, ap₂, ◌∙◌}
use Rattle.set_blocks.specs.declared.finding.TurnReplies.{TurnReplies}
use Rattle.set_blocks.proofs.Planning.{plan_runs}
use Rattle.set_blocks.proofs.Remaining.{remains_itself}
use Rattle.set_blocks.proofs.SingleBlocks.{one_replies, one_changes}
use Rattle.set_blocks.proofs.Stepping.{Ran}

-- what is planned in a state is so there
pub ran_here : (s : State) (commands : List Command) (ws : Writes) (said : List Reply) (b : Bool) → IsLawful s → BlockPlan s commands ws said b
    → Ran commands said b ws s s ws
ran_here s commands ws said b l plan = (plan_runs s commands ws said b l plan).runs ws s (λ o t. t) (remains_itself ws s l)

-- no reply of a plan is full
hold_unfull : (s : State) (command : Command) (os : List ℕ) (answer : Reply) → HoldPlan s command os answer → is_full answer ≡ false
hold_unfull s command os answer (has_yes _ _ _ _) = refl
hold_unfull s command os answer _ = refl

step_unfull : (s : State) (command : Command) (ws : Writes) (answer : Reply) (c : Bool) → StepPlan command s ws answer c → is_full answer ≡ false
step_unfull s command ws answer c (changing _ _ _) = refl
step_unfull s command ws answer c (keeping os said hold) = hold_unfull s command os said hold

pub none_full : (s : State) (commands : List Command) (ws : Writes) (said : List Reply) (b : Bool) → BlockPlan s commands ws said b
    → list_any is_full said ≡ false
none_full s commands ws said b nothing_yet = refl
none_full s commands ws said b (one_more before own answers c command more answer d plan range step) =
    list_any-append is_full answers (answer ∷ [])
    ∙ ap₂ (λ x y. x || (y || false)) (none_full s before own answers c plan) (step_unfull (written s own) command more answer d step)

-- From what the commands of a block reply at their turns, of which none is full, to what the block replies.
module _ (commands : List Command) (u : State) (said : List Reply) (b : Bool) (turns : turn_replies commands (catalogue_of u) (capacity u) ≡ said)
    (some : some_changes commands (catalogue_of u) (capacity u) ≡ b) (room : list_any is_full said ≡ false) where
  unfull : some_full commands (catalogue_of u) (capacity u) ≡ false
  unfull = ap (list_any is_full) turns ∙ room

  would : would_change commands (catalogue_of u) (capacity u) ≡ b
  would = ap₂ (λ x y. not x && y) unfull some

  chosen : (f w : Bool) (x y z : List Reply) → f ≡ false → w ≡ false → z ≡ cond f x (cond w y z)
  chosen false false x y z e q = refl
  chosen true w x y z e q = absurd (true≢false e)
  chosen false true x y z e q = absurd (true≢false q)

  -- those of its commands, where it changes nothing or it is not the last time
  pub replies_turned : (last : Bool) → b && last ≡ false → said ≡ replies_in commands u last
  replies_turned last e =
      sym turns
      ∙ chosen (some_full commands (catalogue_of u) (capacity u)) (would_change commands (catalogue_of u) (capacity u) && last)
      (replicate (length commands) Full) (replicate (length commands) Worn) (turn_replies commands (catalogue_of u) (capacity u)) unfull
      (ap (λ x. x && last) would ∙ e)

  pub changes_turned : block_changes_in commands u false ≡ b && true
  changes_turned = ap (λ x. x && true) would

-- What is planned for a block is found.
pub plan_found : (s : State) (commands : List Command) (ws : Writes) (turns : TurnReplies) → IsLawful s → BlockPlan s commands ws turns.replies turns.changes
    → IsBlockFound commands s ws (found_by turns)
plan_found s commands ws turns l plan = by turns.replies turns.changes plan
  where
    by : (said : List Reply) (b : Bool) → BlockPlan s commands ws said b → IsBlockFound commands s ws (cond b (Open said) (Settled said))
    by said true plan =
        let r = ran_here s commands ws said true l plan in
        let n = none_full s commands ws said true plan in (
          replies_turned commands s said true r.answers_are r.changing_is n false refl,
          changes_turned commands s said true r.answers_are r.changing_is n,
          plan,
        )
    by said false plan =
        let r = ran_here s commands ws said false l plan in
        let n = none_full s commands ws said false plan in (
          λ last. replies_turned commands s said false r.answers_are r.changing_is n last refl,
          changes_turned commands s said false r.answers_are r.changing_is n,
        )

-- A block of which a command is full at its turn.
turn_replies-append : (front rest : List Command) (c : Maps) (n : ℕ)
    → turn_replies (front ++ rest) c n ≡ turn_replies front c n ++ turn_replies rest (after_turns front c n) n
turn_replies-append [] rest c n = refl
turn_replies-append (x ∷ front) rest c n =
    ap (λ rs. reply x c n false ∷ rs) (turn_replies-append front rest (next x c n false) n)

any_right : (x y : Bool) → y ≡ true → x || y ≡ true
any_right true y e = refl
any_right false y e = e

pub full_at : (s : State) (front : List Command) (command : Command) (rest : List Command) (own : Writes) (said : List Reply) (b : Bool) → IsLawful s
    → BlockPlan s front own said b → reply_in command (written s own) false ≡ Full
    → some_full (front ++ command ∷ rest) (catalogue_of s) (capacity s) ≡ true
full_at s front command rest own said b l plan e =
    let c : Maps = catalogue_of s in
    let m : ℕ = capacity s in
    let r = ran_here s front own said b l plan in
    let here : reply command (after_turns front (catalogue_of s) (capacity s)) (capacity s) false ≡ Full =
    ap (λ (x : Maps). reply command x (capacity s) false) (sym r.leaves)
    ∙ ap (λ (n : ℕ). reply command (catalogue_of (written s own)) (n - 180) false) (sym (length-written s own)) ∙ e in
    ap (list_any is_full) (turn_replies-append front (command ∷ rest) (catalogue_of s) (capacity s))
    ∙ list_any-append is_full (turn_replies front (catalogue_of s) (capacity s))
    (turn_replies (command ∷ rest) (after_turns front (catalogue_of s) (capacity s)) (capacity s))
    ∙ any_right _ _
    (ap (λ (x : Reply). is_full x
    || list_any is_full (turn_replies rest (next command (after_turns front (catalogue_of s) (capacity s)) (capacity s) false) (capacity s))) here)

pub full_found : (s : State) (commands : List Command) (ws : Writes) (said : List Reply) → some_full commands (catalogue_of s) (capacity s) ≡ true
    → said ≡ replicate (length commands) Full → IsBlockFound commands s ws (Settled said)
full_found s commands ws said e is = (
  λ last. is ∙ full (some_full commands (catalogue_of s) (capacity s)) _ _ e,
  ap (λ x. (not x && some_changes commands (catalogue_of s) (capacity s)) && true) e,
)
  where
    full : (f : Bool) (x y : List Reply) → f ≡ true → x ≡ cond f x y
    full true x y e = refl
    full false x y e = absurd (true≢false (sym e))

-- A block of one command that reads a whole set.
alone_unchanging : (command : Command) (s : State) → stands_alone command ≡ true → changes_in command s false ≡ false
alone_unchanging (Size name) s e = refl
alone_unchanging (Next name key) s e = refl
alone_unchanging _ s e = absurd (true≢false (sym e))

alone_reply : (command : Command) (s : State) (last : Bool) → stands_alone command ≡ true → reply_in command s false ≡ reply_in command s last
alone_reply (Size name) s last e = refl
alone_reply (Next name key) s last e = refl
alone_reply _ s last e = absurd (true≢false (sym e))

pub alone_found : (s : State) (commands : List Command) (command : Command) (ws : Writes) (answer : Reply) (said : List Reply)
    → commands ≡ command ∷ [] → stands_alone command ≡ true → answer ≡ reply_in command s false → said ≡ replicate 1 answer
    → IsBlockFound commands s ws (Settled said)
alone_found s commands command ws answer said one alone is e =
    subst (λ (cs : List Command). IsBlockFound cs s ws (Settled said)) (sym one) (
      λ last. e ∙ ap (λ (r : Reply). r ∷ []) (is ∙ alone_reply command s last alone) ∙ sym (one_replies command (catalogue_of s) (capacity s) last),
      one_changes command (catalogue_of s) (capacity s) false ∙ alone_unchanging command s alone,
    )

or_none : (b : Bool) → b || false ≡ true → b ≡ true
or_none true e = refl
or_none false e = e

pub alone_first : (commands : List Command) (d : Command) → IsBlock commands → list_any stands_alone commands ≡ true
    → (commands ≡ get_or commands 0 d ∷ []) × (stands_alone (get_or commands 0 d) ≡ true)
alone_first [] d b e = absurd (true≢false (sym e))
alone_first (x ∷ []) d b e = (refl, or_none (stands_alone x) e)
alone_first (x ∷ (y ∷ xs)) d b e = absurd (true≢false (sym e ∙ b.apart (omega arith)))

-- at the last time no block changes anything
unchanging_late : (commands : List Command) (s : State) → block_changes_in commands s true ≡ false
unchanging_late commands s = none (would_change commands (catalogue_of s) (capacity s))
  where
    none : (b : Bool) → b && false ≡ false
    none true = refl
    none false = refl

-- what changes nothing changes nothing at the last time either
pub unchanging_any : (commands : List Command) (s : State) (last : Bool) → block_changes_in commands s false ≡ false
    → block_changes_in commands s last ≡ false
unchanging_any commands s true e = unchanging_late commands s
unchanging_any commands s false e = e

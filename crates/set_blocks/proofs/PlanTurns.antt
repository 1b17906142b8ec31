-- What is planned for commands one after another, by a turn more.
use Rattle.std.proofs.Math.Seq.{split_at}
use Rattle.std.proofs.Common.{◌≡◌, ◌+◌, ◌<◌, ◌||◌, ◌∷◌, ◌++◌, ℕ, suc, Bool, true, false, List, [], length, take, drop, get_or, sym, ap, ◌∙◌, subst}
use Rattle.set_blocks.proofs.Terms.{Some, None, take_more, State, Writes, written, Command, Reply, catalogue_of}
use Rattle.set_blocks.proofs.Terms.{IsLawful, capacity, IsInRange, merged, StepPlan, BlockPlan, nothing_yet, one_more, some_full, TurnsTo}
use Rattle.set_blocks.specs.declared.turns.TurnReply.{TurnReply}
use Rattle.set_blocks.proofs.WholeTurns.{ran_here, full_at}

-- before the first turn nothing is planned
pub planned_none : (s : State) (ws : Writes) (n : ℕ) (said : List Reply) → n ≡ 0 → said ≡ [] → BlockPlan s [] (take n ws) said false
planned_none s ws n said e f =
    subst (λ (rs : List Reply). BlockPlan s [] (take n ws) rs false) (sym f)
    (subst (λ (m : ℕ). BlockPlan s [] (take m ws) [] false) (sym e) nothing_yet)

-- The turn of the command of an index, where those before it are planned, over a view that shows the same state.
module _ (s mid : State) (commands : List Command) (i : ℕ) (d command : Command) (own : Writes) (answers : List Reply) (b : Bool) (l : IsLawful s)
    (same : mid ≡ s) (lt : i < length commands) (is : get_or commands i d ≡ command) (plan : BlockPlan s (take i commands) own answers b) where
  pub lawful_next : IsLawful (written mid own)
  lawful_next = subst (λ (u : State). IsLawful (written u own)) (sym same) (ran_here s (take i commands) own answers b l plan).remains.lawful

  pub planned_next : (turn : TurnReply) (new : Writes) (said : List Reply) (c : Bool) → IsInRange command
      → TurnsTo command (written mid own) (Some turn) own new
      → said ≡ answers ++ turn.reply ∷ [] → c ≡ b || turn.changes → BlockPlan s (take (i + 1) commands) new said c
  planned_next turn new said c range t told changes =
      let step : StepPlan command (written s own) t.0 turn.reply turn.changes =
      subst (λ (u : State). StepPlan command (written u own) t.0 turn.reply turn.changes) same t.1 in
      let more : take (i + 1) commands ≡ take i commands ++ command ∷ [] =
      take_more commands i d lt ∙ ap (λ (x : Command). take i commands ++ x ∷ []) is in
      let whole = one_more (take i commands) own answers b command t.0 turn.reply turn.changes plan range step in
      subst (λ (cs : List Command). BlockPlan s cs new said c) (sym more)
      (subst (λ (w : Writes). BlockPlan s (take i commands ++ command ∷ []) w said c) (sym t.2)
      (subst (λ (rs : List Reply). BlockPlan s (take i commands ++ command ∷ []) (merged own t.0) rs c) (sym told)
      (subst (λ (x : Bool). BlockPlan s (take i commands ++ command ∷ []) (merged own t.0) (answers ++ turn.reply ∷ []) x) (sym changes) whole)))

  pub full_next : (new : Writes) → TurnsTo command (written mid own) None own new → some_full commands (catalogue_of s) (capacity s) ≡ true
  full_next new t =
      let parts : commands ≡ take i commands ++ command ∷ drop (suc i) commands =
      split_at commands i d lt ∙ ap (λ (x : Command). take i commands ++ x ∷ drop (suc i) commands) is in
      subst (λ (cs : List Command). some_full cs (catalogue_of s) (capacity s) ≡ true) (sym parts)
      (full_at s (take i commands) command (drop (suc i) commands) own answers b l plan
      (subst (λ (u : State). TurnsTo command (written u own) None own new) same t))

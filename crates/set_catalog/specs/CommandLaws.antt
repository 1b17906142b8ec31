-- That what is known stays known, and that a commit of a command makes what it should.
use Rattle.std.specs.Prelude.{ℕ, ◌≡◌, ◌-◌, ◌<◌, Some, List, refl, false}
use Rattle.std.proofs.Common.{sym, ap, ◌∙◌, subst, arith}
use Rattle.mv_history.specs.State.{State, Writes, written, state_at}
use Rattle.mv_history.specs.Meaning.{Seat, state_of_time}
use Rattle.mv_history.specs.Calls.{Continues}
use Rattle.mv_history.proofs.Steps.{length-seen, state_at-later}
use Rattle.set_model.specs.Rules.{MakesSome, IsSetCommit}
use Rattle.set_model.specs.Tags.{tag_of, command_of}
use Rattle.set_model.specs.declared.commands.Command.{Command}
use Rattle.set_model.specs.declared.commands.Command.TheVariants.{Add, Put, Del, Has, Get, Move, Pair, Size, Next}
use Rattle.set_catalog.specs.declared.shortage.Shortage.{Shortage}
use Rattle.set_catalog.specs.Picks.{vacant_nodes}
use Rattle.set_catalog.specs.Plans.{PlanWithin, PlanOf}
use Rattle.set_catalog.specs.Replies.{reply_in}
use Rattle.set_catalog.specs.Shortages.{IsKnown}
use Rattle.set_catalog.specs.CommandMeaning.{PlansCommand}
use Rattle.set_catalog.specs.declared.command_work.CommandAnswer.{CommandAnswer}

-- What is known stays known.
pub known_later : {a b : Seat} (k : Shortage) → Continues a b → IsKnown a k → IsKnown b k
known_later {a} {b} k p h =
    let same : state_of_time b k.time ≡ state_of_time a k.time =
    ap (λ (n : ℕ). state_at b.start b.seen (k.time - n)) p.base ∙ state_at-later p (k.time - a.base) h.seen in
    record {
      seen = omega (arith, p.base, length-seen p, h.seen);
      few = subst (λ (u : State). vacant_nodes u < k.few) (sym same) h.few;
    }

-- the tag of a command that changes something stands for it
pub tag_stands_within : (most : ℕ) (command : Command) (s : State) (ws : Writes) → PlanWithin most command s ws → command_of (tag_of command) ≡ Some command
tag_stands_within most (Add name key) s ws p = refl
tag_stands_within most (Put name key value) s ws p = refl
tag_stands_within most (Del name key) s ws p = refl
tag_stands_within most (Has name key) s ws p = absurd p
tag_stands_within most (Get name key) s ws p = absurd p
tag_stands_within most (Move source target key) s ws p = refl
tag_stands_within most (Pair first second key) s ws p = absurd p
tag_stands_within most (Size name) s ws p = absurd p
tag_stands_within most (Next name key) s ws p = absurd p

pub tag_stands : (command : Command) (s : State) (ws : Writes) → PlanOf command s ws → command_of (tag_of command) ≡ Some command
tag_stands command s ws p = tag_stands_within 0 command s ws p

-- A commit of a command has the reply of the state just before it.
pub makes_command : (most : ℕ) (command : Command) (s before : State) (tag : List ℕ) (ws : Writes) (answer : CommandAnswer)
    → PlansCommand most command s tag ws answer
    → IsSetCommit tag before ws → answer.reply ≡ reply_in command before false
makes_command most command s before tag ws answer p a =
    let m = subst (λ u. MakesSome u before (written before ws)) (ap command_of p.tagged ∙ tag_stands_within most command s ws p.plan) a.makes in
    p.said ∙ sym m.answer

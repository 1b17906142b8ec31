-- That a commit of a command makes what it should.
use Rattle.std.proofs.Common.{◌≡◌, sym, ap, ◌∙◌, subst}
use Rattle.grow_hash.specs.Terms.{ℕ, Some, List, refl, false, State, Writes, written, tag_of, Command, Add, Del, Reply}
use Rattle.grow_hash.specs.GrowRules.{makes, growing_of, MakesGrown, Grows, IsGrowCommit}
use Rattle.grow_hash.specs.GrowPlans.{GrowPlan, IsOfGrown}
use Rattle.grow_hash.specs.GrowReplies.{reply_grown}
use Rattle.grow_hash.specs.GrowMeaning.{PlansGrown}

-- the tag of a command that changes something stands for it
tag_stands : (levels : ℕ) (command : Command) (s : State) (ws : Writes) → IsOfGrown command → GrowPlan levels command s ws
    → growing_of (tag_of command) ≡ Some (makes command)
tag_stands levels (Add name key) s ws e p = subst (λ n. growing_of (tag_of (Add n key)) ≡ Some (makes (Add n key))) (sym e) refl
tag_stands levels (Del name key) s ws e p = subst (λ n. growing_of (tag_of (Del n key)) ≡ Some (makes (Del n key))) (sym e) refl
tag_stands levels _ s ws e p = absurd p

pub makes_grown : (levels : ℕ) (command : Command) (s before : State) (tag : List ℕ) (ws : Writes) (answer : Reply) → IsOfGrown command
    → PlansGrown levels command s tag ws answer
    → IsGrowCommit levels tag before ws → (answer ≡ reply_grown levels command before false) × MakesGrown levels command before (written before ws)
makes_grown levels command s before tag ws answer names p a =
    let m : MakesGrown levels command before (written before ws) =
    subst (λ u. Grows levels u before (written before ws) ws) (ap growing_of p.tagged ∙ tag_stands levels command s ws names p.plan) a.grows in
    (p.said ∙ sym m.answer, m)

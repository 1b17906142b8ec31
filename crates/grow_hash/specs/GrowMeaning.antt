-- What a command on a growing hash set means, as a work.
use Rattle.std.specs.Prelude.{◌≡◌}
use Rattle.grow_hash.specs.Terms.{ℕ, true, false, List, State, Writes, tag_of, Command, Reply, Yes, Meaning}
use Rattle.grow_hash.specs.GrowRules.{MakesGrown}
use Rattle.grow_hash.specs.GrowPlans.{GrowPlan, grow_locks}
use Rattle.grow_hash.specs.GrowReplies.{reply_grown, changes_grown}

-- what is planned for it: the change that the command makes, with its tag, and yes once it is made
pub record PlansGrown (levels : ℕ) (command : Command) (s : State) (tag : List ℕ) (ws : Writes) (answer : Reply) : Type 0 where
  pub tagged : tag ≡ tag_of command
  pub plan : GrowPlan levels command s ws
  pub said : answer ≡ Yes

-- A command on a hash set that grows up to 2^levels buckets, as a work.
abbrev pub grow_meaning : ℕ → Command → Meaning Reply
grow_meaning levels command = record {
  most = grow_locks;
  changes = λ s. changes_grown levels command s false ≡ true;
  plans = λ s tag ws answer. PlansGrown levels command s tag ws answer;
  settles = λ s last answer. (answer ≡ reply_grown levels command s last) × (changes_grown levels command s last ≡ false);
  makes = λ before after answer. (answer ≡ reply_grown levels command before false) × MakesGrown levels command before after;
}

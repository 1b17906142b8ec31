-- What was planned for a command on a growing hash set is planned for it as a work.
use Rattle.grow_hash.proofs.Terms.{refl, arith, State, Writes, tag_of, Command, Yes, IsPlanned, IsGrowPlanned, IsGrowCommit, ℕ}
use Rattle.grow_hash.specs.GrowMeaning.{grow_meaning}

pub planned_as : (levels : ℕ) (command : Command) (s : State) (ws : Writes) → IsGrowPlanned levels command s ws
    → IsPlanned (IsGrowCommit levels) (grow_meaning levels command) s (tag_of command) ws Yes
planned_as levels command s ws p = record {
  plan = record { tagged = refl; plan = p.plan; said = refl };
  some = omega (arith, p.locks);
  few = omega (arith, p.locks);
  distinct = p.distinct;
  within = p.within;
  fit = p.fit;
}

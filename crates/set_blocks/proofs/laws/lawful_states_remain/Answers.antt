use Rattle.set_blocks.proofs.Terms.{drifts_itself, allowed_at_once, IsBlockCommit}
use Rattle.set_blocks.proofs.Remaining.{lawful_after, remains_itself, remains_drifts}
use Rattle.set_blocks.proofs.laws.lawful_states_remain.Goals as goal

pub returns : goal.returns
returns c = record {
  lawful = lawful_after;
  itself = λ held s l. (drifts_itself IsBlockCommit held s, remains_itself held s l);
  remains = remains_drifts;
  at_once = allowed_at_once IsBlockCommit;
}

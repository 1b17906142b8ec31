use Rattle.std.proofs.Common.{◌≡◌, map, take, All}
use Rattle.accounts_run.specs.Runs.{HasRoom, asked_of}
use Rattle.accounts_run.proofs.teller.tellers.Given as goal

abbrev pub invariant-loop-one : goal.invariant-loop-one
invariant-loop-one l = record {
  asked : map asked_of l.tellers.items ≡ take l.one-index l.asked;
  new : All HasRoom l.tellers.items;
}

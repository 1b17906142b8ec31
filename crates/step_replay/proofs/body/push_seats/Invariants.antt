use Rattle.std.proofs.Common.{◌≡◌, ◌<◌, All, length}
use Rattle.script_parser.specs.Grammar.{words_in}
use Rattle.step_replay.specs.PlanTexts.{seats_after}
use Rattle.step_replay.proofs.body.push_seats.Given as goal

-- the steps so far and the words left give what the words give
abbrev pub invariant-loop-word : goal.invariant-loop-word
invariant-loop-word l = record {
  rest : seats_after l.seats l.initial.steps.items (words_in l.bytes) ≡ seats_after l.seats l.steps.items (words_in l.rest);
  fit : All (λ seat. seat < l.seats) l.steps.items;
}

abbrev pub decreases-loop-word : goal.decreases-loop-word
decreases-loop-word l = length (words_in l.rest)

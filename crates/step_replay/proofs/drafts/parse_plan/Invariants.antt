use Rattle.std.proofs.Common.{◌≡◌, ◌+◌, drop, length}
use Rattle.script_parser.specs.Grammar.{lines_of}
use Rattle.step_replay.specs.PlanTexts.{said_of, said_after, nothing_said}
use Rattle.step_replay.specs.FitDrafts.{IsFitSaid}
use Rattle.step_replay.proofs.drafts.parse_plan.Given as goal

-- what the lines so far say, and the lines left, give what all lines say
abbrev pub invariant-loop-line : goal.invariant-loop-line
invariant-loop-line l = record {
  counted : l.number ≡ length l.yielded;
  rest : said_after nothing_said 1 (lines_of l.bytes) ≡ said_after (said_of l.draft) (l.number + 1) (drop l.number (lines_of l.bytes));
  fit : IsFitSaid (said_of l.draft);
}

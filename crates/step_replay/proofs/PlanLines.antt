-- One line more of a plan.
use Rattle.std.proofs.Common.{◌≡◌, ℕ, ◌+◌, ◌≤◌, ◌<◌, List, length, get_or, drop, Result, Ok, Err, refl, ap, sym, ◌∙◌, arith}
use Rattle.std.proofs.lemmas.List.{at_drop_more, at_drop_all}
use Rattle.replay_text.specs.replay_rules.declared.plan.PlanKind.{PlanKind}
use Rattle.replay_text.specs.replay_rules.declared.plan.PlanKind.TheVariants as faults
use Rattle.step_replay.specs.declared.heads.Heads.{Heads}
use Rattle.step_replay.specs.declared.heads.Heads.TheVariants.{Seats, Objects, Slots, Base, Whole}
use Rattle.mv_layout.specs.declared.config.Config.{Config}
use Rattle.replay_text.specs.replay_rules.declared.plan.PlanFault.{PlanFault}
use Rattle.replay_text.specs.replay_rules.declared.plan.PlanFault.TheVariants.{At, Memory}
use Rattle.script_parser.specs.Grammar.{◌>>=◌, lines_of, words_of}
use Rattle.step_replay.specs.PlanTexts.{Said, line_taken, at_line, said_after, nothing_said, last_line, finished, planned, Refuses}
use Rattle.replay_text.specs.replay_rules.Plans.{PlanOf}

-- what is refused in front is refused of the whole
Refuses-then : {A B : Type 0} (reading : Result A (ℕ × PlanKind)) (f : A → Result B (ℕ × PlanKind)) (fault : PlanFault) → Refuses reading fault
    → Refuses (reading >>= f) fault
Refuses-then reading f (At line kind) refused = ap (λ r. r >>= f) refused
Refuses-then reading f Memory refused = tt

-- the plan, once all lines are read
abbrev last : List ℕ → Said → Result PlanOf (ℕ × PlanKind)
last text all = at_line (last_line text) (finished all.heads all)

-- what is said with the lines from this one on
abbrev from_line : List ℕ → Said → ℕ → Result Said (ℕ × PlanKind)
from_line text before number = said_after before (number + 1) (drop number (lines_of text))

module _ (text : List ℕ) (before : Said) (number : ℕ)
    (rest : said_after nothing_said 1 (lines_of text) ≡ said_after before (number + 1) (drop number (lines_of text))) where
  -- the line that comes
  turn : (k : ℕ) (line : List ℕ) → number ≡ k → (k < length (lines_of text)) × (line ≡ get_or (lines_of text) k line)
      → said_after nothing_said 1 (lines_of text) ≡ at_line (number + 1) (line_taken before (words_of line)) >>= (λ next. from_line text next (number + 1))
  turn k line same h =
      let at : line ≡ get_or (lines_of text) number line = rw same h.1 in
      rest ∙ at_drop_more (λ lines. said_after before (number + 1) lines) (lines_of text) number line (omega arith)
      ∙ ap (λ l. at_line (number + 1) (line_taken before (words_of l)) >>= (λ next. from_line text next (number + 1))) (sym at)

  pub taken : (k : ℕ) (line : List ℕ) (next : Said) → number ≡ k → (k < length (lines_of text)) × (line ≡ get_or (lines_of text) k line)
      → line_taken before (words_of line) ≡ Ok next
      → said_after nothing_said 1 (lines_of text) ≡ said_after next (number + 1 + 1) (drop (number + 1) (lines_of text))
  taken k line next same h read =
      turn k line same h ∙ ap (λ r. at_line (number + 1) r >>= (λ all. from_line text all (number + 1))) read

  pub refused : (k : ℕ) (line : List ℕ) (fault : PlanFault) → number ≡ k → (k < length (lines_of text)) × (line ≡ get_or (lines_of text) k line)
      → Refuses (at_line (number + 1) (line_taken before (words_of line))) fault → Refuses (planned text) fault
  refused k line fault same h refuses =
      Refuses-then (said_after nothing_said 1 (lines_of text)) (last text) fault
      (rw (turn k line same h)
      (Refuses-then (at_line (number + 1) (line_taken before (words_of line))) (λ next. from_line text next (number + 1)) fault refuses))

  -- all lines are read
  pub done : length (lines_of text) ≤ number → planned text ≡ at_line (last_line text) (finished before.heads before)
  done past = ap (λ r. r >>= last text) (rest ∙ at_drop_all (λ lines. said_after before (number + 1) lines) (lines_of text) number past)

-- where one of the four first lines isn't there
pub unfinished : (heads : Heads) (all : Said) → ((config : Config) → heads ≡ Whole config → ⊥) → finished heads all ≡ Err faults.Word
unfinished Seats all not = refl
unfinished (Objects seats) all not = refl
unfinished (Slots seats objects) all not = refl
unfinished (Base seats objects slots) all not = refl
unfinished (Whole config) all not = absurd (not config refl)

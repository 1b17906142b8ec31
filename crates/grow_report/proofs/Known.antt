-- The turns of each seat in the whole history.
use Rattle.std.proofs.Common.{◌≡◌, ℕ, suc, ◌+◌, ◌-◌, ◌<◌, ◌≤◌, ◌==◌, ◌&&◌, Bool, true, false, List, [], ◌∷◌}
use Rattle.std.proofs.Common.{◌++◌, Option, Some, None, length, map, inl, inr}
use Rattle.std.proofs.Common.{sym, ap, ◌∙◌, subst, arith, length-append}
use Rattle.std.proofs.lemmas.List.{map-append}
use Rattle.std.proofs.lemmas.Option.{slice_get_within}
use Rattle.mv_history.specs.declared.history.Commit.{Commit}
use Rattle.mv_history.specs.declared.history.Entry.{Entry}
use Rattle.mv_history.specs.declared.history.Entry.TheVariants.{Change}
use Rattle.mv_history.specs.State.{commits_of}
use Rattle.mv_history.specs.Meaning.{Seat}
use Rattle.set_model.specs.Replies.{reply, changes, next}
use Rattle.set_model.specs.declared.commands.Command.{Command}
use Rattle.section_work.specs.declared.place.Place.{Place}
use Rattle.section_work.specs.declared.place.Place.TheVariants.{Commit as AtCommit, Read}
use Rattle.set_model.specs.declared.commands.Reply.{Reply}
use Rattle.run_report.specs.declared.line.Line.{Line}
use Rattle.run_report.specs.Order.{time_of}
use Rattle.run_report.specs.Worked.{Past}
use Rattle.run_report.proofs.history.Grown.{longer, made_in, there_longer, state_longer, IsAtOpening, IsKnown, AreKnown}
use Rattle.grow_hash.specs.Tables.{grow_levels, level, split_place}
use Rattle.grow_hash.specs.Grown.{grown_catalogue, grown_capacity}
use Rattle.grow_hash.specs.GrowRules.{split_tag}
use Rattle.grow_hash.specs.SplitCalls.{keys_at_place, most_split}
use Rattle.grow_report.specs.Turns.{GrowPlaceOf, IsSplitOf, CannotSplit, SplitIf, LineAndSplit, TurnsOf, RanGrow, AllRanGrow, line_of, first_place, is_added}
use Rattle.grow_report.specs.Turns.{odd_with}
use Rattle.grow_report.specs.Whole.{AllTurns, flat_turns}

module _ (p : Past) (more : List Entry) where
  pub place_longer : (seat : ℕ) (command : Command) (place : Place) (answer : Reply) (commits : List Commit)
      → GrowPlaceOf p seat command place answer commits → GrowPlaceOf (longer p more) seat command place answer commits
  place_longer seat command (AtCommit time) answer commits placed =
      let made = placed.2 in
      let within = slice_get_within p.entries (time - (p.base + 1)) (Change placed.0) made.there in
      let before = state_longer p more (time - 1) (omega (arith, made.later, within)) in
      let now = state_longer p more time (omega (arith, made.later, within)) in (
        placed.0,
        placed.1,
        record {
          later = made.later;
          there = there_longer p.entries more (time - (p.base + 1)) (Change placed.0) made.there;
          seat_is = made.seat_is;
          tagged = made.tagged;
          answers = made.answers ∙ sym (λ i. reply command (grown_catalogue grow_levels (before i)) (grown_capacity grow_levels p.start) false);
          changing = (λ i. changes command (grown_catalogue grow_levels (before i)) (grown_capacity grow_levels p.start) false) ∙ made.changing;
          leaves = ap (grown_catalogue grow_levels) now ∙ made.leaves
              ∙ sym (λ i. next command (grown_catalogue grow_levels (before i)) (grown_capacity grow_levels p.start) false);
        },
      )
  place_longer seat command (Read time) answer commits placed =
      let read = placed.1 in
      let same = state_longer p more time read.seen in (
        placed.0,
        record {
          after = read.after;
          seen = omega (arith, read.seen, length-append p.entries more);
          answers = read.answers ∙ sym (λ i. reply command (grown_catalogue grow_levels (same i)) (grown_capacity grow_levels p.start) (time == p.last));
          unchanging = (λ i. changes command (grown_catalogue grow_levels (same i)) (grown_capacity grow_levels p.start) (time == p.last)) ∙ read.unchanging;
        },
      )

  split_longer : (seat time : ℕ) (c : Commit) → IsSplitOf p seat time c → IsSplitOf (longer p more) seat time c
  split_longer seat time c h =
      let within = slice_get_within p.entries (time - (p.base + 1)) (Change c) h.there in
      let before = state_longer p more (time - 1) (omega (arith, h.later, within)) in
      record {
        later = h.later;
        there = there_longer p.entries more (time - (p.base + 1)) (Change c) h.there;
        seat_is = h.seat_is;
        tagged = h.tagged ∙ sym (λ i. split_tag (split_place (before i)));
      }

  -- a state that can't be split stays one
  cannot_longer : (time : ℕ) → time ≤ p.base + length p.entries → CannotSplit p time → CannotSplit (longer p more) time
  cannot_longer time seen h =
      let same = state_longer p more time seen in
      elim h [
        | inl whole ↦ inl (ap level same ∙ whole)
        | inr (inl long) ↦ inr (inl (subst (λ s. most_split < keys_at_place s) (sym same) long))
        | inr (inr worn) ↦ inr (inr worn)
      ]

  pub due_longer : (due : Bool) (seat from : ℕ) (next : Option Place) (split : Option ℕ) (commits : List Commit)
      → SplitIf due p seat from next split commits → SplitIf due (longer p more) seat from next split commits
  due_longer false seat from next split commits h = h
  due_longer true seat from next (Some time) commits h = (h.0, h.1, h.2, h.3, split_longer seat time h.0 h.4)
  due_longer true seat from next None commits h =
      (h.0, h.1, h.2, omega (arith, h.3, length-append p.entries more), h.4, cannot_longer h.1 h.3 h.5)

  turns_longer : (seat number before : ℕ) (odd : Bool) (script : List Command) (turns : List LineAndSplit) (commits : List Commit)
      → TurnsOf p seat number before odd script turns commits → TurnsOf (longer p more) seat number before odd script turns commits
  turns_longer seat number before odd [] [] commits h = h
  turns_longer seat number before odd [] (turn ∷ turns) commits h = absurd h
  turns_longer seat number before odd (command ∷ script) [] commits h = absurd h
  turns_longer seat number before odd (command ∷ script) (turn ∷ turns) commits h =
      let here = h.4 in
      let line : Line = turn.line in (
        h.0,
        h.1,
        h.2,
        h.3,
        record {
          by = here.by;
          numbered = here.numbered;
          follows = here.follows;
          place = place_longer seat command line.place line.reply h.0 here.place;
        },
        due_longer (odd && is_added command line.reply) seat (time_of line.place) (first_place turns) turn.split h.1 h.5,
        turns_longer seat (suc number) (time_of line.place) (odd_with odd (is_added command line.reply)) script turns h.2 h.6,
      )

seat_turns : (p : Past) (number : ℕ) (o n : Seat) (script : List Command) (lines : List Line) → IsAtOpening p o → IsKnown p number n
    → (ran : RanGrow o n script lines) → TurnsOf p number 1 p.base false script ran.turns (commits_of number p.entries)
seat_turns p number o n script lines opening known ran =
    made_in (λ q seat before commits. TurnsOf q seat 1 before false script ran.turns commits)
    (λ q more seat before commits h. turns_longer q more seat 1 before false script ran.turns commits h) p number o n ran.commits opening known
    ran.continues ran.mine ran.each

-- each seat's turns are of its script, and the lines are theirs
pub all_turns : (p : Past) (number : ℕ) (olds news : List Seat) (scripts : List (List Command)) (lines : List Line) → AreKnown p number olds news
    → AllRanGrow olds news scripts lines
    → (groups : List (List LineAndSplit)) × (lines ≡ map line_of (flat_turns groups)) × AllTurns p number scripts groups
all_turns p number [] [] [] lines known ran = ([], ran, tt)
all_turns p number [] [] (script ∷ scripts) lines known ran = absurd ran
all_turns p number [] (n ∷ news) [] lines known ran = absurd ran
all_turns p number [] (n ∷ news) (script ∷ scripts) lines known ran = absurd ran
all_turns p number (o ∷ olds) [] [] lines known ran = absurd ran
all_turns p number (o ∷ olds) [] (script ∷ scripts) lines known ran = absurd ran
all_turns p number (o ∷ olds) (n ∷ news) [] lines known ran = absurd ran
all_turns p number (o ∷ olds) (n ∷ news) (script ∷ scripts) lines known ran =
    let own = ran.3 in
    let rest = all_turns p (suc number) olds news scripts ran.1 known.2 ran.4 in (
      own.turns ∷ rest.0,
      ran.2 ∙ (λ i. own.lines_are i ++ rest.1 i) ∙ sym (map-append line_of own.turns (flat_turns rest.0)),
      (seat_turns p number o n script ran.0 known.0 known.1 own, rest.2),
    )

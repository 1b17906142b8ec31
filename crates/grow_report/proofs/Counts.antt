-- How many lines and splits the commits of a history have.
use Rattle.std.proofs.Common.{◌≡◌, ℕ, zero, suc, ◌+◌, ◌*◌, ◌-◌, ◌<◌, ◌≤◌, eqb, Bool, true, false, cond, List, []}
use Rattle.std.proofs.Common.{◌∷◌, ◌++◌, Option, Some, None, length, map}
use Rattle.std.proofs.Common.{inl, inr, refl, sym, ap, ◌∙◌, arith}
use Rattle.std.specs.List.{All, slice_get, flat_map}
use Rattle.std.proofs.lemmas.Bool.{cases_lt}
use Rattle.std.proofs.lemmas.Bool.Decides.{nat_tests}
use Rattle.std.proofs.lemmas.List.{map-append}
use Rattle.std.proofs.lemmas.List.Concat.{flat_map-append}
use Rattle.std.proofs.lemmas.List.Elements.{All-head, All-tail}
use Rattle.std.proofs.lemmas.List.Sums.{sum_by-cons, sum_by-append}
use Rattle.mv_history.specs.declared.history.Commit.{Commit}
use Rattle.mv_history.specs.declared.history.Entry.{Entry}
use Rattle.mv_history.specs.declared.history.Entry.TheVariants.{Rest, Change}
use Rattle.mv_history.specs.State.{maker_of, commits_of}
use Rattle.set_model.specs.declared.commands.Command.{Command}
use Rattle.section_work.specs.declared.place.Place.{Place}
use Rattle.section_work.specs.declared.place.Place.TheVariants.{Commit as AtCommit, Read}
use Rattle.set_model.specs.declared.commands.Reply.{Reply}
use Rattle.set_model.specs.declared.commands.Reply.TheVariants.{Yes}
use Rattle.run_report.specs.declared.line.Line.{Line}
use Rattle.run_report.specs.Order.{time_of}
use Rattle.run_report.specs.Whole.{commit_lines}
use Rattle.run_report.specs.Worked.{Past, state_of_time}
use Rattle.run_report.proofs.history.Counts.{one_if, lines_cons, lines_append, counts_at, read_is_none}
use Rattle.grow_hash.specs.Tables.{split_place}
use Rattle.grow_hash.specs.GrowRules.{growing_of}
use Rattle.grow_hash.specs.Splits.{is_splitting, count_splits}
use Rattle.grow_report.specs.Turns.{GrowPlaceOf, SplitIf, LineAndSplit, TurnsOf, first_place, line_of, is_added, odd_with}
use Rattle.grow_report.specs.Whole.{AllTurns, flat_turns, has_split, turn_splits}
use Rattle.grow_report.proofs.Steps.{line_step, split_steps, turn_steps}
use Rattle.grow_report.proofs.Tags.{command_no_split, split_is_one}

-- the splits of a turn as steps
abbrev pub splits_of : LineAndSplit → List Line
splits_of turn = split_steps turn.line turn.split

-- the steps of turns are their lines and their splits
pub steps_count : (time : ℕ) (turns : List LineAndSplit)
    → commit_lines time (flat_map turn_steps turns) ≡ commit_lines time (map line_of turns) + commit_lines time (flat_map splits_of turns)
steps_count time [] = refl
steps_count time (turn ∷ turns) =
    let same : commit_lines time (line_step turn.line ∷ []) ≡ commit_lines time (turn.line ∷ []) = refl in
    omega (
      arith,
      lines_cons time (line_step turn.line) [],
      lines_cons time turn.line [],
      lines_cons time (line_step turn.line) (splits_of turn ++ flat_map turn_steps turns),
      lines_append time (splits_of turn) (flat_map turn_steps turns),
      steps_count time turns,
      lines_cons time turn.line (map line_of turns),
      lines_append time (splits_of turn) (flat_map splits_of turns),
      same,
    )

module _ (p : Past) (i : ℕ) (c : Commit) (there : slice_get p.entries i ≡ Some (Change c)) where
  -- the commit that stands at this time is this one
  same_commit : (time : ℕ) (d : Commit) → time ≡ p.base + suc i → slice_get p.entries (time - (p.base + 1)) ≡ Some (Change d) → c ≡ d
  same_commit time d at is =
      let place : time - (p.base + 1) ≡ i = omega (arith, at) in
      let here : slice_get p.entries i ≡ Some (Change d) = rw place at is in cc

  -- the line of a command is no split
  line_none : is_splitting (growing_of c.tag) ≡ true → (seat : ℕ) (line : Line) (command : Command) (place : Place) (answer : Reply)
      (commits : List Commit) → line.place ≡ place → GrowPlaceOf p seat command place answer commits → one_if (p.base + suc i) line ≡ 0
  line_none split seat line command (Read time) answer commits at h = read_is_none (p.base + suc i) time line at
  line_none split seat line command (AtCommit time) answer commits at h = elim (cases_lt (one_if (p.base + suc i) line) 1) [
    | inl none ↦ omega (arith, none)
    | inr one ↦
        let when : time ≡ p.base + suc i = ap time_of (sym at ∙ counts_at (p.base + suc i) line one) in
        let same : c ≡ h.0 = same_commit time h.0 when h.2.there in
        let none : is_splitting (growing_of c.tag) ≡ false =
        ap (λ (d : Commit). is_splitting (growing_of d.tag)) same ∙ ap (λ tag. is_splitting (growing_of tag)) h.2.tagged ∙ command_no_split command in
        absurd (cc)
  ]

  lines_none : is_splitting (growing_of c.tag) ≡ true → (seat number before : ℕ) (odd : Bool) (script : List Command) (turns : List LineAndSplit)
      (commits : List Commit) → TurnsOf p seat number before odd script turns commits → commit_lines (p.base + suc i) (map line_of turns) ≡ 0
  lines_none split seat number before odd [] [] commits h = refl
  lines_none split seat number before odd [] (turn ∷ turns) commits h = absurd h
  lines_none split seat number before odd (command ∷ script) [] commits h = absurd h
  lines_none split seat number before odd (command ∷ script) (turn ∷ turns) commits h =
      omega (
        arith,
        lines_cons (p.base + suc i) turn.line (map line_of turns),
        line_none split seat turn.line command turn.line.place turn.line.reply h.0 refl h.4.place,
        lines_none split seat (suc number) (time_of turn.line.place) (odd_with odd (is_added command turn.line.reply)) script turns h.2 h.6,
      )

  -- a split is none of a command
  split_none : is_splitting (growing_of c.tag) ≡ false → (seat : ℕ) (due : Bool) (line : Line) (split : Option ℕ) (turns : List LineAndSplit)
      (made : List Commit) → SplitIf due p seat (time_of line.place) (first_place turns) split made
      → commit_lines (p.base + suc i) (split_steps line split) ≡ 0
  split_none other seat true line None turns made h = refl
  split_none other seat false line None turns made h = refl
  split_none other seat false line (Some time) turns made h = absurd (let none = h.0 in cc)
  split_none other seat true line (Some time) turns made h =
      let step : Line = record { seat = line.seat; number = suc (2 * line.number); place = AtCommit time; reply = Yes } in
      elim (cases_lt (one_if (p.base + suc i) step) 1) [
        | inl none ↦ omega (arith, none, lines_cons (p.base + suc i) step [])
        | inr one ↦
            let when : time ≡ p.base + suc i = ap time_of (counts_at (p.base + suc i) step one) in
            let same : c ≡ h.0 = same_commit time h.0 when h.4.there in
            let yes : is_splitting (growing_of c.tag) ≡ true =
            ap (λ (d : Commit). is_splitting (growing_of d.tag)) same
            ∙ ap (λ tag. is_splitting (growing_of tag)) h.4.tagged
            ∙ split_is_one (split_place (state_of_time p (time - 1))) in
            absurd (cc)
      ]

  splits_none : is_splitting (growing_of c.tag) ≡ false → (seat number before : ℕ) (odd : Bool) (script : List Command) (turns : List LineAndSplit)
      (commits : List Commit) → TurnsOf p seat number before odd script turns commits → commit_lines (p.base + suc i) (flat_map splits_of turns) ≡ 0
  splits_none other seat number before odd [] [] commits h = refl
  splits_none other seat number before odd [] (turn ∷ turns) commits h = absurd h
  splits_none other seat number before odd (command ∷ script) [] commits h = absurd h
  splits_none other seat number before odd (command ∷ script) (turn ∷ turns) commits h =
      omega (
        arith,
        lines_append (p.base + suc i) (splits_of turn) (flat_map splits_of turns),
        split_none other seat _ turn.line turn.split turns h.1 h.5,
        splits_none other seat (suc number) (time_of turn.line.place) (odd_with odd (is_added command turn.line.reply)) script turns h.2 h.6,
      )

  -- so for the turns of all seats
  all_lines_none : is_splitting (growing_of c.tag) ≡ true → (seat : ℕ) (scripts : List (List Command)) (groups : List (List LineAndSplit))
      → AllTurns p seat scripts groups → commit_lines (p.base + suc i) (map line_of (flat_turns groups)) ≡ 0
  all_lines_none split seat [] [] h = refl
  all_lines_none split seat [] (turns ∷ groups) h = absurd h
  all_lines_none split seat (script ∷ scripts) [] h = absurd h
  all_lines_none split seat (script ∷ scripts) (turns ∷ groups) h =
      omega (
        arith,
        ap (commit_lines (p.base + suc i)) (map-append line_of turns (flat_turns groups)),
        lines_append (p.base + suc i) (map line_of turns) (map line_of (flat_turns groups)),
        lines_none split seat 1 p.base false script turns (commits_of seat p.entries) h.0,
        all_lines_none split (suc seat) scripts groups h.1,
      )

  all_splits_none : is_splitting (growing_of c.tag) ≡ false → (seat : ℕ) (scripts : List (List Command)) (groups : List (List LineAndSplit))
      → AllTurns p seat scripts groups → commit_lines (p.base + suc i) (flat_map splits_of (flat_turns groups)) ≡ 0
  all_splits_none other seat [] [] h = refl
  all_splits_none other seat [] (turns ∷ groups) h = absurd h
  all_splits_none other seat (script ∷ scripts) [] h = absurd h
  all_splits_none other seat (script ∷ scripts) (turns ∷ groups) h =
      omega (
        arith,
        ap (commit_lines (p.base + suc i)) (flat_map-append splits_of turns (flat_turns groups)),
        lines_append (p.base + suc i) (flat_map splits_of turns) (flat_map splits_of (flat_turns groups)),
        splits_none other seat 1 p.base false script turns (commits_of seat p.entries) h.0,
        all_splits_none other (suc seat) scripts groups h.1,
      )

  -- a commit with one step has one line, or none where it is a split
  pub one_or_split : (scripts : List (List Command)) (groups : List (List LineAndSplit)) → AllTurns p 0 scripts groups
      → commit_lines (p.base + suc i) (flat_map turn_steps (flat_turns groups)) ≡ 1
      → commit_lines (p.base + suc i) (map line_of (flat_turns groups)) ≡ cond (is_splitting (growing_of c.tag)) 0 1
  one_or_split scripts groups h one = by (is_splitting (growing_of c.tag)) refl
    where
      by : (b : Bool) → is_splitting (growing_of c.tag) ≡ b → commit_lines (p.base + suc i) (map line_of (flat_turns groups)) ≡ cond b 0 1
      by true split = all_lines_none split 0 scripts groups h
      by false other = omega (arith, one, steps_count (p.base + suc i) (flat_turns groups), all_splits_none other 0 scripts groups h)

-- one for a commit that is a split
abbrev one_split : Commit → ℕ
one_split c = cond (is_splitting (growing_of c.tag)) 1 0

-- how many commits are splits
count_in : List Commit → ℕ
count_in [] = 0
count_in (c ∷ cs) = one_split c + count_in cs

count_in-append : (cs ds : List Commit) → count_in (cs ++ ds) ≡ count_in cs + count_in ds
unfolding count_in
count_in-append [] ds = omega arith
count_in-append (c ∷ cs) ds = let rest = count_in-append cs ds in omega (arith, rest)

own_none : (p : Past) (seat : ℕ) (command : Command) (place : Place) (answer : Reply) (commits : List Commit)
    → GrowPlaceOf p seat command place answer commits → count_in commits ≡ 0
unfolding count_in
own_none p seat command (Read time) answer commits h = rw h.0 refl
own_none p seat command (AtCommit time) answer commits h =
    let none : one_split h.0 ≡ 0 = ap (λ tag. cond (is_splitting (growing_of tag)) 1 0) h.2.tagged ∙ ap (λ b. cond b 1 0) (command_no_split command) in
    rw h.1 (omega (arith, none))

split_one : (p : Past) (seat from : ℕ) (due : Bool) (next : _) (split : Option ℕ) (commits : List Commit) → SplitIf due p seat from next split commits
    → count_in commits ≡ cond (has_split split) 1 0
unfolding count_in
split_one p seat from true next None commits h = rw h.0 refl
split_one p seat from false next None commits h = rw h.1 refl
split_one p seat from false next (Some time) commits h = absurd (let none = h.0 in cc)
split_one p seat from true next (Some time) commits h =
    let yes : one_split h.0 ≡ 1 = ap (λ tag. cond (is_splitting (growing_of tag)) 1 0) h.4.tagged in
    rw h.1 (omega (arith, yes))

none_in : count_in [] ≡ 0
unfolding count_in
none_in = refl

-- as many commits of turns are splits as the turns have
turns_count : (p : Past) (seat number before : ℕ) (odd : Bool) (script : List Command) (turns : List LineAndSplit) (commits : List Commit)
    → TurnsOf p seat number before odd script turns commits → count_in commits ≡ turn_splits turns
turns_count p seat number before odd [] [] commits h = ap count_in h ∙ none_in
turns_count p seat number before odd [] (turn ∷ turns) commits h = absurd h
turns_count p seat number before odd (command ∷ script) [] commits h = absurd h
turns_count p seat number before odd (command ∷ script) (turn ∷ turns) commits h =
    omega (
      arith,
      ap count_in h.3,
      count_in-append h.0 (h.1 ++ h.2),
      count_in-append h.1 h.2,
      own_none p seat command turn.line.place turn.line.reply h.0 h.4.place,
      split_one p seat (time_of turn.line.place) _ (first_place turns) turn.split h.1 h.5,
      turns_count p seat (suc number) (time_of turn.line.place) (odd_with odd (is_added command turn.line.reply)) script turns h.2 h.6,
      sum_by-cons (λ (t : LineAndSplit). cond (has_split t.split) 1 0) turn turns,
    )

-- how many splits so many seats from this one on made
sum_seats : ℕ → ℕ → List Entry → ℕ
sum_seats zero seat es = 0
sum_seats (suc n) seat es = count_in (commits_of seat es) + sum_seats n (suc seat) es

sum_none : (n seat : ℕ) → sum_seats n seat [] ≡ 0
unfolding sum_seats count_in
sum_none zero seat = refl
sum_none (suc n) seat = let rest = sum_none n (suc seat) in omega (arith, rest)

sum_rest : (n seat by : ℕ) (es : List Entry) → sum_seats n seat (Rest by ∷ es) ≡ sum_seats n seat es
unfolding sum_seats
sum_rest zero seat by es = refl
sum_rest (suc n) seat by es = ap (λ k. count_in (commits_of seat es) + k) (sum_rest n (suc seat) by es)

-- the commits of another seat are as before
commits_other : (seat : ℕ) (c : Commit) (es : List Entry) → eqb c.seat seat ≡ false → commits_of seat (Change c ∷ es) ≡ commits_of seat es
commits_other seat c es e = ap (λ b. cond b (c ∷ commits_of seat es) (commits_of seat es)) e

commits_own : (seat : ℕ) (c : Commit) (es : List Entry) → eqb c.seat seat ≡ true → commits_of seat (Change c ∷ es) ≡ c ∷ commits_of seat es
commits_own seat c es e = ap (λ b. cond b (c ∷ commits_of seat es) (commits_of seat es)) e

sum_other : (n seat : ℕ) (c : Commit) (es : List Entry) → c.seat < seat → sum_seats n seat (Change c ∷ es) ≡ sum_seats n seat es
unfolding sum_seats
sum_other zero seat c es lt = refl
sum_other (suc n) seat c es lt =
    let apart : eqb c.seat seat ≡ false = grind (arith, nat_tests) in
    (λ i. count_in (commits_other seat c es apart i) + sum_other n (suc seat) c es (omega (arith, lt)) i)

sum_change : (n seat : ℕ) (c : Commit) (es : List Entry) → seat ≤ c.seat → c.seat < seat + n
    → sum_seats n seat (Change c ∷ es) ≡ one_split c + sum_seats n seat es
unfolding sum_seats count_in
sum_change zero seat c es le lt = absurd (omega (arith, le, lt))
sum_change (suc n) seat c es le lt =
    elim (cases_lt seat c.seat) [
      | inl later ↦
          let apart : eqb c.seat seat ≡ false = grind (arith, nat_tests) in
          omega (arith, ap count_in (commits_other seat c es apart), sum_change n (suc seat) c es (omega (arith, later)) (omega (arith, lt)))
      | inr ge ↦
          let same : eqb c.seat seat ≡ true = grind (arith, nat_tests) in
          omega (arith, ap count_in (commits_own seat c es same), sum_other n (suc seat) c es (omega (arith, ge)))
    ]

-- all splits of a history are by its seats
sum_all : (n : ℕ) (es : List Entry) → All (λ e. maker_of e < n) es → sum_seats n 0 es ≡ count_splits es
sum_all n [] all = sum_none n 0
sum_all n (Rest by ∷ es) all = sum_rest n 0 by es ∙ sum_all n es (All-tail (λ e. maker_of e < n) (Rest by) es all)
sum_all n (Change c ∷ es) all =
    let few = All-head (λ e. maker_of e < n) (Change c) es all in
    let rest = sum_all n es (All-tail (λ e. maker_of e < n) (Change c) es all) in
    omega (arith, sum_change n 0 c es (omega arith) (omega (arith, few)), rest)

turns_sum : (p : Past) (seat : ℕ) (scripts : List (List Command)) (groups : List (List LineAndSplit)) → AllTurns p seat scripts groups
    → turn_splits (flat_turns groups) ≡ sum_seats (length scripts) seat p.entries
unfolding sum_seats
turns_sum p seat [] [] h = refl
turns_sum p seat [] (turns ∷ groups) h = absurd h
turns_sum p seat (script ∷ scripts) [] h = absurd h
turns_sum p seat (script ∷ scripts) (turns ∷ groups) h =
    omega (
      arith,
      sum_by-append (λ (t : LineAndSplit). cond (has_split t.split) 1 0) turns (flat_turns groups),
      turns_count p seat 1 p.base false script turns (commits_of seat p.entries) h.0,
      turns_sum p (suc seat) scripts groups h.1,
    )

-- Turns have as many splits as the history.
pub splits_all : (p : Past) (scripts : List (List Command)) (groups : List (List LineAndSplit)) → AllTurns p 0 scripts groups
    → All (λ e. maker_of e < length scripts) p.entries → turn_splits (flat_turns groups) ≡ count_splits p.entries
splits_all p scripts groups h makers = turns_sum p 0 scripts groups h ∙ sum_all (length scripts) p.entries makers

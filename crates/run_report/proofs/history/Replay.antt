-- The replay of ordered lines follows the history: at each line it stands where the history stands at the line's time.
use Rattle.std.proofs.Common.{
  ◌≡◌,
  ℕ,
  suc,
  ◌+◌,
  ◌-◌,
  ◌*◌,
  ◌<◌,
  ◌≤◌,
  ◌==◌,
  false,
  List,
  [],
  ◌∷◌,
  length,
  take,
  Some,
  inl,
  inr,
  refl,
  sym,
  ap,
  ◌∙◌,
  subst,
  arith,
}
use Rattle.std.specs.List.{All, slice_get}
use Rattle.std.proofs.lemmas.Bool.{cases_lt}
use Rattle.std.proofs.lemmas.List.{take_all}
use Rattle.std.proofs.lemmas.List.Elements.{All-nil, All-cons, All-head, All-tail, All-weaker}
use Rattle.mv_history.specs.declared.history.Commit.{Commit}
use Rattle.mv_history.specs.declared.history.Entry.TheVariants.{Change}
use Rattle.mv_history.specs.declared.history.TheConstants.{LAST}
use Rattle.mv_history.specs.State.{State, state_after, state_at}
use Rattle.mv_history.specs.Legal.{IsAllowed}
use Rattle.mv_history.proofs.Writing.{length-state_after}
use Rattle.set_model.specs.Catalogue.{Maps}
use Rattle.set_model.specs.CatalogueOf.{catalogue_of}
use Rattle.set_model.specs.Replies.{reply, changes, next}
use Rattle.set_model.specs.Rules.{capacity, IsSetCommit}
use Rattle.set_model.specs.declared.commands.Command.{Command}
use Rattle.section_work.specs.declared.place.Place.{Place}
use Rattle.section_work.specs.declared.place.Place.TheVariants.{Commit as AtCommit, Read}
use Rattle.run_report.specs.declared.line.Line.{Line}
use Rattle.run_report.specs.Order.{IsOrdered}
use Rattle.run_report.specs.Legal.{Follows, MayStand, Replays, after, is_last, command_of}
use Rattle.run_report.specs.Worked.{Past, PlaceOf}
use Rattle.run_report.specs.Whole.{StandsIn, commit_lines}
use Rattle.run_report.proofs.Replaying.{some_and}
use Rattle.run_report.proofs.history.Changes.{IsQuiet, quiet_same, commit_does}
use Rattle.run_report.proofs.history.Counts.{one_if, lines_cons, counts_at, counts_itself, read_is_none}
use Rattle.run_report.proofs.history.Weights.{weight, ordered_tail, first_least}

-- a line that weighs more than a commit of this time is none
heavier : (time : ℕ) (line : Line) → 2 * time < weight line → one_if time line ≡ 0
heavier time line more = elim (cases_lt (one_if time line) 1) [
  | inl none ↦ omega (arith, none)
  | inr one ↦
      let at = counts_at time line one in
      let is : weight line ≡ 2 * time + 0 = rw at refl in
      absurd (omega (arith, is, more))
]

-- and so is one that weighs less
lighter : (time : ℕ) (line : Line) → weight line < 2 * time → one_if time line ≡ 0
lighter time line less = elim (cases_lt (one_if time line) 1) [
  | inl none ↦ omega (arith, none)
  | inr one ↦
      let at = counts_at time line one in
      let is : weight line ≡ 2 * time + 0 = rw at refl in
      absurd (omega (arith, is, less))
]

all_heavier : (time : ℕ) (lines : List Line) → All (λ line. 2 * time < weight line) lines → commit_lines time lines ≡ 0
all_heavier time [] more = refl
all_heavier time (line ∷ lines) more =
    let first : 2 * time < weight line = All-head (λ l. 2 * time < weight l) line lines more in
    omega (arith, lines_cons time line lines, heavier time line first, all_heavier time lines (All-tail (λ l. 2 * time < weight l) line lines more))

-- where no line counts, none does
none_counts : (time : ℕ) (lines : List Line) → commit_lines time lines ≡ 0 → All (λ line. one_if time line ≡ 0) lines
none_counts time [] none = All-nil (λ line. one_if time line ≡ 0)
none_counts time (line ∷ lines) none =
    All-cons (λ l. one_if time l ≡ 0) line lines (omega (arith, lines_cons time line lines, none))
    (none_counts time lines (omega (arith, lines_cons time line lines, none)))

-- a line that weighs no less than a read follows its time
follows_read : (time : ℕ) (place : Place) (line : Line) → line.place ≡ place → 2 * time + 1 ≤ weight line → Follows time place
follows_read time (AtCommit t) line at le = let is : weight line ≡ 2 * t + 0 = rw at refl in omega (arith, is, le)
follows_read time (Read t) line at le = let is : weight line ≡ 2 * t + 1 = rw at refl in omega (arith, is, le)

-- and so does one that weighs no less than a commit, and isn't it
follows_commit : (time : ℕ) (place : Place) (line : Line) → line.place ≡ place → 2 * time ≤ weight line → one_if time line ≡ 0 → Follows time place
follows_commit time (AtCommit t) line at le none =
    let is : weight line ≡ 2 * t + 0 = rw at refl in
    elim (cases_lt time t) [
      | inl lt ↦ lt
      | inr ge ↦
          let same : t ≡ time = omega (arith, is, le, ge) in
          absurd (omega (arith, none, counts_itself time line (at ∙ ap AtCommit same)))
    ]
follows_commit time (Read t) line at le none = let is : weight line ≡ 2 * t + 1 = rw at refl in omega (arith, is, le)

module _ (p : Past) (Stands : Line → Type 0) where
  -- These lines are left from this time on: they are in order, they stand so, they follow it, and each later commit has one of them.
  pub record IsLeft (t : ℕ) (lines : List Line) : Type 0 where
    pub ordered : IsOrdered lines
    pub stand : All Stands lines
    pub follow : All (λ line. Follows (p.base + t) line.place) lines
    pub left : (i : ℕ) (c : Commit) → t ≤ i → slice_get p.entries i ≡ Some (Change c) → commit_lines (p.base + suc i) lines ≡ 1

  -- no commit lies between the time and the first line
  pub quiet_before : (t u : ℕ) (line : Line) (lines : List Line) → IsLeft t (line ∷ lines) → 2 * (p.base + u) < weight line → IsQuiet p.entries t u
  quiet_before t u line lines left more i c low high there =
      let heavy : 2 * (p.base + suc i) < weight line = omega (arith, more, high) in
      let rest = all_heavier (p.base + suc i) lines (All-weaker (λ l. weight line ≤ weight l) (λ l. 2 * (p.base + suc i) < weight l)
      (λ l le. omega (arith, heavy, le)) lines (first_least line lines left.ordered)) in
      omega (arith, left.left i c low there, lines_cons (p.base + suc i) line lines, heavier (p.base + suc i) line heavy, rest)

  -- after a read the others are left from its time on
  pub left_by_read : (t u time : ℕ) (line : Line) (lines : List Line) → IsLeft t (line ∷ lines) → line.place ≡ Read time → time ≡ p.base + u
      → t ≤ u → IsLeft u lines
  left_by_read t u time line lines left at is le =
      let weighs : weight line ≡ 2 * time + 1 = rw at refl in
      record {
        ordered = ordered_tail line lines left.ordered;
        stand = All-tail Stands line lines left.stand;
        follow = All-weaker (λ l. weight line ≤ weight l) (λ l. Follows (p.base + u) l.place)
            (λ l more. follows_read (p.base + u) l.place l refl (omega (arith, more, weighs, is))) lines (first_least line lines left.ordered);
        left = λ i c low there.
            let none = read_is_none (p.base + suc i) time line at in
            omega (arith, left.left i c (omega (arith, le, low)) there, lines_cons (p.base + suc i) line lines, none);
      }

  -- and after a commit likewise
  pub left_by_commit : (t u time : ℕ) (c : Commit) (line : Line) (lines : List Line) → IsLeft t (line ∷ lines) → line.place ≡ AtCommit time
      → time ≡ p.base + suc u → t ≤ u → slice_get p.entries u ≡ Some (Change c) → IsLeft (suc u) lines
  left_by_commit t u time c line lines left at is le made =
      let weighs : weight line ≡ 2 * time + 0 = rw at refl in
      let counts = counts_itself (p.base + suc u) line (at ∙ ap AtCommit is) in
      let none = none_counts (p.base + suc u) lines (omega (arith, left.left u c le made, lines_cons (p.base + suc u) line lines, counts)) in
      let least = first_least line lines left.ordered in
      record {
        ordered = ordered_tail line lines left.ordered;
        stand = All-tail Stands line lines left.stand;
        follow = λ k d lt. follows_commit (p.base + suc u) _ _ refl (let more = least k d lt in omega (arith, more, weighs, is)) (none k d lt);
        left = λ i c' low there.
            let other : one_if (p.base + suc i) line ≡ 0 = lighter (p.base + suc i) line (omega (arith, weighs, is, low)) in
            omega (arith, left.left i c' (omega (arith, le, low)) there, lines_cons (p.base + suc i) line lines, other);
      }

-- the capacity stays
pub same_capacity : (p : Past) (t : ℕ) → capacity (state_at p.start p.entries t) ≡ capacity p.start
same_capacity p t = ap (λ n. n - 180) (length-state_after p.start (take t p.entries))

module _ (p : Past) (scripts : List (List Command)) where
  -- the state of the history after so many entries
  abbrev at_time : ℕ → State
  at_time t = state_at p.start p.entries t

  -- the catalogue at the end of the history
  abbrev end : Maps
  end = catalogue_of (state_after p.start p.entries)

  -- the line replays where the history stands at this time, and the others from where it stands then
  abbrev Steps : ℕ → Line → Place → List Line → Command → Type 0
  Steps t line place lines command =
      (line.reply ≡ reply command (catalogue_of (at_time t)) (capacity p.start) (is_last place))
      × MayStand place command (catalogue_of (at_time t)) (capacity p.start)
      × Replays scripts (capacity p.start) (after place command (catalogue_of (at_time t)) (capacity p.start)) lines end

  step : IsAllowed IsSetCommit p.start p.entries → p.last ≡ LAST → (t : ℕ) (line : Line) (lines : List Line) (command : Command) (place : Place)
      (commits : List Commit) → line.place ≡ place → IsLeft p (StandsIn p scripts) t (line ∷ lines)
      → PlaceOf p line.seat command place line.reply commits
      → ((u : ℕ) → IsLeft p (StandsIn p scripts) u lines → Replays scripts (capacity p.start) (catalogue_of (at_time u)) lines end)
      → Steps t line place lines command
  step allowed last t line lines command (Read time) commits at left placed rest =
      let read = placed.1 in
      let u : ℕ = time - p.base in
      let follows : p.base + t ≤ time = rw at at (All-head (λ l. Follows (p.base + t) l.place) line lines left.follow) in
      let is : time ≡ p.base + u = omega (arith, read.after) in
      let le : t ≤ u = omega (arith, is, follows) in
      let weighs : weight line ≡ 2 * time + 1 = rw at refl in
      let same = quiet_same p.start p.entries t u le (quiet_before p (StandsIn p scripts) t u line lines left (omega (arith, weighs, is))) in (
        read.answers ∙ (λ i. reply command (catalogue_of (same i)) (capacity p.start) (time == last i)),
        sym (λ i. changes command (catalogue_of (same i)) (capacity p.start) (time == last i)) ∙ read.unchanging,
        subst (λ s. Replays scripts (capacity p.start) (catalogue_of s) lines end) same
            (rest u (left_by_read p (StandsIn p scripts) t u time line lines left at is le)),
      )
  step allowed last t line lines command (AtCommit time) commits at left placed rest =
      let made = placed.2 in
      let u : ℕ = time - (p.base + 1) in
      let follows : p.base + t < time = rw at at (All-head (λ l. Follows (p.base + t) l.place) line lines left.follow) in
      let is : time ≡ p.base + suc u = omega (arith, made.later) in
      let le : t ≤ u = omega (arith, is, follows) in
      let weighs : weight line ≡ 2 * time + 0 = rw at refl in
      let same = quiet_same p.start p.entries t u le (quiet_before p (StandsIn p scripts) t u line lines left (omega (arith, weighs, is))) in
      let does = commit_does p.start p.entries u placed.0 command allowed made.there made.tagged in
      let before : time - 1 - p.base ≡ u = omega (arith, is) in (
        made.answers ∙ (λ i. reply command (catalogue_of ((ap at_time before ∙ same) i)) (capacity p.start) false),
        sym (λ i. changes command (catalogue_of (same i)) (same_capacity p u i) false) ∙ does.changes_it,
        subst (λ m. Replays scripts (capacity p.start) m lines end)
            (does.makes.leaves ∙ (λ i. next command (catalogue_of (same i)) (same_capacity p u i) false))
            (rest (suc u) (left_by_commit p (StandsIn p scripts) t u time placed.0 line lines left at is le made.there)),
      )

  -- the lines that are left replay to the end of the history
  pub replay : IsAllowed IsSetCommit p.start p.entries → p.last ≡ LAST → (t : ℕ) (lines : List Line) → IsLeft p (StandsIn p scripts) t lines
      → Replays scripts (capacity p.start) (catalogue_of (at_time t)) lines end
  replay allowed last t [] left =
      let u : ℕ = t + length p.entries in
      let quiet : IsQuiet p.entries t u = λ i c low high there. omega (arith, left.left i c low there) in
      ap catalogue_of (sym (quiet_same p.start p.entries t u (omega arith) quiet) ∙ ap (state_after p.start) (take_all u p.entries (omega arith)))
  replay allowed last t (line ∷ lines) left =
      some_and (command_of scripts line) (λ command. (commits : List Commit) × PlaceOf p line.seat command line.place line.reply commits)
      (λ command. Steps t line line.place lines command)
      (λ command stands. step allowed last t line lines command line.place stands.0 refl left stands.1 (λ u others. replay allowed last u lines others))
      (All-head (StandsIn p scripts) line lines left.stand)

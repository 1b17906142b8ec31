-- The replay of ordered lines follows the history, between whose commits are splits: at each line it stands where the history stands at
-- the line's time.
use Rattle.std.proofs.Common.{◌≡◌, ℕ, suc, ◌+◌, ◌-◌, ◌*◌, ◌<◌, ◌≤◌, ◌==◌, false, List, [], ◌∷◌, length}
use Rattle.std.proofs.Common.{refl, sym, ap, ◌∙◌, subst, arith}
use Rattle.std.proofs.lemmas.List.{take_all}
use Rattle.std.proofs.lemmas.List.Elements.{All-head}
use Rattle.mv_history.specs.declared.history.Commit.{Commit}
use Rattle.mv_history.specs.declared.history.TheConstants.{LAST}
use Rattle.mv_history.specs.State.{state_after, state_at}
use Rattle.mv_history.specs.Legal.{IsAllowed}
use Rattle.set_model.specs.Catalogue.{Maps}
use Rattle.set_model.specs.Replies.{reply, changes, next}
use Rattle.set_model.specs.declared.commands.Command.{Command}
use Rattle.section_work.specs.declared.place.Place.{Place}
use Rattle.section_work.specs.declared.place.Place.TheVariants.{Commit as AtCommit, Read}
use Rattle.run_report.specs.declared.line.Line.{Line}
use Rattle.run_report.specs.Legal.{Follows, MayStand, Replays, after, is_last, command_of}
use Rattle.run_report.specs.Worked.{Past, state_of_time}
use Rattle.run_report.proofs.Replaying.{some_and}
use Rattle.run_report.proofs.history.Changes.{IsQuiet}
use Rattle.run_report.proofs.history.Replay.{IsLeft, quiet_before, left_by_read, left_by_commit}
use Rattle.run_report.proofs.history.Weights.{weight}
use Rattle.grow_hash.specs.Grown.{grown_catalogue, grown_capacity}
use Rattle.grow_hash.specs.GrowRules.{IsGrowCommit, growing_of}
use Rattle.grow_hash.specs.Splits.{is_splitting}
use Rattle.grow_report.specs.Turns.{GrowPlaceOf}
use Rattle.grow_report.specs.Whole.{GrowStandsIn}
use Rattle.grow_report.proofs.Still.{plain, plain_there, still}
use Rattle.grow_report.proofs.Tags.{command_no_split}
use Rattle.grow_hash.specs.Tables.{grow_levels}

-- the history with its splits as entries that write nothing
abbrev pub plain_past : Past → Past
plain_past p = record { start = p.start; base = p.base; last = p.last; entries = plain p.entries }

module _ (p : Past) (scripts : List (List Command)) where
  -- the catalogue of the history after so many entries, and at its end
  abbrev at_time : ℕ → Maps
  at_time t = grown_catalogue grow_levels (state_at p.start p.entries t)

  abbrev end : Maps
  end = grown_catalogue grow_levels (state_after p.start p.entries)

  abbrev Stands : Line → Type 0
  Stands line = GrowStandsIn p scripts line

  -- these lines are left from this time on
  abbrev pub AreLeft : ℕ → List Line → Type 0
  AreLeft t lines = IsLeft (plain_past p) Stands t lines

  -- the line replays where the history stands at this time, and the others from where it stands then
  abbrev Steps : ℕ → Line → Place → List Line → Command → Type 0
  Steps t line place lines command =
      (line.reply ≡ reply command (at_time t) (grown_capacity grow_levels p.start) (is_last place))
      × MayStand place command (at_time t) (grown_capacity grow_levels p.start)
      × Replays scripts (grown_capacity grow_levels p.start) (after place command (at_time t) (grown_capacity grow_levels p.start)) lines end

  step : IsAllowed (IsGrowCommit grow_levels) p.start p.entries → p.last ≡ LAST → (t : ℕ) (line : Line) (lines : List Line) (command : Command) (place : Place)
      (commits : List Commit) → line.place ≡ place → AreLeft t (line ∷ lines) → GrowPlaceOf p line.seat command place line.reply commits
      → ((u : ℕ) → AreLeft u lines → Replays scripts (grown_capacity grow_levels p.start) (at_time u) lines end)
      → Steps t line place lines command
  step allowed last t line lines command (Read time) commits at left placed rest =
      let read = placed.1 in
      let u : ℕ = time - p.base in
      let follows : p.base + t ≤ time = subst (λ q. Follows (p.base + t) q) at (All-head (λ l. Follows (p.base + t) l.place) line lines left.follow) in
      let is : time ≡ p.base + u = omega (arith, read.after) in
      let le : t ≤ u = omega (arith, is, follows) in
      let weighs : weight line ≡ 2 * time + 1 = rw at refl in
      let same = still p.start p.entries allowed t u le (quiet_before (plain_past p) Stands t u line lines left (omega (arith, weighs, is))) in (
        read.answers ∙ (λ i. reply command (same i) (grown_capacity grow_levels p.start) (time == last i)),
        sym (λ i. changes command (same i) (grown_capacity grow_levels p.start) (time == last i)) ∙ read.unchanging,
        subst (λ m. Replays scripts (grown_capacity grow_levels p.start) m lines end) same
            (rest u (left_by_read (plain_past p) Stands t u time line lines left at is le)),
      )
  step allowed last t line lines command (AtCommit time) commits at left placed rest =
      let made = placed.2 in
      let u : ℕ = time - (p.base + 1) in
      let follows : p.base + t < time = subst (λ q. Follows (p.base + t) q) at (All-head (λ l. Follows (p.base + t) l.place) line lines left.follow) in
      let is : time ≡ p.base + suc u = omega (arith, made.later) in
      let le : t ≤ u = omega (arith, is, follows) in
      let weighs : weight line ≡ 2 * time + 0 = rw at refl in
      let same = still p.start p.entries allowed t u le (quiet_before (plain_past p) Stands t u line lines left (omega (arith, weighs, is))) in
      let before : time - 1 - p.base ≡ u = omega (arith, is) in
      let now : time - p.base ≡ suc u = omega (arith, is) in
      let here : grown_catalogue grow_levels (state_of_time p (time - 1)) ≡ at_time t = ap at_time before ∙ same in
      let leaves : at_time (suc u) ≡ next command (at_time t) (grown_capacity grow_levels p.start) false =
      ap at_time (sym now) ∙ made.leaves ∙ (λ i. next command (here i) (grown_capacity grow_levels p.start) false) in
      let other : is_splitting (growing_of placed.0.tag) ≡ false =
      ap (λ tag. is_splitting (growing_of tag)) made.tagged ∙ command_no_split command in (
        made.answers ∙ (λ i. reply command (here i) (grown_capacity grow_levels p.start) false),
        sym (λ i. changes command (here i) (grown_capacity grow_levels p.start) false) ∙ made.changing,
        subst (λ m. Replays scripts (grown_capacity grow_levels p.start) m lines end) leaves
            (rest (suc u) (left_by_commit (plain_past p) Stands t u time placed.0 line lines left at is le
            (plain_there p.entries u placed.0 other made.there))),
      )

  -- the lines that are left replay to the end of the history
  pub replay : IsAllowed (IsGrowCommit grow_levels) p.start p.entries → p.last ≡ LAST → (t : ℕ) (lines : List Line) → AreLeft t lines
      → Replays scripts (grown_capacity grow_levels p.start) (at_time t) lines end
  replay allowed last t [] left =
      let u : ℕ = t + length p.entries in
      let quiet : IsQuiet (plain p.entries) t u = λ i c low high there. omega (arith, left.left i c low there) in
      sym (still p.start p.entries allowed t u (omega arith) quiet)
      ∙ ap (λ es. grown_catalogue grow_levels (state_after p.start es)) (take_all u p.entries (omega arith))
  replay allowed last t (line ∷ lines) left =
      some_and (command_of scripts line) (λ command. (commits : List Commit) × GrowPlaceOf p line.seat command line.place line.reply commits)
      (λ command. Steps t line line.place lines command)
      (λ command stands. step allowed last t line lines command line.place stands.0 refl left stands.1 (λ u others. replay allowed last u lines others))
      (All-head Stands line lines left.stand)

-- The lines of all scripts, seat by seat: their numbers, their times, and their commits in the history.
use Rattle.std.proofs.Common.{◌≡◌, ℕ, suc, ◌+◌, ◌<◌, List, [], ◌∷◌, ◌++◌, length, map, take, drop, Some, refl}
use Rattle.std.proofs.Common.{sym, ap, ◌∙◌, subst, arith}
use Rattle.std.proofs.Common.{add-one, append_assoc, length-append}
use Rattle.std.specs.List.{All, slice_get, slice_index_or}
use Rattle.std.proofs.lemmas.List.{take-append-drop, map-append}
use Rattle.std.proofs.lemmas.List.Elements.{All-nil, All-append}
use Rattle.std.proofs.Math.Seq.{get_or-append_seam}
use Rattle.mv_history.specs.declared.history.Commit.{Commit}
use Rattle.mv_history.specs.declared.history.Entry.TheVariants.{Change}
use Rattle.mv_history.specs.State.{commits_of}
use Rattle.mv_history.specs.Legal.{IsLegal}
use Rattle.set_model.specs.declared.commands.Command.{Command}
use Rattle.run_report.specs.declared.line.Line.{Line}
use Rattle.run_report.specs.Legal.{EachPair, Follows, IsInTime, IsAlone, id_of, ids_from, ids_of}
use Rattle.run_report.specs.Worked.{Past, LinesOf}
use Rattle.run_report.specs.Whole.{StandsIn, commit_lines}
use Rattle.run_report.proofs.history.Groups as groups
use Rattle.run_report.proofs.history.Groups.{AllSteps, flat}
use Rattle.run_report.proofs.history.Seats.{seat_ids, seat_stands}
use Rattle.run_report.proofs.history.Steps.{lines_steps}

-- Each seat's lines are of its script, from the opening state on, and their commits are all that the seat has in the history.
abbrev pub AllWorked : Past → ℕ → List (List Command) → List Line → Type 0
AllWorked p seat [] lines = lines ≡ []
AllWorked p seat (script ∷ scripts) lines =
    LinesOf p seat 1 p.base script (take (length script) lines) (commits_of seat p.entries)
    × AllWorked p (suc seat) scripts (drop (length script) lines)

-- the lines of each script
groups_of : List (List Command) → List Line → List (List Line)
groups_of [] lines = []
groups_of (script ∷ scripts) lines = take (length script) lines ∷ groups_of scripts (drop (length script) lines)

groups_length : (scripts : List (List Command)) (lines : List Line) → length (groups_of scripts lines) ≡ length scripts
unfolding groups_of
groups_length [] lines = refl
groups_length (script ∷ scripts) lines = ap (λ n. suc n) (groups_length scripts (drop (length script) lines))

module _ (p : Past) where
  all_steps : (seat : ℕ) (scripts : List (List Command)) (lines : List Line) → AllWorked p seat scripts lines
      → AllSteps p seat (groups_of scripts lines)
  unfolding groups_of
  all_steps seat [] lines h = tt
  all_steps seat (script ∷ scripts) lines h = (
    lines_steps p seat 1 p.base script (take (length script) lines) (commits_of seat p.entries) h.0,
    all_steps (suc seat) scripts (drop (length script) lines) h.1,
  )

  all_lines : (seat : ℕ) (scripts : List (List Command)) (lines : List Line) → AllWorked p seat scripts lines → flat (groups_of scripts lines) ≡ lines
  unfolding groups_of
  all_lines seat [] lines h = sym h
  all_lines seat (script ∷ scripts) lines h =
      let n : ℕ = length script in
      ap (λ ls. take n lines ++ ls) (all_lines (suc seat) scripts (drop n lines) h.1) ∙ take-append-drop n lines

  -- the lines are those of the commands, in their order
  pub all_ids : (seat : ℕ) (scripts : List (List Command)) (lines : List Line) → AllWorked p seat scripts lines → map id_of lines ≡ ids_of seat scripts
  all_ids seat [] lines h = ap (map id_of) h
  all_ids seat (script ∷ scripts) lines h =
      let n : ℕ = length script in
      ap (map id_of) (sym (take-append-drop n lines))
      ∙ map-append id_of (take n lines) (drop n lines)
      ∙ rw (seat_ids p seat 1 p.base script (take n lines) (commits_of seat p.entries) h.0)
      (ap (λ (ids : List (ℕ × ℕ)). ids_from seat 1 script ++ ids) (all_ids (suc seat) scripts (drop n lines) h.1))

  -- each line stands in the history, where these scripts are the last of all
  stand_from : (scripts : List (List Command)) (front back : List (List Command)) (lines : List Line) → scripts ≡ front ++ back
      → AllWorked p (length front) back lines → All (StandsIn p scripts) lines
  stand_from scripts front [] lines full h = rw h (All-nil (StandsIn p scripts))
  stand_from scripts front (script ∷ back) lines full h =
      let n : ℕ = length script in
      let is : slice_index_or scripts (length front) [] ≡ script =
      ap (λ (all : List (List Command)). slice_index_or all (length front) []) full ∙ get_or-append_seam front script back [] in
      let long : suc (length front) ≡ length (front ++ script ∷ []) = sym (length-append front (script ∷ []) ∙ add-one (length front)) in
      subst (All (StandsIn p scripts)) (take-append-drop n lines)
      (All-append (StandsIn p scripts) (take n lines) (drop n lines)
      (seat_stands p scripts (length front) p.base [] script (take n lines) (commits_of (length front) p.entries) is h.0)
      (stand_from scripts (front ++ script ∷ []) back (drop n lines) (full ∙ sym (append_assoc front (script ∷ []) back)) (rw long at h.1)))

  pub all_stand : (scripts : List (List Command)) (lines : List Line) → AllWorked p 0 scripts lines → All (StandsIn p scripts) lines
  all_stand scripts lines h = stand_from scripts [] scripts lines refl h

  -- each line follows the time of the opening state
  pub all_follow : (scripts : List (List Command)) (lines : List Line) → AllWorked p 0 scripts lines → All (λ line. Follows p.base line.place) lines
  all_follow scripts lines h =
      subst (All (λ line. Follows p.base line.place)) (all_lines 0 scripts lines h)
      (groups.all_follow p 0 (groups_of scripts lines) (all_steps 0 scripts lines h))

  -- along each script the times rise
  pub all_in_time : (scripts : List (List Command)) (lines : List Line) → AllWorked p 0 scripts lines → EachPair IsInTime lines
  all_in_time scripts lines h =
      subst (EachPair IsInTime) (all_lines 0 scripts lines h) (groups.all_in_time p 0 (groups_of scripts lines) (all_steps 0 scripts lines h))

  -- no two commit lines are of one time
  pub all_alone : (scripts : List (List Command)) (lines : List Line) → AllWorked p 0 scripts lines → EachPair IsAlone lines
  all_alone scripts lines h =
      subst (EachPair IsAlone) (all_lines 0 scripts lines h) (groups.all_alone p 0 (groups_of scripts lines) (all_steps 0 scripts lines h))

  -- a commit of a seat with a script has one line
  pub all_one : (n i : ℕ) (c : Commit) (scripts : List (List Command)) (lines : List Line) → IsLegal n p.entries
      → slice_get p.entries i ≡ Some (Change c) → c.seat < length scripts → AllWorked p 0 scripts lines → commit_lines (p.base + suc i) lines ≡ 1
  all_one n i c scripts lines legal there lt h =
      subst (λ ls. commit_lines (p.base + suc i) ls ≡ 1) (all_lines 0 scripts lines h)
      (groups.all_one p n i c 0 (groups_of scripts lines) legal there (omega arith) (omega (arith, lt, groups_length scripts lines))
      (all_steps 0 scripts lines h))

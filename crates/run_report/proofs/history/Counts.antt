-- How many lines are commits of a time.
use Rattle.std.proofs.Common.{◌≡◌, ℕ, ◌+◌, ◌≤◌, Bool, true, false, cond, List, [], ◌∷◌, ◌++◌, refl, ap, ◌∙◌, arith, zero-add}
use Rattle.std.proofs.lemmas.Bool.Decides.{nat_tests}
use Rattle.std.proofs.lemmas.List.Sums.{sum_by-append}
use Rattle.section_work.specs.declared.place.Place.{Place}
use Rattle.section_work.specs.declared.place.Place.TheVariants.{Commit as AtCommit, Read}
use Rattle.run_report.specs.declared.line.Line.{Line}
use Rattle.run_report.specs.Legal.{Follows}
use Rattle.run_report.specs.Whole.{is_commit_of, commit_lines}

-- a line counts where it is the commit of this time
pub one_if : ℕ → Line → ℕ
one_if time line = cond (is_commit_of time line.place) 1 0

pub lines_cons : (time : ℕ) (line : Line) (lines : List Line) → commit_lines time (line ∷ lines) ≡ one_if time line + commit_lines time lines
unfolding one_if
lines_cons time line lines =
    sum_by-append (λ (l : Line). cond (is_commit_of time l.place) 1 0) (line ∷ []) lines
    ∙ ap (λ (n : ℕ). n + commit_lines time lines) (zero-add (cond (is_commit_of time line.place) 1 0))

pub lines_append : (time : ℕ) (xs ys : List Line) → commit_lines time (xs ++ ys) ≡ commit_lines time xs + commit_lines time ys
lines_append time xs ys = sum_by-append (λ (l : Line). cond (is_commit_of time l.place) 1 0) xs ys

pub one_at_most : (time : ℕ) (line : Line) → one_if time line ≤ 1
unfolding one_if
one_at_most time line = by (is_commit_of time line.place)
  where
    by : (b : Bool) → cond {A = ℕ} b 1 0 ≤ 1
    by true = omega arith
    by false = omega arith

-- a line that follows a time is no commit of it, nor of an earlier one
pub none_earlier : (time before : ℕ) (line : Line) → time ≤ before → Follows before line.place → one_if time line ≡ 0
unfolding one_if
none_earlier time before line le follows = by line.place follows
  where
    by : (place : Place) → Follows before place → ◌≡◌ {A = ℕ} (cond (is_commit_of time place) 1 0) 0
    by (AtCommit t) f = grind (arith, nat_tests)
    by (Read t) f = refl

-- a line that counts is at that time
pub counts_at : (time : ℕ) (line : Line) → 1 ≤ one_if time line → line.place ≡ AtCommit time
unfolding one_if
counts_at time line le = by line.place le
  where
    by : (place : Place) → 1 ≤ cond {A = ℕ} (is_commit_of time place) 1 0 → place ≡ AtCommit time
    by (AtCommit t) f = let same : t ≡ time = grind (arith, nat_tests) in ap AtCommit same
    by (Read t) f = absurd (omega arith)

-- a commit counts at its time
pub counts_itself : (time : ℕ) (line : Line) → line.place ≡ AtCommit time → one_if time line ≡ 1
unfolding one_if
counts_itself time line is = rw is (grind (arith, nat_tests))

-- a read is none
pub read_is_none : (time t : ℕ) (line : Line) → line.place ≡ Read t → one_if time line ≡ 0
unfolding one_if
read_is_none time t line is = rw is refl

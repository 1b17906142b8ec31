-- A count of lines is small.
use Rattle.std.proofs.Common.{ℕ, ◌<◌, ◌≤◌, Bool, List, length, take, count_by, arith}
use Rattle.std.proofs.lemmas.List.{length-take-le}
use Rattle.std.proofs.lemmas.List.Sums.{count_by-le-length}
use Rattle.run_report.specs.declared.line.Line.{Line}

-- no more of the first lines are counted than there are
pub counted_low : (p : Line → Bool) (lines : List Line) (i : ℕ) → i < length lines → count_by p (take i lines) ≤ i
counted_low p lines i lt =
    let few = count_by-le-length p (take i lines) in
    let seen = length-take-le i lines (omega (arith, lt)) in
    omega (arith, few, seen)

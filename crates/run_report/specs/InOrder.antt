-- The text of lines in their order, which are given in any.
use Rattle.std.specs.Prelude.{◌≡◌, ℕ, ◌-◌, ◌<◌, ◌++◌, List, length, map, slice_index_or}
use Rattle.std.specs.Borrow.{Bor}
use Rattle.std.specs.List.{flat_map}
use Rattle.std.specs.List.Sorted.{IsPermutation}
use Rattle.mv_history.specs.declared.answers.LogTable.{LogTable}
use Rattle.set_model.specs.Catalogue.{Maps}
use Rattle.run_report.specs.declared.line.Line.{Line}
use Rattle.run_report.specs.Order.{IsOrdered}
use Rattle.run_report.specs.Text.{text_of_line, text_of_run}

-- The text is that of a run of these lines in their order.
pub record IsTextInOrder (lines : List Line) (end : Maps) (tables : List LogTable) (text : List ℕ) : Type 0 where
  pub ordered : List Line
  pub same : IsPermutation lines ordered
  pub in_order : IsOrdered ordered
  pub is : text ≡ text_of_run ordered end tables

-- The text has these lines in their order.
pub record HasInOrder (lines : List Line) (text : List ℕ) : Type 0 where
  pub ordered : List Line
  pub same : IsPermutation lines ordered
  pub in_order : IsOrdered ordered
  pub is : text ≡ flat_map text_of_line ordered

-- It has them, and there are some: this is the first of them, and this the last.
pub record IsPart (lines : List Line) (text : List ℕ) (first last : Line) : Type 0 where
  pub ordered : List Line
  pub same : IsPermutation lines ordered
  pub in_order : IsOrdered ordered
  pub is : text ≡ flat_map text_of_line ordered
  pub some : 0 < length ordered
  pub first_is : first ≡ slice_index_or ordered 0 first
  pub last_is : last ≡ slice_index_or ordered (length ordered - 1) last

-- The text has these lines in their order behind what stood before.
pub record IsPartBehind (before : List ℕ) (lines : List Line) (text : List ℕ) (first last : Line) : Type 0 where
  pub own : List ℕ
  pub part : IsPart lines own first last
  pub behind : text ≡ before ++ own

-- the lines of some stretches, one behind another
abbrev pub lines_of : List (Bor (List Line)) → List Line
lines_of stretches = flat_map (λ (s : Bor (List Line)). s.now) stretches

-- the lines that these references are to
abbrev pub lines_at : List (Bor Line) → List Line
lines_at refs = map (λ (b : Bor Line). b.now) refs

-- The text of a run on a growing hash set: that of a run, with a line on the buckets ahead of the tables.
use Rattle.std.specs.Prelude.{ℕ, ◌+◌, List, ◌++◌, codes, decimal}
use Rattle.std.specs.List.{flat_map}
use Rattle.mv_history.specs.declared.answers.LogTable.{LogTable}
use Rattle.set_model.specs.Catalogue.{Maps}
use Rattle.run_report.specs.declared.line.Line.{Line}
use Rattle.run_report.specs.Text.{text_of_line, text_of_sets, text_of_tables}

-- how many buckets there are after so many splits, and the splits
abbrev pub text_of_buckets : ℕ → List ℕ
text_of_buckets splits = codes "buckets " ++ decimal (16 + splits) ++ codes " splits " ++ decimal splits ++ codes "\n"

-- The text of a run with so many splits.
unfoldable pub text_of_grown : List Line → Maps → ℕ → List LogTable → List ℕ
text_of_grown lines end splits tables =
    flat_map text_of_line lines ++ text_of_sets 0 end ++ text_of_buckets splits ++ text_of_tables 0 tables

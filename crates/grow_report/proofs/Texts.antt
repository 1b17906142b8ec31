-- The text of a run on a growing hash set, in its parts.
use Rattle.std.proofs.Common.{◌≡◌, ℕ, List, [], ◌++◌, ap, ◌∙◌}
use Rattle.std.specs.List.{flat_map}
use Rattle.std.proofs.lemmas.List.{append-nil}
use Rattle.mv_history.specs.declared.answers.LogTable.{LogTable}
use Rattle.set_model.specs.Catalogue.{Maps, empty}
use Rattle.run_report.specs.declared.line.Line.{Line}
use Rattle.run_report.specs.Text.{text_of_line, text_of_sets, text_of_tables, text_of_run}
use Rattle.grow_report.specs.Text.{text_of_buckets, text_of_grown}

-- a run without tables, the line on the buckets, and the tables alone
pub joined : (lines : List Line) (end : Maps) (splits : ℕ) (tables : List LogTable) (none : Maps) → none ≡ empty
    → text_of_run lines end [] ++ text_of_buckets splits ++ text_of_run [] none tables ≡ text_of_grown lines end splits tables
unfolding text_of_run text_of_grown
joined lines end splits tables none is =
    (λ i. flat_map text_of_line lines ++ text_of_sets 0 end ++ [] ++ text_of_buckets splits ++ (text_of_sets 0 (is i) ++ text_of_tables 0 tables))
    ∙ ap (λ front. front ++ text_of_buckets splits ++ text_of_tables 0 tables) (append-nil (flat_map text_of_line lines ++ text_of_sets 0 end))

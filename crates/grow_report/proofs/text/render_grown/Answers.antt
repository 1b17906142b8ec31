use Rattle.std.proofs.Common.{◌≡◌, [], ◌++◌, ◌∙◌}
use Rattle.run_report.specs.Text.{text_of_run}
use Rattle.grow_report.specs.Text.{text_of_buckets}
use Rattle.grow_report.proofs.Texts.{joined}
use Rattle.grow_report.proofs.text.render_grown.Goals as goal

-- the text of the lines and sets, the line on the buckets, and the tables
pub returns : goal.returns
returns c =
    let a = c.args in
    let front : c.extend_from_slice.new.self.items ≡ text_of_run a.lines.now a.end.now [] ++ text_of_buckets a.splits =
    c.in_ok-extend_from_slice.ensures.items ∙ (λ i. c.in_ok-text.ensures i ++ (c.as_bytes.ensures.value ∙ c.in_ok-line.ensures) i) in
    let back : c.deref.result.now ≡ text_of_run [] c.in_ok-none.none a.tables.now = c.deref.ensures.value ∙ c.in_ok-tables.ensures in
    c.in_ok-extend_from_slice-2.ensures.items
    ∙ (λ i. front i ++ back i)
    ∙ joined a.lines.now a.end.now a.splits a.tables.now c.in_ok-none.none c.in_ok-none.ensures

use Rattle.std.proofs.Common.{Bor, sym}
use Rattle.std.proofs.lemmas.List.{get_or-map}
use Rattle.run_report.specs.declared.line.Line.{Line}
use Rattle.run_report.proofs.parts.line_at.Goals as goal

pub returns : goal.returns
returns c = sym (get_or-map (λ (r : Bor Line). r.now) c.args.lines.now c.args.at _ _ c.requires)

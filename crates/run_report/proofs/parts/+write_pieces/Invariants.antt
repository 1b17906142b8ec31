use Rattle.run_report.proofs.parts.+write_pieces.Given as goal

abbrev pub decreases-write_pieces : goal.decreases-write_pieces
decreases-write_pieces l = l.pieces

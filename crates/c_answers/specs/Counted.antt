-- The counts of a seat's log, as they are written for C.
use Rattle.std.specs.Prelude.{Result, Ok, Err}
use Rattle.mv_history.specs.declared.answers.LogTable.{LogTable}
use Rattle.object_seats.specs.declared.position.Misuse.{Misuse}
use Rattle.c_answers.specs.declared.counts.MvrluCounts.{MvrluCounts}

-- the counts of a log
abbrev pub counts_told : LogTable → MvrluCounts
counts_told t = record { commits = t.commits; aborts = t.aborts; back = t.back; freed = t.freed; rests = t.rests; live = t.live }

-- the counts, where they were told, and else what stood there
abbrev pub counts_in : MvrluCounts → Result LogTable Misuse → MvrluCounts
counts_in before (Ok table) = counts_told table
counts_in before (Err why) = before

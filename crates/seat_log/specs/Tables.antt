-- The table of a log's counts, and what each of them is of the pass.
use Rattle.std.specs.Prelude.{◌≡◌, ◌+◌, ◌≤◌, count_by, length}
use Rattle.mv_history.specs.declared.answers.LogTable.{LogTable}
use Rattle.reader_marks.specs.mv_core.declared.view.Knowledge.{Knowledge}
use Rattle.reader_marks.specs.mv_core.Rings.{held_count}
use Rattle.seat_log.specs.Notes.{Noted}
use Rattle.seat_log.specs.Stands.{is_free, is_won_cut, is_won_lock, aborts_in, writes_in}

-- the table of what is noted
abbrev pub table_of : Noted → LogTable
table_of l = record { live = length l.live; freed = l.freed; back = l.back; commits = l.commits; aborts = l.aborts; rests = l.rests }

-- The counts of a table are those of the pass: its commits and rests, and by its trail the chains that it cut, the slots that it freed
-- and its aborts. The versions that are live or freed are all that were ever in a chain: one for each won exchange that locked. They
-- are those of the writes of its commits, what it holds, and what its aborts held.
pub record Counts (v : Knowledge) (t : LogTable) : Type 0 where
  pub commits : t.commits ≡ length v.past.mine
  pub rests : t.rests ≡ v.past.rests
  pub back : t.back ≡ count_by is_won_cut v.trail
  pub freed : t.freed ≡ count_by is_free v.trail
  pub locks : t.live + t.freed ≡ count_by is_won_lock v.trail
  pub aborts : t.aborts ≡ aborts_in v.trail
  pub used : writes_in v.past.mine + held_count v.ring ≤ t.live + t.freed
  pub all_used : t.aborts ≡ 0 → t.live + t.freed ≡ writes_in v.past.mine + held_count v.ring

-- What the rule says between any two steps, of the words of the table.
use Rattle.std.specs.Prelude.{◌≡◌, ℕ, ◌≤◌, List, Contains, slice_index}
use Rattle.atomic_table.specs.Table as table
use Rattle.mv_history.specs.State.{State, Writes}
use Rattle.mv_layout.specs.declared.SharedWord.TheVariants.{Stamp}
use Rattle.mv_layout.specs.Cells.{cell_of}
use Rattle.mv_layout.specs.Words.{clock_time_of}
use Rattle.mv_core.specs.declared.ring.Version.{Version}
use Rattle.mv_core.specs.declared.ring.WriteSetStatus.TheVariants.{Committed}
use Rattle.mv_core.specs.declared.ring.CommitNote.{CommitNote}
use Rattle.mv_core.specs.declared.view.Knowledge.{Knowledge}
use Rattle.mv_core.specs.declared.shared.Opening.{Opening}
use Rattle.mv_core.specs.Rings.{index_of, Lives}
use Rattle.mv_core.specs.Rule.{Ruled}

-- helped-commit: once a seat has helped a clock word, the stamp of each live commit up to the word's time is that commit's time
abbrev pub HelpedAreStamped : (State → Type 0) → (List ℕ → State → Writes → Type 0) → Type 0
HelpedAreStamped starts allows =
    (key : Opening) (s : table.State (List ℕ) Knowledge) (r : Ruled starts allows key s) (seat word : ℕ) → Contains (r.seats seat).clocks.helped word
    → (t k : ℕ) (x : Version) (note : CommitNote) → Lives (λ u. (r.seats u).ring) t k x (Committed note) → note.time ≤ clock_time_of word
    → slice_index s.words (cell_of key.config (Stamp t (index_of key.config x.first))) ≡ note.time

-- The first steps of a seat of a new domain: it enters a section, and leaves it.
use Rattle.std.specs.Prelude.{ℕ, List, [], ◌∷◌}
use Rattle.mv_core.specs.Moves.{load_low, store_mark, load_time, clear_mark}
use Rattle.replay_text.specs.replay_rules.States.{Made}

-- the first step: CLOCK is loaded for a low time
abbrev pub low_step : ℕ → Made
low_step seat = record { seat = seat; kind = load_low }

-- the second: the seat's mark gets this low time
abbrev pub mark_step : ℕ → ℕ → Made
mark_step seat low = record { seat = seat; kind = store_mark low }

-- the third: CLOCK is loaded for the section's time
abbrev pub time_step : ℕ → Made
time_step seat = record { seat = seat; kind = load_time }

-- and the fourth: the mark is cleared, and the section left
abbrev pub leave_step : ℕ → Made
leave_step seat = record { seat = seat; kind = clear_mark }

-- all of them, the last one first
abbrev pub entered_and_left : ℕ → ℕ → List Made
entered_and_left seat low = leave_step seat ∷ time_step seat ∷ mark_step seat low ∷ low_step seat ∷ []

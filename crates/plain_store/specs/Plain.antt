-- What the plain store's fields stand for.
use Rattle.std.specs.Prelude.{ℕ, ◌+◌, ◌-◌, List, [], ◌∷◌, ◌++◌, length, map, take}
use Rattle.plain_store.specs.declared.history.TheConstants.{WRITE_MAX}
use Rattle.plain_store.specs.declared.history.PlainHistory.{PlainHistory, Opened, Then'}
use Rattle.mv_history.specs.declared.history.Commit.{Commit}
use Rattle.mv_history.specs.declared.history.Entry.TheVariants.{Change}
use Rattle.mv_history.specs.State.{State, Writes}
use Rattle.mv_history.specs.Meaning.{Seat, InSection}

-- the commits of seat 0, each on all before it
abbrev pub commits_of_history : PlainHistory → List Commit
commits_of_history Opened = []
commits_of_history (Then' _ before tag own held) =
    let commits = commits_of_history before in
    commits ++ record { seat = 0; number = length commits + 1; snapshot = length commits; tag = tag; writes = take held own } ∷ []

-- the one seat of a plain store, which made each commit of the history, with so many free slots
abbrev pub plain_seat : State → List Commit → ℕ → ℕ → ℕ → Seat
plain_seat start commits base last spare = record {
  number = 0;
  home = [];
  write_max = WRITE_MAX;
  start = start;
  base = base;
  last = last;
  seen = map (λ c. Change c) commits;
  mine = commits;
  rests = 0;
  spare = spare;
  trail = [];
}

-- its section, whose snapshot is the whole history
abbrev pub plain_section : State → List Commit → ℕ → ℕ → Writes → InSection
plain_section start commits base last own =
    record { seat = plain_seat start commits base last (WRITE_MAX - length own); at = length commits; own = own }

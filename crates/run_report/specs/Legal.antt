-- When the lines of a run are legal: each command has its line, and the replay from empty maps gives every reply.
use Rattle.std.specs.Prelude.{
  ◌≡◌,
  ℕ,
  zero,
  suc,
  ◌<◌,
  ◌≤◌,
  ◌==◌,
  Bool,
  true,
  false,
  IsTrue,
  List,
  [],
  ◌∷◌,
  ◌++◌,
  map,
  All,
  Option,
  None,
  slice_get,
  slice_index_or,
}
use Rattle.std.specs.Option.{IsSomeAnd}
use Rattle.std.specs.List.Sorted.{IsPermutation}
use Rattle.mv_history.specs.declared.history.TheConstants.{LAST}
use Rattle.set_model.specs.Catalogue.{Maps, empty}
use Rattle.set_model.specs.Replies.{reply, changes, next}
use Rattle.set_model.specs.declared.commands.Command.{Command}
use Rattle.section_work.specs.declared.place.Place.{Place}
use Rattle.section_work.specs.declared.place.Place.TheVariants.{Commit, Read}
use Rattle.run_report.specs.declared.line.Line.{Line}
use Rattle.run_report.specs.Order.{time_of, IsOrdered}

-- the seat and the number of a line
abbrev pub id_of : Line → ℕ × ℕ
id_of line = (line.seat, line.number)

-- the seat and the number of each command of a script, from this number on
abbrev pub ids_from : ℕ → ℕ → List Command → List (ℕ × ℕ)
ids_from seat number [] = []
ids_from seat number (command ∷ commands) = (seat, number) ∷ ids_from seat (suc number) commands

-- the same for the scripts, the first of which is that of this seat: commands are numbered from 1
abbrev pub ids_of : ℕ → List (List Command) → List (ℕ × ℕ)
ids_of seat [] = []
ids_of seat (script ∷ scripts) = ids_from seat 1 script ++ ids_of (suc seat) scripts

-- the command of this number in a script
abbrev pub command_at : List Command → ℕ → Option Command
command_at script zero = None
command_at script (suc before) = slice_get script before

-- the command of a line
abbrev pub command_of : List (List Command) → Line → Option Command
command_of scripts line = command_at (slice_index_or scripts line.seat []) line.number

-- whether a place is a commit
abbrev pub is_commit : Place → Bool
is_commit (Commit time) = true
is_commit (Read time) = false

-- whether a place is a read at the last time
abbrev pub is_last : Place → Bool
is_last (Commit time) = false
is_last (Read time) = time == LAST

-- a commit changes the catalogue there, and a read has nothing to change
abbrev pub MayStand : Place → Command → Maps → ℕ → Type 0
MayStand (Commit time) command c capacity = changes command c capacity false ≡ true
MayStand (Read time) command c capacity = changes command c capacity (is_last (Read time)) ≡ false

-- the catalogue after a place: a commit makes its command's change, and a read makes none
abbrev pub after : Place → Command → Maps → ℕ → Maps
after (Commit time) command c capacity = next command c capacity false
after (Read time) command c capacity = c

-- the replay of lines, one after another from a catalogue, gives each line's reply and ends in another
abbrev pub Replays : List (List Command) → ℕ → Maps → List Line → Maps → Type 0
Replays scripts capacity c [] end = c ≡ end
Replays scripts capacity c (line ∷ lines) end =
    IsSomeAnd (command_of scripts line)
    (λ command. (line.reply ≡ reply command c capacity (is_last line.place)) × MayStand line.place command c capacity
    × Replays scripts capacity (after line.place command c capacity) lines end)

-- every line stands so to every line
abbrev pub EachPair : (Line → Line → Type 0) → List Line → Type 0
EachPair R lines = All (λ a. All (R a) lines) lines

-- a place may come after a time: a commit is later, and a read is no earlier
abbrev pub Follows : ℕ → Place → Type 0
Follows before (Commit time) = before < time
Follows before (Read time) = before ≤ time

-- the later command of a script follows the time of the earlier one
abbrev pub IsInTime : Line → Line → Type 0
IsInTime a b = a.seat ≡ b.seat → a.number < b.number → Follows (time_of a.place) b.place

-- commits of one time are one line
abbrev pub IsAlone : Line → Line → Type 0
IsAlone a b = IsTrue (is_commit a.place) → IsTrue (is_commit b.place) → time_of a.place ≡ time_of b.place → id_of a ≡ id_of b

-- The lines are a legal run of the scripts from this printed time on, with room for this many nodes, that leaves these
-- maps. They stand in any order.
pub record LegalRun (scripts : List (List Command)) (lines : List Line) (base capacity : ℕ) (end : Maps) : Type 0 where
  -- each command of each script has exactly one line, with its seat and number, and there are no others
  pub once : IsPermutation (ids_of 0 scripts) (map id_of lines)
  -- a commit is later than the printed time of the opening state, and a read is no earlier
  pub from_base : All (λ line. Follows base line.place) lines
  -- along a script the times never fall, and a commit is later than the line before it
  pub in_time : EachPair IsInTime lines
  -- no two commit lines have the same time
  pub alone : EachPair IsAlone lines
  -- the replay of the lines in their order, from empty maps, gives each line's reply and ends in these maps
  pub replayed : (ordered : List Line) × IsPermutation lines ordered × IsOrdered ordered × Replays scripts capacity empty ordered end

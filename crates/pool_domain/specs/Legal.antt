-- When the lines of a pool are legal: each command has one line, whoever took it, and the replay from empty maps gives every reply.
use Rattle.std.specs.Prelude.{◌≡◌, ℕ, ◌<◌, ◌≤◌, List, [], ◌∷◌, length, All}
use Rattle.std.specs.Option.{IsSomeAnd}
use Rattle.std.specs.List.Sorted.{IsPermutation}
use Rattle.set_model.specs.Catalogue.{Maps, empty}
use Rattle.set_model.specs.Replies.{reply}
use Rattle.set_model.specs.declared.commands.Command.{Command}
use Rattle.run_report.specs.declared.line.Line.{Line}
use Rattle.run_report.specs.Order.{IsOrdered}
use Rattle.command_pool.specs.Pool.{times_of}
use Rattle.run_report.specs.Legal.{EachPair, Follows, IsAlone, IsInTime, MayStand, after, command_at, is_last}

-- the replay of lines, one after another from a catalogue, gives each line's reply and ends in another; a line's command is
-- that of its number
abbrev pub ReplaysPool : List Command → ℕ → Maps → List Line → Maps → Type 0
ReplaysPool commands capacity c [] end = c ≡ end
ReplaysPool commands capacity c (line ∷ lines) end =
    IsSomeAnd (command_at commands line.number)
    (λ command. (line.reply ≡ reply command c capacity (is_last line.place)) × MayStand line.place command c capacity
    × ReplaysPool commands capacity (after line.place command c capacity) lines end)

-- The lines are a legal pool of so many seats over these commands from this printed time on, with room for this many nodes,
-- that leaves these maps. They stand in any order.
pub record LegalPool (seats : ℕ) (commands : List Command) (lines : List Line) (base capacity : ℕ) (end : Maps) : Type 0 where
  -- each command has exactly one line, with its number and one of the seats, and there are no others
  pub once : (number : ℕ) → 1 ≤ number → number ≤ length commands → times_of number lines ≡ 1
  pub count : length lines ≡ length commands
  pub seats_are : All (λ line. line.seat < seats) lines
  -- a commit is later than the printed time of the opening state, and a read is no earlier
  pub from_base : All (λ line. Follows base line.place) lines
  -- along the numbers of one seat the times never fall, and a commit is later than the line before it
  pub in_time : EachPair IsInTime lines
  -- no two commit lines have the same time
  pub alone : EachPair IsAlone lines
  -- the replay of the lines in their order, from empty maps, gives each line's reply and ends in these maps
  pub replayed : (ordered : List Line) × IsPermutation lines ordered × IsOrdered ordered × ReplaysPool commands capacity empty ordered end

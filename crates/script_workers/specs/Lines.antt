-- The lines of answers: one of a command, and of a block one for each of its commands, all at the block's one place.
use Rattle.std.specs.Prelude.{ℕ, suc, ◌+◌, ◌<◌, ◌^◌, List, [], ◌∷◌, length, map, Vec, All}
use Rattle.script_workers.specs.Terms.{Global, flat_map, Place, Reply, Line, Answer}

-- the line of an answer
abbrev pub line_of : Answer (Place × Reply) → Line
line_of a = record { seat = a.seat; number = a.number; place = a.done.0; reply = a.done.1 }

-- the lines of a row of answers
abbrev pub row_of : Vec (Answer (Place × Reply)) Global → List Line
row_of v = map line_of v.items

-- What became of a block: the seat that did it, the number of its first command in the seat's script, its place, and its replies.
pub record DoneBlock : Type 0 where
  pub seat : ℕ
  pub number : ℕ
  pub place : Place
  pub answers : List Reply

-- lines with these replies, numbered from this number on, all at one place
abbrev pub lines_at : ℕ → ℕ → Place → List Reply → List Line
lines_at seat number place [] = []
lines_at seat number place (answer ∷ answers) =
    record { seat = seat; number = number; place = place; reply = answer } ∷ lines_at seat (suc number) place answers

-- the lines of a block
abbrev pub lines_of : DoneBlock → List Line
lines_of d = lines_at d.seat d.number d.place d.answers

-- what became of the block of an answer
abbrev pub done_of : Answer (Place × List Reply) → DoneBlock
done_of a = record { seat = a.seat; number = a.number; place = a.done.0; answers = a.done.1 }

-- the lines of the block of an answer
abbrev pub lines_in : Answer (Place × List Reply) → List Line
lines_in a = lines_of (done_of a)

-- the lines of the blocks of answers
abbrev pub row_in : List (Answer (Place × List Reply)) → List Line
row_in answers = flat_map lines_in answers

-- the lines of the blocks of a row of answers
abbrev pub block_row : Vec (Answer (Place × List Reply)) Global → List Line
block_row v = row_in v.items

-- no number of the lines of an answer is too great
abbrev pub FitsNumbers : Answer (Place × List Reply) → Type 0
FitsNumbers a = a.number + length a.done.1 < 2 ^ 32

-- no number of the lines of a row of answers is too great
abbrev pub AllFit : Vec (Answer (Place × List Reply)) Global → Type 0
AllFit row = All FitsNumbers row.items

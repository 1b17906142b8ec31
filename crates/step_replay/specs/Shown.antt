-- What the running parts of a replay say: a seat, the tape, and both at a turn.
use Rattle.std.specs.Prelude.{List, drop, map, string_bytes, Option}
use Rattle.replay_text.specs.replay_rules.declared.plan.CallOf.{CallOf}
use Rattle.replay_text.specs.replay_rules.declared.seats.NextStep.{NextStep}
use Rattle.step_replay.specs.declared.turns.ReplaySeat.{ReplaySeat}
use Rattle.step_replay.specs.declared.turns.Tape.{Tape}
use Rattle.replay_text.specs.replay_rules.Runs.{SeatOf, TapeOf, Scene, Looked}

-- a seat, with the calls that it hasn't looked at
abbrev pub seat_of : List CallOf → ReplaySeat → SeatOf
seat_of calls seat = record { log = seat.log.items; state = seat.state; task = seat.task; left = drop seat.next calls }

-- the tape: the words, how many steps were made, and the text so far
abbrev pub tape_of : Tape → TapeOf
tape_of tape = record { words = tape.machine.words.items; made = tape.made; text = string_bytes tape.text }

-- a seat at its turn, and the tape
abbrev pub scene_of : List CallOf → ReplaySeat → Tape → Scene
scene_of calls seat tape = record { seat = seat_of calls seat; tape = tape_of tape }

-- a seat that has looked at calls, and the first step of the one that it has begun
abbrev pub looked_of : List CallOf → ReplaySeat → Tape → Option NextStep → Looked
looked_of calls seat tape task = record { scene = scene_of calls seat tape; task = task }

-- the seats, each with the calls that it hasn't looked at
abbrev pub seats_of : List CallOf → List ReplaySeat → List SeatOf
seats_of calls seats = map (seat_of calls) seats

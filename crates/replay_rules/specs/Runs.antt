-- The run of a plan: its turns, one after another, and the text that they print.
use Rattle.std.specs.Prelude.{ℕ, zero, suc, ◌+◌, ◌==◌, ◌&&◌, ltb, List, [], ◌∷◌, ◌++◌, slice_index_or, slice_set, Option}
use Rattle.std.specs.Prelude.{Some, None, Bool, true, if◌then◌else◌}
use Rattle.mv_layout.specs.declared.config.Config.{Config}
use Rattle.mv_layout.specs.declared.places.SharedWord.{SharedWord}
use Rattle.mv_layout.specs.declared.places.SharedWord.TheVariants.{Clock, Grace, Mark, Head, Master, First, Stamp, Prev, Super, Data}
use Rattle.mv_layout.specs.Places.{place_of}
use Rattle.mv_layout.specs.Words.{clock_time_of}
use Rattle.replay_rules.specs.declared.plan.Call.{Call}
use Rattle.replay_rules.specs.declared.plan.Call.TheVariants.{Enter}
use Rattle.replay_rules.specs.declared.plan.CallOf.{CallOf}
use Rattle.replay_rules.specs.declared.seats.NotedVersion.{NotedVersion}
use Rattle.replay_rules.specs.declared.seats.State.{State}
use Rattle.replay_rules.specs.declared.seats.NextStep.{NextStep}
use Rattle.replay_rules.specs.declared.seats.Then.{Then}
use Rattle.replay_rules.specs.declared.seats.Then.TheVariants.{Goes, Ends}
use Rattle.replay_rules.specs.Plans.{PlanOf}
use Rattle.replay_rules.specs.Words.{word_at, words_with, new_words}
use Rattle.replay_rules.specs.Tasks.{place_in_task, access_in_task, written_by}
use Rattle.replay_rules.specs.SeatNotes.{applied}
use Rattle.replay_rules.specs.Begins.{may_begin, new_sweep, begun, begin_call}
use Rattle.replay_rules.specs.Learns.{state_after, edit_of}
use Rattle.replay_rules.specs.Sweeps.{then_after}
use Rattle.replay_rules.specs.Lines.{idle_line, skip_line, end_line, step_line, answer_line}

-- What is kept of a seat: the versions of its log, what it is at, its next step where a call is under way, and which calls of the plan
-- are still before it.
pub record SeatOf : Type 0 where
  pub log : List NotedVersion
  pub state : State
  pub task : Option NextStep
  pub left : List CallOf

-- the words of the domain's table, how many steps were made, and the text so far
pub record TapeOf : Type 0 where
  pub words : List ℕ
  pub made : ℕ
  pub text : List ℕ

-- a seat at its turn, and the tape
pub record Scene : Type 0 where
  pub seat : SeatOf
  pub tape : TapeOf

-- whether a word is one of the domain
abbrev pub is_place : Config → SharedWord → Bool
is_place c Clock = true
is_place c Grace = true
is_place c (Mark s) = ltb s c.seats
is_place c (Head o) = ltb o c.objects
is_place c (Master o w) = ltb o c.objects && ltb w 6
is_place c (First s k) = ltb s c.seats && ltb k c.slots
is_place c (Stamp s k) = ltb s c.seats && ltb k c.slots
is_place c (Prev s k) = ltb s c.seats && ltb k c.slots
is_place c (Super s k) = ltb s c.seats && ltb k c.slots
is_place c (Data s k w) = ltb s c.seats && (ltb k c.slots && ltb w 6)

-- with a line more
abbrev pub with_line : TapeOf → List ℕ → TapeOf
with_line t line = record t { text = t.text ++ line }

-- what a step of this seat finds
abbrev pub found_in : Config → ℕ → NextStep → TapeOf → ℕ
found_in c seat task t = if is_place c (place_in_task c seat task) then word_at c t.words (place_in_task c seat task) else 0

-- the tape after a step of this seat: one word, and the line that says it, with what was found there just before
abbrev pub tape_stepped : Config → ℕ → NextStep → SharedWord → TapeOf → TapeOf
tape_stepped c seat task place t = record {
  words = words_with c t.words place (written_by (access_in_task seat task) (word_at c t.words place));
  made = t.made + 1;
  text = t.text ++ step_line (t.made + 1) seat (access_in_task seat task) (place_of c place) (word_at c t.words place);
}

-- no step is made of a word that isn't one of the domain
abbrev pub tape_after : Config → ℕ → NextStep → TapeOf → TapeOf
tape_after c seat task t =
    if is_place c (place_in_task c seat task) then tape_stepped c seat task (place_in_task c seat task) t else t

-- a call goes on by this, or ends with its line
abbrev pub went : Then → Scene → Scene
went (Goes task) x = record x { seat = record x.seat { task = Some task } }
went (Ends answer) x = record {
  seat = record x.seat { task = None };
  tape = with_line x.tape (answer_line x.seat.state.seat x.seat.state.call answer);
}

-- what is kept of a seat behind a step that found this
abbrev pub learned : NextStep → ℕ → SeatOf → SeatOf
learned task found s = record s { log = applied (edit_of task s.state found) s.log; state = state_after task s.log s.state found }

-- the step that comes next is made, and the call goes on or ends
abbrev pub step_made : Config → NextStep → Scene → Scene
step_made c task x =
    let found = found_in c x.seat.state.seat task x.tape in
    let seat = learned task found x.seat in
    went (then_after task c seat.log seat.state found) (record { seat = seat; tape = tape_after c x.seat.state.seat task x.tape })

-- a seat that has looked at calls, and the first step of the call that it has begun
pub record Looked : Type 0 where
  pub scene : Scene
  pub task : Option NextStep

-- a call that begins: its first step comes, or it is answered at once
abbrev pub begun_so : Then → Call → Scene → Looked
begun_so (Goes task) call x = record { scene = x; task = Some task }
begun_so (Ends answer) call x =
    record { scene = record x { tape = with_line x.tape (answer_line x.seat.state.seat call answer) }; task = None }

-- a call that is looked at: it begins, or is skipped where its condition is false
abbrev pub call_looked : Config → Call → Scene → Looked
call_looked c call x =
    if may_begin x.seat.log x.seat.state call
    then begun_so (begin_call call c x.seat.log (begun x.seat.state call)) call (record x { seat = record x.seat { state = begun x.seat.state call } })
    else record { scene = record x { tape = with_line x.tape (skip_line x.seat.state.seat call) }; task = None }

-- the next call is looked at where this one needs no step
abbrev pub looked_on : Option NextStep → Looked → Looked → Looked
looked_on (Some task) this next = this
looked_on None this next = next

-- a call of another seat is passed over
abbrev pub one_looked : Config → CallOf → Scene → Looked
one_looked c call x = if call.seat == x.seat.state.seat then call_looked c call.call x else record { scene = x; task = None }

-- The calls that come next are looked at, up to one that needs a step.
abbrev pub looked : Config → List CallOf → Scene → Looked
looked c [] x = record { scene = x; task = None }
looked c (call ∷ calls) x =
    let this = one_looked c call (record x { seat = record x.seat { left = calls } }) in
    looked_on this.task this (looked c calls this.scene)

-- a seat with no call left is idle
abbrev pub turn_begun : Config → Option NextStep → Scene → Scene
turn_begun c (Some task) x = step_made c task x
turn_begun c None x = record x { tape = with_line x.tape (idle_line x.seat.state.seat) }

-- a turn of a seat: at most one step is made
abbrev pub turned_from : Config → Option NextStep → Scene → Scene
turned_from c (Some task) x = step_made c task x
turned_from c None x = let l = looked c x.seat.left x in turn_begun c l.task l.scene

-- the same, with the next step of the call that the seat is in, if it is in one
abbrev pub turned : Config → Scene → Scene
turned c x = turned_from c x.seat.task x

-- the seats of a replay, and the tape
pub record Replay : Type 0 where
  pub seats : List SeatOf
  pub tape : TapeOf

-- a call that isn't there
abbrev pub no_call : CallOf
no_call = record { seat = 0; call = Enter }

-- a seat that has made no call
abbrev pub new_state : ℕ → State
new_state seat = record { seat = seat; time = None; from = 0; freed = 0; call = Enter; sweep = new_sweep 0 }

-- a seat with an empty log that has made no call, with these calls before it
abbrev pub new_seat : List CallOf → ℕ → SeatOf
new_seat calls seat = record { log = []; state = new_state seat; task = None; left = calls }

-- the seat of this number
abbrev pub seat_in : Replay → ℕ → SeatOf
seat_in r seat = slice_index_or r.seats seat (new_seat [] 0)

-- a turn of the seat of this number
abbrev pub turn_taken : Config → Replay → ℕ → Replay
turn_taken c r seat =
    let x = turned c (record { seat = seat_in r seat; tape = r.tape }) in
    record { seats = slice_set r.seats seat x.seat; tape = x.tape }

-- The turns of a schedule, in their order.
abbrev pub turns_taken : Config → Replay → List ℕ → Replay
turns_taken c r [] = r
turns_taken c r (seat ∷ steps) = turns_taken c (turn_taken c r seat) steps

-- so many new seats, from one on
abbrev pub new_seats : List CallOf → ℕ → ℕ → List SeatOf
new_seats calls first zero = []
new_seats calls first (suc count) = new_seat calls first ∷ new_seats calls (first + 1) count

-- a new replay
abbrev pub replay_begun : PlanOf → Replay
replay_begun p = record {
  seats = new_seats p.calls 0 p.config.seats;
  tape = record { words = new_words p.config; made = 0; text = [] };
}

-- the replay behind all turns of the plan
abbrev pub replay_of : PlanOf → Replay
replay_of p = turns_taken p.config (replay_begun p) p.steps

-- The text of a plan's replay: the lines of its turns, and the time of CLOCK.
abbrev pub text_of_plan : PlanOf → List ℕ
text_of_plan p =
    let t = (replay_of p).tape in
    t.text ++ end_line (clock_time_of (word_at p.config t.words Clock))

-- What a text says: its lines, the numbers of a plan's domain, its calls and its steps, and the first faulty line.
use Rattle.std.specs.Prelude.{ℕ, ◌+◌, ◌-◌, ◌==◌, ◌&&◌, ◌≡◌, ⊤, nat_le, List, [], ◌∷◌, ◌++◌, length}
use Rattle.std.specs.Prelude.{slice_index, codes}
use Rattle.std.specs.Prelude.{Result, Ok, Err, if◌then◌else◌}
use Rattle.std.specs.Str.{bytes_eq}
use Rattle.std.specs.Str.Parse.{digits_value}
use Rattle.mv_layout.specs.declared.config.Config.{Config}
use Rattle.script_parser.specs.Grammar.{◌>>=◌, lines_of, words_of, is_numeral}
use Rattle.replay_text.specs.replay_rules.declared.plan.Call.{Call}
use Rattle.replay_text.specs.replay_rules.declared.plan.Call.TheVariants as calls
use Rattle.replay_text.specs.replay_rules.declared.plan.CallOf.{CallOf}
use Rattle.replay_text.specs.replay_rules.declared.plan.PlanKind.{PlanKind}
use Rattle.replay_text.specs.replay_rules.declared.plan.PlanKind.TheVariants as faults
use Rattle.replay_text.specs.replay_rules.declared.plan.PlanFault.{PlanFault}
use Rattle.replay_text.specs.replay_rules.declared.plan.PlanFault.TheVariants.{At, Memory}
use Rattle.step_replay.specs.declared.heads.Heads.{Heads}
use Rattle.step_replay.specs.declared.heads.Heads.TheVariants.{Seats, Objects, Slots, Base, Whole}
use Rattle.step_replay.specs.declared.body.CallVerb.{CallVerb}
use Rattle.step_replay.specs.declared.body.CallVerb.TheVariants.{Enter, Read, Lock, Write, Commit, Abort, Leave, Tidy}
use Rattle.step_replay.specs.declared.drafts.Draft.{Draft}
use Rattle.replay_text.specs.replay_rules.declared.plan.TheConstants.{MOST_STEPS}
use Rattle.replay_text.specs.replay_rules.Plans.{PlanOf, config_of}

-- a number of 1 to 20 decimal digits within these bounds
abbrev pub number_in : ℕ → ℕ → List ℕ → Result ℕ PlanKind
number_in least most word =
    if is_numeral 20 word && nat_le least (digits_value 10 word) && nat_le (digits_value 10 word) most then Ok (digits_value 10 word) else Err faults.Number

-- the number that the first word is, and the words behind it
abbrev pub next_number : ℕ → ℕ → List (List ℕ) → Result (ℕ × List (List ℕ)) PlanKind
next_number least most [] = Err faults.Count
next_number least most (word ∷ words) = do
  number ← number_in least most word
  Ok (number, words)

-- there are exactly so many words
abbrev pub has_count : ℕ → List (List ℕ) → Result Unit PlanKind
has_count count words = if length words == count then Ok tt else Err faults.Count

-- the number that the one word is
abbrev pub single : ℕ → ℕ → List (List ℕ) → Result ℕ PlanKind
single least most words = do
  one ← has_count 1 words
  number ← next_number least most words
  Ok number.0

-- a number of 64 bits, and the words behind it
abbrev pub next_word : List (List ℕ) → Result (ℕ × List (List ℕ)) PlanKind
next_word words = next_number 0 18446744073709551615 words

-- the numbers that the first six words are
abbrev pub numbers_of_six : List (List ℕ) → Result (List ℕ) PlanKind
numbers_of_six words = do
  first ← next_word words
  second ← next_word first.1
  third ← next_word second.1
  fourth ← next_word third.1
  fifth ← next_word fourth.1
  sixth ← next_word fifth.1
  Ok (first.0 ∷ second.0 ∷ third.0 ∷ fourth.0 ∷ fifth.0 ∷ sixth.0 ∷ [])

-- The first four lines: what they say with one more, of this first word and these words behind it.
abbrev pub head_taken : Heads → List ℕ → List (List ℕ) → Result Heads PlanKind
head_taken Seats word words = if bytes_eq word (codes "seats") then (single 1 64 words >>= λ seats. Ok (Objects seats)) else Err faults.Word
head_taken (Objects seats) word words =
    if bytes_eq word (codes "objects") then (single 1 1024 words >>= λ objects. Ok (Slots seats objects)) else Err faults.Word
head_taken (Slots seats objects) word words =
    if bytes_eq word (codes "slots") then (single 64 256 words >>= λ slots. Ok (Base seats objects slots)) else Err faults.Word
head_taken (Base seats objects slots) word words =
    if bytes_eq word (codes "base") then (single 0 35184372088831 words >>= λ base. Ok (Whole (config_of seats objects slots base))) else Err faults.Word
head_taken (Whole config) word words = Err faults.Word

-- what a call does that is no commit, by its name
abbrev pub other_verb_of : List ℕ → Result CallVerb PlanKind
other_verb_of name =
    if bytes_eq name (codes "enter") then Ok Enter
    else (if bytes_eq name (codes "read") then Ok Read
    else (if bytes_eq name (codes "lock") then Ok Lock
    else (if bytes_eq name (codes "write") then Ok Write
    else (if bytes_eq name (codes "abort") then Ok Abort
    else (if bytes_eq name (codes "leave") then Ok Leave
    else (if bytes_eq name (codes "tidy") then Ok Tidy
    else Err faults.Word))))))

-- what a call does, by its name
abbrev pub verb_of : List ℕ → Result CallVerb PlanKind
verb_of name = if bytes_eq name (codes "commit") then Ok Commit else other_verb_of name

-- how many words stand behind its name
abbrev pub words_behind : CallVerb → ℕ
words_behind Read = 1
words_behind Lock = 1
words_behind Write = 7
words_behind Enter = 0
words_behind Commit = 0
words_behind Abort = 0
words_behind Leave = 0
words_behind Tidy = 0

-- an object of the domain, and the words behind it
abbrev pub next_object : Config → List (List ℕ) → Result (ℕ × List (List ℕ)) PlanKind
next_object config words = next_number 0 (config.objects - 1) words

-- the call that does this, by the words behind its name
abbrev pub call_with : CallVerb → Config → List (List ℕ) → Result Call PlanKind
call_with Enter config words = Ok calls.Enter
call_with Read config words = do
  object ← next_object config words
  Ok (calls.Read object.0)
call_with Lock config words = do
  object ← next_object config words
  Ok (calls.Lock object.0)
call_with Write config words = do
  object ← next_object config words
  six ← numbers_of_six object.1
  Ok (calls.Write object.0 six)
call_with Commit config words = Ok calls.Commit
call_with Abort config words = Ok calls.Abort
call_with Leave config words = Ok calls.Leave
call_with Tidy config words = Ok calls.Tidy

-- the call of a seat, by the words behind `seat`: the seat, the call's name, and what the call has
abbrev pub call_of : Config → List (List ℕ) → Result CallOf PlanKind
call_of config [] = Err faults.Count
call_of config (seat ∷ []) = Err faults.Count
call_of config (seat ∷ name ∷ words) = do
  verb ← verb_of name
  right ← has_count (words_behind verb) words
  number ← number_in 0 (config.seats - 1) seat
  call ← call_with verb config words
  Ok (record { seat = number; call = call })

-- the steps so far with those that the words are, below so many seats
abbrev pub seats_after : ℕ → List ℕ → List (List ℕ) → Result (List ℕ) PlanKind
seats_after seats steps [] = Ok steps
seats_after seats steps (word ∷ words) = do
  seat ← number_in 0 (seats - 1) word
  seats_after seats (steps ++ seat ∷ []) words

-- the steps so far with those of a line, by the words behind `step`
abbrev pub steps_taken : ℕ → List ℕ → List (List ℕ) → Result (List ℕ) PlanKind
steps_taken seats steps [] = Err faults.Count
steps_taken seats steps (word ∷ words) = do
  more ← seats_after seats steps (word ∷ words)
  if nat_le (length more) MOST_STEPS then Ok more else Err faults.Many

-- what the lines so far say: the first four, and the calls and the steps of the others
pub record Said : Type 0 where
  pub heads : Heads
  pub calls : List CallOf
  pub steps : List ℕ

-- what a draft says
abbrev pub said_of : Draft → Said
said_of draft = record { heads = draft.heads; calls = draft.calls.items; steps = draft.steps.items }

-- a line behind the first four, in a domain of these numbers
abbrev pub body_taken : Config → Said → List ℕ → List (List ℕ) → Result Said PlanKind
body_taken config before word words =
    if bytes_eq word (codes "seat") then (call_of config words >>= λ call. Ok (record before { calls = before.calls ++ call ∷ [] }))
    else (if bytes_eq word (codes "step") then (steps_taken config.seats before.steps words >>= λ steps. Ok (record before { steps = steps }))
    else Err faults.Word)

-- one of the first four lines where one is still to come, and else another one
abbrev pub words_taken : Heads → Said → List ℕ → List (List ℕ) → Result Said PlanKind
words_taken (Whole config) before word words = body_taken config before word words
words_taken Seats before word words = head_taken Seats word words >>= λ heads. Ok (record before { heads = heads })
words_taken (Objects seats) before word words = head_taken (Objects seats) word words >>= λ heads. Ok (record before { heads = heads })
words_taken (Slots seats objects) before word words = head_taken (Slots seats objects) word words >>= λ heads. Ok (record before { heads = heads })
words_taken (Base seats objects slots) before word words = head_taken (Base seats objects slots) word words >>= λ heads. Ok (record before { heads = heads })

-- what is said with one line more, of these words
abbrev pub line_taken : Said → List (List ℕ) → Result Said PlanKind
line_taken before [] = Ok before
line_taken before (word ∷ words) = words_taken before.heads before word words

-- what is read of the line of this number
abbrev pub at_line : {A : Type 0} → ℕ → Result A PlanKind → Result A (ℕ × PlanKind)
at_line number (Ok x) = Ok x
at_line number (Err kind) = Err (number, kind)

-- what is said with these lines more, the first of which has this number, or the first faulty line and its fault
abbrev pub said_after : Said → ℕ → List (List ℕ) → Result Said (ℕ × PlanKind)
said_after before number [] = Ok before
said_after before number (line ∷ lines) = do
  next ← at_line number (line_taken before (words_of line))
  said_after next (number + 1) lines

-- The number of a text's last line. What follows the last LF is a line where it isn't empty; an empty text has one line.
abbrev pub last_line : List ℕ → ℕ
last_line text = if slice_index text (length text - 1) == 10 then length (lines_of text) - 1 else length (lines_of text)

-- all four first lines are there
abbrev pub finished : Heads → Said → Result PlanOf PlanKind
finished (Whole config) all = Ok (record { config = config; calls = all.calls; steps = all.steps })
finished Seats all = Err faults.Word
finished (Objects seats) all = Err faults.Word
finished (Slots seats objects) all = Err faults.Word
finished (Base seats objects slots) all = Err faults.Word

-- nothing is said yet
abbrev pub nothing_said : Said
nothing_said = record { heads = Seats; calls = []; steps = [] }

-- The plan of a text, or its first faulty line, counted from 1, and what is wrong with it first.
abbrev pub planned : List ℕ → Result PlanOf (ℕ × PlanKind)
planned text = do
  all ← said_after nothing_said 1 (lines_of text)
  at_line (last_line text) (finished all.heads all)

-- what a call may answer in place of what reading gives: the fault, or want of memory
abbrev pub Refuses : {A : Type 0} → Result A (ℕ × PlanKind) → PlanFault → Type 0
Refuses reading (At line kind) = reading ≡ Err (line, kind)
Refuses reading Memory = ⊤

-- The calls that a seat looks at, one after another, and the turns of a schedule.
use Rattle.std.proofs.Common.{◌≡◌, ℕ, zero, suc, ◌+◌, ◌-◌, ◌<◌, ◌≤◌, List, [], ◌∷◌, ◌++◌, length, get_or, drop}
use Rattle.std.proofs.Common.{set, append_assoc, refl, sym, ap, ◌∙◌, arith, drop-cons}
use Rattle.mv_layout.specs.declared.config.Config.{Config}
use Rattle.replay_text.specs.replay_rules.declared.plan.CallOf.{CallOf}
use Rattle.std.proofs.lemmas.List.{map-append}
use Rattle.step_replay.specs.declared.turns.ReplaySeat.{ReplaySeat}
use Rattle.replay_text.specs.replay_rules.Runs.{SeatOf, TapeOf, Scene, Looked, Replay, no_call, one_looked, looked, looked_on, turned, turn_taken, turns_taken}
use Rattle.replay_text.specs.replay_rules.Runs.{new_seat, new_seats, replay_of}
use Rattle.replay_text.specs.replay_rules.Plans.{PlanOf}
use Rattle.replay_text.specs.replay_rules.Words.{new_words}
use Rattle.step_replay.specs.Shown.{seat_of, seats_of}

-- the list from a place on is what stands there and what is behind
pub from_here : {A : Type 0} (xs : List A) (i : ℕ) (d : A) → i < length xs → drop i xs ≡ get_or xs i d ∷ drop (i + 1) xs
from_here xs i d lt = let next : suc i ≡ i + 1 = omega arith in drop-cons xs i d lt ∙ ap (λ n. get_or xs i d ∷ drop n xs) next

-- from the end on nothing is left
pub nothing_left : {A : Type 0} (xs : List A) (i : ℕ) → length xs ≤ i → drop i xs ≡ []
nothing_left [] zero h = refl
nothing_left [] (suc i) h = refl
nothing_left (x ∷ xs) zero h = absurd (omega (arith, h))
nothing_left (x ∷ xs) (suc i) h = nothing_left xs i (omega (arith, h))

-- a call more is looked at
pub looked_next : (c : Config) (calls : List CallOf) (place : ℕ) (x : Scene) (this : Looked) → place < length calls
    → this ≡ one_looked c (get_or calls place no_call) (record x { seat = record x.seat { left = drop (place + 1) calls } })
    → looked c (drop place calls) x ≡ looked_on this.task this (looked c (drop (place + 1) calls) this.scene)
looked_next c calls place x this lt is =
    ap (λ cs. looked c cs x) (from_here calls place no_call lt)
    ∙ ap (λ (l : Looked). looked_on l.task l (looked c (drop (place + 1) calls) l.scene)) (sym is)

-- a turn more is taken
pub turns_next : (c : Config) (steps : List ℕ) (i seat : ℕ) (r : Replay) → i < length steps → get_or steps i 0 ≡ seat
    → turns_taken c r (drop i steps) ≡ turns_taken c (turn_taken c r seat) (drop (i + 1) steps)
turns_next c steps i seat r lt is =
    ap (turns_taken c r) (from_here steps i 0 lt) ∙ ap (λ n. turns_taken c (turn_taken c r n) (drop (i + 1) steps)) is

-- a seat more is made
pub seats_next : (calls : List CallOf) (seats : List ReplaySeat) (first count : ℕ) (seat : ReplaySeat) (more : List ReplaySeat)
    → seat_of calls seat ≡ new_seat calls first
    → first < count → more ≡ seats ++ seat ∷ []
    → seats_of calls seats ++ new_seats calls first (count - first) ≡ new_seats calls 0 count
    → seats_of calls more ++ new_seats calls (first + 1) (count - (first + 1)) ≡ new_seats calls 0 count
seats_next calls seats first count seat more is lt pushed before =
    let left : count - first ≡ suc (count - (first + 1)) = omega (arith, lt) in
    ap (λ xs. seats_of calls xs ++ new_seats calls (first + 1) (count - (first + 1))) pushed
    ∙ ap (λ xs. xs ++ new_seats calls (first + 1) (count - (first + 1))) (map-append (seat_of calls) seats (seat ∷ []))
    ∙ append_assoc (seats_of calls seats) (seat_of calls seat ∷ []) (new_seats calls (first + 1) (count - (first + 1)))
    ∙ ap (λ x. seats_of calls seats ++ x ∷ new_seats calls (first + 1) (count - (first + 1))) is
    ∙ ap (λ n. seats_of calls seats ++ new_seats calls first n) (sym left)
    ∙ before

-- what a list of seats shows at a place
pub seat_shown : (calls : List CallOf) (seats : List ReplaySeat) (i : ℕ) (seat : ReplaySeat) (d : SeatOf) → i < length seats → seat ≡ get_or seats i seat
    → seat_of calls seat ≡ get_or (seats_of calls seats) i d
seat_shown calls [] i seat d lt is = absurd (omega (arith, lt))
seat_shown calls (x ∷ seats) zero seat d lt is = ap (seat_of calls) is
seat_shown calls (x ∷ seats) (suc i) seat d lt is = seat_shown calls seats i seat d (omega (arith, lt)) is

-- and with another one at that place
pub seat_put : (calls : List CallOf) (seats : List ReplaySeat) (i : ℕ) (seat : ReplaySeat)
    → seats_of calls (set seats i seat) ≡ set (seats_of calls seats) i (seat_of calls seat)
seat_put calls [] i seat = refl
seat_put calls (x ∷ seats) zero seat = refl
seat_put calls (x ∷ seats) (suc i) seat = ap (λ xs. seat_of calls x ∷ xs) (seat_put calls seats i seat)

-- a new replay, by its parts
pub begun_is : (p : PlanOf) (seats : List SeatOf) (words text : List ℕ) → seats ≡ new_seats p.calls 0 p.config.seats → words ≡ new_words p.config
    → text ≡ []
    → replay_of p ≡ turns_taken p.config (record { seats = seats; tape = record { words = words; made = 0; text = text } }) p.steps
begun_is p seats words text are is nothing =
    ap (λ xs. turns_taken p.config (record { seats = xs; tape = record { words = new_words p.config; made = 0; text = [] } }) p.steps) (sym are)
    ∙ ap (λ ws. turns_taken p.config (record { seats = seats; tape = record { words = ws; made = 0; text = [] } }) p.steps) (sym is)
    ∙ ap (λ t. turns_taken p.config (record { seats = seats; tape = record { words = words; made = 0; text = t } }) p.steps) (sym nothing)

-- a replay by its parts
abbrev replay_with : List SeatOf → TapeOf → Replay
replay_with seats tape = record { seats = seats; tape = tape }

-- a turn of one of the seats is one of the replay
pub turn_shown : (c : Config) (calls : List CallOf) (seats : List ReplaySeat) (n : ℕ) (seat then : ReplaySeat) (tape after : TapeOf) → n < length seats
    → seat ≡ get_or seats n seat
    → record { seat = seat_of calls then; tape = after } ≡ turned c (record { seat = seat_of calls seat; tape = tape })
    → turn_taken c (record { seats = seats_of calls seats; tape = tape }) n ≡ record { seats = seats_of calls (set seats n then); tape = after }
turn_shown c calls seats n seat then tape after lt is turn =
    let put = λ (x : Scene). replay_with (set (seats_of calls seats) n x.seat) x.tape in
    ap (λ s. put (turned c (record { seat = s; tape = tape }))) (sym (seat_shown calls seats n seat (new_seat [] 0) lt is))
    ∙ ap put (sym turn)
    ∙ ap (λ xs. replay_with xs after) (sym (seat_put calls seats n then))

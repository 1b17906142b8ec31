-- What generated commands are: adds, dels, has and moves, of keys of the seat's own.
use Rattle.std.proofs.Common.{◌≡◌, ◌≢◌, ℕ, ◌%◌, ◌<◌, ◌==◌, nat_lt, Bool, true, false, List, [], ◌∷◌, if◌then◌else◌, arith}
use Rattle.std.specs.List.{All, AllByRecursion}
use Rattle.std.proofs.lemmas.List.Elements.{All-nil, All-cons, All-head, All-tail}
use Rattle.set_model.specs.declared.commands.Command.{Command}
use Rattle.set_model.specs.declared.commands.Command.TheVariants.{Add, Put, Del, Has, Get, Move, Pair, Size, Next}
use Rattle.script_parser.specs.GrammarLaws.{MaySay}
use Rattle.script_gen.specs.Script.{commands_of, command_of, first_name, second_name, key_of, IsOwn, IsGenerated, script}

-- a key is one of the seat's own
own_key : (seat word : ℕ) → seat < 4 → (key_of seat word < 256) × (key_of seat word % 4 ≡ seat)
own_key seat word known = (omega arith, omega arith)

-- the second name is another one
other_name : (first word : ℕ) → first < 30 → first ≢ second_name first word
other_name first word known = λ same. omega (arith, same)

which : (seat name other key : ℕ) (adds dels has : Bool) → IsOwn seat name key → other < 30 → name ≢ other
    → IsGenerated seat (if adds then Add name key else (if dels then Del name key else (if has then Has name key else Move name other key)))
which seat name other key true dels has own named differ = own
which seat name other key false true has own named differ = own
which seat name other key false false true own named differ = own
which seat name other key false false false own named differ = (own, named, differ)

-- the command of four words
pub generated_one : (seat w1 w2 w3 w4 : ℕ) → seat < 4 → IsGenerated seat (command_of seat w1 w2 w3 w4)
generated_one seat w1 w2 w3 w4 known =
    let named : first_name w2 < 30 = omega arith in
    let other : second_name (first_name w2) w3 < 30 = omega arith in
    which seat (first_name w2) (second_name (first_name w2) w3) (key_of seat w4) (nat_lt (w1 % 8) 4) (nat_lt (w1 % 8) 6) (w1 % 8 == 6)
    (named, (own_key seat w4 known).0, (own_key seat w4 known).1) other (other_name (first_name w2) w3 named)

-- the commands of words
pub generated_all : (seat : ℕ) (words : List ℕ) → seat < 4 → All (IsGenerated seat) (commands_of seat words)
generated_all seat [] known = All-nil (IsGenerated seat)
generated_all seat (w1 ∷ []) known = All-nil (IsGenerated seat)
generated_all seat (w1 ∷ w2 ∷ []) known = All-nil (IsGenerated seat)
generated_all seat (w1 ∷ w2 ∷ w3 ∷ []) known = All-nil (IsGenerated seat)
generated_all seat (w1 ∷ w2 ∷ w3 ∷ w4 ∷ words) known =
    All-cons (IsGenerated seat) (command_of seat w1 w2 w3 w4) (commands_of seat words) (generated_one seat w1 w2 w3 w4 known) (generated_all seat words known)

-- a script of format 1 may say such a command
may_say : (seat : ℕ) (command : Command) → IsGenerated seat command → MaySay 1 command
may_say seat (Add name key) own = ((own.0, omega (arith, own.1)), tt)
may_say seat (Del name key) own = ((own.0, omega (arith, own.1)), tt)
may_say seat (Has name key) own = ((own.0, omega (arith, own.1)), tt)
may_say seat (Move source target key) own = ((own.0.0, own.1, omega (arith, own.0.1)), own.2)
may_say seat (Put name key value) own = absurd own
may_say seat (Get name key) own = absurd own
may_say seat (Pair first second key) own = absurd own
may_say seat (Size name) own = absurd own
may_say seat (Next name key) own = absurd own

pub may_say_all : (seat : ℕ) (commands : List Command) → All (IsGenerated seat) commands → AllByRecursion (MaySay 1) commands
may_say_all seat [] all = tt
may_say_all seat (command ∷ commands) all =
    (may_say seat command (All-head (IsGenerated seat) command commands all), may_say_all seat commands (All-tail (IsGenerated seat) command commands all))

-- a whole script
pub script_generated : (number seat : ℕ) → seat < 4 → All (IsGenerated seat) (script number seat)
unfolding script
script_generated number seat known = generated_all seat _ known

-- How long the text of a generated script is at most.
use Rattle.std.proofs.Common.{◌≡◌, ℕ, ◌+◌, ◌*◌, ◌%◌, ◌<◌, ◌≤◌, nat_lt, Bool, true}
use Rattle.std.proofs.Common.{false, List, [], ◌∷◌, ◌++◌, length, length-append, codes, decimal, refl, if◌then◌else◌, arith}
use Rattle.std.specs.List.{All}
use Rattle.std.proofs.lemmas.Fmt.{length-decimal-le}
use Rattle.std.proofs.lemmas.List.Elements.{All-head, All-tail}
use Rattle.set_model.specs.declared.commands.Command.{Command}
use Rattle.set_model.specs.declared.commands.Command.TheVariants.{Add, Put, Del, Has, Get, Move, Pair, Size, Next}
use Rattle.set_model.specs.Names.{name_text}
use Rattle.script_parser.specs.GrammarLaws.{line_text, script_text}
use Rattle.script_gen.specs.Script.{IsGenerated}

-- a name is a letter and a digit
one_letter : (first second : Bool) → length (if first then codes "l" else (if second then codes "h" else codes "t")) ≡ 1
one_letter true second = refl
one_letter false true = refl
one_letter false false = refl

name_short : (name : ℕ) → length (name_text name) ≤ 2
name_short name =
    let digit : length (decimal (name % 10)) ≤ 1 = length-decimal-le 1 (name % 10) (omega arith) (omega arith) (omega arith) in
    let first : length (if nat_lt name 10 then codes "l" else (if nat_lt name 20 then codes "h" else codes "t")) ≡ 1 =
    one_letter (nat_lt name 10) (nat_lt name 20)
    in
    let both = length-append (if nat_lt name 10 then codes "l" else (if nat_lt name 20 then codes "h" else codes "t")) (decimal (name % 10)) in
    omega (arith, digit, first, both)

key_short : (key : ℕ) → key < 256 → length (decimal key) ≤ 3
key_short key small = length-decimal-le 3 key (omega arith) (omega (arith, small)) (omega (arith, small))

-- three words behind each other, with a space before the second and the third
three_short : (verb name key : List ℕ) (most : ℕ) → length verb ≤ most → length name ≤ 2 → length key ≤ 3
    → length (verb ++ (codes " " ++ (name ++ (codes " " ++ key)))) ≤ most + 7
three_short verb name key most v n k =
    let a = length-append verb (codes " " ++ (name ++ (codes " " ++ key))) in
    let b = length-append name (codes " " ++ key) in
    omega (arith, a, b, v, n, k)

four_short : (verb first second key : List ℕ) → length verb ≤ 4 → length first ≤ 2 → length second ≤ 2 → length key ≤ 3
    → length (verb ++ (codes " " ++ (first ++ (codes " " ++ (second ++ (codes " " ++ key)))))) ≤ 14
four_short verb first second key v f s k =
    let a = length-append verb (codes " " ++ (first ++ (codes " " ++ (second ++ (codes " " ++ key))))) in
    let b = length-append first (codes " " ++ (second ++ (codes " " ++ key))) in
    let c = length-append second (codes " " ++ key) in
    omega (arith, a, b, c, v, f, s, k)

line_short : (seat : ℕ) (command : Command) → IsGenerated seat command → length (line_text command) ≤ 14
line_short seat (Add name key) own =
    let n = three_short (codes "add") (name_text name) (decimal key) 3 (omega arith) (name_short name) (key_short key own.1) in omega (arith, n)
line_short seat (Del name key) own =
    let n = three_short (codes "del") (name_text name) (decimal key) 3 (omega arith) (name_short name) (key_short key own.1) in omega (arith, n)
line_short seat (Has name key) own =
    let n = three_short (codes "has") (name_text name) (decimal key) 3 (omega arith) (name_short name) (key_short key own.1) in omega (arith, n)
line_short seat (Move source target key) own =
    four_short (codes "move") (name_text source) (name_text target) (decimal key) (omega arith) (name_short source) (name_short target) (key_short key own.0.1)
line_short seat (Put name key value) own = absurd own
line_short seat (Get name key) own = absurd own
line_short seat (Pair first second key) own = absurd own
line_short seat (Size name) own = absurd own
line_short seat (Next name key) own = absurd own

-- the text of a script
pub text_short : (seat : ℕ) (commands : List Command) → All (IsGenerated seat) commands → length (script_text commands) ≤ 15 * length commands
text_short seat [] all = omega arith
text_short seat (command ∷ commands) all =
    let line = line_short seat command (All-head (IsGenerated seat) command commands all) in
    let rest = text_short seat commands (All-tail (IsGenerated seat) command commands all) in
    let a = length-append (line_text command) (codes "\n") in
    let b = length-append (line_text command ++ codes "\n") (script_text commands) in
    omega (arith, line, rest, a, b)

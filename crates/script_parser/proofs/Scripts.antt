-- What the fold over the lines comes to.
use Rattle.std.proofs.Common.{◌≡◌, ℕ, ◌+◌, ◌≤◌, Bool, true, false, cond, List, [], ◌∷◌, ◌++◌, length, Some, None, Ok, Err}
use Rattle.std.proofs.Common.{nat_lt, refl, ap, sym, ◌∙◌, append_assoc, append-nil, length-append, arith}
use Rattle.std.proofs.lemmas.Bool.Decides.{nat_tests}
use Rattle.set_model.specs.declared.commands.Command.{Command}
use Rattle.script_parser.specs.declared.faults.FaultKind.{FaultKind}
use Rattle.script_parser.specs.declared.faults.FaultKind.TheVariants.{Many}
use Rattle.set_model.specs.declared.script.TheConstants.{MOST_COMMANDS}
use Rattle.script_parser.specs.Grammar.{◌>>=◌, Reading, readings_of, parsed, parsed_after}
use Rattle.script_parser.specs.GrammarLaws.{AreRead, commands_in, IsScriptOf, IsFaulty, IsFirstFault}

-- there is room for one more
room : (front more : List Command) (c : Command) → length (front ++ c ∷ more) ≤ MOST_COMMANDS → nat_lt (length front) MOST_COMMANDS ≡ true
room front more c few = let n = length-append front (c ∷ more) in grind (arith, nat_tests)

-- lines in the grammar are taken, and the others follow
pub parsed_after-read : (front : List Command) (number : ℕ) (before rest : List Reading) → AreRead before
    → length (front ++ commands_in before) ≤ MOST_COMMANDS
    → parsed_after front number (before ++ rest) ≡ parsed_after (front ++ commands_in before) (number + length before) rest
parsed_after-read front number [] rest read few =
    let same : number + 0 ≡ number = omega arith in
    rw (append-nil front, same) refl
parsed_after-read front number (Ok None ∷ before) rest read few =
    let next : number + 1 + length before ≡ number + length (Ok None ∷ before) = omega arith in
    parsed_after-read front (number + 1) before rest read few ∙ ap (λ n. parsed_after (front ++ commands_in before) n rest) next
parsed_after-read front number (Ok (Some c) ∷ before) rest read few =
    let next : number + 1 + length before ≡ number + length (Ok (Some c) ∷ before) = omega arith in
    let regrouped : (front ++ c ∷ []) ++ commands_in before ≡ front ++ c ∷ commands_in before = append_assoc front (c ∷ []) (commands_in before) in
    rw (room front (commands_in before) c few)
    (parsed_after-read (front ++ c ∷ []) (number + 1) before rest read (rw regrouped few)
    ∙ ap (λ cs. parsed_after cs (number + 1 + length before) rest) regrouped
    ∙ ap (λ n. parsed_after (front ++ c ∷ commands_in before) n rest) next)
parsed_after-read front number (Err kind ∷ before) rest read few = absurd read

-- what a fold that ends well says of the lines
record Taken (front : List Command) (readings : List Reading) (commands : List Command) : Type 0 where
  pub read : AreRead readings
  pub commands_are : commands ≡ front ++ commands_in readings
  pub few : length commands ≤ MOST_COMMANDS

parsed_after-Ok : (front : List Command) (number : ℕ) (readings : List Reading) (commands : List Command) → length front ≤ MOST_COMMANDS
    → parsed_after front number readings ≡ Ok commands → Taken front readings commands
parsed_after-Ok front number [] commands few e =
    let same : front ≡ commands = cc in
    record { read = tt; commands_are = sym same ∙ sym (append-nil front); few = rw (sym same) few }
parsed_after-Ok front number (Ok None ∷ readings) commands few e =
    let t = parsed_after-Ok front (number + 1) readings commands few e in
    record { read = t.read; commands_are = t.commands_are; few = t.few }
parsed_after-Ok front number (Ok (Some c) ∷ readings) commands few e =
    cases (parsed_after-Ok (front ++ c ∷ []) (number + 1) readings commands) (nat_lt (length front) MOST_COMMANDS) refl e
  where
    cases : (length (front ++ c ∷ []) ≤ MOST_COMMANDS → parsed_after (front ++ c ∷ []) (number + 1) readings ≡ Ok commands
        → Taken (front ++ c ∷ []) readings commands) → (b : Bool) → nat_lt (length front) MOST_COMMANDS ≡ b
        → (cond b (Ok (front ++ c ∷ [])) (Err (number, Many)) >>= λ more. parsed_after more (number + 1) readings) ≡ Ok commands
        → Taken front (Ok (Some c) ∷ readings) commands
    cases go true fits e =
        let n = length-append front (c ∷ []) in
        let t = go (grind (arith, nat_tests)) e in
        record { read = t.read; commands_are = t.commands_are ∙ append_assoc front (c ∷ []) (commands_in readings); few = t.few }
    cases go false full e = absurd (cc)
parsed_after-Ok front number (Err kind ∷ readings) commands few e = absurd (cc)

-- what a fold that ends in a fault says of the lines
record Stopped (front : List Command) (number : ℕ) (readings : List Reading) (line : ℕ) (kind : FaultKind) : Type 0 where
  pub before : List Reading
  pub reading : Reading
  pub after : List Reading
  pub readings_are : readings ≡ before ++ reading ∷ after
  pub line_is : line ≡ number + length before
  pub read : AreRead before
  pub few : length (front ++ commands_in before) ≤ MOST_COMMANDS
  pub faulty : IsFaulty (length (front ++ commands_in before)) reading kind

parsed_after-Err : (front : List Command) (number : ℕ) (readings : List Reading) (line : ℕ) (kind : FaultKind) → length front ≤ MOST_COMMANDS
    → parsed_after front number readings ≡ Err (line, kind) → Stopped front number readings line kind
parsed_after-Err front number [] line kind few e = absurd (cc)
parsed_after-Err front number (Ok None ∷ readings) line kind few e =
    let t = parsed_after-Err front (number + 1) readings line kind few e in
    record {
      before = Ok None ∷ t.before;
      reading = t.reading;
      after = t.after;
      readings_are = ap (λ rs. Ok None ∷ rs) t.readings_are;
      line_is = omega (arith, t.line_is);
      read = t.read;
      few = t.few;
      faulty = t.faulty;
    }
parsed_after-Err front number (Ok (Some c) ∷ readings) line kind few e =
    cases (parsed_after-Err (front ++ c ∷ []) (number + 1) readings line kind) (nat_lt (length front) MOST_COMMANDS) refl e
  where
    cases : (length (front ++ c ∷ []) ≤ MOST_COMMANDS → parsed_after (front ++ c ∷ []) (number + 1) readings ≡ Err (line, kind)
        → Stopped (front ++ c ∷ []) (number + 1) readings line kind) → (b : Bool) → nat_lt (length front) MOST_COMMANDS ≡ b
        → (cond b (Ok (front ++ c ∷ [])) (Err (number, Many)) >>= λ more. parsed_after more (number + 1) readings) ≡ Err (line, kind)
        → Stopped front number (Ok (Some c) ∷ readings) line kind
    cases go true fits e =
        let n = length-append front (c ∷ []) in
        let t = go (grind (arith, nat_tests)) e in
        let regrouped : (front ++ c ∷ []) ++ commands_in t.before ≡ front ++ c ∷ commands_in t.before = append_assoc front (c ∷ []) (commands_in t.before) in
        record {
          before = Ok (Some c) ∷ t.before;
          reading = t.reading;
          after = t.after;
          readings_are = ap (λ rs. Ok (Some c) ∷ rs) t.readings_are;
          line_is = omega (arith, t.line_is);
          read = t.read;
          few = rw regrouped at t.few;
          faulty = rw regrouped at t.faulty;
        }
    cases go false full e =
        let stop : ℕ × FaultKind = (number, Many) in
        let at : ℕ × FaultKind = (line, kind) in
        let found : stop ≡ at = cc in
        let number_is : number ≡ line = ap (λ (p : ℕ × FaultKind). p.0) found in
        let kind_is : kind ≡ Many = sym (ap (λ (p : ℕ × FaultKind). p.1) found) in
        let none = append-nil front in
        record {
          before = [];
          reading = Ok (Some c);
          after = readings;
          readings_are = refl;
          line_is = omega arith;
          read = tt;
          few = rw none few;
          faulty = rw none (grind (arith, nat_tests), kind_is);
        }
parsed_after-Err front number (Err fault ∷ readings) line kind few e =
    let stop : ℕ × FaultKind = (number, fault) in
    let at : ℕ × FaultKind = (line, kind) in
    let found : stop ≡ at = cc in
    let number_is : number ≡ line = ap (λ (p : ℕ × FaultKind). p.0) found in
    let kind_is : kind ≡ fault = sym (ap (λ (p : ℕ × FaultKind). p.1) found) in
    let none = append-nil front in
    record {
      before = [];
      reading = Err fault;
      after = readings;
      readings_are = refl;
      line_is = omega arith;
      read = tt;
      few = rw none few;
      faulty = kind_is;
    }

-- the two laws, both ways
pub script-from_parsed : (text : List ℕ) (commands : List Command) → parsed text ≡ Ok commands → IsScriptOf text commands
script-from_parsed text commands e =
    let t = parsed_after-Ok [] 1 (readings_of text) commands (omega arith) e in
    record { read = t.read; commands_are = t.commands_are; few = t.few }

pub parsed-from_script : (text : List ℕ) (commands : List Command) → IsScriptOf text commands → parsed text ≡ Ok commands
parsed-from_script text commands script =
    ap (parsed_after [] 1) (sym (append-nil (readings_of text)))
    ∙ parsed_after-read [] 1 (readings_of text) [] script.read (rw script.commands_are at script.few)
    ∙ ap Ok (sym script.commands_are)

pub fault-from_parsed : (text : List ℕ) (number : ℕ) (kind : FaultKind) → parsed text ≡ Err (number, kind) → IsFirstFault text number kind
fault-from_parsed text number kind e =
    let t = parsed_after-Err [] 1 (readings_of text) number kind (omega arith) e in
    record {
      before = t.before;
      reading = t.reading;
      after = t.after;
      readings = t.readings_are;
      number_is = omega (arith, t.line_is);
      read = t.read;
      few = t.few;
      faulty = t.faulty;
    }

stops : (front : List Command) (number : ℕ) (reading : Reading) (after : List Reading) (kind : FaultKind) → IsFaulty (length front) reading kind
    → parsed_after front number (reading ∷ after) ≡ Err (number, kind)
stops front number (Err fault) after kind faulty = rw faulty refl
stops front number (Ok None) after kind faulty = absurd faulty
stops front number (Ok (Some c)) after kind faulty =
    let full : nat_lt (length front) MOST_COMMANDS ≡ false = let n = faulty.0 in grind (arith, nat_tests) in
    rw (full, faulty.1) refl

pub parsed-from_fault : (text : List ℕ) (number : ℕ) (kind : FaultKind) → IsFirstFault text number kind → parsed text ≡ Err (number, kind)
parsed-from_fault text number kind fault =
    let place : 1 + length fault.before ≡ number = omega (arith, fault.number_is) in
    ap (parsed_after [] 1) fault.readings
    ∙ parsed_after-read [] 1 fault.before (fault.reading ∷ fault.after) fault.read fault.few
    ∙ ap (λ n. parsed_after (commands_in fault.before) n (fault.reading ∷ fault.after)) place
    ∙ stops (commands_in fault.before) number fault.reading fault.after kind fault.faulty

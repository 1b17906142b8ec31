-- The scripts of several files, and where reading them stops.
use Rattle.std.specs.Prelude.{◌≡◌, ◌≤◌, ◌<◌, ℕ, List, [], ◌∷◌, ◌++◌, length, take, slice_get, Option, Some, Result, Ok, Err, Bool}
use Rattle.std.specs.Prelude.{IsTrue, All, ⊤}
use Rattle.std.specs.List.{AllZip}
use Rattle.grow_hash.specs.GrowPlans.{IsOfGrown}
use Rattle.grow_script.specs.GrowGrammar.{parsed_grow}
use Rattle.host_io.specs.Outside.{Faults, Texts, Rose, HasText}
use Rattle.block_parser.specs.BlockGrammar.{parsed_blocks}
use Rattle.block_parser.specs.declared.faults.BlockKind.{BlockKind}
use Rattle.script_parser.specs.Grammar.{parsed}
use Rattle.set_model.specs.declared.commands.Command.{Command}
use Rattle.script_parser.specs.declared.faults.FaultKind.{FaultKind}
use Rattle.script_files.specs.declared.stop.Stop.{Stop}
use Rattle.script_files.specs.declared.stop.Stop.TheVariants.{Script, BlockScript, Plan, Bytes, Read, Memory}
use Rattle.script_files.specs.declared.stop.TheConstants.{MOST_BYTES}
use Rattle.script_files.specs.declared.scripts.Grammar.{Grammar}
use Rattle.script_files.specs.declared.scripts.Grammar.TheVariants.{Sets, Growing}
use Rattle.script_files.specs.declared.reading.Text.{Text}
use Rattle.script_files.specs.declared.reading.Text.TheVariants.{Whole, TooLong, NoMemory}
use Rattle.script_files.specs.Reading.{IsTextOf, Says}
use Rattle.step_replay.specs.replay_rules.Plans.{PlanOf}
use Rattle.step_replay.specs.PlanTexts.{planned}
use Rattle.step_replay.specs.replay_rules.declared.plan.PlanKind.{PlanKind}

-- the text has too many bytes
abbrev pub IsLong : List ℕ → Type 0
IsLong text = MOST_BYTES < length text

-- what was read of the text of this name, where the texts are told
abbrev pub IsReadText : Text → Option Texts → List ℕ → Type 0
IsReadText (Whole text) texts name = IsTextOf texts name text.items
IsReadText TooLong texts name = Says texts name IsLong
IsReadText NoMemory texts name = ⊤

-- A grammar says what each text is: a script, or one with a first faulty line and what is wrong with it.
module _ {A K : Type 0} (grammar : List ℕ → Result A (ℕ × K)) where
  -- the text is this script
  abbrev pub Parses : List ℕ → A → Type 0
  Parses text script = grammar text ≡ Ok script

  -- what a call that parses the text may answer: its script, or why it has none
  abbrev pub Answers : {S E : Type 0} → (S → A) → (Result A (ℕ × K) → E → Type 0) → List ℕ → Result S E → Type 0
  Answers of refuses text (Ok script) = Parses text (of script)
  Answers of refuses text (Err fault) = refuses (grammar text) fault

  -- The text is this script, within the limits.
  pub record IsScript (text : List ℕ) (script : A) : Type 0 where
    pub short : length text ≤ MOST_BYTES
    pub parses : grammar text ≡ Ok script

  -- The bytes are within their limit, and this is their first faulty line.
  pub record IsRefused (line : ℕ) (kind : K) (text : List ℕ) : Type 0 where
    pub short : length text ≤ MOST_BYTES
    pub fault : grammar text ≡ Err (line, kind)

  -- where the texts are told, those of these names are these scripts
  abbrev pub AllScripts : Option Texts → List (List ℕ) → List A → Type 0
  AllScripts texts [] [] = ⊤
  AllScripts texts (name ∷ names) (script ∷ scripts) = Says texts name (λ text. IsScript text script) × AllScripts texts names scripts
  AllScripts texts _ _ = ⊥

  -- The texts of the files before this one are scripts.
  pub record Reaches (texts : Option Texts) (names : List (List ℕ)) (place : ℕ) : Type 0 where
    pub name : List ℕ
    pub named : slice_get names place ≡ Some name
    pub before : List A
    pub scripts : AllScripts texts (take place names) before

  -- The texts of the files before this one are scripts, and its own is so.
  pub record StopsAt (texts : Option Texts) (names : List (List ℕ)) (place : ℕ) (P : List ℕ → Type 0) : Type 0 where
    pub reaches : Reaches texts names place
    pub says : Says texts reaches.name P

  -- Of these texts, the one of this place has this first faulty line, and those before it are scripts.
  pub record IsFirstRefused (texts : List (List ℕ)) (place line : ℕ) (kind : K) : Type 0 where
    pub text : List ℕ
    pub placed : slice_get texts place ≡ Some text
    pub fault : grammar text ≡ Err (line, kind)
    pub before : List A
    pub scripts : AllZip Parses (take place texts) before

-- what a script of commands is in this grammar
abbrev pub parsed_by : Grammar → List ℕ → Result (List Command) (ℕ × FaultKind)
parsed_by Sets = parsed
parsed_by Growing = parsed_grow

-- the commands are of those that scripts in this grammar have
abbrev pub AreOf : Grammar → List Command → Type 0
AreOf Sets script = ⊤
AreOf Growing script = All IsOfGrown script

-- as what files are read
pub data Reading : Type 0 where
  -- as scripts of commands in this grammar
  commands : Grammar → Reading
  -- as scripts of blocks
  blocks : Reading
  -- as plans
  plans : Reading

-- what a script is that is read so
abbrev pub ScriptOf : Reading → Type 0
ScriptOf (commands grammar) = List Command
ScriptOf blocks = List (List Command)
ScriptOf plans = PlanOf

-- what may be wrong with a line of a file that is read so
abbrev pub KindOf : Reading → Type 0
KindOf (commands grammar) = FaultKind
KindOf blocks = BlockKind
KindOf plans = PlanKind

-- the grammar of such files
abbrev pub grammar_of : (reading : Reading) → List ℕ → Result (ScriptOf reading) (ℕ × KindOf reading)
grammar_of (commands grammar) = parsed_by grammar
grammar_of blocks = parsed_blocks
grammar_of plans = planned

-- the name stands at this place, and at none before it
pub record FirstStands (names : List (List ℕ)) (place : ℕ) (name : List ℕ) : Type 0 where
  pub here : slice_get names place ≡ Some name
  pub first : (earlier : ℕ) → earlier < place → ¬ (slice_get names earlier ≡ Some name)

-- one call failed, on the text of this name
pub record HasFailed (name : List ℕ) (faults now : Faults) : Type 0 where
  pub told : now.names ≡ faults.names ++ name ∷ []
  pub rose : Rose faults.count now.count

-- opening or reading the file of this place failed, and no call before it: its name stands at no place before it
abbrev pub IsFirstFailed : List (List ℕ) → ℕ → Faults → Faults → Type 0
IsFirstFailed names place faults now = (name : List ℕ) × FirstStands names place name × HasFailed name faults now

-- no call failed
pub record NoneFailed (faults now : Faults) : Type 0 where
  pub told : now.names ≡ faults.names
  pub later : faults.count ≤ now.count

-- the file of this place has such a text, where the texts are told
abbrev pub SaysAt : Option Texts → List (List ℕ) → ℕ → (List ℕ → Type 0) → Type 0
SaysAt texts names place P = (name : List ℕ) × (slice_get names place ≡ Some name) × Says texts name P

-- why the file of this place has no text within the limit, where it is read from some faults on
abbrev pub NoText : Stop → ℕ → Option Texts → List (List ℕ) → Faults → Faults → Type 0
NoText (Bytes script) place texts names faults now = (script ≡ place) × SaysAt texts names place IsLong
NoText (Read script) place texts names faults now = (script ≤ place) × IsFirstFailed names script faults now
NoText Memory place texts names faults now = ⊤
NoText _ place texts names faults now = ⊥

-- why these texts are refused, which are read so: the first that is no script
abbrev pub NoScripts : Stop → Reading → List (List ℕ) → Type 0
NoScripts (Script script line kind) (commands grammar) texts = IsFirstRefused (parsed_by grammar) texts script line kind
NoScripts (BlockScript script line kind) blocks texts = IsFirstRefused parsed_blocks texts script line kind
NoScripts (Plan script line kind) plans texts = IsFirstRefused planned texts script line kind
NoScripts Memory reading texts = ⊤
NoScripts _ _ texts = ⊥

-- Why reading the files of these names stops, from some faults on: at the first that has no script within the limits.
abbrev pub AnyStop : Stop → Reading → Option Texts → List (List ℕ) → Faults → Faults → Type 0
AnyStop (Script script line kind) (commands grammar) texts names faults now =
    StopsAt (parsed_by grammar) texts names script (IsRefused (parsed_by grammar) line kind)
AnyStop (BlockScript script line kind) blocks texts names faults now = StopsAt parsed_blocks texts names script (IsRefused parsed_blocks line kind)
AnyStop (Plan script line kind) plans texts names faults now = StopsAt planned texts names script (IsRefused planned line kind)
AnyStop (Bytes script) reading texts names faults now = StopsAt (grammar_of reading) texts names script IsLong
AnyStop (Read script) reading texts names faults now = Reaches (grammar_of reading) texts names script × IsFirstFailed names script faults now
AnyStop Memory reading texts names faults now = ⊤
AnyStop _ _ texts names faults now = ⊥

-- where the files are steady, a read fault comes only at a name without a text
abbrev pub NoneFails : Stop → Bool → Option Texts → List (List ℕ) → Type 0
NoneFails (Read script) steady texts names =
    IsTrue steady → (name : List ℕ) × (slice_get names script ≡ Some name) × (HasText texts name → ⊥)
NoneFails _ steady texts names = ⊤

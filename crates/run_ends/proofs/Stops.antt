-- Where the texts are told and no call of the files failed, or they are steady, the files alone decide whether reading stops.
use Rattle.std.proofs.Common.{inl, inr, ◌⊎◌, ◌≡◌, ℕ, List, [], Bool, IsTrue, Option, Result, refl, arith}
use Rattle.std.proofs.lemmas.Option.{slice_get_within}
use Rattle.host_io.specs.Outside.{Faults, Texts, Rose}
use Rattle.script_files.specs.declared.stop.Stop.{Stop}
use Rattle.script_files.specs.declared.stop.Stop.TheVariants.{Script, BlockScript, Plan, Bytes, Read, Memory}
use Rattle.script_files.specs.Reading.{AreTold}
use Rattle.script_files.specs.Scripts.{AllScripts, AnyStop, IsLong, IsRefused, KindOf, NoneFails, Reaches, Reading, ScriptOf, StopsAt}
use Rattle.script_files.specs.Scripts.{blocks, commands, grammar_of, parsed_by, plans}
use Rattle.script_files.proofs.Refused.{Spoils, fault_spoils, length_spoils, no_stop, one_stop, scripts_are_read, stops_are_read}
use Rattle.run_ends.specs.Status.{IsOrMemory, block_fault_status, fault_status, kind_status, plan_fault_status, stop_status}

-- no file is reached among none
none_reached : {A K : Type 0} (grammar : List ℕ → Result A (ℕ × K)) (t : Option Texts) (place : ℕ) → Reaches grammar t [] place → ⊥
none_reached grammar t place r = omega (arith, slice_get_within {A = List ℕ} [] place r.name r.named)

-- so only want of memory stops there
pub none_left : (s : Stop) (reading : Reading) (t : Option Texts) (faults now : Faults) → AnyStop s reading t [] faults now → stop_status s ≡ 7
none_left (Script script line kind) (commands grammar) t faults now s = absurd (none_reached (parsed_by grammar) t script s.reaches)
none_left (Script script line kind) blocks t faults now s = absurd s
none_left (Script script line kind) plans t faults now s = absurd s
none_left (BlockScript script line kind) (commands grammar) t faults now s = absurd s
none_left (BlockScript script line kind) blocks t faults now s = absurd (none_reached (grammar_of blocks) t script s.reaches)
none_left (BlockScript script line kind) plans t faults now s = absurd s
none_left (Plan script line kind) (commands grammar) t faults now s = absurd s
none_left (Plan script line kind) blocks t faults now s = absurd s
none_left (Plan script line kind) plans t faults now s = absurd (none_reached (grammar_of plans) t script s.reaches)
none_left (Bytes script) reading t faults now s = absurd (none_reached (grammar_of reading) t script s.reaches)
none_left (Read script) reading t faults now s = absurd (none_reached (grammar_of reading) t script s.0)
none_left Memory reading t faults now s = refl

-- of what is read so
module _ (t : Option Texts) (steady : Bool) (faults now : Faults) (names : List (List ℕ)) (is : AreTold t)
    (files : ¬ Rose faults.count now.count ⊎ IsTrue steady) where
  -- where each file has a script, none has such a text
  pub nowhere : {A K : Type 0} (grammar : List ℕ → Result A (ℕ × K)) (scripts : List A) (place : ℕ) (P : List ℕ → Type 0)
      → AllScripts grammar t names scripts → StopsAt grammar t names place P → Spoils grammar P → ⊥
  nowhere grammar scripts place P all stop spoils =
      no_stop grammar t names scripts place stop.reaches.name P is all stop.reaches.named stop.says spoils

  -- where each file has a script, only want of memory stops
  pub stops_for_memory : (s : Stop) (reading : Reading) (scripts : List (ScriptOf reading))
      → AnyStop s reading t names faults now → NoneFails s steady t names
      → AllScripts (grammar_of reading) t names scripts → stop_status s ≡ 7
  stops_for_memory (Script script line kind) (commands grammar) scripts c fails all =
      absurd (nowhere (parsed_by grammar) scripts script (IsRefused (parsed_by grammar) line kind) all c (fault_spoils (parsed_by grammar) line kind))
  stops_for_memory (Script script line kind) blocks scripts c fails all = absurd c
  stops_for_memory (Script script line kind) plans scripts c fails all = absurd c
  stops_for_memory (BlockScript script line kind) (commands grammar) scripts c fails all = absurd c
  stops_for_memory (BlockScript script line kind) blocks scripts c fails all =
      absurd (nowhere (grammar_of blocks) scripts script (IsRefused (grammar_of blocks) line kind) all c (fault_spoils (grammar_of blocks) line kind))
  stops_for_memory (BlockScript script line kind) plans scripts c fails all = absurd c
  stops_for_memory (Plan script line kind) (commands grammar) scripts c fails all = absurd c
  stops_for_memory (Plan script line kind) blocks scripts c fails all = absurd c
  stops_for_memory (Plan script line kind) plans scripts c fails all =
      absurd (nowhere (grammar_of plans) scripts script (IsRefused (grammar_of plans) line kind) all c (fault_spoils (grammar_of plans) line kind))
  stops_for_memory (Bytes script) reading scripts c fails all =
      absurd (nowhere (grammar_of reading) scripts script IsLong all c (length_spoils (grammar_of reading)))
  stops_for_memory (Read script) reading scripts c fails all =
      absurd (scripts_are_read (grammar_of reading) t names scripts script faults.count now.count steady is all files fails
      c.1.2.rose)
  stops_for_memory Memory reading scripts c fails all = refl

  -- the first file that has no script stops, or want of memory
  module _ (place : ℕ) (P : List ℕ → Type 0) (status : ℕ) (long : (text : List ℕ) → IsLong text → P text → 4 ≡ status) where
    -- where a faulty line stops, and the first file that has no script is told, both are one
    one_fault : {A K : Type 0} (grammar : List ℕ → Result A (ℕ × K)) (of : K → ℕ) (script line : ℕ) (kind : K) → Spoils grammar P
        → ((text : List ℕ) (line : ℕ) (kind : K) → IsRefused grammar line kind text → P text → of kind ≡ status) → StopsAt grammar t names place P
        → StopsAt grammar t names script (IsRefused grammar line kind) → of kind ≡ status
    one_fault grammar of script line kind spoils fault stop c =
        let both = one_stop grammar t names script place (IsRefused grammar line kind) P is c stop (fault_spoils grammar line kind) spoils in
        fault both.0 line kind both.1 both.2

    pub stops_there : (s : Stop) (reading : Reading) → AnyStop s reading t names faults now
        → NoneFails s steady t names → StopsAt (grammar_of reading) t names place P → Spoils (grammar_of reading) P
        → ((text : List ℕ) (line : ℕ) (kind : KindOf reading) → IsRefused (grammar_of reading) line kind text → P text → kind_status reading kind ≡ status)
        → IsOrMemory (stop_status s) status
    stops_there (Script script line kind) (commands grammar) c fails stop spoils fault =
        inl (one_fault (parsed_by grammar) fault_status script line kind spoils fault stop c)
    stops_there (Script script line kind) blocks c fails stop spoils fault = absurd c
    stops_there (Script script line kind) plans c fails stop spoils fault = absurd c
    stops_there (BlockScript script line kind) (commands grammar) c fails stop spoils fault = absurd c
    stops_there (BlockScript script line kind) blocks c fails stop spoils fault =
        inl (one_fault (grammar_of blocks) block_fault_status script line kind spoils fault stop c)
    stops_there (BlockScript script line kind) plans c fails stop spoils fault = absurd c
    stops_there (Plan script line kind) (commands grammar) c fails stop spoils fault = absurd c
    stops_there (Plan script line kind) blocks c fails stop spoils fault = absurd c
    stops_there (Plan script line kind) plans c fails stop spoils fault =
        inl (one_fault (grammar_of plans) plan_fault_status script line kind spoils fault stop c)
    stops_there (Bytes script) reading c fails stop spoils fault =
        let both = one_stop (grammar_of reading) t names script place IsLong P is c stop (length_spoils (grammar_of reading)) spoils in
        inl (long both.0 both.1 both.2)
    stops_there (Read script) reading c fails stop spoils fault =
        absurd (stops_are_read (grammar_of reading) t names place script P faults.count now.count steady is stop spoils c.0
        files fails c.1.2.rose)
    stops_there Memory reading c fails stop spoils fault = inr refl

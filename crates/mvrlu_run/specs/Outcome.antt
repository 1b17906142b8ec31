-- What a call of the program does: the cause of each way to end, and what a reader may count on.
use Rattle.std.specs.Prelude.{◌≡◌, ◌⊎◌, ℕ, List, [], Option, Ok, Err, Bool, IsTrue, ⊤}
use Rattle.std.specs.Io.KnownBytes.{Appends}
use Rattle.grow_hash.specs.Grown.{IsGrown}
use Rattle.host_io.specs.Outside.{Faults, Texts, Rose}
use Rattle.run_words.specs.declared.request.Limit.{Limit as LimitOf}
use Rattle.run_words.specs.declared.request.BadWords.TheVariants.{Form, Beyond}
use Rattle.run_words.specs.Words.{Asks, asked}
use Rattle.set_model.specs.Lawful.{IsLawful}
use Rattle.run_ends.specs.mvrlu.Meant.{whole_of}
use Rattle.run_ends.specs.mvrlu.Whole.{last_state}
use Rattle.run_ends.specs.declared.finish.LeftDomain.{LeftDomain}
use Rattle.run_ends.specs.declared.finish.LeftDomain.TheVariants.{No, Sets, Blocks, Grown}
use Rattle.run_ends.specs.declared.finish.Finish.{Finish}
use Rattle.run_ends.specs.declared.finish.Finish.TheVariants.{Done, Usage, Limit, Stopped, Write}
use Rattle.run_ends.specs.declared.finish.Ran.{Ran}
use Rattle.run_ends.specs.Sent.{Sent}
use Rattle.run_ends.specs.Status.{IsOrMemory, status_of, closed_of, kind_status, stop_line, line_of}
use Rattle.run_ends.specs.script_files.declared.stop.Stop.TheVariants.{Read}
use Rattle.run_ends.specs.script_files.Reading.{AreTold}
use Rattle.run_ends.specs.script_files.Scripts.{AllScripts, ScriptOf, KindOf, grammar_of, StopsAt, IsRefused, IsLong, AnyStop, IsFirstFailed, NoneFails}
use Rattle.mvrlu_run.specs.Told.{IsTextFor, files_of, reading_of}
use Rattle.grow_hash.specs.Tables.{grow_levels}

-- what the program sees of files and output at one moment
pub record Outside : Type 0 where
  pub texts : Option Texts
  pub steady : Bool
  pub file_faults : Faults
  pub out : Option (List ℕ)
  pub out_faults : ℕ

-- files and output at one moment, from what their types say
abbrev pub outside : {F O : Type 0} → (F → Option Texts) → (F → Bool) → (F → Faults) → F → (O → Option (List ℕ))
    → (O → ℕ) → O → Outside
outside texts steady file_faults files written out_faults out =
    record { texts = texts files; steady = steady files; file_faults = file_faults files; out = written out; out_faults = out_faults out }

-- What a call with status 0 prints: the text that is asked for. Where that is of a run over a domain, each line stands in the one history of
-- the domain that is left.
abbrev pub IsPrinted : Asks → Outside → Outside → LeftDomain → Type 0
IsPrinted asks old new closed = (text : List ℕ) × IsTextFor asks old.texts closed text × Appends old.out new.out text

-- the cause of each way to end, where this is asked for
abbrev pub AskedCause : Finish → Asks → Outside → Outside → Type 0
AskedCause (Done closed) asks old new = IsPrinted asks old new closed
AskedCause Write asks old new =
    Rose old.out_faults new.out_faults × (closed : LeftDomain) × (text : List ℕ) × IsTextFor asks old.texts closed text
    × Sent old.out new.out old.out_faults new.out_faults text
AskedCause (Stopped stop) asks old new =
    (new.out ≡ old.out) × AnyStop stop (reading_of asks) old.texts (files_of asks) old.file_faults new.file_faults
AskedCause _ asks old new = ⊥

-- the cause of each way to end
abbrev pub Cause : Finish → List (List ℕ) → Outside → Outside → Type 0
Cause Usage words old new = (asked words ≡ Err Form) × (new.out ≡ old.out)
Cause (Limit limit) words old new = (asked words ≡ Err (Beyond limit)) × (new.out ≡ old.out)
Cause finish words old new = (asks : Asks) × (asked words ≡ Ok asks) × AskedCause finish asks old new

-- where the files are steady, a read fault comes only at a name without a text
abbrev pub NeverRead : Finish → List (List ℕ) → Outside → Type 0
NeverRead (Stopped stop) words old = (asks : Asks) → asked words ≡ Ok asks → NoneFails stop old.steady old.texts (files_of asks)
NeverRead _ words old = ⊤

-- What became of a call: one way to end, with its status, what is left of the domain, its cause and its line.
pub record Outcome (words : List (List ℕ)) (old new : Outside) (err err_new : Option (List ℕ)) (err_faults err_faults_new : ℕ)
    (ran : Ran) : Type 0 where
  pub finish : Finish
  pub status : ran.status ≡ status_of finish
  pub closed : ran.closed ≡ closed_of finish
  pub cause : Cause finish words old new
  pub never_read : NeverRead finish words old
  pub line : Sent err err_new err_faults err_faults_new (line_of finish)

-- A read fault: the line on `err` names the first file of the words of which opening or reading failed in this call, and no other call failed.
pub record IsReadFault (words : List (List ℕ)) (old new : Outside) (err err_new : Option (List ℕ)) (err_faults err_faults_new : ℕ) : Type 0 where
  pub asks : Asks
  pub asked_is : asked words ≡ Ok asks
  pub script : ℕ
  pub failed : IsFirstFailed (files_of asks) script old.file_faults new.file_faults
  pub line : Sent err err_new err_faults err_faults_new (stop_line (Read script))

-- what is left of a domain reads a lawful state, so the sets can be read from it
abbrev pub ReadsSets : LeftDomain → Type 0
ReadsSets No = ⊤
ReadsSets (Sets closing) = IsLawful (last_state (whole_of closing))
ReadsSets (Blocks closing) = IsLawful (last_state (whole_of closing))
ReadsSets (Grown closing) = IsGrown grow_levels (last_state (whole_of closing))

-- no call of the files failed, or they are steady
abbrev pub ReadsAll : Outside → Outside → Type 0
ReadsAll old new = ¬ Rose old.file_faults.count new.file_faults.count ⊎ IsTrue old.steady

-- What a call is sure to answer, whatever it is asked for, but for want of memory: where files are read, their texts are told, and no call of
-- theirs failed or they are steady.
pub record IsComplete (words : List (List ℕ)) (old new : Outside) (status : ℕ) : Type 0 where
  -- where each file has a script, the text is written, if no write failed
  pub scripts : (asks : Asks) (scripts : List (ScriptOf (reading_of asks))) → asked words ≡ Ok asks → AreTold old.texts
      → AllScripts (grammar_of (reading_of asks)) old.texts (files_of asks) scripts → ReadsAll old new
      → ¬ Rose old.out_faults new.out_faults → IsOrMemory status 0
  -- and so it is where no file is asked for
  pub no_files : (asks : Asks) → asked words ≡ Ok asks → files_of asks ≡ [] → ¬ Rose old.out_faults new.out_faults → IsOrMemory status 0
  -- the first faulty line of the first file that has no script is answered
  pub fault : (asks : Asks) (place line : ℕ) (kind : KindOf (reading_of asks)) → asked words ≡ Ok asks → AreTold old.texts
      → StopsAt (grammar_of (reading_of asks)) old.texts (files_of asks) place (IsRefused (grammar_of (reading_of asks)) line kind)
      → ReadsAll old new → IsOrMemory status (kind_status (reading_of asks) kind)
  -- one byte too many is answered
  pub bytes : (asks : Asks) (place : ℕ) → asked words ≡ Ok asks → AreTold old.texts
      → StopsAt (grammar_of (reading_of asks)) old.texts (files_of asks) place IsLong → ReadsAll old new → IsOrMemory status 4
  -- a number that is out of its range is answered
  pub limit : (limit : LimitOf) → asked words ≡ Err (Beyond limit) → status ≡ 4

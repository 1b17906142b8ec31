-- Where the texts are told and nothing failed, the words and the scripts alone decide how a call ends.
use Rattle.std.proofs.Common.{inl, inr, ◌≡◌, ℕ, List, [], ◌∷◌, Option, Result, Ok, Err, refl, sym, ap, ◌∙◌, arith, subst}
use Rattle.host_io.specs.Outside.{Texts, Rose}
use Rattle.run_words.specs.declared.request.Limit.{Limit as LimitOf}
use Rattle.run_words.specs.declared.request.BadWords.{BadWords}
use Rattle.run_words.specs.declared.request.BadWords.TheVariants.{Form, Beyond}
use Rattle.run_words.specs.Words.{Asks, run, gen, work, block, pool, grow, replay, asked}
use Rattle.set_model.proofs.Times.{lawful_after}
use Rattle.run_ends.proofs.set_blocks_lemmas.Remaining.{lawful_after as lawful_blocks}
use Rattle.run_ends.specs.script_files.declared.stop.Stop.{Stop}
use Rattle.run_ends.specs.script_files.Reading.{AreTold}
use Rattle.run_ends.specs.script_files.Scripts.{AllScripts, AnyStop, IsLong, IsRefused, KindOf, ScriptOf, StopsAt, grammar_of}
use Rattle.run_ends.proofs.script_files_lemmas.Refused.{Spoils, ok_is_no_err, fault_spoils, length_spoils}
use Rattle.run_ends.specs.declared.finish.LeftDomain.{LeftDomain}
use Rattle.run_ends.specs.declared.finish.Finish.{Finish}
use Rattle.run_ends.specs.declared.finish.Finish.TheVariants.{Done, Usage, Limit, Stopped, Write}
use Rattle.run_ends.specs.declared.finish.Ran.{Ran}
use Rattle.run_ends.specs.Sent.{Sent}
use Rattle.run_ends.specs.Status.{IsOrMemory, closed_of, kind_status, line_of, status_of, stop_line}
use Rattle.run_ends.proofs.StopStatus.{only_reads, stopped_above}
use Rattle.run_ends.proofs.Stops.{none_left, nowhere, stops_for_memory, stops_there}
use Rattle.mvrlu_run.specs.Outcome.{AskedCause, Cause, IsComplete, IsPrinted, IsReadFault, NeverRead, Outside, ReadsAll, ReadsSets}
use Rattle.mvrlu_run.specs.Told.{IsTextFor, files_of, reading_of}

-- an answer, or some default
value : {A E : Type 0} → A → Result A E → A
value d (Ok a) = a
value d (Err e) = d

fault_of : {A E : Type 0} → E → Result A E → E
fault_of d (Ok a) = d
fault_of d (Err e) = e

pub err_inj : {A E : Type 0} (a b : E) → ◌≡◌ {A = Result A E} (Err a) (Err b) → a ≡ b
unfolding fault_of
err_inj a b p = ap (fault_of a) p

IsForm : BadWords → Type 0
IsForm Form = Unit {0}
IsForm (Beyond limit) = ⊥

form_is_no_limit : (limit : LimitOf) → Form ≡ Beyond limit → ⊥
unfolding IsForm
form_is_no_limit limit p = subst IsForm p tt

ok_inj : {A E : Type 0} (a b : A) → ◌≡◌ {A = Result A E} (Ok a) (Ok b) → a ≡ b
unfolding value
ok_inj a b p = ap (value a) p

-- the words ask for one thing alone
same_asks : (words : List (List ℕ)) (a b : Asks) → asked words ≡ Ok a → asked words ≡ Ok b → a ≡ b
same_asks words a b p q = ok_inj {E = BadWords} a b (sym p ∙ q)

-- words that are refused ask for nothing
not_both : (words : List (List ℕ)) (a : Asks) (r : BadWords) → asked words ≡ Ok a → asked words ≡ Err r → ⊥
not_both words a r p q = ok_is_no_err a r (sym p ∙ q)

-- the domain that is left of a run reads a lawful state
text_reads : (asks : Asks) (texts : Option Texts) (closed : LeftDomain) (text : List ℕ) → IsTextFor asks texts closed text → ReadsSets closed
text_reads (run options names) texts closed text h =
    let run = h.2.printed.left.run.run in
    subst ReadsSets (sym h.1) (lawful_after h.0.last.start h.0.last.history run.opening run.allowed)
text_reads (block names) texts closed text h =
    let run = h.2.printed.left.run.run in
    subst ReadsSets (sym h.1) (lawful_blocks h.0.last.start h.0.last.history run.opening run.allowed)
text_reads (pool seats names) texts closed text h =
    let run = h.2.printed.left.run.run in
    subst ReadsSets (sym h.1) (lawful_after h.0.last.start h.0.last.history run.opening run.allowed)
text_reads (grow names) texts closed text h = subst ReadsSets (sym h.1) h.2.printed.left.run.run.lawful
text_reads (replay names) texts closed text h = subst ReadsSets (sym h.0) tt
text_reads (gen number seat) texts closed text h = subst ReadsSets (sym h.0) tt
text_reads (work number) texts closed text h =
    let run = h.2.printed.left.run.run in
    subst ReadsSets (sym h.1) (lawful_after h.0.last.start h.0.last.history run.opening run.allowed)

-- where there is the text, each file has a script
all_read : (asks : Asks) (texts : Option Texts) (closed : LeftDomain) (text : List ℕ) → IsTextFor asks texts closed text
    → (scripts : List (ScriptOf (reading_of asks))) × AllScripts (grammar_of (reading_of asks)) texts (files_of asks) scripts
all_read (run options names) texts closed text h = (h.2.read, h.2.files)
all_read (block names) texts closed text h = (h.2.read, h.2.files)
all_read (pool seats names) texts closed text h = (h.2.read ∷ [], h.2.files)
all_read (grow names) texts closed text h = (h.2.read, h.2.files)
all_read (replay names) texts closed text h = (h.1.plan ∷ [], h.1.files)
all_read (gen number seat) texts closed text h = ([], tt)
all_read (work number) texts closed text h = ([], tt)

module _ (words : List (List ℕ)) (old new : Outside) where
  -- a way to end has its cause in what is asked for, where something is
  ends : (f : Finish) (asks : Asks) → Cause f words old new → asked words ≡ Ok asks → AskedCause f asks old new
  ends Usage asks c a = absurd (not_both words asks Form a c.0)
  ends (Limit limit) asks c a = absurd (not_both words asks (Beyond limit) a c.0)
  ends (Done closed) asks c a = subst (λ x. AskedCause (Done closed) x old new) (same_asks words c.0 asks c.1 a) c.2
  ends (Stopped stop) asks c a = subst (λ x. AskedCause (Stopped stop) x old new) (same_asks words c.0 asks c.1 a) c.2
  ends Write asks c a = subst (λ x. AskedCause Write x old new) (same_asks words c.0 asks c.1 a) c.2

  -- a number that is out of its range is answered
  limits : (f : Finish) (limit : LimitOf) → Cause f words old new → asked words ≡ Err (Beyond limit) → status_of f ≡ 4
  limits Usage limit c a = absurd (form_is_no_limit limit (err_inj {A = Asks} Form (Beyond limit) (sym c.0 ∙ a)))
  limits (Limit other) limit c a = refl
  limits (Done closed) limit c a = absurd (not_both words c.0 (Beyond limit) c.1 a)
  limits (Stopped stop) limit c a = absurd (not_both words c.0 (Beyond limit) c.1 a)
  limits Write limit c a = absurd (not_both words c.0 (Beyond limit) c.1 a)

  -- scripts are run
  all_run : (f : Finish) (asks : Asks) (scripts : List (ScriptOf (reading_of asks))) → AskedCause f asks old new → NeverRead f words old
      → asked words ≡ Ok asks → AreTold old.texts → AllScripts (grammar_of (reading_of asks)) old.texts (files_of asks) scripts → ReadsAll old new
      → ¬ Rose old.out_faults new.out_faults → IsOrMemory (status_of f) 0
  all_run (Done closed) asks scripts c never a is all files out = inl refl
  all_run (Stopped stop) asks scripts c never a is all files out =
      inr (stops_for_memory old.texts old.steady old.file_faults new.file_faults (files_of asks) is files stop (reading_of asks) scripts c.1 (never asks a) all)
  all_run Write asks scripts c never a is all files out = absurd (out c.0)
  all_run Usage asks scripts c never a is all files out = absurd c
  all_run (Limit limit) asks scripts c never a is all files out = absurd c

  -- what reads no file stops for want of memory alone
  none_read : (f : Finish) (asks : Asks) → AskedCause f asks old new → files_of asks ≡ [] → ¬ Rose old.out_faults new.out_faults
      → IsOrMemory (status_of f) 0
  none_read (Done closed) asks c none out = inl refl
  none_read (Stopped stop) asks c none out =
      inr (none_left stop (reading_of asks) old.texts old.file_faults new.file_faults
      (subst (λ ns. AnyStop stop (reading_of asks) old.texts ns old.file_faults new.file_faults) none c.1))
  none_read Write asks c none out = absurd (out c.0)
  none_read Usage asks c none out = absurd c
  none_read (Limit limit) asks c none out = absurd c

  -- the first file that has no script is answered
  module _ (asks : Asks) (place : ℕ) (P : List ℕ → Type 0) (status : ℕ) (a : asked words ≡ Ok asks) (is : AreTold old.texts)
      (at : StopsAt (grammar_of (reading_of asks)) old.texts (files_of asks) place P) (files : ReadsAll old new)
      (spoils : Spoils (grammar_of (reading_of asks)) P)
      (fault : (text : List ℕ) (line : ℕ) (kind : KindOf (reading_of asks)) → IsRefused (grammar_of (reading_of asks)) line kind text → P text
      → kind_status (reading_of asks) kind ≡ status) (long : (text : List ℕ) → IsLong text → P text → 4 ≡ status) where
    -- there is no text
    no_text : (closed : LeftDomain) (text : List ℕ) → IsTextFor asks old.texts closed text → ⊥
    no_text closed text h =
        let all = all_read asks old.texts closed text h in
        nowhere old.texts old.steady old.file_faults new.file_faults (files_of asks) is files (grammar_of (reading_of asks)) all.0 place P all.1 at spoils

    one_stops : (f : Finish) → AskedCause f asks old new → NeverRead f words old → IsOrMemory (status_of f) status
    one_stops (Done closed) c never = absurd (no_text closed c.0 c.1)
    one_stops (Stopped stop) c never =
        stops_there old.texts old.steady old.file_faults new.file_faults (files_of asks) is files place P status long stop (reading_of asks) c.1
        (never asks a) at spoils fault
    one_stops Write c never = absurd (no_text c.1 c.2 c.3)
    one_stops Usage c never = absurd c
    one_stops (Limit limit) c never = absurd c

  pub is_complete : (f : Finish) (status : ℕ) → status ≡ status_of f → Cause f words old new
      → NeverRead f words old → IsComplete words old new status
  is_complete f status e c never = rw e (record {
    scripts = λ asks scripts a is all files out. all_run f asks scripts (ends f asks c a) never a is all files out;
    no_files = λ asks a none out. none_read f asks (ends f asks c a) none out;
    fault = λ asks place line kind a is at files.
        let grammar = grammar_of (reading_of asks) in
        one_stops asks place (IsRefused grammar line kind) (kind_status (reading_of asks) kind) a is at files (fault_spoils grammar line kind)
        (λ text l k r s. ap (kind_status (reading_of asks)) (ap (λ (x : ℕ × KindOf (reading_of asks)). x.1)
        (err_inj {A = ScriptOf (reading_of asks)} (l, k) (line, kind) (sym r.fault ∙ s.fault))))
        (λ text long s. absurd (omega (arith, s.short, long))) f (ends f asks c a) never;
    bytes = λ asks place a is at files. one_stops asks place IsLong 4 a is at files (length_spoils (grammar_of (reading_of asks)))
        (λ text l k r long. absurd (omega (arith, r.short, long))) (λ text long s. refl) f (ends f asks c a) never;
    limit = λ limit a. limits f limit c a;
  })

  printed : (f : Finish) (asks : Asks) → AskedCause f asks old new → status_of f ≡ 0 → IsPrinted asks old new (closed_of f)
  printed (Done closed) asks d nought = d
  printed (Stopped stop) asks d nought = absurd (omega (arith, nought, stopped_above stop))
  printed Write asks d nought = absurd (omega (arith, nought))
  printed Usage asks d nought = absurd d
  printed (Limit limit) asks d nought = absurd d

  -- what is printed, where the status is 0
  pub is_printed : (f : Finish) (ran : Ran) (asks : Asks) → ran.status ≡ status_of f → ran.closed ≡ closed_of f → Cause f words old new
      → asked words ≡ Ok asks → ran.status ≡ 0 → IsPrinted asks old new ran.closed
  is_printed f ran asks s e c a nought = rw e (printed f asks (ends f asks c a) (sym s ∙ nought))

  module _ (err err_new : Option (List ℕ)) (faults now : ℕ) where
    -- a stop whose cause and line make a read fault
    abbrev Faulty : Stop → Type 0
    Faulty stop = Cause (Stopped stop) words old new → Sent err err_new faults now (stop_line stop) → IsReadFault words old new err err_new faults now

    -- which file is named, where the status is 5
    pub is_read_fault : (f : Finish) → Cause f words old new → Sent err err_new faults now (line_of f) → status_of f ≡ 5
        → IsReadFault words old new err err_new faults now
    is_read_fault (Stopped stop) c line five =
        only_reads Faulty
        (λ script cause said. record { asks = cause.0; asked_is = cause.1; script = script; failed = cause.2.1.1; line = said }) stop five c line
    is_read_fault (Done closed) c line five = absurd (omega (arith, five))
    is_read_fault Usage c line five = absurd (omega (arith, five))
    is_read_fault (Limit limit) c line five = absurd (omega (arith, five))
    is_read_fault Write c line five = absurd (omega (arith, five))

  pub reads_sets : (f : Finish) → Cause f words old new → ReadsSets (closed_of f)
  reads_sets (Done closed) c = text_reads c.0 old.texts closed c.2.0 c.2.1
  reads_sets f c = tt

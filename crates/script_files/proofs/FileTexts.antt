-- The texts of files, and what parsing them side by side gives.
use Rattle.std.proofs.Common.{◌≡◌, ◌≤◌, ◌<◌, ℕ, zero, suc, List, [], ◌∷◌, ◌++◌, length, take, map, get_or, slice_get, Vec, Option, None, Some}
use Rattle.std.proofs.Common.{Result, Ok, Err, All, IfOk, refl, sym, ap, ◌∙◌, subst, arith, inl, inr}
use Rattle.std.proofs.lemmas.Bool.{cases_lt}
use Rattle.std.specs.declared.alloc.Global.{Global}
use Rattle.std.specs.List.{AllZip}
use Rattle.std.proofs.lemmas.List.{take_all}
use Rattle.std.proofs.lemmas.List.Elements.{All-nil, All-cons, All-head, All-tail}
use Rattle.std.proofs.lemmas.Option.{get_or_from_slice_get, slice_get_within}
use Rattle.host_io.specs.Outside.{Faults, Texts}
use Rattle.script_files.specs.declared.stop.Stop.{Stop}
use Rattle.script_files.specs.declared.stop.Stop.TheVariants.{Script, BlockScript, Plan, Bytes, Read, Memory}
use Rattle.script_files.specs.Reading.{AreFirstTexts, IsTextOf, Says, text_of}
use Rattle.script_files.specs.Scripts.{AllScripts, Answers, AnyStop, FirstStands, IsFirstRefused, IsRefused, IsScript, NoScripts, NoText, NoneFailed, Parses}
use Rattle.script_files.specs.Scripts.{Reaches, Reading, ScriptOf, StopsAt, blocks, commands, grammar_of, parsed_by, plans}
use Rattle.block_parser.specs.BlockGrammar.{parsed_blocks}
use Rattle.step_replay.specs.PlanTexts.{planned}
use Rattle.script_files.proofs.Failing.{failed_from}

-- one more text
pub texts_push : (t : Option Texts) (names texts : List (List ℕ)) (name text : List ℕ) → slice_get names (length texts) ≡ Some name
    → AreFirstTexts t names texts → IsTextOf t name text → AreFirstTexts t names (texts ++ text ∷ [])
texts_push t [] [] name text at h is = absurd (cc)
texts_push t [] (x ∷ texts) name text at h is = absurd h
texts_push t (n ∷ names) [] name text at h is =
    (subst (λ z. IsTextOf t z text) (sym (get_or_from_slice_get (n ∷ names) 0 name [] at)) is, tt)
texts_push t (n ∷ names) (x ∷ texts) name text at h is = (h.0, texts_push t names texts name text at h.1 is)

-- the file that has a text
text_at : (t : Option Texts) (names texts : List (List ℕ)) (place : ℕ) (text : List ℕ) → AreFirstTexts t names texts → slice_get texts place ≡ Some text
    → (name : List ℕ) × (slice_get names place ≡ Some name) × IsTextOf t name text
text_at t names [] place text h at = absurd (cc)
text_at t [] (x ∷ texts) place text h at = absurd h
text_at t (n ∷ names) (x ∷ texts) zero text h at =
    (n, refl, subst (λ z. IsTextOf t n z) (get_or_from_slice_get (x ∷ texts) 0 text [] at) h.0)
text_at t (n ∷ names) (x ∷ texts) (suc place) text h at = text_at t names texts place text h.1 at

-- what holds of a file's text is said of it
says_text : (t : Option Texts) (name text : List ℕ) (P : List ℕ → Type 0) → IsTextOf t name text → P text → Says t name P
says_text None name text P is p = tt
says_text (Some texts) name text P is p = (is.says.0, is.says.1, subst P (sym is.says.2) p)

-- lists that agree at each place have one length
pub zip_length : {X Y : Type 0} (R : X → Y → Type 0) (xs : List X) (ys : List Y) → AllZip R xs ys → length ys ≡ length xs
zip_length R [] [] h = refl
zip_length R [] (y ∷ ys) h = absurd h
zip_length R (x ∷ xs) [] h = absurd h
zip_length R (x ∷ xs) (y ∷ ys) h = let more = zip_length R xs ys h.1 in omega (arith, more)

-- the fronts of lists that agree at each place agree
pub zip_take : {X Y : Type 0} (R : X → Y → Type 0) (n : ℕ) (xs : List X) (ys : List Y) → AllZip R xs ys → AllZip R (take n xs) (take n ys)
zip_take R zero xs ys h = tt
zip_take R (suc n) [] [] h = tt
zip_take R (suc n) [] (y ∷ ys) h = absurd h
zip_take R (suc n) (x ∷ xs) [] h = absurd h
zip_take R (suc n) (x ∷ xs) (y ∷ ys) h = (h.0, zip_take R n xs ys h.1)

-- what holds of each value that was taken
pub all_ok : {S E : Type 0} (P : S → Type 0) (values : List S) → All {X = Result S E} (λ result. IfOk result P) (map Ok values) → All P values
all_ok P [] h = All-nil P
all_ok {S} {E} P (v ∷ values) h =
    let Q : Result S E → Type 0 = λ result. IfOk result P in
    All-cons P v values (All-head Q (Ok v) (map Ok values) h) (all_ok P values (All-tail Q (Ok v) (map Ok values) h))

module _ {A K : Type 0} (grammar : List ℕ → Result A (ℕ × K)) where
  -- files whose texts are scripts have these scripts
  pub scripts_before : (t : Option Texts) (names texts : List (List ℕ)) (scripts : List A) (place : ℕ) → place ≤ length texts → AreFirstTexts t names texts
      → AllZip (Parses grammar) (take place texts) scripts → AllScripts grammar t (take place names) scripts
  scripts_before t names texts [] zero le h p = tt
  scripts_before t names texts (s ∷ scripts) zero le h p = absurd p
  scripts_before t names [] scripts (suc place) le h p = absurd (omega (arith, le))
  scripts_before t [] (x ∷ texts) scripts (suc place) le h p = absurd h
  scripts_before t (n ∷ names) (x ∷ texts) [] (suc place) le h p = absurd p
  scripts_before t (n ∷ names) (x ∷ texts) (s ∷ scripts) (suc place) le h p = (
    says_text t n x (λ text. IsScript grammar text s) h.0 (record { short = h.0.short; parses = p.0 }),
    scripts_before t names texts scripts place (omega (arith, le)) h.1 p.1,
  )

  -- reading files stops at the first whose text is refused
  pub stops_at_fault : (t : Option Texts) (names texts : List (List ℕ)) (place line : ℕ) (kind : K) → AreFirstTexts t names texts
      → IsFirstRefused grammar texts place line kind → StopsAt grammar t names place (IsRefused grammar line kind)
  stops_at_fault t names texts place line kind h p =
      let at = text_at t names texts place p.text h p.placed in
      let within = slice_get_within texts place p.text p.placed in
      record {
        reaches = record {
          name = at.0;
          named = at.1;
          before = p.before;
          scripts = scripts_before t names texts p.before place (omega (arith, within)) h p.scripts;
        };
        says = says_text t at.0 p.text (IsRefused grammar line kind) at.2 (record { short = at.2.short; fault = p.fault });
      }

  -- a file is reached where the texts before it are scripts
  abbrev reaches_place : (t : Option Texts) (names texts : List (List ℕ)) (scripts : List A) (place : ℕ) (name : List ℕ) → place ≤ length texts
      → slice_get names place ≡ Some name → AreFirstTexts t names texts → AllZip (Parses grammar) texts scripts → Reaches grammar t names place
  reaches_place t names texts scripts place name le at h p = record {
    name = name;
    named = at;
    before = take place scripts;
    scripts = scripts_before t names texts (take place scripts) place le h (zip_take (Parses grammar) place texts scripts p);
  }

  -- where each file has a text, and each text is a script, each file has a script
  pub all_scripts : (t : Option Texts) (names texts : List (List ℕ)) (scripts : List A) → length texts ≡ length names → AreFirstTexts t names texts
      → AllZip (Parses grammar) texts scripts → AllScripts grammar t names scripts
  all_scripts t names texts scripts len h p =
      subst (λ ns. AllScripts grammar t ns scripts) (take_all (length texts) names (omega (arith, len)))
      (scripts_before t names texts scripts (length texts) (omega arith) h
      (subst (λ ts. AllZip (Parses grammar) ts scripts) (sym (take_all (length texts) texts (omega arith))) p))

  module _ {S E : Type 0} (of : S → A) (refuses : Result A (ℕ × K) → E → Type 0) where
    -- each text's result is an answer to it
    abbrev pub AreAnswers : List (Vec ℕ Global) → List (Result S E) → Type 0
    AreAnswers texts results = AllZip (λ (text : Vec ℕ Global) (result : Result S E). Answers grammar of refuses text.items result) texts results

    -- from what is known of each place
    pub answers_from_each : (texts : List (Vec ℕ Global)) (results : List (Result S E)) → length results ≡ length texts
        → ((i : ℕ) (d : Vec ℕ Global) (e : Result S E) → i < length texts → Answers grammar of refuses (get_or texts i d).items (get_or results i e))
        → AreAnswers texts results
    answers_from_each [] [] len h = tt
    answers_from_each [] (r ∷ results) len h = absurd (omega (arith, len))
    answers_from_each (x ∷ texts) [] len h = absurd (omega (arith, len))
    answers_from_each (x ∷ texts) (r ∷ results) len h =
        (h 0 x r (omega arith), answers_from_each texts results (omega (arith, len)) (λ i d e lt. h (suc i) d e (omega (arith, lt))))

    parse_each : (texts : List (Vec ℕ Global)) (values : List S) → AreAnswers texts (map Ok values)
        → AllZip (Parses grammar) (map text_of texts) (map of values)
    parse_each [] [] h = tt
    parse_each [] (v ∷ values) h = absurd h
    parse_each (x ∷ texts) [] h = absurd h
    parse_each (x ∷ texts) (v ∷ values) h = (h.0, parse_each texts values h.1)

    -- where no result is a fault, the texts are these scripts
    pub all_parse : (texts : List (Vec ℕ Global)) (results : List (Result S E)) (values : List S) → AreAnswers texts results → results ≡ map Ok values
        → AllZip (Parses grammar) (map text_of texts) (map of values)
    all_parse texts results values h same = parse_each texts values (subst (AreAnswers texts) same h)

    -- the texts before this place are these scripts, and the one of this place is refused so
    abbrev pub Stops : List (Vec ℕ Global) → List S → E → Type 0
    Stops texts before fault = AllZip (Parses grammar) (take (length before) (map text_of texts)) (map of before)
        × ((text : List ℕ) × (slice_get (map text_of texts) (length before) ≡ Some text) × refuses (grammar text) fault)

    stops_at : (texts : List (Vec ℕ Global)) (before : List S) (fault : E) (rest : List (Result S E))
        → AreAnswers texts (map Ok before ++ Err fault ∷ rest) → Stops texts before fault
    stops_at [] [] fault rest h = absurd h
    stops_at [] (v ∷ before) fault rest h = absurd h
    stops_at (x ∷ texts) [] fault rest h = (tt, (text_of x, refl, h.0))
    stops_at (x ∷ texts) (v ∷ before) fault rest h = let more = stops_at texts before fault rest h.1 in ((h.0, more.0), more.1)

    -- where a result is the first fault, its text is the first that is refused
    pub first_refused : (texts : List (Vec ℕ Global)) (results : List (Result S E)) (before : List S) (fault : E) (rest : List (Result S E))
        → AreAnswers texts results → results ≡ map Ok before ++ Err fault ∷ rest → Stops texts before fault
    first_refused texts results before fault rest h same = stops_at texts before fault rest (subst (AreAnswers texts) same h)

-- why the first of these texts that is refused stops the reading of files
pub no_scripts : (f : Stop) (reading : Reading) (t : Option Texts) (names texts : List (List ℕ)) (faults now : Faults)
    → AreFirstTexts t names texts → NoScripts f reading texts → AnyStop f reading t names faults now
no_scripts (Script script line kind) (commands grammar) t names texts faults now h p = stops_at_fault (parsed_by grammar) t names texts script line kind h p
no_scripts (Script script line kind) blocks t names texts faults now h p = absurd p
no_scripts (Script script line kind) plans t names texts faults now h p = absurd p
no_scripts (BlockScript script line kind) (commands grammar) t names texts faults now h p = absurd p
no_scripts (BlockScript script line kind) blocks t names texts faults now h p = stops_at_fault parsed_blocks t names texts script line kind h p
no_scripts (BlockScript script line kind) plans t names texts faults now h p = absurd p
no_scripts (Plan script line kind) (commands grammar) t names texts faults now h p = absurd p
no_scripts (Plan script line kind) blocks t names texts faults now h p = absurd p
no_scripts (Plan script line kind) plans t names texts faults now h p = stops_at_fault planned t names texts script line kind h p
no_scripts (Bytes script) reading t names texts faults now h p = absurd p
no_scripts (Read script) reading t names texts faults now h p = absurd p
no_scripts Memory reading t names texts faults now h p = tt

-- a name that first stands at one place stands at none before it
pub first_before : (names : List (List ℕ)) (first place : ℕ) (name : List ℕ) → FirstStands names first name → slice_get names place ≡ Some name
    → first ≤ place
first_before names first place name stands at =
    elim (cases_lt place first) as (λ _. first ≤ place) [
      | inl lt ↦ absurd (stands.first place lt at)
      | inr le ↦ le
    ]

-- a file that has no text stops the reading of files, where the texts before it are scripts
pub no_text : (f : Stop) (reading : Reading) (t : Option Texts) (names texts : List (List ℕ)) (scripts : List (ScriptOf reading)) (place : ℕ)
    (faults now : Faults) → length texts ≡ place → AreFirstTexts t names texts → AllZip (Parses (grammar_of reading)) texts scripts
    → NoText f place t names faults now → AnyStop f reading t names faults now
no_text (Bytes script) reading t names texts scripts place faults now len h p o =
    let le : script ≤ length texts = omega (arith, len, o.0) in
    record { reaches = reaches_place (grammar_of reading) t names texts scripts script o.1.0 le (ap (slice_get names) o.0 ∙ o.1.1) h p; says = o.1.2 }
no_text (Read script) reading t names texts scripts place faults now len h p o =
    let le : script ≤ length texts = omega (arith, len, o.0) in
    (reaches_place (grammar_of reading) t names texts scripts script o.1.0 le o.1.1.here h p, o.1)
no_text Memory reading t names texts scripts place faults now len h p o = tt
no_text (Script script line kind) reading t names texts scripts place faults now len h p o = absurd o
no_text (BlockScript script line kind) reading t names texts scripts place faults now len h p o = absurd o
no_text (Plan script line kind) reading t names texts scripts place faults now len h p o = absurd o

-- why a file has no text, also from before calls of which none failed
pub no_text_from : (f : Stop) (place : ℕ) (t : Option Texts) (names : List (List ℕ)) (faults mid now : Faults) → NoneFailed faults mid
    → NoText f place t names mid now → NoText f place t names faults now
no_text_from (Bytes script) place t names faults mid now none o = o
no_text_from (Read script) place t names faults mid now none o = (o.0, (o.1.0, o.1.1, failed_from o.1.0 faults mid now none o.1.2))
no_text_from Memory place t names faults mid now none o = tt
no_text_from (Script script line kind) place t names faults mid now none o = absurd o
no_text_from (BlockScript script line kind) place t names faults mid now none o = absurd o
no_text_from (Plan script line kind) place t names faults mid now none o = absurd o

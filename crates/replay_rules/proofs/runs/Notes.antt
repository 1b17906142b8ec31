-- The versions that a seat of a replay notes, as the notes of a log.
use Rattle.std.proofs.Common.{◌≡◌, ℕ, zero, suc, ◌+◌, ◌<◌, ◌≤◌, ◌==◌, List, [], ◌∷◌, ◌++◌, length, drop, Option, get_or, refl, sym, ap, ◌∙◌, arith}
use Rattle.std.proofs.Common.{Some, leb, Bool, true, false, if◌then◌else◌, le-leb, eq-eqb, ne_eqb}
use Rattle.std.proofs.lemmas.Bool.{lt-leb}
use Rattle.std.specs.Prelude.{slice_get, slice_set}
use Rattle.seat_log.specs.declared.version.Note.{Note}
use Rattle.seat_log.specs.Notes.{from_place, at_place, with_word}
use Rattle.replay_rules.specs.declared.seats.NotedVersion.{NotedVersion}
use Rattle.replay_rules.specs.declared.seats.Edit.{Edit}
use Rattle.replay_rules.specs.declared.seats.Edit.TheVariants.{WordPut, CommittedFrom, AbortedFrom, Retired, AboveNoted}
use Rattle.replay_rules.specs.SeatNotes.{edited, edited_from}

-- a version of a replay, as a note
abbrev pub note_of : ℕ → NotedVersion → Note
note_of at v =
    record { position = at; first = v.first; object = v.object; previous = v.previous; words = v.words; time = v.time; dead = v.dead }

-- versions at positions from one on
abbrev pub notes_from : ℕ → List NotedVersion → List Note
notes_from at [] = []
notes_from at (v ∷ log) = note_of at v ∷ notes_from (suc at) log

pub notes_long : (at : ℕ) (log : List NotedVersion) → length (notes_from at log) ≡ length log
notes_long at [] = refl
notes_long at (v ∷ log) = ap suc (notes_long (suc at) log)

-- the note of a place
pub note_at : (at i : ℕ) (log : List NotedVersion) (d : NotedVersion) → i < length log
    → slice_get (notes_from at log) i ≡ Some (note_of (at + i) (get_or log i d))
note_at at i [] d lt = absurd (omega (arith, lt))
note_at at zero (v ∷ log) d lt = ap (λ n. Some (note_of n v)) (omega arith)
note_at at (suc i) (v ∷ log) d lt = note_at (suc at) i log d (omega (arith, lt)) ∙ ap (λ n. Some (note_of n (get_or log i d))) (omega arith)

-- one more version
pub notes_more : (at : ℕ) (log : List NotedVersion) (v : NotedVersion) → notes_from at (log ++ v ∷ []) ≡ notes_from at log ++ note_of (at + length log) v ∷ []
notes_more at [] v = ap (λ n. note_of n v ∷ []) (omega arith)
notes_more at (w ∷ log) v = ap (λ ns. note_of at w ∷ ns) (notes_more (suc at) log v ∙ ap (λ n. notes_from (suc at) log ++ note_of n v ∷ []) (omega arith))

-- as many versions stand behind a step
pub edited_long : (e : Edit) (at : ℕ) (log : List NotedVersion) → length (edited_from e at log) ≡ length log
edited_long e at [] = refl
edited_long e at (v ∷ log) = ap suc (edited_long e (suc at) log)

-- a test of the edits, by the order of two numbers
from_here : (b : Bool) (x y : NotedVersion) (at : ℕ) → b ≡ true → note_of at (if b then x else y) ≡ note_of at x
from_here b x y at e = ap (λ c. note_of at (if c then x else y)) e

before_here : (b : Bool) (x y : NotedVersion) (at : ℕ) → b ≡ false → note_of at (if b then x else y) ≡ note_of at y
before_here b x y at e = ap (λ c. note_of at (if c then x else y)) e

-- what is held is committed from a place on
pub notes_committed : (k at time : ℕ) (log : List NotedVersion)
    → notes_from at (edited_from (CommittedFrom (at + k) time) at log) ≡ from_place (λ n. record n { time = time }) k (notes_from at log)
notes_committed k at time [] = none k
  where
    none : (k : ℕ) → [] ≡ from_place (λ n. record n { time = time }) k []
    none zero = refl
    none (suc k) = refl
notes_committed zero at time (v ∷ log) =
    let one = from_here (leb (at + 0) at) (record v { time = time }) v at (le-leb (at + 0) at (omega arith)) in
    let rest = all_committed at (suc at) time log (omega arith) in
    (λ i. one i ∷ rest i)
  where
    all_committed : (from at time : ℕ) (log : List NotedVersion) → from ≤ at
        → notes_from at (edited_from (CommittedFrom (from + 0) time) at log) ≡ from_place (λ n. record n { time = time }) 0 (notes_from at log)
    all_committed from at time [] le = refl
    all_committed from at time (v ∷ log) le =
        let one = from_here (leb (from + 0) at) (record v { time = time }) v at (le-leb (from + 0) at (omega (arith, le))) in
        let rest = all_committed from (suc at) time log (omega (arith, le)) in
        (λ i. one i ∷ rest i)
notes_committed (suc k) at time (v ∷ log) =
    let one = before_here (leb (at + suc k) at) (record v { time = time }) v at (lt-leb (at + suc k) at (omega arith)) in
    let same : at + suc k ≡ suc at + k = omega arith in
    let rest = ap (λ from. notes_from (suc at) (edited_from (CommittedFrom from time) (suc at) log)) same ∙ notes_committed k (suc at) time log in
    (λ i. one i ∷ rest i)

-- what is held is given up from a place on
pub notes_aborted : (k at dead : ℕ) (log : List NotedVersion)
    → notes_from at (edited_from (AbortedFrom (at + k) dead) at log) ≡ from_place (λ n. record n { dead = dead }) k (notes_from at log)
notes_aborted k at dead [] = none k
  where
    none : (k : ℕ) → [] ≡ from_place (λ n. record n { dead = dead }) k []
    none zero = refl
    none (suc k) = refl
notes_aborted zero at dead (v ∷ log) =
    let one = from_here (leb (at + 0) at) (record v { dead = dead }) v at (le-leb (at + 0) at (omega arith)) in
    let rest = all_aborted at (suc at) dead log (omega arith) in
    (λ i. one i ∷ rest i)
  where
    all_aborted : (from at dead : ℕ) (log : List NotedVersion) → from ≤ at
        → notes_from at (edited_from (AbortedFrom (from + 0) dead) at log) ≡ from_place (λ n. record n { dead = dead }) 0 (notes_from at log)
    all_aborted from at dead [] le = refl
    all_aborted from at dead (v ∷ log) le =
        let one = from_here (leb (from + 0) at) (record v { dead = dead }) v at (le-leb (from + 0) at (omega (arith, le))) in
        let rest = all_aborted from (suc at) dead log (omega (arith, le)) in
        (λ i. one i ∷ rest i)
notes_aborted (suc k) at dead (v ∷ log) =
    let one = before_here (leb (at + suc k) at) (record v { dead = dead }) v at (lt-leb (at + suc k) at (omega arith)) in
    let same : at + suc k ≡ suc at + k = omega arith in
    let rest = ap (λ from. notes_from (suc at) (edited_from (AbortedFrom from dead) (suc at) log)) same ∙ notes_aborted k (suc at) dead log in
    (λ i. one i ∷ rest i)

-- a word of one version is put
none_put : (at word value p : ℕ) (log : List NotedVersion) → at < p → edited_from (WordPut at word value) p log ≡ log
none_put at word value p [] lt = refl
none_put at word value p (v ∷ log) lt =
    let one = ap (λ b. if b then record v { words = slice_set v.words word value } else v) (ne_eqb at p (λ e. omega (arith, lt, e))) in
    let rest = none_put at word value (suc p) log (omega (arith, lt)) in
    (λ i. one i ∷ rest i)

pub notes_put : (k word value p : ℕ) (log : List NotedVersion)
    → notes_from p (edited_from (WordPut (p + k) word value) p log) ≡ at_place (with_word word value) k (notes_from p log)
notes_put k word value p [] = refl
notes_put zero word value p (v ∷ log) =
    let one = from_here (p + 0 == p) (record v { words = slice_set v.words word value }) v p (eq-eqb (p + 0) p (omega arith)) in
    let rest = ap (notes_from (suc p)) (none_put (p + 0) word value (suc p) log (omega arith)) in
    (λ i. one i ∷ rest i)
notes_put (suc k) word value p (v ∷ log) =
    let one = before_here (p + suc k == p) (record v { words = slice_set v.words word value }) v p (ne_eqb (p + suc k) p (λ e. omega (arith, e))) in
    let same : p + suc k ≡ suc p + k = omega arith in
    let rest = ap (λ at. notes_from (suc p) (edited_from (WordPut at word value) (suc p) log)) same ∙ notes_put k word value (suc p) log in
    (λ i. one i ∷ rest i)

-- versions behind a place, each changed
edited_drop : (e : Edit) (k p : ℕ) (log : List NotedVersion) → drop k (edited_from e p log) ≡ edited_from e (p + k) (drop k log)
edited_drop e zero p log = ap (λ q. edited_from e q log) (omega arith)
edited_drop e (suc k) p [] = refl
edited_drop e (suc k) p (v ∷ log) = edited_drop e k (suc p) log ∙ ap (λ q. edited_from e q (drop k log)) (omega arith)

pub edited_behind : (e : Edit) (k : ℕ) (log : List NotedVersion) → drop k (edited_from e 0 log) ≡ edited_from e k (drop k log)
edited_behind e k log =
    let same : 0 + k ≡ k = omega arith in
    edited_drop e k 0 log ∙ ap (λ q. edited_from e q (drop k log)) same

-- one more behind a place
pub drop_more : (k : ℕ) (log : List NotedVersion) (v : NotedVersion) → k ≤ length log → drop k (log ++ v ∷ []) ≡ drop k log ++ v ∷ []
drop_more zero log v le = refl
drop_more (suc k) [] v le = absurd (omega (arith, le))
drop_more (suc k) (w ∷ log) v le = drop_more k log v (omega (arith, le))

-- what stands at a place behind another
pub drop_at : (k i : ℕ) (log : List NotedVersion) (d : NotedVersion) → get_or (drop k log) i d ≡ get_or log (k + i) d
drop_at zero i log d = ap (λ j. get_or log j d) (omega arith)
drop_at (suc k) i [] d = refl
drop_at (suc k) i (v ∷ log) d =
    let e : suc (k + i) ≡ suc k + i = omega arith in
    drop_at k i log d ∙ ap (λ j. get_or (v ∷ log) j d) e

-- notes behind a place
pub notes_drop : (k at : ℕ) (log : List NotedVersion) → drop k (notes_from at log) ≡ notes_from (at + k) (drop k log)
notes_drop zero at log = ap (λ q. notes_from q log) (omega arith)
notes_drop (suc k) at [] = refl
notes_drop (suc k) at (v ∷ log) =
    let same : suc at + k ≡ at + suc k = omega arith in
    notes_drop k (suc at) log ∙ ap (λ q. notes_from q (drop k log)) same

drop_nil : (k : ℕ) → ◌≡◌ {A = List NotedVersion} (drop k []) []
drop_nil zero = refl
drop_nil (suc k) = refl

pub drop_on : (a b : ℕ) (log : List NotedVersion) → drop a (drop b log) ≡ drop (b + a) log
drop_on a zero log = ap (λ q. drop q log) (omega arith)
drop_on a (suc b) [] = drop_nil a ∙ sym (drop_nil (suc b + a))
drop_on a (suc b) (v ∷ log) =
    let same : suc (b + a) ≡ suc b + a = omega arith in
    drop_on a b log ∙ ap (λ q. drop q (v ∷ log)) same

-- a version is dead from a time on
none_retired : (at dead p : ℕ) (log : List NotedVersion) → at < p → edited_from (Retired at dead) p log ≡ log
none_retired at dead p [] lt = refl
none_retired at dead p (v ∷ log) lt =
    let one = ap (λ b. if b then record v { dead = dead } else v) (ne_eqb at p (λ e. omega (arith, lt, e))) in
    let rest = none_retired at dead (suc p) log (omega (arith, lt)) in
    (λ i. one i ∷ rest i)

pub notes_retired : (k dead p : ℕ) (log : List NotedVersion)
    → notes_from p (edited_from (Retired (p + k) dead) p log) ≡ at_place (λ n. record n { dead = dead }) k (notes_from p log)
notes_retired k dead p [] = refl
notes_retired zero dead p (v ∷ log) =
    let one = from_here (p + 0 == p) (record v { dead = dead }) v p (eq-eqb (p + 0) p (omega arith)) in
    let rest = ap (notes_from (suc p)) (none_retired (p + 0) dead (suc p) log (omega arith)) in
    (λ i. one i ∷ rest i)
notes_retired (suc k) dead p (v ∷ log) =
    let one = before_here (p + suc k == p) (record v { dead = dead }) v p (ne_eqb (p + suc k) p (λ e. omega (arith, e))) in
    let same : p + suc k ≡ suc p + k = omega arith in
    let rest = ap (λ at. notes_from (suc p) (edited_from (Retired at dead) (suc p) log)) same ∙ notes_retired k dead (suc p) log in
    (λ i. one i ∷ rest i)

-- whose version a write-back found above is no note of the log
above_same : (b : Bool) (v : NotedVersion) (seat : Option ℕ) (p : ℕ) → note_of p (if b then record v { above = seat } else v) ≡ note_of p v
above_same true v seat p = refl
above_same false v seat p = refl

pub notes_above : (at : ℕ) (seat : Option ℕ) (p : ℕ) (log : List NotedVersion) → notes_from p (edited_from (AboveNoted at seat) p log) ≡ notes_from p log
notes_above at seat p [] = refl
notes_above at seat p (v ∷ log) =
    let one = above_same (at == p) v seat p in
    let rest = notes_above at seat (suc p) log in
    (λ i. one i ∷ rest i)

-- the version at a place behind an edit
pub edited_at : (e : Edit) (p i : ℕ) (log : List NotedVersion) (d : NotedVersion) → i < length log
    → get_or (edited_from e p log) i d ≡ edited e (p + i) (get_or log i d)
edited_at e p i [] d lt = absurd (omega (arith, lt))
edited_at e p zero (v ∷ log) d lt = ap (λ q. edited e q v) (omega arith)
edited_at e p (suc i) (v ∷ log) d lt =
    let same : suc p + i ≡ p + suc i = omega arith in
    edited_at e (suc p) i log d (omega (arith, lt)) ∙ ap (λ q. edited e q (get_or log i d)) same

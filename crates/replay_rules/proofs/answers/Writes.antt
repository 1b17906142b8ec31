-- A write: which words of its version were stored so far, and that behind the last one the section holds the object with these words.
use Rattle.std.proofs.Common.{◌≡◌, ℕ, ◌+◌, ◌-◌, ◌<◌, ltb, List, [], ◌∷◌, ◌++◌, length, Option, Some, None, refl, sym, ap, ◌∙◌, subst, arith, slice_index}
use Rattle.std.proofs.Common.{slice_index_or, if◌then◌else◌, append-nil, append_assoc, length-append}
use Rattle.std.proofs.lemmas.Option.{get_or_from_slice_get}
use Rattle.std.proofs.lemmas.List.Elements.{All-nil, All-push}
use Rattle.mv_history.specs.declared.Step.{Step}
use Rattle.mv_history.specs.declared.StepKind.TheVariants.{StoreData}
use Rattle.mv_core.proofs.Terms.{Config, Checked}
use Rattle.mv_core.specs.declared.ring.Version as core
use Rattle.mv_core.specs.declared.view.Knowledge.{Knowledge}
use Rattle.mv_core.specs.LockSteps.{data_stored}
use Rattle.mv_core.specs.Moves.{Moment, MoveKind, store_data}
use Rattle.seat_log.specs.declared.version.Note.{Note}
use Rattle.seat_log.specs.Notes.{Noted, some_noted}
use Rattle.seat_log.specs.Stands.{Stands}
use Rattle.seat_log.specs.Builds.{version_in}
use Rattle.seat_log.proofs.Rebuilding.{held_note}
use Rattle.seat_log.proofs.AllWords.{all_noted, none_noted, one_noted}
use Rattle.object_lock.specs.Writes.{IsHeldAt, Stores}
use Rattle.object_lock.proofs.Locked.{noted_is}
use Rattle.object_lock.proofs.Rewriting.{is_held, all_written, spare_stays}
use Rattle.replay_rules.specs.declared.plan.Call.TheVariants.{Write}
use Rattle.replay_rules.specs.declared.seats.NotedVersion.{NotedVersion}
use Rattle.replay_rules.specs.declared.seats.State.{State}
use Rattle.replay_rules.specs.declared.seats.NextStep.{NextStep}
use Rattle.replay_rules.specs.declared.seats.NextStep.TheVariants.{Enters, Helps, Walks, Locks, Writes, EndsSection, Tidies}
use Rattle.replay_rules.specs.declared.seats.CallAnswer.TheVariants.{Silent}
use Rattle.replay_rules.specs.declared.seats.Then.TheVariants.{Goes, Ends}
use Rattle.replay_rules.specs.declared.seats.Test.TheVariants.{IsOf}
use Rattle.replay_rules.specs.SeatNotes.{first_from, applied}
use Rattle.replay_rules.specs.Learns.{state_after, edit_of}
use Rattle.replay_rules.specs.Tasks.{place_in_task}
use Rattle.replay_rules.specs.States.{Made, state_of, AreMade}
use Rattle.replay_rules.specs.NextSteps.{IsStepOf}
use Rattle.replay_rules.specs.Answers.{AnswersSo}
use Rattle.replay_rules.proofs.runs.Sections.{InSection}
use Rattle.replay_rules.proofs.runs.Standing.{step_of}
use Rattle.replay_rules.proofs.runs.Stepping.{view_by}
use Rattle.replay_rules.proofs.runs.Known.{if_so, ltb_lt, ltb_ge, knows}
use Rattle.replay_rules.proofs.answers.Progress.{Comes, state_with, BeginsSo, GoesOnSo}
use Rattle.replay_rules.proofs.answers.HeldObjects.{held_there}

-- What a write has done so far: so many of the words, the first ones, are those of the object's version, and each was stored in a step.
pub record HasWritten (c : Config) (v w : Knowledge) (o : ℕ) (words : List ℕ) (at word : ℕ) : Type 0 where
  pub noted : Noted
  pub before : Stands c v noted
  pub held : IsHeldAt noted o at
  pub now : Stands c w (some_noted noted at words word)
  pub stores : Stores v w word
  pub six : length words ≡ 6
  pub wide : length (slice_index_or noted.live (at - noted.freed) held.note).words ≡ 6

-- so far has a write come
abbrev pub WriteFar : ℕ → List ℕ → Config → ℕ → Knowledge → Knowledge → List NotedVersion → State → NextStep → Type 0
WriteFar o words c n v w log s (Writes at these word) = HasWritten c v w o words at word × (these ≡ words)
WriteFar o words c n v w log s task = ⊥

-- no word was stored
none_stored : (v : Knowledge) → Stores v v 0
none_stored v = record { rest = refl; trail = ([], sym (append-nil v.trail), refl, All-nil (λ (s : Step). s.kind ≡ StoreData)) }

-- one word more
one_stored : (u v w : Knowledge) (n : ℕ) (s : Step) → Stores u v n → w ≡ record v { ring = w.ring; trail = w.trail } → w.trail ≡ v.trail ++ s ∷ []
    → s.kind ≡ StoreData → Stores u w (n + 1)
one_stored u v w n s so rest trail is =
    let t = so.trail in
    let long = t.2 in
    let more = length-append t.0 (s ∷ []) in
    record {
      rest = rest ∙ ap (λ (z : Knowledge). record z { ring = w.ring; trail = w.trail }) so.rest;
      trail = (
        t.0 ++ s ∷ [],
        trail ∙ ap (λ (l : List Step). l ++ s ∷ []) t.1 ∙ append_assoc u.trail t.0 (s ∷ []),
        omega (arith, long, more),
        All-push (λ (z : Step). z.kind ≡ StoreData) t.0 s t.3 is,
      );
    }

-- a write begins
module _ (o : ℕ) (words : List ℕ) (c : Config) (k : Checked c) (six : length words ≡ 6) (n : ℕ) (made : List Made) (each : AreMade c made)
    (log : List NotedVersion) (freed from : ℕ) (time : Option ℕ) (inside : InSection c ((state_of c made).seats n) log freed from time)
    (there : first_from log from (IsOf o) < length log) where
  abbrev start : Knowledge
  start = (state_of c made).seats n

  abbrev l : Noted
  l = inside.logs.noted

  abbrev place : ℕ
  place = first_from log from (IsOf o)

  begun : HasWritten c start start o words place 0
  begun =
      let held = held_there c k start log freed from time inside o there in
      let h = held_note c start l place inside.logs.stands (is_held c start l o place inside.logs.stands held) in
      let known = (knows c k n made each).section inside.section inside.walking.phase in
      let same = get_or_from_slice_get l.live (place - l.freed) h.0 held.note h.1 in record {
        noted = l;
        before = inside.logs.stands;
        held = held;
        now = none_noted c start l place words inside.logs.stands;
        stores = none_stored start;
        six = six;
        wide = ap (λ (x : Note). length x.words) same ∙ (known.held _ _ h.2).wide;
      }

pub write_begins : (o : ℕ) (words : List ℕ) → BeginsSo (Write o words) (WriteFar o words)
write_begins o words c k fit n lt made each log freed from None rests may = absurd (cc)
write_begins o words c k fit n lt made each log freed from (Some t) rests may =
    (begun o words c k fit.1.0 n made each log freed from (Some t) rests (ltb_lt (first_from log from (IsOf o)) (length log) may), refl)

-- and goes on
module _ (o : ℕ) (words : List ℕ) (c : Config) (n : ℕ) (made : List Made) (u : Knowledge) (at word : ℕ) (less : word < 6) where
  abbrev s : Moment
  s = state_of c made

  abbrev v : Knowledge
  v = s.seats n

  -- the step of the core is of this kind
  abbrev Steps : List ℕ → MoveKind → Type 0
  Steps these kind = IsStepOf c made (step_of n kind) n (Writes at these word)

  -- one word more was stored
  one_more : (far : HasWritten c u v o words at word) (version : core.Version) → Steps words (store_data at word (slice_index words word) version)
      → HasWritten c u (view_by c s n (store_data at word (slice_index words word) version)) o words at (word + 1)
  one_more far version step =
      let x = slice_index words word in
      let w = view_by c s n (store_data at word x version) in
      let stored = ap (data_stored c v at word x) (sym (ap version_in step.may.may.held)) in record {
        noted = far.noted;
        before = far.before;
        held = far.held;
        now = one_noted c u v far.noted at word words (is_held c u far.noted o at far.before far.held) far.now w stored;
        stores = one_stored u v w word _ far.stores refl refl refl;
        six = far.six;
        wide = far.wide;
      }

  -- all of them were
  all_so : (w : Knowledge) → HasWritten c u w o words at 6 → AnswersSo c (Write o words) u w Silent
  all_so w far =
      let l = far.noted in
      let noted = all_noted l at words far.held.note far.six far.wide in
      let held = far.held in record {
        held = noted_is c u l o far.before (held.place, held.note, held.there, held.held, held.object_is);
        own = all_written c u l o at far.before held w (some_noted l at words 6) words far.now noted;
        spare = spare_stays c u w l (some_noted l at words 6) at words far.before far.now noted;
        stores = far.stores;
      }

  write_so : (notes : List NotedVersion) (state : State) (version : core.Version) → Steps words (store_data at word (slice_index words word) version)
      → HasWritten c u v o words at word
      → let w = view_by c s n (store_data at word (slice_index words word) version) in
      Comes (WriteFar o words c n u w notes state) (AnswersSo c (Write o words) u w)
      (if ltb word 5 then Goes (Writes at words (word + 1)) else Ends Silent)
  write_so notes state version step far =
      let w = view_by c s n (store_data at word (slice_index words word) version) in
      let more = one_more far version step in
      if_so (Comes (WriteFar o words c n u w notes state) (AnswersSo c (Write o words) u w)) (ltb word 5) (Goes (Writes at words (word + 1))) (Ends Silent)
      (λ e. (more, refl))
      (λ e.
      let last : word + 1 ≡ 6 = (let ge = ltb_ge word 5 e in omega (arith, ge, less)) in
      all_so w (subst (HasWritten c u w o words at) last more))

  kind_so : (notes : List NotedVersion) (state : State) (these : List ℕ) → these ≡ words → HasWritten c u v o words at word → (kind : MoveKind)
      → Steps these kind
      → (version : core.Version) → kind ≡ store_data at word (slice_index these word) version
      → Comes (WriteFar o words c n u (view_by c s n kind) notes state) (AnswersSo c (Write o words) u (view_by c s n kind))
      (if ltb word 5 then Goes (Writes at these (word + 1)) else Ends Silent)
  kind_so notes state these same far kind step version is =
      let all : kind ≡ store_data at word (slice_index words word) version =
      is ∙ ap (λ (ws : List ℕ). store_data at word (slice_index ws word) version) same in
      subst (λ (p : List ℕ × MoveKind). Comes (WriteFar o words c n u (view_by c s n p.1) notes state) (AnswersSo c (Write o words) u (view_by c s n p.1))
      (if ltb word 5 then Goes (Writes at p.0 (word + 1)) else Ends Silent)) (λ i. (sym same i, sym all i))
      (write_so notes state version (subst (λ (p : List ℕ × MoveKind). Steps p.0 p.1) (λ i. (same i, all i)) step) far)

pub write_goes : (o : ℕ) (words : List ℕ) → GoesOnSo (Write o words) (WriteFar o words)
write_goes o words c k n lt made each log freed from time sweep (Writes at these word) stands scan kind step is u far so =
    let s = state_with n time from freed (Write o words) sweep in
    let task = Writes at these word in
    let found = (state_of c made).memory (place_in_task c n task) in
    kind_so o words c n made u at word stands.in_range (applied (edit_of task s found) log) (state_after task log s found) these far.1 far.0 kind step is.0 is.1
write_goes o words c k n lt made each log freed from time sweep (Enters next) stands scan kind step is u far so = absurd far
write_goes o words c k n lt made each log freed from time sweep (Helps next) stands scan kind step is u far so = absurd far
write_goes o words c k n lt made each log freed from time sweep (Walks p next) stands scan kind step is u far so = absurd far
write_goes o words c k n lt made each log freed from time sweep (Locks version at next) stands scan kind step is u far so = absurd far
write_goes o words c k n lt made each log freed from time sweep (EndsSection next) stands scan kind step is u far so = absurd far
write_goes o words c k n lt made each log freed from time sweep (Tidies next) stands scan kind step is u far so = absurd far

-- The parts of a lock, from the build on: what each leaves, and how the outcome of one is that of all.
use Rattle.std.proofs.Common.{◌≡◌, ◌≢◌, ℕ, ◌+◌, ◌-◌, ◌<◌, true, false, List, [], ◌∷◌, ◌++◌, length, map, drop, refl, sym}
use Rattle.std.proofs.Common.{ap, ◌∙◌, subst, append-nil, append_assoc, inl, arith, Some, None}
use Rattle.std.proofs.lemmas.List.Elements.{All-nil, All-cons}
use Rattle.mv_history.specs.declared.Step.{Step}
use Rattle.mv_history.specs.declared.StepKind.TheVariants.{LockHead}
use Rattle.mv_history.specs.declared.answers.LockAnswer.{LockAnswer}
use Rattle.mv_history.specs.declared.answers.LockAnswer.TheVariants.{Held, Busy, Stale, SetFull, LogFull}
use Rattle.mv_layout.specs.declared.Config.{Config}
use Rattle.mv_layout.specs.declared.SharedWord.TheVariants.{Head}
use Rattle.mv_layout.specs.Places.{place_of}
use Rattle.mv_layout.specs.Words.{link_of, link_seat_of}
use Rattle.seat_log.specs.mv_core.declared.view.Knowledge.{Knowledge}
use Rattle.seat_log.specs.mv_core.declared.view.Phase.{Phase}
use Rattle.seat_log.specs.mv_core.declared.view.Phase.TheVariants.{Inside}
use Rattle.seat_log.specs.mv_core.declared.view.OwnSection.{OwnSection}
use Rattle.seat_log.specs.mv_core.declared.view.LoadedClocks.{LoadedClocks}
use Rattle.seat_log.specs.mv_core.declared.view.Passed.TheVariants.{Nothing}
use Rattle.seat_log.specs.mv_core.declared.view.WalkStage.TheVariants as place
use Rattle.seat_log.specs.mv_core.Rings.{own_of, spare_count}
use Rattle.seat_log.specs.mv_core.Views.{time_in}
use Rattle.seat_log.specs.mv_core.declared.view.Stand.{Stand}
use Rattle.seat_log.specs.mv_core.SectionFacts.{IsPastHelp}
use Rattle.seat_log.specs.mv_core.LockSteps.{StandsToLock, head_locked, lock_lost, OneMoreWrite}
use Rattle.seat_log.specs.mv_core.WalkSteps.{IsLinkOf}
use Rattle.seat_log.proofs.mv_core_lemmas.kinds.walking.WalkOn.{at_some}
use Rattle.seat_log.specs.declared.version.Note.{Note}
use Rattle.seat_log.specs.Notes.{Noted, held_noted, cleared, without_previous}
use Rattle.seat_log.specs.Stands.{is_won_lock, Stands}
use Rattle.seat_log.specs.Builds.{stored_next}
use Rattle.seat_log.proofs.Stays.{stands_locked}
use Rattle.version_chain.specs.Walks.{MayWalk, inside_of, section_in, stand_of}
use Rattle.object_lock.specs.Tops.{FoundHeld, Tries}
use Rattle.object_lock.specs.Locks.{lost_step, noted_words, built_words, IsBuiltFor, CameFirst, LockMakes, KeepsOwn, Outcome, OneOutcome, LostOutcome}
use Rattle.object_lock.proofs.BuildTrails.{BuildsBy, builds_next}
use Rattle.object_lock.proofs.Looks.{IsLocks, rest_of}
use Rattle.object_lock.proofs.Outcomes.{tries_on}
use Rattle.object_lock.proofs.OwnNotes.{note_write, held_notes, own_is}
use Rattle.object_lock.proofs.Stood.{stands_on}

-- a section may walk on where its phase, the clock words it loaded and its write-back stay
pub may_same : (v w : Knowledge) → w.phase ≡ v.phase → w.clocks ≡ v.clocks → w.back ≡ v.back → MayWalk v → MayWalk w
may_same v w phase clocks back may =
    let inside : section_in w ≡ section_in v = ap inside_of phase in record {
      phase = phase ∙ may.phase ∙ sym (ap Inside inside);
      open_is = ap (λ (s : OwnSection). s.mode) inside ∙ may.open_is;
      helped = subst (λ (s : OwnSection). IsPastHelp w.clocks s) (sym inside)
          (subst (λ (h : LoadedClocks). IsPastHelp h (section_in v)) (sym clocks) may.helped);
      no_back = back ∙ may.no_back;
    }

-- logs with the same notes of what is live and held stand for passes that hold the same
pub own_kept : (c : Config) (v w : Knowledge) (l m : Noted) → Stands c v l → Stands c w m → m.live ≡ l.live → m.held ≡ l.held → KeepsOwn c v w
own_kept c v w l m s t live held =
    let same : held_notes m ≡ held_notes l = (λ i. drop (length (live i) - held i) (live i)) in
    let long = ap length live in
    let a = s.spare in
    let b = t.spare in
    (own_is c w m t ∙ ap (map note_write) same ∙ sym (own_is c v l s), omega arith)

-- what a step before the outcome leaves as it was
pub record Carries (c : Config) (v w : Knowledge) : Type 0 where
  pub number : w.number ≡ v.number
  pub start : w.start ≡ v.start
  pub seen : w.past.seen ≡ v.past.seen
  pub phase : w.phase ≡ v.phase
  pub own : KeepsOwn c v w

-- what the last three steps of a call found, the last three of a longer one found
found_before : (c : Config) (object seat : ℕ) (start next trail made : List Step) → next ≡ start ++ made → FoundHeld c object seat next trail
    → FoundHeld c object seat start trail
found_before c object seat start next trail made at f = record {
  before = made ++ f.before;
  head = f.head;
  first = f.first;
  stamp = f.stamp;
  steps = f.steps ∙ ap (λ (l : List Step). l ++ f.before ++ f.head ∷ f.first ∷ f.stamp ∷ []) at
      ∙ ap (λ (l : List Step). l ++ f.head ∷ f.first ∷ f.stamp ∷ []) (append_assoc start made f.before);
  link = f.link;
  seat_is = f.seat_is;
  in_range = f.in_range;
  on_top = f.on_top;
  position = f.position;
  begins = f.begins;
  word = f.word;
  of_set = f.of_set;
  unset = f.unset;
}

-- what a lock makes from then on it makes in all
pub makes_before : (c : Config) (v w x : Knowledge) (object : ℕ) (words : List ℕ) (answer : LockAnswer) (made : List Step) → w.trail ≡ v.trail ++ made
    → w.number ≡ v.number
    → w.phase ≡ v.phase → KeepsOwn c v w → LockMakes c w x object words answer
    → LockMakes c v x object words answer
makes_before c v w x object words Held made at number phase own makes = (makes.0 ∙ ap (λ ws. ws ++ (object, words) ∷ []) own.0, makes.1 ∙ own.1)
makes_before c v w x object words (Busy seat) made at number phase own makes =
    ((λ e. makes.0 (e ∙ sym number)), found_before c object seat v.trail w.trail x.trail made at makes.1)
makes_before c v w x object words (Stale time) made at number phase own makes = (subst (λ (p : Phase). time_in (inside_of p) < time) phase makes.0, makes.1)
makes_before c v w x object words SetFull made at number phase own makes = absurd makes
makes_before c v w x object words LogFull made at number phase own makes = absurd makes

pub outcome_before : {words : List ℕ} (c : Config) (v w x : Knowledge) (l : Noted) (object : ℕ) (answer : LockAnswer) (first second third : ℕ)
    {tried more : List Step} → Carries c v w → Tries v w first second tried → Outcome c w x l object words answer second third more
    → Outcome c v x l object words answer first third (tried ++ more)
outcome_before {words} c v w x l object answer first second third k tries o = record {
  may = o.may;
  stands = o.stands;
  unbuilt = o.unbuilt;
  makes = makes_before c v w x object words answer tries.trail.0 tries.trail.1 k.number k.phase k.own o.makes;
  sees = λ held. o.sees held ∙ k.seen;
  keeps = λ ne. let kept = o.keeps ne in (kept.0 ∙ k.own.0, kept.1 ∙ k.own.1);
  tries = tries_on v w x first second third tries o.tries;
}

-- an exchange of HEAD
module _ {words : List ℕ} (c : Config) (v w : Knowledge) (l : Noted) (object previous position : ℕ) (may : MayWalk v) (s : Stands c v l)
    (is : IsBuiltFor l position object previous words) where
  -- won: the version is held
  module _ (told : w ≡ head_locked c v object previous position words) (own : OneMoreWrite c v object words w) where
    abbrev step : Step
    step = record { kind = LockHead; word = place_of c (Head object); found = Some previous; stored = Some (link_of v.number position) }

    won_tries : (before : ℕ) → Tries v w before (before + 1) (step ∷ [])
    won_tries before = record {
      seen = ([], ap (λ (u : Knowledge). u.past.seen) told ∙ sym (append-nil v.past.seen));
      trail = (step ∷ [], ap (λ (u : Knowledge). u.trail) told, refl, All-cons IsLocks step [] tt (All-nil IsLocks));
      exchanges = refl;
      rest = ap (rest_of w) told;
    }

    pub won_outcome : (m : Noted) (before after : ℕ) → m ≡ held_noted l → after ≡ before + 1 → OneOutcome c v w m object words Held before after
    won_outcome m before after noted e =
        let at : head_locked c v is.0.object is.0.previous is.0.position is.0.words ≡ w =
        (λ i. head_locked c v (is.3 i) (is.4 i) (is.2 i) (is.5 i)) ∙ sym told in
        let stands = stands_locked c v l is.0 s is.1 in (
          step,
          subst (λ (k : Noted). Outcome c v w k object words Held before after (step ∷ [])) (sym noted) (record {
            may = may_same v w (ap (λ (u : Knowledge). u.phase) told) (ap (λ (u : Knowledge). u.clocks) told) (ap (λ (u : Knowledge). u.back) told) may;
            stands = subst (λ (u : Knowledge). Stands c u (held_noted l)) at stands;
            unbuilt = refl;
            makes = own;
            sees = λ _. ap (λ (u : Knowledge). u.past.seen) told;
            keeps = λ ne. absurd (ne refl);
            tries = subst (λ (n : ℕ). Tries v w before n (step ∷ [])) (sym e) (won_tries before);
          }),
          refl,
        )

  -- lost: another came first, or the chain was cut
  module _ (link : ℕ) (told : w ≡ lock_lost c v object link) where
    abbrev step_lost : Step
    step_lost = lost_step c object link

    pub lost_tries : (before : ℕ) → Tries v w before (before + 1) (step_lost ∷ [])
    lost_tries before = record {
      seen = ([], ap (λ (u : Knowledge). u.past.seen) told ∙ sym (append-nil v.past.seen));
      trail = (step_lost ∷ [], ap (λ (u : Knowledge). u.trail) told, refl, All-cons IsLocks step_lost [] tt (All-nil IsLocks));
      exchanges = refl;
      rest = ap (rest_of w) told;
    }

    pub lost_carries : Carries c v w
    lost_carries = record {
      number = ap (λ (u : Knowledge). u.number) told;
      start = ap (λ (u : Knowledge). u.start) told;
      seen = ap (λ (u : Knowledge). u.past.seen) told;
      phase = ap (λ (u : Knowledge). u.phase) told;
      own = (ap (λ (u : Knowledge). own_of c u.ring) told, ap (λ (u : Knowledge). spare_count u.ring) told);
    }

    pub lost_may : MayWalk w
    lost_may = may_same v w (ap (λ (u : Knowledge). u.phase) told) (ap (λ (u : Knowledge). u.clocks) told) (ap (λ (u : Knowledge). u.back) told) may

    pub lost_stands : Stands c w l
    lost_stands =
        stands_on c v w l (step_lost ∷ []) (ap (λ (u : Knowledge). u.number) told) (ap (λ (u : Knowledge). u.ring) told)
        (ap (λ (u : Knowledge). u.past.mine) told)
        (ap (λ (u : Knowledge). u.past.rests) told) (ap (λ (u : Knowledge). u.trail) told)
        (All-cons IsLocks step_lost [] tt (All-nil IsLocks))
        (All-cons (λ (t : Step). is_won_lock t ≡ false) step_lost [] refl (All-nil (λ (t : Step). is_won_lock t ≡ false))) s

    pub came_first : link ≢ 0 → IsLinkOf c link → link_seat_of link ≢ v.number → CameFirst c w object link
    came_first some packed other =
        let at : w.walk ≡ place.At (record { object = object; link = link; first = None; stamp = None; passed = Nothing; late = true }) =
        ap (λ (u : Knowledge). u.walk) told ∙ sym (at_some object link Nothing true some) in
        let stand = ap stand_of at in record {
          stands = record { stands = at ∙ ap place.At (sym stand); link_is = ap (λ (z : Stand). z.link) stand; packed = packed some };
          object_is = ap (λ (z : Stand). z.object) stand;
          late = ap (λ (z : Stand). z.late) stand;
          other = λ e. other (e ∙ ap (λ (u : Knowledge). u.number) told);
        }

    -- the view after the exchange, with the trail of before
    abbrev from : Knowledge
    from = record w { trail = v.trail }

    from_tries : (before : ℕ) → Tries v from before before []
    from_tries before = record {
      seen = ([], ap (λ (u : Knowledge). u.past.seen) told ∙ sym (append-nil v.past.seen));
      trail = ([], sym (append-nil v.trail), (omega arith), All-nil IsLocks);
      exchanges = refl;
      rest = ap (rest_of from) told;
    }

    from_carries : Carries c v from
    from_carries =
        let k = lost_carries in
        record { number = k.number; start = k.start; seen = k.seen; phase = k.phase; own = k.own }

    -- what came first was looked at
    pub lost_all : (x : Knowledge) (q : Noted) (answer : LockAnswer) (first second last : ℕ) → second ≡ first + 1
        → LostOutcome c w x q object link answer second last → OneOutcome c v x q object words answer first last
    lost_all x q answer first second last e o = (
      step_lost,
      outcome_before c v from x q object answer first first last from_carries (from_tries first)
          (o words v.trail first (ap (λ (u : Knowledge). u.trail) told) e),
      refl,
    )

-- PREV of the built version was cleared: it has the words as before
pub cleared_words : {words : List ℕ} (l m : Noted) (object previous position : ℕ) → IsBuiltFor l position object previous words → m ≡ cleared l
    → built_words m ≡ words
cleared_words l m object previous position is e = ap built_words e ∙ ap (λ n. noted_words (without_previous n)) is.1 ∙ is.5

pub cleared_for : {words : List ℕ} (l m : Noted) (object previous position : ℕ) → IsBuiltFor l position object previous words → m ≡ cleared l
    → IsBuiltFor m position object 0 (built_words m)
cleared_for l m object previous position is e =
    let n : Note = is.0 in (
      record n { previous = 0 },
      ap (λ (q : Noted). q.built) e ∙ ap without_previous is.1,
      is.2,
      is.3,
      refl,
      is.5 ∙ sym (cleared_words l m object previous position is e),
    )

-- stores into the slot that is being built
module _ (c : Config) (v w : Knowledge) (n : ℕ) (b : BuildsBy v w n) where
  pub built_may : MayWalk v → MayWalk w
  built_may may = may_same v w (ap (λ (u : Knowledge). u.phase) b.rest) (ap (λ (u : Knowledge). u.clocks) b.rest) (ap (λ (u : Knowledge). u.back) b.rest) may

  pub built_carries : KeepsOwn c v w → Carries c v w
  built_carries own =
      record {
        number = ap (λ (u : Knowledge). u.number) b.rest;
        start = ap (λ (u : Knowledge). u.start) b.rest;
        seen = ap (λ (u : Knowledge). u.past.seen) b.rest;
        phase = ap (λ (u : Knowledge). u.phase) b.rest;
        own = own;
      }

  pub built_tries : (before after : ℕ) → after ≡ before + n → Tries v w before after []
  built_tries before after e =
      let s = b.steps in
      let long = s.2 in
      record {
        seen = ([], ap (λ (u : Knowledge). u.past.seen) b.rest ∙ sym (append-nil v.past.seen));
        trail = (s.0, s.1, (omega arith), s.3);
        exchanges = b.none;
        rest = ap (rest_of w) b.rest;
      }

  pub built_walk : w.walk ≡ v.walk
  built_walk = ap (λ (u : Knowledge). u.walk) b.rest

-- PREV of the built version was cleared, and HEAD exchanged once more
module _ {words : List ℕ} (c : Config) (v w x : Knowledge) (l m : Noted) (object previous position : ℕ) (may : MayWalk v) (s : Stands c v l)
    (is : IsBuiltFor l position object previous words) (t : Stands c w m) (noted : m ≡ cleared l)
    (stored : w ≡ stored_next c v position 2 0) where
  stores : BuildsBy v w 1
  stores = subst (λ (u : Knowledge). BuildsBy v u 1) (sym stored) (builds_next c position v 2 0)

  pub cleared_may : MayWalk w
  cleared_may = built_may c v w 1 stores may

  pub cleared_carries : Carries c v w
  cleared_carries = built_carries c v w 1 stores (own_kept c v w l m s t (ap (λ (q : Noted). q.live) noted) (ap (λ (q : Noted). q.held) noted))

  pub cleared_is : IsBuiltFor m position object 0 (built_words m)
  cleared_is = cleared_for l m object previous position is noted

  pub cleared_lock : v.walk ≡ place.Master object → StandsToLock w (section_in w) object 0
  cleared_lock at = inl (built_walk c v w 1 stores ∙ at, refl)

  pub cleared_tries : (before after : ℕ) → after ≡ before + 1 → Tries v w before after []
  cleared_tries = built_tries c v w 1 stores

  pub again_won : x ≡ head_locked c w object 0 position (built_words m) → OneMoreWrite c w object (built_words m) x
      → (q : Noted) (first second third : ℕ) → q ≡ held_noted m → second ≡ first + 1 → third ≡ second + 1
      → OneOutcome c v x q object words Held first third
  again_won told own q first second third q_is e f =
      let o = subst (λ ws. OneOutcome c w x q object ws Held second third) (cleared_words l m object previous position is noted)
      (won_outcome c w x m object 0 position cleared_may t cleared_is told own q second third q_is f) in
      (o.0, outcome_before c v w x q object Held first second third cleared_carries (cleared_tries first second e) o.1, o.2)

  module _ (link : ℕ) (told : x ≡ lock_lost c w object link) where
    pub again_may : MayWalk x
    again_may = lost_may c w x m object 0 position cleared_may t cleared_is link told

    pub again_stands : Stands c x m
    again_stands = lost_stands c w x m object 0 position cleared_may t cleared_is link told

    pub again_first : link ≢ 0 → IsLinkOf c link → link_seat_of link ≢ w.number → CameFirst c x object link
    again_first = came_first c w x m object 0 position cleared_may t cleared_is link told

    pub again_lost : (y : Knowledge) (q : Noted) (answer : LockAnswer) (first second third last : ℕ) → second ≡ first + 1 → third ≡ second + 1
        → LostOutcome c x y q object link answer third last → OneOutcome c v y q object words answer first last
    again_lost y q answer first second third last e f o =
        let all = subst (λ ws. OneOutcome c w y q object ws answer second last) (cleared_words l m object previous position is noted)
        (lost_all c w x m object 0 position cleared_may t cleared_is link told y q answer second third last f o) in
        (all.0, outcome_before c v w y q object answer first second last cleared_carries (cleared_tries first second e) all.1, all.2)

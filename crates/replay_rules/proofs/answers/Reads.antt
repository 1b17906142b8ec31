-- A read: what it has left of its seat's view so far, and that its six words are those of the object in the section's state.
use Rattle.std.proofs.Common.{◌≡◌, ℕ, ◌+◌, ◌<◌, ◌^◌, ◌==◌, ◌&&◌, ltb, leb, not, List, [], ◌∷◌, ◌++◌, length, All, Option, replicate}
use Rattle.std.proofs.Common.{refl, sym, ap, ◌∙◌, subst, arith, inl, inr, if◌then◌else◌, slice_set, append-nil, append_assoc}
use Rattle.std.specs.Prelude.{unwrap_or}
use Rattle.std.proofs.lemmas.List.Elements.{All-nil, All-push}
use Rattle.mv_history.specs.declared.Step.{Step}
use Rattle.mv_layout.specs.Words.{link_seat_of}
use Rattle.mv_core.proofs.Terms.{Config, Checked, SharedWord, Head, Master, Stamp, Data}
use Rattle.mv_core.specs.declared.view.Knowledge.{Knowledge}
use Rattle.mv_core.specs.declared.view.Phase.{Phase}
use Rattle.mv_core.specs.declared.view.Phase.TheVariants.{Inside}
use Rattle.mv_core.specs.declared.view.OwnSection.{OwnSection}
use Rattle.mv_core.specs.declared.view.Stand.{Stand}
use Rattle.mv_core.specs.declared.view.WalkStage.TheVariants as walk
use Rattle.mv_core.specs.HistoryFacts.{BeginsWith}
use Rattle.mv_core.specs.Rings.{index_of}
use Rattle.mv_core.specs.WalkSteps.{slot_named, word_read, words_read, MayLoadStamp, MayLoadMaster, MayLoadData}
use Rattle.mv_core.specs.LockSteps.{StandsToLock}
use Rattle.mv_core.specs.Moves.{Moment, MoveKind, load_head, load_first, load_stamp, load_prev, load_data, load_master}
use Rattle.mv_core.proofs.history.Fronts.{begins_by}
use Rattle.mv_core.proofs.kinds.walking.LoadData.{data_loads}
use Rattle.mv_core.proofs.kinds.walking.LoadMaster.{master_loads}
use Rattle.reader_marks.specs.Sections.{inside_of}
use Rattle.replay_rules.specs.declared.plan.Call.TheVariants.{Read}
use Rattle.replay_rules.specs.declared.seats.NotedVersion.{NotedVersion}
use Rattle.replay_rules.specs.declared.seats.Sweep.{Sweep}
use Rattle.replay_rules.specs.declared.seats.State.{State}
use Rattle.replay_rules.specs.declared.seats.Walking.{Walking}
use Rattle.replay_rules.specs.declared.seats.Walking.TheVariants.{LoadHead, LoadFirst, LoadStamp, LoadPrev, LoadWord}
use Rattle.replay_rules.specs.declared.seats.NextStep.{NextStep}
use Rattle.replay_rules.specs.declared.seats.NextStep.TheVariants.{Enters, Helps, Walks, Locks, Writes, EndsSection, Tidies}
use Rattle.replay_rules.specs.declared.seats.CallAnswer.TheVariants.{SixWords}
use Rattle.replay_rules.specs.declared.seats.Then.TheVariants.{Goes, Ends}
use Rattle.replay_rules.specs.States.{any_commit, any_start, zeros, Made, state_of, AreMade}
use Rattle.replay_rules.specs.Tasks.{walking_place}
use Rattle.replay_rules.specs.GoesOn.{is_unset, after_walking}
use Rattle.replay_rules.specs.NextSteps.{IsStepOf}
use Rattle.replay_rules.specs.Kinds.{IsKindOfWalking}
use Rattle.replay_rules.specs.ReadAnswers.{IsReadStep}
use Rattle.replay_rules.specs.Answers.{AnswersSo}
use Rattle.replay_rules.proofs.runs.Sections.{InSection, WordsSoFar, WalksAt}
use Rattle.replay_rules.proofs.runs.Standing.{step_of}
use Rattle.replay_rules.proofs.runs.Stepping.{view_by}
use Rattle.replay_rules.proofs.runs.Known.{if_so, ltb_ge, same_list, facts, view_there, starts, seated, word_small}
use Rattle.replay_rules.proofs.runs.WalkFacts.{one_word}
use Rattle.replay_rules.proofs.answers.Progress.{Comes, state_with, BeginsSo, GoesOnSo}
use Rattle.replay_rules.proofs.answers.Seen.{all_seen, stamp_told}

-- What a read has left of a view so far: what was seen is only longer, the trail has steps of a read more, and nothing else changed but where the
-- walk stands and which HEADs were found empty.
pub record HasRead (v w : Knowledge) : Type 0 where
  pub seen : BeginsWith w.past.seen v.past.seen
  pub trail : (steps : List Step) × (w.trail ≡ v.trail ++ steps) × All (λ s. IsReadStep s.kind) steps
  pub rest : w ≡ record v { past = record v.past { seen = w.past.seen }; walk = w.walk; empty = w.empty; trail = w.trail }

-- so far has a read come
abbrev pub ReadFar : ℕ → Config → ℕ → Knowledge → Knowledge → List NotedVersion → State → NextStep → Type 0
ReadFar o c n v w log s (Walks p next) = HasRead v w
ReadFar o c n v w log s task = ⊥

-- a step of a read
abbrev IsReads : Step → Type 0
IsReads s = IsReadStep s.kind

-- no step was made
none_read : (v : Knowledge) → HasRead v v
none_read v = record { seen = all_seen v; trail = ([], sym (append-nil v.trail), All-nil IsReads); rest = refl }

-- one step more
one_read : (u v w : Knowledge) (s : Step) → HasRead u v → BeginsWith w.past.seen v.past.seen → w.trail ≡ v.trail ++ s ∷ [] → IsReadStep s.kind
    → w ≡ record v { past = record v.past { seen = w.past.seen }; walk = w.walk; empty = w.empty; trail = w.trail } → HasRead u w
one_read u v w s far seen trail is rest = record {
  seen = begins_by w.past.seen v.past.seen u.past.seen seen far.seen;
  trail = (
    far.trail.0 ++ s ∷ [],
    trail ∙ ap (λ (l : List Step). l ++ s ∷ []) far.trail.1 ∙ append_assoc u.trail far.trail.0 (s ∷ []),
    All-push IsReads far.trail.0 s far.trail.2 is,
  );
  rest = rest
      ∙ ap (λ (z : Knowledge). record z { past = record z.past { seen = w.past.seen }; walk = w.walk; empty = w.empty; trail = w.trail }) far.rest;
}

module _ (o : ℕ) (c : Config) (k : Checked c) (n : ℕ) (lt : n < c.seats) (made : List Made) (each : AreMade c made) (log : List NotedVersion)
    (freed from : ℕ) (time : Option ℕ) (sweep : Sweep) (u : Knowledge) where
  abbrev s : Moment
  s = state_of c made

  abbrev v : Knowledge
  v = s.seats n

  abbrev state : State
  state = state_with n time from freed (Read o) sweep

  -- what comes behind a step of this kind
  abbrev Comes_so : ℕ → Walking → MoveKind → Type 0
  Comes_so p next kind =
      Comes (ReadFar o c n u (view_by c s n kind) log state) (AnswersSo c (Read o) u (view_by c s n kind))
      (after_walking next c log state p (s.memory (walking_place c p next)))

  -- the step of the core is of this kind
  abbrev Steps : ℕ → Walking → MoveKind → Type 0
  Steps p next kind = IsStepOf c made (step_of n kind) n (Walks p next)

  -- one word more is read, and after the last one they are those of the object
  word_so : (w : Knowledge) (p link : ℕ) (words : List ℕ) (word found : ℕ) → HasRead u w → (i : OwnSection) → w.phase ≡ Inside i → p ≡ o → word < 6
      → found < 2 ^ 64 → found ≡ word_read c w i p word → WordsSoFar c w i p words word → length (words_read c w i p) ≡ 6
      → Comes (ReadFar o c n u w log state) (AnswersSo c (Read o) u w)
      (if ltb word 5 then Goes (Walks p (LoadWord link (slice_set words word found) (word + 1))) else Ends (SixWords (slice_set words word found)))
  word_so w p link words word found far i phase same less fits is so wide =
      if_so (Comes (ReadFar o c n u w log state) (AnswersSo c (Read o) u w)) (ltb word 5)
      (Goes (Walks p (LoadWord link (slice_set words word found) (word + 1)))) (Ends (SixWords (slice_set words word found)))
      (λ e. far)
      (λ e.
      let last : word + 1 ≡ 6 = (let ge = ltb_ge word 5 e in omega (arith, ge, less)) in
      let all = subst (WordsSoFar c w i p (slice_set words word found)) last (one_word c w i p words word found less fits is so) in
      record {
        words_are = same_list 0 (slice_set words word found) (words_read c w i p) (all.wide ∙ sym wide)
            (λ j in_words. all.are j (let long = all.wide in omega (arith, in_words, long)))
            ∙ ap (words_read c w i) same ∙ ap (λ (ph : Phase). words_read c w (inside_of ph) o) (sym phase);
        seen = far.seen;
        trail = far.trail;
        rest = far.rest;
      })

  module _ (far : HasRead u v) where
    head_so : (p : ℕ) (inside : OwnSection) → Comes_so p LoadHead (load_head p inside)
    head_so p inside =
        let w = view_by c s n (load_head p inside) in
        let link = s.memory (Head p) in
        let more : HasRead u w = one_read u v w _ far (all_seen v) refl tt refl in
        if_so (Comes (ReadFar o c n u w log state) (AnswersSo c (Read o) u w)) (link == 0) (Goes (Walks p (LoadWord link (replicate 6 0) 0)))
        (Goes (Walks p (LoadFirst link))) (λ e. more) (λ e. more)

    first_so : (p link : ℕ) (stand : Stand) → Comes_so p (LoadFirst link) (load_first link stand)
    first_so p link stand = one_read u v (view_by c s n (load_first link stand)) _ far (all_seen v) refl tt refl

    stamp_so : (p link first : ℕ) (stand : Stand) → MayLoadStamp v link first stand → Comes_so p (LoadStamp link first) (load_stamp link first stand)
    stamp_so p link first stand may =
        let w = view_by c s n (load_stamp link first stand) in
        let found = s.memory (Stamp (link_seat_of link) (index_of c first)) in
        let more : HasRead u w = one_read u v w _ far (stamp_told c k n lt made each link first stand may).0.sees.more refl tt refl in
        if_so (Comes (ReadFar o c n u w log state) (AnswersSo c (Read o) u w)) (not (is_unset found) && leb found (unwrap_or time 0))
        (Goes (Walks p (LoadWord link (replicate 6 0) 0))) (Goes (Walks p (LoadPrev link))) (λ e. more) (λ e. more)

    prev_so : (p link : ℕ) (stand : Stand) → Comes_so p (LoadPrev link) (load_prev link stand)
    prev_so p link stand =
        let w = view_by c s n (load_prev link stand) in
        let below = s.memory (walking_place c p (LoadPrev link)) in
        let more : HasRead u w = one_read u v w _ far (all_seen v) refl tt refl in
        if_so (Comes (ReadFar o c n u w log state) (AnswersSo c (Read o) u w)) (below == 0) (Goes (Walks p (LoadWord below (replicate 6 0) 0)))
        (Goes (Walks p (LoadFirst below))) (λ e. more) (λ e. more)

    module _ (inside : InSection c v log freed from time) (p : ℕ) (same : p ≡ o) (range : p < c.objects) (link : ℕ) (words : List ℕ) (word : ℕ)
        (less : word < 6) (so : WordsSoFar c v inside.section p words word) where
      abbrev i : OwnSection
      i = inside.section

      -- the word that was found is the one at the place of the step
      at_place : (w : Knowledge) (place : SharedWord) → place ≡ walking_place c p (LoadWord link words word)
          → Comes (ReadFar o c n u w log state) (AnswersSo c (Read o) u w) (after_walking (LoadWord link words word) c log state p (s.memory place))
          → Comes (ReadFar o c n u w log state) (AnswersSo c (Read o) u w)
          (after_walking (LoadWord link words word) c log state p (s.memory (walking_place c p (LoadWord link words word))))
      at_place w place e =
          subst (λ (q : SharedWord). Comes (ReadFar o c n u w log state) (AnswersSo c (Read o) u w)
          (after_walking (LoadWord link words word) c log state p (s.memory q))) e

      master_so : (there : OwnSection) → Steps p (LoadWord link words word) (load_master p word there)
          → Comes_so p (LoadWord link words word) (load_master p word there)
      master_so there step =
          let may : MayLoadMaster v p word i = record { phase = inside.walking.phase; stands = step.may.may.1.stands; in_range = less } in
          let w = view_by c s n (load_master p word there) in
          let small = word_small c k n made each (Master p word) in
          let told = (master_loads any_start any_commit c (zeros c) v p word i range may s.memory s.history s.seats (facts c k n made each)
          (view_there c k n made each) (seated c k n made each lt) (starts c k n made each) small).2.0.0 in
          at_place w (Master p word) step.place_is
          (word_so w p link words word (s.memory (Master p word)) (one_read u v w _ far (all_seen v) refl tt refl) i inside.walking.phase same less small
          told.1 (record { wide = so.wide; small = so.small; are = so.are }) told.2)

      data_so : (stand : Stand) (there : OwnSection) → StandsToLock v i p link → Steps p (LoadWord link words word) (load_data link word stand there)
          → Comes_so p (LoadWord link words word) (load_data link word stand there)
      data_so stand there (inl at) step = let e : walk.Master p ≡ walk.At stand = sym at.0 ∙ step.may.may.stands in absurd (cc)
      data_so stand there (inr at) step =
          let may : MayLoadData v link word at.0 i = record {
            phase = inside.walking.phase;
            stands = at.2;
            link_is = at.4;
            found = at.1;
            stamp_is = at.5;
            time_is = at.6;
            in_range = less;
          } in
          let place = Data (link_seat_of link) (slot_named c link) word in
          let w = view_by c s n (load_data link word stand there) in
          let small = word_small c k n made each place in
          let told = (data_loads any_start any_commit c (zeros c) v link word at.0 i may s.memory s.history s.seats (facts c k n made each)
          (view_there c k n made each) (seated c k n made each lt) (starts c k n made each) small).2.0.0 in
          at_place w place step.place_is
          (word_so w p link words word (s.memory place) (one_read u v w _ far (all_seen v) refl tt refl) i inside.walking.phase same less small
          (told.1 ∙ ap (λ x. word_read c v i x word) at.3) (record { wide = so.wide; small = so.small; are = so.are })
          (ap (λ x. length (words_read c v i x)) (sym at.3) ∙ told.2))

    walk_so : (inside : InSection c v log freed from time) (p : ℕ) → p ≡ o → p < c.objects → (next : Walking) → WalksAt c v inside.section p next
        → (kind : MoveKind) → Steps p next kind → IsKindOfWalking p next kind → Comes_so p next kind
    walk_so inside p same range LoadHead at kind step is = subst (Comes_so p LoadHead) (sym is.1) (head_so p is.0)
    walk_so inside p same range (LoadFirst link) at kind step is = subst (Comes_so p (LoadFirst link)) (sym is.1) (first_so p link is.0)
    walk_so inside p same range (LoadStamp link first) at kind step is =
        subst (Comes_so p (LoadStamp link first)) (sym is.1)
        (stamp_so p link first is.0 (subst (Steps p (LoadStamp link first)) is.1 step).may.may)
    walk_so inside p same range (LoadPrev link) at kind step is = subst (Comes_so p (LoadPrev link)) (sym is.1) (prev_so p link is.0)
    walk_so inside p same range (LoadWord link words word) at kind step (inl is) =
        subst (Comes_so p (LoadWord link words word)) (sym is.1.1)
        (master_so inside p same range link words word at.0 at.3 is.1.0 (subst (Steps p (LoadWord link words word)) is.1.1 step))
    walk_so inside p same range (LoadWord link words word) at kind step (inr is) =
        subst (Comes_so p (LoadWord link words word)) (sym is.2)
        (data_so inside p same range link words word at.0 at.3 is.0 is.1 at.2 (subst (Steps p (LoadWord link words word)) is.2 step))

-- a read begins
pub read_begins : (o : ℕ) → BeginsSo (Read o) (ReadFar o)
read_begins o c k fit n lt made each log freed from time rests may = none_read ((state_of c made).seats n)

-- and goes on
pub read_goes : (o : ℕ) → GoesOnSo (Read o) (ReadFar o)
read_goes o c k n lt made each log freed from time sweep (Walks p next) stands scan kind step is u far so =
    walk_so o c k n lt made each log freed from time sweep u far stands.0 p stands.2 stands.1 next stands.3 kind step is
read_goes o c k n lt made each log freed from time sweep (Enters next) stands scan kind step is u far so = absurd far
read_goes o c k n lt made each log freed from time sweep (Helps next) stands scan kind step is u far so = absurd far
read_goes o c k n lt made each log freed from time sweep (Locks version at next) stands scan kind step is u far so = absurd far
read_goes o c k n lt made each log freed from time sweep (Writes at words word) stands scan kind step is u far so = absurd far
read_goes o c k n lt made each log freed from time sweep (EndsSection next) stands scan kind step is u far so = absurd far
read_goes o c k n lt made each log freed from time sweep (Tidies next) stands scan kind step is u far so = absurd far

-- Locking an object and writing what is held: what the calls need of a pass and its log, what they answer, and what they leave.
use Rattle.std.specs.Prelude.{◌≡◌, ◌≢◌, ℕ, ◌+◌, ◌<◌, ◌≤◌, ◌^◌, true, false, List, [], ◌∷◌, ◌++◌, length, map, Option, Some, None, unwrap_or}
use Rattle.mv_history.specs.declared.Step.{Step}
use Rattle.mv_history.specs.declared.StepKind.TheVariants.{LockHead}
use Rattle.mv_history.specs.State.{touches}
use Rattle.mv_history.specs.declared.answers.LockAnswer.{LockAnswer}
use Rattle.mv_history.specs.declared.answers.LockAnswer.TheVariants.{Held, Busy, Stale, SetFull, LogFull}
use Rattle.mv_layout.specs.declared.Config.{Config}
use Rattle.mv_layout.specs.declared.SharedWord.TheVariants.{Head}
use Rattle.mv_layout.specs.Places.{place_of}
use Rattle.mv_layout.specs.Words.{IsUnset, link_seat_of}
use Rattle.seat_log.specs.mv_core.declared.ring.Build.{Build}
use Rattle.seat_log.specs.mv_core.declared.view.Knowledge.{Knowledge}
use Rattle.seat_log.specs.mv_core.LockSteps.{StandsToLock}
use Rattle.seat_log.specs.mv_core.Rings.{own_of, spare_count}
use Rattle.seat_log.specs.declared.version.Note.{Note}
use Rattle.seat_log.specs.Notes.{Noted, held_from, IsNoteAt}
use Rattle.seat_log.specs.Stands.{Stands}
use Rattle.version_chain.specs.Walks.{MayWalk, section_in, stand_in}
use Rattle.version_chain.specs.Reads.{words_in}
use Rattle.object_lock.specs.declared.locking.StartedLock.{StartedLock}
use Rattle.object_lock.specs.Tops.{StandsOn, Looked, IsRefused, Tries}

-- the log has a held version of the object
abbrev pub HoldsObject : Noted → ℕ → Type 0
HoldsObject l object = (i : ℕ) × (n : Note) × IsNoteAt l i n × (held_from l ≤ i) × (n.object ≡ object)

-- the words that the version was built with
abbrev pub noted_words : Option Note → List ℕ
noted_words None = []
noted_words (Some n) = n.words

-- the words that the built version of a log has
abbrev pub built_words : Noted → List ℕ
built_words l = noted_words l.built

-- the words that were stored into a slot
abbrev pub stored_words : Build → List ℕ
stored_words b = map (λ (word : Option ℕ). unwrap_or word 0) b.words

-- the version that was built is of this object, with this link below and these words
abbrev pub IsBuiltFor : Noted → ℕ → ℕ → ℕ → List ℕ → Type 0
IsBuiltFor l position object previous words =
    (n : Note) × (l.built ≡ Some n) × (n.position ≡ position) × (n.object ≡ object) × (n.previous ≡ previous) × (n.words ≡ words)

-- a lost exchange, which found HEAD of the object to be this link
abbrev pub lost_step : Config → ℕ → ℕ → Step
lost_step c object link = record { kind = LockHead; word = place_of c (Head object); found = Some link; stored = None }

-- the exchanges of HEAD of a call are at most two, of the object; the second comes only where the first found a chain that was cut
abbrev pub AreFew : Config → ℕ → List Step → Type 0
AreFew c object [] = Unit {0}
AreFew c object (s ∷ []) = s.word ≡ place_of c (Head object)
AreFew c object (s ∷ t ∷ []) = (s ≡ lost_step c object 0) × (t.word ≡ place_of c (Head object))
AreFew c object _ = ⊥

-- what a lock leaves of a view, which tried few exchanges of HEAD
abbrev pub TriesFew : Config → Knowledge → Knowledge → ℕ → ℕ → ℕ → Type 0
TriesFew c v w object before after = (tried : List Step) × Tries v w before after tried × AreFew c object tried

-- a lost exchange put the walk at another log's version of the object
pub record CameFirst (c : Config) (v : Knowledge) (object link : ℕ) : Type 0 where
  pub stands : StandsOn c v link
  pub object_is : (stand_in v).object ≡ object
  pub late : (stand_in v).late ≡ true
  pub other : link_seat_of link ≢ v.number

-- what FIRST and STAMP of the version tell that came first
abbrev pub RivalIs : Config → Knowledge → Knowledge → ℕ → LockAnswer → Type 0
RivalIs c v w link (Busy seat) = (found : ℕ) × Looked c v w found × IsUnset found × (seat ≡ link_seat_of link)
RivalIs c v w link (Stale time) = Looked c v w time × (time < 2 ^ 63)
RivalIs c v w link _ = ⊥

-- what came of a lock: the object is held, with these words; or why not
abbrev pub LockMakes : Config → Knowledge → Knowledge → ℕ → List ℕ → LockAnswer → Type 0
LockMakes c v w object words Held = (own_of c w.ring ≡ own_of c v.ring ++ (object, words) ∷ []) × (spare_count w.ring + 1 ≡ spare_count v.ring)
LockMakes c v w object words answer = IsRefused c v w object answer

-- nothing is held that wasn't before, and no slot was used
abbrev pub KeepsOwn : Config → Knowledge → Knowledge → Type 0
KeepsOwn c v w = (own_of c w.ring ≡ own_of c v.ring) × (spare_count w.ring ≡ spare_count v.ring)

-- What a call that exchanges or looks at what came first leaves of a pass and its log, and which exchanges of HEAD it tried. It sees nothing
-- of the history where the lock is won.
pub record Outcome (c : Config) (v w : Knowledge) (l : Noted) (object : ℕ) (words : List ℕ) (answer : LockAnswer) (before after : ℕ) (tried : List Step)
    : Type 0 where
  pub may : MayWalk w
  pub stands : Stands c w l
  pub unbuilt : l.built ≡ None
  pub makes : LockMakes c v w object words answer
  pub sees : answer ≡ Held → w.past.seen ≡ v.past.seen
  pub keeps : answer ≢ Held → KeepsOwn c v w
  pub tries : Tries v w before after tried

-- what comes of at most two exchanges
abbrev pub FewOutcome : Config → Knowledge → Knowledge → Noted → ℕ → List ℕ → LockAnswer → ℕ → ℕ → Type 0
FewOutcome c v w l object words answer before after =
    (tried : List Step) × Outcome c v w l object words answer before after tried × AreFew c object tried

-- of one exchange
abbrev pub OneOutcome : Config → Knowledge → Knowledge → Noted → ℕ → List ℕ → LockAnswer → ℕ → ℕ → Type 0
OneOutcome c v w l object words answer before after =
    (step : Step) × Outcome c v w l object words answer before after (step ∷ []) × (step.word ≡ place_of c (Head object))

-- of a lost exchange that was the last step, told from before it on; whatever words were built, they aren't held
abbrev pub LostOutcome : Config → Knowledge → Knowledge → Noted → ℕ → ℕ → LockAnswer → ℕ → ℕ → Type 0
LostOutcome c v w l object link answer before after =
    (words : List ℕ) (start : List Step) (first : ℕ) → v.trail ≡ start ++ lost_step c object link ∷ [] → before ≡ first + 1
    → Outcome c (record v { trail = start }) w l object words answer first after (lost_step c object link ∷ [])

-- the section holds as many objects as it may
abbrev pub IsSetFull : Config → Knowledge → Type 0
IsSetFull c v = length (own_of c v.ring) ≡ c.write_max

-- it may hold one more, and the log has a slot for it
abbrev pub HasRoom : Config → Knowledge → Type 0
HasRoom c v = (¬ (IsSetFull c v)) × (spare_count v.ring ≢ 0)

-- what a lock with these words answers for an object that the section doesn't hold
abbrev pub AnswersWith : Config → Knowledge → Knowledge → ℕ → List ℕ → LockAnswer → Type 0
AnswersWith c v w object words SetFull = IsSetFull c v
AnswersWith c v w object words LogFull = (¬ (IsSetFull c v)) × (spare_count v.ring ≡ 0)
AnswersWith c v w object words answer = HasRoom c v × LockMakes c v w object words answer

-- what `lock` answers: its words are those that the section reads
abbrev pub LockAnswers : Config → Knowledge → Knowledge → ℕ → LockAnswer → Type 0
LockAnswers c v w object answer = AnswersWith c v w object (words_in c w object) answer

-- between the two parts of a lock: a version of the object is built over what is on top of its chain, in a section that doesn't
-- hold the object and may hold one more
pub record IsStarted (c : Config) (v : Knowledge) (l : Noted) (lock : StartedLock) : Type 0 where
  pub may : MayWalk v
  pub range : lock.object < c.objects
  pub stands : Stands c v l
  pub built : IsBuiltFor l lock.position lock.object lock.link (built_words l)
  pub over : StandsToLock v (section_in v) lock.object lock.link
  pub unheld : ¬ (HoldsObject l lock.object)
  pub few : l.held < c.write_max

-- a lock of an object that wasn't held was begun, with these words
pub record Starts (c : Config) (v w : Knowledge) (l : Noted) (object : ℕ) (words : List ℕ) (lock : StartedLock) : Type 0 where
  pub lacks : touches (own_of c v.ring) object ≡ false
  pub room : HasRoom c v
  pub object_is : lock.object ≡ object
  pub words_are : built_words l ≡ words
  pub started : IsStarted c w l lock

-- the most steps of a lock before its first exchange of HEAD: six less where the words are given
abbrev pub most_to_start : Option (List ℕ) → ℕ
most_to_start None = 19
most_to_start (Some words) = 13

-- the most steps of a whole lock: six less where the words are given
abbrev pub most_to_lock : Option (List ℕ) → ℕ
most_to_lock None = 24
most_to_lock (Some words) = 18

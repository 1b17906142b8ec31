-- What is on top of an object's chain for a section that would hold the object: what it needs, what it answers, and what it leaves.
use Rattle.std.specs.Prelude.{◌≡◌, ◌≢◌, ℕ, ◌+◌, ◌<◌, Bool, true, false, List, [], ◌∷◌, ◌++◌, length, filter, All}
use Rattle.std.specs.Prelude.{Option, Some, None, unwrap_or, Result, Ok, Err}
use Rattle.mv_history.specs.declared.Step.{Step}
use Rattle.mv_history.specs.declared.StepKind.{StepKind}
use Rattle.mv_history.specs.declared.StepKind.TheVariants.{LoadHead, LoadFirst, LoadStamp, LoadData, LoadMaster, StoreBuilt, LockHead}
use Rattle.mv_history.specs.declared.answers.LockAnswer.{LockAnswer}
use Rattle.mv_history.specs.declared.answers.LockAnswer.TheVariants.{Busy, Stale}
use Rattle.mv_layout.specs.declared.Config.{Config}
use Rattle.mv_layout.specs.declared.SharedWord.TheVariants.{Head, First, Stamp}
use Rattle.mv_layout.specs.Places.{place_of}
use Rattle.mv_layout.specs.Words.{IsUnset, link_seat_of}
use Rattle.seat_log.specs.mv_core.declared.ring.Slot.TheVariants.{Live}
use Rattle.seat_log.specs.mv_core.declared.ring.Version.{Version}
use Rattle.seat_log.specs.mv_core.declared.ring.WriteSetStatus.TheVariants.{Held as held_status}
use Rattle.seat_log.specs.mv_core.declared.view.Knowledge.{Knowledge}
use Rattle.seat_log.specs.mv_core.declared.view.WalkStage.TheVariants as place
use Rattle.seat_log.specs.mv_core.Rings.{slot_at, index_of}
use Rattle.seat_log.specs.mv_core.HistoryFacts.{BeginsWith}
use Rattle.seat_log.specs.mv_core.WalkSteps.{IsPackedOf, IsLinkOf, IsWriteOf, IsOwnTime, slot_named, first_loaded}
use Rattle.seat_log.specs.mv_core.LockSteps.{StandsToLock}
use Rattle.version_chain.specs.Walks.{section_in, time_at, stand_in, version_looked_at, LookSays}
use Rattle.version_chain.specs.Reads.{words_in}

-- the section doesn't hold the object
abbrev pub IsUnheld : Knowledge → ℕ → Type 0
IsUnheld v object = (k : ℕ) (x : Version) → slot_at v.ring k ≡ Live x held_status → x.object ≢ object

-- the walk stands at the version that this link names
pub record StandsOn (c : Config) (v : Knowledge) (link : ℕ) : Type 0 where
  pub stands : v.walk ≡ place.At (stand_in v)
  pub link_is : (stand_in v).link ≡ link
  pub packed : IsPackedOf c link

-- FIRST and STAMP of that version were loaded, the second with this found
pub record Looked (c : Config) (v w : Knowledge) (found : ℕ) : Type 0 where
  pub first : ℕ
  pub view : w ≡ version_looked_at c v first found w.past.seen
  pub says : LookSays c v first found w.past.seen
  pub own : IsOwnTime c (first_loaded c v (stand_in v) first) (stand_in v).link found

-- a kind of step of a lock
abbrev pub IsLockStep : StepKind → Type 0
IsLockStep LoadHead = Unit {0}
IsLockStep LoadFirst = Unit {0}
IsLockStep LoadStamp = Unit {0}
IsLockStep LoadData = Unit {0}
IsLockStep LoadMaster = Unit {0}
IsLockStep StoreBuilt = Unit {0}
IsLockStep LockHead = Unit {0}
IsLockStep _ = ⊥

-- whether the kind is the exchange of HEAD that locks
abbrev pub is_lock_exchange : StepKind → Bool
is_lock_exchange LockHead = true
is_lock_exchange _ = false

-- the exchanges of HEAD among the steps, won or lost
abbrev pub lock_exchanges : List Step → List Step
lock_exchanges steps = filter (λ s. is_lock_exchange s.kind) steps

-- What a lock leaves of a view, with the counter of steps before and after: what was seen is only longer, the trail has a record
-- for each step and each is of a lock, of which `tried` are the exchanges of HEAD, and nothing else changes but the log, where the
-- walk stands, and which HEADs were found empty.
pub record Tries (v w : Knowledge) (before after : ℕ) (tried : List Step) : Type 0 where
  pub seen : BeginsWith w.past.seen v.past.seen
  pub trail : (steps : List Step) × (w.trail ≡ v.trail ++ steps) × (after ≡ before + length steps) × All (λ s. IsLockStep s.kind) steps
  pub exchanges : lock_exchanges trail.0 ≡ tried
  pub rest : w ≡ record v { past = record v.past { seen = w.past.seen }; walk = w.walk; empty = w.empty; ring = w.ring; trail = w.trail }

-- the last three of the steps that a trail has since `start` found the object held: HEAD named a version of that seat's log, one of the domain's, and the
-- stamp of its write set, loaded afterwards, was unset
pub record FoundHeld (c : Config) (object seat : ℕ) (start trail : List Step) : Type 0 where
  pub before : List Step
  pub head : Step
  pub first : Step
  pub stamp : Step
  pub steps : trail ≡ start ++ before ++ head ∷ first ∷ stamp ∷ []
  pub link : ℕ
  pub seat_is : link_seat_of link ≡ seat
  pub in_range : seat < c.seats
  pub on_top : (head.word ≡ place_of c (Head object)) × (head.found ≡ Some link) × (head.stored ≡ None)
  pub position : ℕ
  pub begins : first ≡ record { kind = LoadFirst; word = place_of c (First seat (slot_named c link)); found = Some position; stored = None }
  pub word : ℕ
  pub of_set : stamp ≡ record { kind = LoadStamp; word = place_of c (Stamp seat (index_of c position)); found = Some word; stored = None }
  pub unset : IsUnset word

-- the causes of a refusal: another seat was found holding the object, in steps of this call; or a commit after the section's time writes it, and was seen
abbrev pub IsRefused : Config → Knowledge → Knowledge → ℕ → LockAnswer → Type 0
IsRefused c v w object (Busy seat) = (seat ≢ v.number) × FoundHeld c object seat v.trail w.trail
IsRefused c v w object (Stale time) = (time_at v < time) × IsWriteOf c w.past.seen object time
IsRefused c v w object _ = ⊥

-- what is on top for the section: a link at which a lock may be put, with the words that are given, or else those that the section reads there; or why not
abbrev pub TopAnswers : Config → Knowledge → Knowledge → ℕ → Option (List ℕ) → Result (ℕ × List ℕ) LockAnswer → Type 0
TopAnswers c v w object given (Ok top) =
    StandsToLock w (section_in w) object top.0 × (top.1 ≡ unwrap_or given (words_in c w object)) × IsLinkOf c top.0
TopAnswers c v w object given (Err answer) = IsRefused c v w object answer

-- the most steps of a look at the top: the six words are read where none are given
abbrev pub most_to_look : Option (List ℕ) → ℕ
most_to_look None = 9
most_to_look (Some words) = 3

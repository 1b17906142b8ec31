-- How far a lock has come: what it has left of its seat's view, which exchanges of HEAD it tried, and what it found.
use Rattle.std.proofs.Common.{◌≡◌, ◌≢◌, ◌⊎◌, ℕ, ◌+◌, ◌≤◌, cond, Bool, true, false, List, [], ◌∷◌, ◌++◌, Some, None, refl, ap, ◌∙◌, subst, arith}
use Rattle.std.proofs.Common.{append-nil, append_assoc}
use Rattle.std.proofs.lemmas.List.Elements.{All-nil, All-cons}
use Rattle.mv_history.specs.State.{touches}
use Rattle.mv_history.specs.declared.Step.{Step}
use Rattle.mv_history.specs.declared.StepKind.{StepKind}
use Rattle.mv_history.specs.declared.StepKind.TheVariants as kinds
use Rattle.mv_layout.specs.Places.{place_of}
use Rattle.mv_layout.specs.Words.{link_seat_of}
use Rattle.mv_core.proofs.Terms.{Config, First, Stamp}
use Rattle.mv_core.specs.declared.view.Knowledge.{Knowledge}
use Rattle.mv_core.specs.HistoryFacts.{BeginsWith}
use Rattle.mv_core.specs.Rings.{index_of, own_of}
use Rattle.mv_core.specs.WalkSteps.{IsPackedOf, IsOwnTop, slot_named}
use Rattle.version_chain.specs.Walks.{stand_of}
use Rattle.object_lock.specs.Tops.{IsLockStep, is_lock_exchange, lock_exchanges, Tries}
use Rattle.object_lock.specs.Locks.{lost_step, AreFew, KeepsOwn, HasRoom}
use Rattle.object_lock.proofs.Looks.{IsLocks, head_found}
use Rattle.object_lock.proofs.Outcomes.{tries_on}
use Rattle.replay_rules.specs.declared.seats.NotedVersion.{NotedVersion}
use Rattle.replay_rules.specs.declared.seats.State.{State}
use Rattle.replay_rules.specs.declared.seats.Walking.{Walking}
use Rattle.replay_rules.specs.declared.seats.Walking.TheVariants.{LoadHead, LoadFirst, LoadStamp, LoadPrev, LoadWord}
use Rattle.replay_rules.specs.declared.seats.Locking.{Locking}
use Rattle.replay_rules.specs.declared.seats.Locking.TheVariants.{Build, LockHead, ClearPrevious, FoundFirst, FoundStamp}
use Rattle.replay_rules.specs.declared.seats.NextStep.{NextStep}
use Rattle.replay_rules.specs.declared.seats.NextStep.TheVariants.{Walks, Locks}

-- What a lock has left of a view so far, of an object that its section may hold and doesn't: it holds as before, and made so many steps, of which
-- these are the exchanges of HEAD.
pub record LockDone (c : Config) (v w : Knowledge) (o made : ℕ) (tried : List Step) : Type 0 where
  pub lacks : touches (own_of c v.ring) o ≡ false
  pub room : HasRoom c v
  pub keeps : KeepsOwn c v w
  pub tries : Tries v w 0 made tried

-- in so many steps at most
abbrev pub HasDone : Config → Knowledge → Knowledge → ℕ → ℕ → List Step → Type 0
HasDone c v w o most tried = (made : ℕ) × (made ≤ most) × LockDone c v w o made tried

-- the last steps are one that found HEAD to be this link, and these
pub record HasFound (c : Config) (v w : Knowledge) (o link : ℕ) (behind : List Step) : Type 0 where
  pub before : List Step
  pub kind : StepKind
  pub steps : w.trail ≡ v.trail ++ before ++ head_found c kind o link ∷ behind
  pub packed : IsPackedOf c link

-- the loads of FIRST and STAMP of the version that a link names
abbrev pub first_step : Config → ℕ → ℕ → Step
first_step c link first =
    record { kind = kinds.LoadFirst; word = place_of c (First (link_seat_of link) (slot_named c link)); found = Some first; stored = None }

abbrev pub stamp_step : Config → ℕ → ℕ → ℕ → Step
stamp_step c link first stamp =
    record { kind = kinds.LoadStamp; word = place_of c (Stamp (link_seat_of link) (index_of c first)); found = Some stamp; stored = None }

-- what was found on top, by the steps so far
abbrev pub StandsAtTop : Config → Knowledge → Knowledge → ℕ → ℕ → ℕ → List Step → Type 0
StandsAtTop c v w o link most behind = HasDone c v w o most [] × HasFound c v w o link behind × IsOwnTop c w o link

-- how far the walk of a lock has come
abbrev pub WalkFar : Config → Knowledge → Knowledge → ℕ → Walking → Type 0
WalkFar c v w o LoadHead = HasDone c v w o 0 []
WalkFar c v w o (LoadFirst link) = StandsAtTop c v w o link 1 []
WalkFar c v w o (LoadStamp link first) = StandsAtTop c v w o link 2 (first_step c link first ∷ [])
WalkFar c v w o (LoadPrev link) = ⊥
WalkFar c v w o (LoadWord link words word) = HasDone c v w o (3 + word) []

-- an exchange was lost to another seat's version, which the walk stands at
pub record HasLost (c : Config) (v w : Knowledge) (o link most : ℕ) (behind : List Step) : Type 0 where
  pub tried : List Step
  pub few : AreFew c o tried
  pub done : HasDone c v w o most tried
  pub found : HasFound c v w o link behind
  pub other : link_seat_of link ≢ v.number
  pub late : (stand_of w.walk).late ≡ true

-- no exchange was tried yet, or one, which found the chain cut
abbrev pub HasBuilt : Config → Knowledge → Knowledge → ℕ → ℕ → Type 0
HasBuilt c v w o previous = HasDone c v w o 19 [] ⊎ ((previous ≡ 0) × HasDone c v w o 21 (lost_step c o 0 ∷ []))

-- how far a lock has come behind its walk
abbrev pub BuildFar : Config → Knowledge → Knowledge → ℕ → ℕ → Locking → Type 0
BuildFar c v w o previous (Build field) = HasDone c v w o (9 + field) []
BuildFar c v w o previous LockHead = HasBuilt c v w o previous
BuildFar c v w o previous ClearPrevious = (previous ≡ 0) × HasDone c v w o 20 (lost_step c o 0 ∷ [])
BuildFar c v w o previous (FoundFirst link) = HasLost c v w o link 22 []
BuildFar c v w o previous (FoundStamp link first) = HasLost c v w o link 23 (first_step c link first ∷ [])

-- so far has a lock come
abbrev pub LockFar : ℕ → Config → ℕ → Knowledge → Knowledge → List NotedVersion → State → NextStep → Type 0
LockFar o c n v w log s (Walks p next) = WalkFar c v w p next
LockFar o c n v w log s (Locks version at next) = (version.object ≡ o) × BuildFar c v w version.object version.previous next
LockFar o c n v w log s task = ⊥

-- with more steps at most
pub done_more : (c : Config) (v w : Knowledge) (o less most : ℕ) (tried : List Step) → less ≤ most → HasDone c v w o less tried → HasDone c v w o most tried
done_more c v w o less most tried le d = let few = d.1 in (d.0, omega (arith, le, few), d.2)

-- a step changes at most what a lock may
abbrev pub IsRest : Knowledge → Knowledge → Type 0
IsRest v w = w ≡ record v { past = record v.past { seen = w.past.seen }; walk = w.walk; empty = w.empty; ring = w.ring; trail = w.trail }

-- one step more
module _ (c : Config) (u v w : Knowledge) (o most : ℕ) (tried : List Step) (s : Step) (done : HasDone c u v o most tried)
    (seen : BeginsWith w.past.seen v.past.seen) (trail : w.trail ≡ v.trail ++ s ∷ []) (is : IsLockStep s.kind) (rest : IsRest v w) where
  one_try : (more : List Step) → lock_exchanges (s ∷ []) ≡ more → Tries v w done.0 (done.0 + 1) more
  one_try more e = record { seen = seen; trail = (s ∷ [], trail, refl, All-cons IsLocks s [] is (All-nil IsLocks)); exchanges = e; rest = rest }

  -- an exchange of HEAD
  pub tries_more : (more : List Step) → lock_exchanges (s ∷ []) ≡ more → Tries u w 0 (done.0 + 1) (tried ++ more)
  tries_more more e = tries_on u v w 0 done.0 (done.0 + 1) done.2.tries (one_try more e)

  pub one_done : (more : List Step) → lock_exchanges (s ∷ []) ≡ more → KeepsOwn c v w → HasDone c u w o (most + 1) (tried ++ more)
  one_done more e own =
      let few = done.1 in
      let kept = done.2.keeps in (
        done.0 + 1,
        omega (arith, few),
        record { lacks = done.2.lacks; room = done.2.room; keeps = (own.0 ∙ kept.0, own.1 ∙ kept.1); tries = tries_more more e },
      )

  -- or another step
  pub load_done : is_lock_exchange s.kind ≡ false → KeepsOwn c v w → HasDone c u w o (most + 1) tried
  load_done none own =
      subst (HasDone c u w o (most + 1)) (append-nil tried) (one_done [] (ap (λ (b : Bool). cond b (s ∷ []) []) none) own)

-- the step that found HEAD was made
pub found_now : (c : Config) (u v w : Knowledge) (o link most : ℕ) (tried : List Step) (kind : StepKind) → HasDone c u v o most tried
    → w.trail ≡ v.trail ++ head_found c kind o link ∷ [] → IsPackedOf c link → HasFound c u w o link []
found_now c u v w o link most tried kind done trail packed = record {
  before = done.2.tries.trail.0;
  kind = kind;
  steps = trail ∙ ap (λ (l : List Step). l ++ head_found c kind o link ∷ []) done.2.tries.trail.1;
  packed = packed;
}

-- and one more behind it
pub found_on : (c : Config) (u v w : Knowledge) (o link : ℕ) (behind : List Step) (s : Step) → HasFound c u v o link behind → w.trail ≡ v.trail ++ s ∷ []
    → HasFound c u w o link (behind ++ s ∷ [])
found_on c u v w o link behind s found trail = record {
  before = found.before;
  kind = found.kind;
  steps = trail ∙ ap (λ (l : List Step). l ++ s ∷ []) found.steps
      ∙ append_assoc (u.trail ++ found.before) (head_found c found.kind o link ∷ behind) (s ∷ []);
  packed = found.packed;
}

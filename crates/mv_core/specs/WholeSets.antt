-- Write sets as they stand in a log: each is a run of positions, all of whose versions were committed, or are held or aborted.
use Rattle.std.specs.Prelude.{◌≡◌, ◌⊎◌, ℕ, ◌+◌, ◌<◌, ◌≤◌, Option, Some}
use Rattle.mv_layout.specs.declared.Config.{Config}
use Rattle.mv_layout.specs.declared.SharedWord.TheVariants.{Head}
use Rattle.mv_layout.specs.Places.{Memory}
use Rattle.mv_layout.specs.Words.{link_of}
use Rattle.mv_core.specs.declared.ring.Version.{Version}
use Rattle.mv_core.specs.declared.ring.WriteSetStatus.{WriteSetStatus}
use Rattle.mv_core.specs.declared.ring.WriteSetStatus.TheVariants.{Held, Aborted, Committed}
use Rattle.mv_core.specs.declared.view.OwnSection.{OwnSection}
use Rattle.mv_core.specs.declared.view.Mode.TheVariants.{Open, Aborting}
use Rattle.mv_core.specs.Rings.{index_of, Lives}
use Rattle.mv_core.specs.Views.{ViewParts}
use Rattle.mv_core.specs.SetFacts.{InHeldSet}

-- the versions of one write set: both were committed, at the same time, or neither was
abbrev pub HaveOneFate : WriteSetStatus → WriteSetStatus → Type 0
HaveOneFate (Committed m) (Committed n) = n.time ≡ m.time
HaveOneFate (Committed m) Held = ⊥
HaveOneFate (Committed m) (Aborted dead) = ⊥
HaveOneFate Held (Committed n) = ⊥
HaveOneFate (Aborted dead) (Committed n) = ⊥
HaveOneFate Held Held = Unit {0}
HaveOneFate Held (Aborted dead) = Unit {0}
HaveOneFate (Aborted dead) Held = Unit {0}
HaveOneFate (Aborted dead) (Aborted other) = Unit {0}

-- the version was aborted
abbrev pub IsAborted : WriteSetStatus → Type 0
IsAborted Held = ⊥
IsAborted (Aborted dead) = Unit {0}
IsAborted (Committed note) = ⊥

-- the seat of a held version is in a section, open or aborting; HEAD of the object links to the version; and each position from
-- the first of the write set to the last one used has a version of the set, which is held, or was aborted where the section
-- aborts
pub record HeldIs (c : Config) (m : Memory) (f : ViewParts) (s : ℕ) (x : Version) : Type 0 where
  pub inside : OwnSection
  pub in_section : f.section s ≡ Some inside
  pub mode : (inside.mode ≡ Open) ⊎ (inside.mode ≡ Aborting)
  pub top : m (Head x.object) ≡ link_of s x.position
  pub all : (p : ℕ) → x.first ≤ p → p < (f.ring s).next
      → InHeldSet c f.ring s x.first p (λ st. (st ≡ Held) ⊎ (IsAborted st × (inside.mode ≡ Aborting)))

-- each version in the write set of an aborted one was aborted too, or is held while the section of its seat aborts
abbrev pub AbortedIs : ViewParts → ℕ → Version → Type 0
AbortedIs f s x =
    (k : ℕ) (y : Version) (st : WriteSetStatus) → Lives f.ring s k y st → y.first ≡ x.first
    → IsAborted st ⊎ ((st ≡ Held) × ((inside : OwnSection) × (f.section s ≡ Some inside) × (inside.mode ≡ Aborting)))

-- after a live version comes the next position to be used, or a live version, of the same write set or of one that begins there
pub record GoesOnWith (c : Config) (f : ViewParts) (s : ℕ) (x : Version) : Type 0 where
  pub version : Version
  pub status : WriteSetStatus
  pub lives : Lives f.ring s (index_of c (x.position + 1)) version status
  pub position_is : version.position ≡ x.position + 1
  pub set_is : (version.first ≡ x.first) ⊎ (version.first ≡ version.position)

-- Each write set is a run of positions: from its first one on each has a live version of the set, and what comes after it begins
-- another set. Its versions have one fate: all were committed at one time, or each is held or aborted.
pub record SetsAreWhole (c : Config) (m : Memory) (f : ViewParts) : Type 0 where
  pub begins : (s k : ℕ) (x : Version) (st : WriteSetStatus) → Lives f.ring s k x st
      → (x.first ≤ x.position) × ((p : ℕ) → x.first ≤ p → p ≤ x.position → InHeldSet c f.ring s x.first p (HaveOneFate st))
  pub goes_on : (s k : ℕ) (x : Version) (st : WriteSetStatus) → Lives f.ring s k x st → x.position + 1 < (f.ring s).next → GoesOnWith c f s x
  pub one_fate : (s k l : ℕ) (x y : Version) (st su : WriteSetStatus) → Lives f.ring s k x st → Lives f.ring s l y su → y.first ≡ x.first
      → HaveOneFate st su
  pub held : (s k : ℕ) (x : Version) → Lives f.ring s k x Held → HeldIs c m f s x
  pub aborted : (s k : ℕ) (x : Version) (dead : Option ℕ) → Lives f.ring s k x (Aborted dead) → AbortedIs f s x

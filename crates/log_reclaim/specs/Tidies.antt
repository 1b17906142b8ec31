-- The parts of a tidy.
use Rattle.std.specs.Prelude.{◌≡◌, ◌≢◌, ◌⊎◌, ℕ, ◌+◌, ◌<◌, ◌≤◌, Bool, true, false, List, [], ◌∷◌, ◌++◌, length, All, Contains}
use Rattle.std.specs.Prelude.{Option, Some, None}
use Rattle.mv_history.specs.declared.Step.{Step}
use Rattle.mv_history.specs.declared.StepKind.TheVariants.{LoadCheck, NameRest}
use Rattle.mv_history.specs.declared.answers.Holder.{Holder}
use Rattle.mv_history.specs.State.{State, Writes}
use Rattle.mv_history.specs.Trail.{clock_exchanges}
use Rattle.mv_layout.specs.declared.Config.{Config}
use Rattle.mv_layout.specs.declared.SharedWord.TheVariants.{Clock}
use Rattle.mv_layout.specs.Places.{place_of}
use Rattle.mv_layout.specs.Words.{clock_time_of}
use Rattle.seat_log.specs.mv_core.declared.view.Knowledge.{Knowledge}
use Rattle.seat_log.specs.mv_core.Known.{Known}
use Rattle.seat_log.specs.commit_clock.Helps.{IsHelpStep}
use Rattle.seat_log.specs.commit_clock.Hears.{FindsUpTo, Hears}
use Rattle.seat_log.specs.reader_marks.declared.scanning.Watermark.{Watermark}
use Rattle.seat_log.specs.declared.version.Note.{Note}
use Rattle.seat_log.specs.Notes.{Noted, IsNoteAt}
use Rattle.seat_log.specs.Stands.{Stands}
use Rattle.log_reclaim.specs.declared.settling.HeadHolders.{HeadHolders}
use Rattle.log_reclaim.specs.declared.rounds.RoundScan.{RoundScan}
use Rattle.log_reclaim.specs.Sweeps.{Sweeps, SweepsSo}
use Rattle.log_reclaim.specs.Rounds.{IsHolder}
use Rattle.log_reclaim.specs.Parts.{BeginsNoScan, Reclaims, HasScan, super_load, TimesDeath}
use Rattle.log_reclaim.specs.Untimed.{StaysUntimed}

-- whether a version is dead only from a time above this one
abbrev pub IsAnyAbove : Noted → ℕ → Bool → Type 0
IsAnyAbove l time true = (i : ℕ) × (n : Note) × IsNoteAt l i n × (time < n.dead)
IsAnyAbove l time false = (i : ℕ) (n : Note) → IsNoteAt l i n → n.dead ≤ time

-- at most one rest was made
abbrev pub RestsOnce : Knowledge → Knowledge → Type 0
RestsOnce v w = (w.past.rests ≡ v.past.rests) ⊎ (w.past.rests ≡ v.past.rests + 1)

-- a load of CLOCK, outside what a scan or an enter loads, found this word
abbrev pub check_load : Config → ℕ → Step
check_load c word = record { kind = LoadCheck; word = place_of c Clock; found = Some word; stored = None }

-- A rest was tried by these steps: CLOCK was loaded, whose time wasn't the last, its word was helped, and CLOCK was exchanged for the rest,
-- from that word where it was won.
pub record TriesRest (c : Config) (made : List Step) : Type 0 where
  pub word : ℕ
  pub early : clock_time_of word ≢ 35184372088831
  pub help : List Step
  pub few : length help ≤ 3
  pub helps : All (λ s. IsHelpStep s.kind) help
  pub swap : Step
  pub kind : swap.kind ≡ NameRest
  pub from : (new : ℕ) → swap.stored ≡ Some new → swap.found ≡ Some word
  pub made_is : made ≡ check_load c word ∷ (help ++ swap ∷ [])

-- Why a rest was tried: a version that the log had at the call's begin is dead from a time above each that the loads of CLOCK before
-- found, that of a scan among them. The time of death was noted before; or a load of SUPER of that very version among these steps found
-- it; or a load of CLOCK among them timed it.
pub record RestIsDue (c : Config) (w : Knowledge) (l : Noted) (made : List Step) : Type 0 where
  pub index : ℕ
  pub old : Note
  pub at : IsNoteAt l index old
  pub dead : ℕ
  pub dated : (dead ≡ old.dead) ⊎ ((old.dead ≡ 0) × (Contains made (super_load c w.number old dead) ⊎ TimesDeath made dead))
  pub before : List Step
  pub tried : List Step
  pub after : List Step
  pub made_is : made ≡ before ++ tried ++ after
  pub tries : TriesRest c tried
  pub mark : Watermark
  pub clock : ℕ
  pub scan : HasScan c w.number before mark clock
  pub latest : ℕ
  pub most : All (λ s. FindsUpTo latest s) before
  pub above : latest < dead

-- no exchange on CLOCK was made, or a rest was due
abbrev pub RestsWhereDue : Config → Knowledge → Noted → List Step → Type 0
RestsWhereDue c w l made = (clock_exchanges made ≡ []) ⊎ RestIsDue c w l made

-- At most one rest was made, and counted, by at most one exchange on CLOCK, won or lost, and by none unless a version was dead from
-- above `latest`; nothing else was noted. Afterwards no version was dead from above `latest`, or more was seen than up to it, or the
-- last time was seen, and no rest was made.
pub record RestsSo (c : Config) (v w : Knowledge) (l m : Noted) (made : List Step) (latest : ℕ) : Type 0 where
  pub reclaims : Reclaims v w made
  pub kinds : All (λ s. BeginsNoScan s.kind) made
  pub few : length (clock_exchanges made) ≤ 1
  pub due : (clock_exchanges made ≡ []) ⊎ (IsAnyAbove l latest true × TriesRest c made)
  pub once : RestsOnce v w
  pub log : m ≡ record l { rests = m.rests }
  pub dated :
      ((i : ℕ) (n : Note) → IsNoteAt l i n → n.dead ≤ latest)
      ⊎ ((latest < w.base + length w.past.seen)
      ⊎ ((w.base + length w.past.seen ≡ 35184372088831) × (w.past.rests ≡ v.past.rests)))

-- A scan among these steps found a watermark, and of each version that the log has without a time of death it is known why a
-- write-back by that watermark left it so.
pub record HasTried (c : Config) (w : Knowledge) (l : Noted) (made : List Step) : Type 0 where
  pub mark : Watermark
  pub clock : ℕ
  pub scan : HasScan c w.number made mark clock
  pub untimed : (i : ℕ) (n : Note) → IsNoteAt l i n → n.dead ≡ 0 → (above : Option ℕ) × StaysUntimed c w made mark clock true n above

-- the log is empty, or of each version that it has without a time of death it is known why a write-back left it so
abbrev pub WritesBackSo : Config → Knowledge → Noted → List Step → Type 0
WritesBackSo c w l made = (length l.live ≡ 0) ⊎ HasTried c w l made

-- who holds the oldest write set after a tidy that scanned: nobody where its last round had no need to
abbrev pub HeldBy : Noted → RoundScan → Option RoundScan → HeadHolders → Option Holder → Type 0
HeldBy l first None found held = held ≡ None
HeldBy l first (Some last) found held = IsHolder l first last true found held

-- What a tidy does with a log of which its first frees left something, and leaves of it: a scan with write-backs and what that freed,
-- one try of a rest where it was due, and a round without write-backs. Both freed so many slots, and this holds the oldest write set.
pub record TidiesLeft (starts : State → Type 0) (allows : List ℕ → State → Writes → Type 0) (c : Config) (v w : Knowledge) (l m : Noted) (freed : ℕ)
    (held : Option Holder) : Type 0 where
  pub scan_steps : List Step
  pub scan_view : Knowledge
  pub scan_log : Noted
  pub first : RoundScan
  pub found : HeadHolders
  pub first_freed : ℕ
  pub scan : Sweeps c v scan_view l scan_log scan_steps true first found first_freed
  pub rest_steps : List Step
  pub rest_view : Knowledge
  pub rest_log : Noted
  pub hears : Hears v scan_view first.latest
  pub rest : RestsSo c scan_view rest_view scan_log rest_log rest_steps first.latest
  pub stands : Stands c rest_view rest_log
  pub known : ∥ Known starts allows rest_view ∥₁
  pub last_steps : List Step
  pub last : Option RoundScan
  pub unused : HeadHolders
  pub last_freed : ℕ
  pub again : SweepsSo c rest_view w rest_log m last_steps false unused last_freed last
  pub freed_is : freed ≡ first_freed + last_freed
  pub held_by : HeldBy m first last found held

-- What a part of a reclaiming call leaves of a view and of the log, and what its steps show.
use Rattle.std.specs.Prelude.{◌≡◌, ◌≢◌, ℕ, ◌+◌, ◌<◌, ◌≤◌, max, Bool, false, List, ◌∷◌, ◌++◌, length, Contains, All, Some, None}
use Rattle.mv_history.specs.declared.Step.{Step}
use Rattle.mv_history.specs.declared.StepKind.{StepKind}
use Rattle.mv_history.specs.declared.StepKind.TheVariants.{LoadScan, LoadMark, RaiseGrace, LoadGrace, StoreFree, LoadHead, CutHead, LoadSuper}
use Rattle.mv_history.specs.declared.StepKind.TheVariants.{LockHead, UnlockHead, LoadDeath, NameCommit, NameRest}
use Rattle.mv_layout.specs.declared.Config.{Config}
use Rattle.mv_layout.specs.declared.SharedWord.TheVariants.{Grace, Head, Super}
use Rattle.mv_layout.specs.Places.{place_of}
use Rattle.mv_layout.specs.Words.{clock_time_of, link_seat_of}
use Rattle.seat_log.specs.mv_core.declared.view.Knowledge.{Knowledge}
use Rattle.seat_log.specs.mv_core.declared.view.Phase.TheVariants.{Outside}
use Rattle.seat_log.specs.mv_core.declared.view.WalkStage.TheVariants.{Nowhere}
use Rattle.seat_log.specs.mv_core.Rings.{index_of}
use Rattle.seat_log.specs.mv_core.HistoryFacts.{BeginsWith}
use Rattle.seat_log.specs.mv_core.Chains.{IsLater}
use Rattle.seat_log.specs.mv_core.Tops.{NamesNewer}
use Rattle.seat_log.specs.reader_marks.declared.scanning.Watermark.{Watermark}
use Rattle.seat_log.specs.reader_marks.Scans.{IsLowest, named_by, scan_steps}
use Rattle.seat_log.specs.declared.version.Note.{Note}
use Rattle.seat_log.specs.Notes.{Noted, IsNoteAt}

-- a kind of step that reclaiming may make: it names no commit, locks no object and gives none up
abbrev pub IsReclaimKind : StepKind → Type 0
IsReclaimKind LockHead = ⊥
IsReclaimKind UnlockHead = ⊥
IsReclaimKind NameCommit = ⊥
IsReclaimKind _ = Unit {0}

-- a step of another kind than the load of CLOCK that begins a scan
abbrev pub BeginsNoScan : StepKind → Type 0
BeginsNoScan LoadScan = ⊥
BeginsNoScan _ = Unit {0}

-- a step of another kind than the exchanges on CLOCK
abbrev pub LeavesClock : StepKind → Type 0
LeavesClock NameCommit = ⊥
LeavesClock NameRest = ⊥
LeavesClock _ = Unit {0}

-- a step of another kind than the load of CLOCK that begins a scan and the exchanges on CLOCK
abbrev pub IsOtherKind : StepKind → Type 0
IsOtherKind LoadScan = ⊥
IsOtherKind NameCommit = ⊥
IsOtherKind NameRest = ⊥
IsOtherKind _ = Unit {0}

-- a kind of step that a round makes which writes nothing back: it enters no section, and writes no master and no HEAD
abbrev pub IsPlainKind : StepKind → Type 0
IsPlainKind LoadGrace = Unit {0}
IsPlainKind StoreFree = Unit {0}
IsPlainKind LoadScan = Unit {0}
IsPlainKind LoadMark = Unit {0}
IsPlainKind RaiseGrace = Unit {0}
IsPlainKind LoadSuper = Unit {0}
IsPlainKind _ = ⊥

-- these steps are all of such a kind unless versions are written back
abbrev pub IsPlain : Bool → List Step → Type 0
IsPlain back made = back ≡ false → All (λ s. IsPlainKind s.kind) made

-- The pass is outside a section, as before, with no scan running. What was seen is only longer, the own commits are as before,
-- the watermark isn't lower, and the trail is longer by these steps; nothing else has changed but the rests, the clock words
-- heard, the HEADs found empty and the own log.
pub record Reclaims (v w : Knowledge) (made : List Step) : Type 0 where
  pub outside : w.phase ≡ Outside
  pub no_scan : w.scan ≡ None
  pub seen : BeginsWith w.past.seen v.past.seen
  pub mine : w.past.mine ≡ v.past.mine
  pub grace : v.grace ≤ w.grace
  pub trail : w.trail ≡ v.trail ++ made
  pub kinds : All (λ s. IsReclaimKind s.kind) made
  pub rest : w ≡ record v {
    past = w.past;
    phase = Outside;
    clocks = w.clocks;
    walk = Nowhere;
    empty = w.empty;
    ring = w.ring;
    back = None;
    scan = None;
    grace = w.grace;
    trail = w.trail;
  }

-- the same note, but for a time of death where there was none
pub record DiesFrom (old n : Note) : Type 0 where
  pub same : n ≡ record old { dead = n.dead }
  pub once : 0 < old.dead → n.dead ≡ old.dead

-- so many of the oldest versions were freed, and of the others nothing changed but times of death; write-backs and rests were counted
pub record Shrinks (l m : Noted) (freed : ℕ) : Type 0 where
  pub few : length m.live + freed ≡ length l.live
  pub notes : (i : ℕ) (n : Note) → IsNoteAt m i n → (old : Note) × IsNoteAt l (i + freed) old × DiesFrom old n
  pub rest : m ≡ record l { live = m.live; freed = l.freed + freed; back = m.back; rests = m.rests }

-- a load of GRACE found this time
abbrev pub grace_load : Config → ℕ → Step
grace_load c found = record { kind = LoadGrace; word = place_of c Grace; found = Some found; stored = None }

-- a load of SUPER of the version of this note found this time, or 0
abbrev pub super_load : Config → ℕ → Note → ℕ → Step
super_load c own n time = record { kind = LoadSuper; word = place_of c (Super own (index_of c n.position)); found = Some time; stored = None }

-- the same, which found 0
abbrev pub super_step : Config → ℕ → Note → Step
super_step c own n = super_load c own n 0

-- a step that loads HEAD, or tries to cut its chain
abbrev pub IsHeadKind : StepKind → Type 0
IsHeadKind LoadHead = Unit {0}
IsHeadKind CutHead = Unit {0}
IsHeadKind _ = ⊥

-- the step found HEAD of the object naming a version of this seat
pub record FindsSeat (c : Config) (object seat : ℕ) (s : Step) : Type 0 where
  pub kind : IsHeadKind s.kind
  pub word : s.word ≡ place_of c (Head object)
  pub link : ℕ
  pub found : s.found ≡ Some link
  pub some : link ≢ 0
  pub seat_is : link_seat_of link ≡ seat

-- The step found HEAD of the object naming a version of this seat. By its trail the seat that made it had this view just before; in
-- a state of the rule with that view the version is the newest of the object.
pub record FindsTop (c : Config) (w : Knowledge) (object seat : ℕ) (s : Step) : Type 0 where
  pub finds : FindsSeat c object seat s
  pub view : Knowledge
  pub number : view.number ≡ w.number
  pub after : List Step
  pub trail : w.trail ≡ view.trail ++ s ∷ after
  pub names : NamesNewer c view object finds.link

-- the same of the note's object, where the version found is held, or was committed later than the note's
pub record FindsNewer (c : Config) (w : Knowledge) (n : Note) (seat : ℕ) (s : Step) : Type 0 where
  pub top : FindsTop c w n.object seat s
  pub newer : IsLater n.time top.names.status

-- one of these steps found HEAD of the note's object naming a newer version, of this other seat
pub record FindsOther (c : Config) (w : Knowledge) (made : List Step) (n : Note) (seat : ℕ) : Type 0 where
  pub not_own : seat ≢ w.number
  pub in_range : seat < c.seats
  pub step : Step
  pub there : Contains made step
  pub finds : FindsNewer c w n seat step

-- among these steps one found SUPER 0 in the version of the note, and a later one found HEAD of its object naming a newer version, of
-- this other seat
pub record FindsAbove (c : Config) (w : Knowledge) (made : List Step) (n : Note) (seat : ℕ) : Type 0 where
  pub not_own : seat ≢ w.number
  pub in_range : seat < c.seats
  pub before : List Step
  pub after : List Step
  pub made_is : made ≡ before ++ super_step c w.number n ∷ after
  pub step : Step
  pub later : Contains after step
  pub finds : FindsNewer c w n seat step

-- among these steps is a scan, the last one, which found this watermark and this time in CLOCK
pub record HasScanned (c : Config) (own : ℕ) (made : List Step) (mark : Watermark) (clock : ℕ) : Type 0 where
  pub word : ℕ
  pub clock_is : clock ≡ clock_time_of word
  pub marks : ℕ → ℕ
  pub own_is : marks own ≡ 0
  pub lowest : IsLowest clock marks c.seats mark.low (named_by mark)
  pub unmarked : mark.marked ≡ false → mark.seat ≡ 0
  pub found : ℕ
  pub time : mark.time ≡ max mark.low found
  pub before : List Step
  pub after : List Step
  pub made_is : made ≡ before ++ scan_steps c own word marks mark.low found ++ after
  pub last : All (λ s. BeginsNoScan s.kind) after

-- among these steps is a scan, the last one or not, which found this watermark and this time in CLOCK
pub record HasScan (c : Config) (own : ℕ) (made : List Step) (mark : Watermark) (clock : ℕ) : Type 0 where
  pub word : ℕ
  pub clock_is : clock ≡ clock_time_of word
  pub marks : ℕ → ℕ
  pub own_is : marks own ≡ 0
  pub lowest : IsLowest clock marks c.seats mark.low (named_by mark)
  pub unmarked : mark.marked ≡ false → mark.seat ≡ 0
  pub found : ℕ
  pub time : mark.time ≡ max mark.low found
  pub before : List Step
  pub after : List Step
  pub made_is : made ≡ before ++ scan_steps c own word marks mark.low found ++ after

-- among these steps is a load of CLOCK that found the time before this time of death, to time a version
pub record TimesDeath (made : List Step) (dead : ℕ) : Type 0 where
  pub step : Step
  pub there : Contains made step
  pub kind : step.kind ≡ LoadDeath
  pub clock : step.word ≡ 0
  pub word : ℕ
  pub found : step.found ≡ Some word
  pub dead_is : dead ≡ clock_time_of word + 1

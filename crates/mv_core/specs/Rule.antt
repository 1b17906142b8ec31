-- The rule of the table, and what a step asks of its kind.
use Rattle.std.specs.Prelude.{◌≡◌, ◌≢◌, ◌⊎◌, ℕ, ◌≤◌, ◌<◌, ◌^◌, false, List, length, max, Contains, Some, None, All}
use mathlib.Core.Option.{some}
use lib.ListN.{get_elem?}
use Rattle.atomic_table.specs.Table as table
use Rattle.mv_history.specs.declared.Entry.{Entry}
use Rattle.mv_history.specs.State.{State, Writes}
use Rattle.mv_layout.specs.declared.Config.{Config}
use Rattle.mv_layout.specs.declared.SharedWord.{SharedWord}
use Rattle.mv_layout.specs.declared.SharedWord.TheVariants.{Clock, Grace, Mark, Head, Master, First, Stamp, Prev, Super, Data}
use Rattle.mv_layout.specs.Limits.{Checked}
use Rattle.mv_layout.specs.Places.{Memory, put}
use Rattle.mv_layout.specs.Cells.{Shows}
use Rattle.mv_core.specs.declared.view.Knowledge.{Knowledge}
use Rattle.mv_core.specs.declared.view.JoinedSeat.{JoinedSeat}
use Rattle.mv_core.specs.declared.view.Phase.TheVariants.{Outside}
use Rattle.mv_core.specs.declared.shared.Opening.{Opening}
use Rattle.mv_core.specs.Views.{new_view, HasSeat, ViewParts, parts_of, set_at}
use Rattle.mv_core.specs.EnterSteps.{stored_if}
use Rattle.mv_core.specs.Moves.{MoveKind, act, history_after, Reached}
use Rattle.mv_core.specs.HistoryFacts.{History}
use Rattle.mv_core.specs.SetFacts.{SlotWords, Stamps, WriteSets, Successors, BelowIsStamped, UnstampedIsUnfinished, Positions}
use Rattle.mv_core.specs.SectionFacts.{Marks, StampedPastHelp, LoadedWords, HelpedWords, FoundStamps, LockFreshness, NamedCommit, OpenSection, PhasesAndScan}
use Rattle.mv_core.specs.SectionFacts as section
use Rattle.mv_core.specs.ChainFacts.{HeadIsTop, HeldLink, CommitLink, AbortedLink, PresentMaster, ChainFoot}
use Rattle.mv_core.specs.WalkFacts.{WalkerPlace, WalkerBeforeDeath, WalkerKnowledge, WalkerFalls, WalkerLate, SucceededHasSuper}
use Rattle.mv_core.specs.ReclaimFacts.{Deaths, DeathsSeen, DeathAfterWrite, FreedIsOld, CutIsOld, SuccessorFlag, WriteBacks, PositionsAndGrace}

-- the view of the first seat, which makes the others
abbrev pub first_view : Config → State → Knowledge
first_view c start = new_view c start 0 1

-- a joined seat is as its note says, outside, with no scan
pub record IsNoted (c : Config) (seats : ℕ → Knowledge) (n : JoinedSeat) : Type 0 where
  pub range : n.number < c.seats
  pub number : (seats n.number).number ≡ n.number
  pub past : (seats n.number).past ≡ n.past
  pub ring : (seats n.number).ring ≡ n.ring
  pub outside : (seats n.number).phase ≡ Outside
  pub no_scan : (seats n.number).scan ≡ None

-- the seat s has an unspent view among these, or an unspent view has a note of it
pub record IsThere (vs : List Knowledge) (s : ℕ) : Type 0 where
  pub id : ℕ
  pub holder : Knowledge
  pub place : get_elem? vs id ≡ some holder
  pub unspent : holder.spent ≡ false
  pub named : HasSeat holder s

-- The views of the table are those of the seats: each unspent one is that of its number, each note is of a joined seat, no number
-- is twice, and a seat that isn't made yet is new, while each other one has a view or a note.
pub record Seated (c : Config) (start : State) (vs : List Knowledge) (seats : ℕ → Knowledge) : Type 0 where
  pub own : (s : ℕ) → ((seats s).number ≡ s) × ((seats s).start ≡ start) × ((seats s).base ≡ c.base)
  pub there : (id : ℕ) (v : Knowledge) → get_elem? vs id ≡ some v → v.spent ≡ false → (seats v.number ≡ v) × (v.number < c.seats)
  pub apart : (i j : ℕ) (v w : Knowledge) → get_elem? vs i ≡ some v → get_elem? vs j ≡ some w → v.spent ≡ false → w.spent ≡ false
      → v.number ≡ w.number → i ≡ j
  pub noted : (id : ℕ) (v : Knowledge) (n : JoinedSeat) → get_elem? vs id ≡ some v → v.spent ≡ false → Contains v.notes n → IsNoted c seats n
  pub gone : (i j : ℕ) (v w : Knowledge) (n : JoinedSeat) → get_elem? vs i ≡ some v → get_elem? vs j ≡ some w → v.spent ≡ false → w.spent ≡ false
      → Contains v.notes n → w.number ≢ n.number
  pub once : (i j a b : ℕ) (v w : Knowledge) (m n : JoinedSeat) → get_elem? vs i ≡ some v → get_elem? vs j ≡ some w → v.spent ≡ false → w.spent ≡ false
      → get_elem? v.notes a ≡ some m → get_elem? w.notes b ≡ some n → m.number ≡ n.number → (i ≡ j) × (a ≡ b)
  pub maker : (id : ℕ) (v : Knowledge) → get_elem? vs id ≡ some v → v.spent ≡ false → 0 < v.made
      → (v.number ≡ 0) × ((s : ℕ) → v.made ≤ s → seats s ≡ new_view c start s 0)
  pub made : (i j : ℕ) (v w : Knowledge) → get_elem? vs i ≡ some v → get_elem? vs j ≡ some w → v.spent ≡ false → w.spent ≡ false → 0 < v.made
      → (w.number < v.made) × All (λ n. n.number < v.made) w.notes
  pub all : (s : ℕ) → IsThere vs s ⊎ (seats s ≡ new_view c start s 0)

-- an unspent view: its number is of the domain, and the seats joined to it are as their notes say, with numbers that all differ
pub record IsSeated (c : Config) (seats : ℕ → Knowledge) (v : Knowledge) : Type 0 where
  pub range : v.number < c.seats
  pub noted : (n : JoinedSeat) → Contains v.notes n → IsNoted c seats n × (n.number ≢ v.number)
  pub once : (a b : ℕ) (m n : JoinedSeat) → get_elem? v.notes a ≡ some m → get_elem? v.notes b ≡ some n → m.number ≡ n.number → a ≡ b

-- what a step keeps of its seat's view besides
abbrev pub IsKept : Knowledge → Knowledge → Type 0
IsKept v w = (w.number ≡ v.number) × (w.start ≡ v.start) × (w.base ≡ v.base) × (w.made ≡ v.made) × (w.notes ≡ v.notes) × (w.spent ≡ v.spent)

module _ (starts : State → Type 0) (allows : List ℕ → State → Writes → Type 0) where
  -- every fact, over the words by name, a history, and the views of the seats by number
  pub record Facts (c : Config) (start : State) (m : Memory) (h : List Entry) (f : ViewParts) : Type 0 where
    pub checked : Checked c
    pub history : History starts allows c start (m Clock) h f.past
    pub slot_words : SlotWords (λ s k. m (First s k)) (λ s k. m (Prev s k)) (λ s k w. m (Data s k w)) f.ring
    pub stamps : Stamps c (m Clock) (λ s k. m (Stamp s k)) f.ring
    pub write_sets : WriteSets c h f.ring
    pub helped_words : HelpedWords (m Clock) (λ s k. m (Stamp s k)) f.clocks
    pub marks : Marks (m Clock) (λ s. m (Mark s)) f.phase
    pub stamped_past_help : StampedPastHelp c (λ s k. m (Stamp s k)) f.section f.clocks f.ring
    pub grace : section.Grace (m Clock) (m Grace) f.time f.grace f.scan
    pub lock_freshness : LockFreshness c h f.time f.ring
    pub successors : Successors c h (λ s k. m (Stamp s k)) (λ s k. m (Super s k)) f.section f.ring
    pub deaths : Deaths c h f.ring
    pub deaths_seen : DeathsSeen c f.past f.ring
    pub positions : Positions c h f.ring
    pub head_is_top : HeadIsTop c h (λ o. m (Head o)) f.ring
    pub held_link : HeldLink c h f.ring
    pub commit_link : CommitLink c h f.ring
    pub aborted_link : AbortedLink f.ring
    pub present_master : PresentMaster c start h (λ o w. m (Master o w)) f.time f.ring
    pub chain_foot : ChainFoot c start h (λ o w. m (Master o w)) f.time f.ring
    pub walker_place : WalkerPlace c start h (λ o w. m (Master o w)) f.time f.walk f.ring
    pub walker_before_death : WalkerBeforeDeath f.time f.walk f.ring
    pub walker_knowledge : WalkerKnowledge f.section f.time f.clocks f.walk f.ring
    pub below_is_stamped : BelowIsStamped c (λ s k. m (Stamp s k)) f.ring
    pub walker_falls : WalkerFalls c (λ s k. m (Stamp s k)) f.walk f.ring
    pub walker_late : WalkerLate f.time f.walk f.ring
    pub found_stamp : FoundStamps c (m Clock) (λ s k. m (Stamp s k)) f.clocks f.ring
    pub unstamped_is_unfinished : UnstampedIsUnfinished c (λ s k. m (Stamp s k)) f.section f.ring
    pub named_commit : NamedCommit c h (λ s k. m (Stamp s k)) f.section f.ring
    pub open_section : OpenSection c h f.section f.ring
    pub successor_flag : SuccessorFlag (λ s k. m (Super s k)) f.section f.ring
    pub succeeded_has_super : SucceededHasSuper c h (λ s k. m (Super s k)) f.empty f.ring
    pub loaded_words : LoadedWords c (m Clock) f.section f.clocks
    pub freed_is_old : FreedIsOld c (m Clock) h f.grace f.ring
    pub cut_is_old : CutIsOld f.time f.ring
    pub death_after_write : DeathAfterWrite f.ring
    pub write_back : WriteBacks c h (λ o w. m (Master o w)) f.section f.time f.clocks f.grace f.back f.ring
    pub positions_and_grace : PositionsAndGrace c f.grace f.ring
    pub phases_and_scan : PhasesAndScan c f.past f.phase f.time f.walk f.back f.scan

  -- the rule: there are words by name, a history and views of which all this holds, and which were reached from the opening by
  -- moves; each unspent view is of a seat that was made
  pub record Ruled (key : Opening) (s : table.State (List ℕ) Knowledge) : Type 0 where
    pub memory : Memory
    pub history : List Entry
    pub seats : ℕ → Knowledge
    pub shows : Shows key.config s.words memory
    pub slotless : length s.homes ≡ 0
    pub seated : Seated key.config key.start.value.items s.views seats
    pub facts : Facts key.config key.start.value.items memory history (parts_of seats)
    pub reached : Reached allows key.config key.start.value.items (record { memory = memory; history = history; seats = seats })
    pub active : (id : ℕ) (v : Knowledge) → get_elem? s.views id ≡ some v → v.spent ≡ false → v.number < (seats 0).made

  module _ (c : Config) (start : State) (v : Knowledge) (p : SharedWord) where
    -- What a load of p shows: whatever the words, the history and the other views are, the seat has a new view that keeps all facts.
    abbrev pub Loads : (ℕ → Knowledge → Type 0) → Type 0
    Loads tells = (m : Memory) (h : List Entry) (seats : ℕ → Knowledge) → Facts c start m h (parts_of seats) → seats v.number ≡ v → IsSeated c seats v
        → v.start ≡ start → m p < 2 ^ 64
        → (w : Knowledge) × Facts c start m h (parts_of (set_at seats v.number w)) × tells (m p) w

    -- the same of a store of n into p, which may lengthen the history
    abbrev pub Stores : ℕ → (Knowledge → Type 0) → Type 0
    Stores n tells = (m : Memory) (h : List Entry) (seats : ℕ → Knowledge) → Facts c start m h (parts_of seats) → seats v.number ≡ v
        → v.number < c.seats → v.start ≡ start
        → (w : Knowledge) × (longer : List Entry) × Facts c start (put m p n) longer (parts_of (set_at seats v.number w)) × tells w

    -- the same of an exchange of p from `old` to `new`, which is won where p is `old`
    abbrev pub Swaps : ℕ → ℕ → (ℕ → Knowledge → Type 0) → Type 0
    Swaps old new tells =
        ((m : Memory) (h : List Entry) (seats : ℕ → Knowledge) → Facts c start m h (parts_of seats) → seats v.number ≡ v → v.number < c.seats
        → v.start ≡ start → m p ≡ old
        → (w : Knowledge) × (longer : List Entry) × Facts c start (put m p new) longer (parts_of (set_at seats v.number w)) × tells old w)
        × ((m : Memory) (h : List Entry) (seats : ℕ → Knowledge) → Facts c start m h (parts_of seats) → seats v.number ≡ v → v.number < c.seats
        → v.start ≡ start → m p ≢ old → m p < 2 ^ 64
        → (w : Knowledge) × Facts c start m h (parts_of (set_at seats v.number w)) × tells (m p) w)

    -- the same of a fetch_max of p by n
    abbrev pub Raises : ℕ → (ℕ → Knowledge → Type 0) → Type 0
    Raises n tells = (m : Memory) (h : List Entry) (seats : ℕ → Knowledge) → Facts c start m h (parts_of seats) → seats v.number ≡ v
        → v.number < c.seats → v.start ≡ start → m p < 2 ^ 64
        → (w : Knowledge) × Facts c start (put m p (max (m p) n)) h (parts_of (set_at seats v.number w)) × tells (m p) w

    -- a load of p that tells this of the number found and of the view after is a move of this kind: the kind's condition holds,
    -- its place is p, it writes nothing and makes no entry, and the view is the kind's
    pub record LoadsAs (k : MoveKind) (tells : ℕ → Knowledge → Type 0) : Type 0 where
      pub may : (act allows c v k).may
      pub place : (act allows c v k).place ≡ p
      pub writes : (x : ℕ) → (act allows c v k).writes x ≡ None
      pub entry : (x : ℕ) → (act allows c v k).entry x ≡ None
      pub view : (m : Memory) (h : List Entry) (seats : ℕ → Knowledge) (w : Knowledge) → Facts c start m h (parts_of (set_at seats v.number w))
          → tells (m p) w → w ≡ (act allows c v k).view (m p) h

    -- the same of a store of n into p, after which the seat has seen no more
    pub record StoresAs (k : MoveKind) (n : ℕ) (tells : Knowledge → Type 0) : Type 0 where
      pub may : (act allows c v k).may
      pub place : (act allows c v k).place ≡ p
      pub writes : (x : ℕ) → (act allows c v k).writes x ≡ Some n
      pub entry : (x : ℕ) → (act allows c v k).entry x ≡ None
      pub view : (x : ℕ) (h : List Entry) (w : Knowledge) → tells w → w ≡ (act allows c v k).view x h
      pub past : (x : ℕ) (h : List Entry) → ((act allows c v k).view x h).past ≡ v.past

    -- the same of an exchange of p from `old` to `new`, which makes an entry where it is won, or none
    pub record SwapsAs (k : MoveKind) (old new : ℕ) (tells : ℕ → Knowledge → Type 0) : Type 0 where
      pub may : (act allows c v k).may
      pub place : (act allows c v k).place ≡ p
      pub writes : (x : ℕ) → (act allows c v k).writes x ≡ stored_if x old new
      pub won : (m : Memory) (h longer : List Entry) (seats : ℕ → Knowledge) (w : Knowledge) → Facts c start m h (parts_of seats)
          → seats v.number ≡ v → m p ≡ old
          → Facts c start (put m p new) longer (parts_of (set_at seats v.number w)) → tells old w
          → (w ≡ (act allows c v k).view old h) × (longer ≡ history_after h ((act allows c v k).entry old))
      pub entry : (x : ℕ) → x ≢ old → (act allows c v k).entry x ≡ None
      pub lost : (m : Memory) (h : List Entry) (seats : ℕ → Knowledge) (w : Knowledge) → m p ≢ old → Facts c start m h (parts_of (set_at seats v.number w))
          → tells (m p) w → w ≡ (act allows c v k).view (m p) h

    -- the same of a fetch_max of p by n
    pub record RaisesAs (k : MoveKind) (n : ℕ) (tells : ℕ → Knowledge → Type 0) : Type 0 where
      pub may : (act allows c v k).may
      pub place : (act allows c v k).place ≡ p
      pub writes : (x : ℕ) → (act allows c v k).writes x ≡ Some (max x n)
      pub entry : (x : ℕ) → (act allows c v k).entry x ≡ None
      pub view : (x : ℕ) (h : List Entry) (w : Knowledge) → tells x w → w ≡ (act allows c v k).view x h

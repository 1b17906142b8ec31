-- Entering and leaving a section, and helping a named commit: what each kind of step asks of its own view, and what it makes of it.
use Rattle.std.specs.Prelude.{◌≡◌, ◌≢◌, ◌⊎◌, ℕ, ◌+◌, ◌<◌, All, ◌==◌, ◌&&◌, ◌||◌, leb, Bool, true, false}
use Rattle.std.specs.Prelude.{if◌then◌else◌, List, [], ◌∷◌, ◌++◌, length, Contains, Option, Some, None}
use Rattle.mv_history.specs.declared.Entry.{Entry}
use Rattle.mv_history.specs.State.{maker_of}
use Rattle.mv_history.specs.declared.StepKind.TheVariants.{LoadLow, StoreMark, LoadTime, LoadNamed, LoadCheck, SwapStamp, ClearMark}
use Rattle.mv_layout.specs.declared.Config.{Config}
use Rattle.mv_layout.specs.declared.SharedWord.{SharedWord}
use Rattle.mv_layout.specs.declared.SharedWord.TheVariants.{Clock, Mark, Stamp}
use Rattle.mv_layout.specs.Words.{clock_of, clock_time_of, clock_seat_of, clock_slot_of, unset_of}
use Rattle.mv_core.specs.declared.ring.Slot.TheVariants.{Live}
use Rattle.mv_core.specs.declared.ring.Version.{Version}
use Rattle.mv_core.specs.declared.ring.WriteSetStatus.TheVariants.{Committed}
use Rattle.mv_core.specs.declared.ring.CommitNote.{CommitNote}
use Rattle.mv_core.specs.declared.view.Knowledge.{Knowledge}
use Rattle.mv_core.specs.declared.view.Phase.{Phase}
use Rattle.mv_core.specs.declared.view.Phase.TheVariants.{Outside, Lowered, Marked, Inside}
use Rattle.mv_core.specs.declared.view.OwnSection.{OwnSection}
use Rattle.mv_core.specs.declared.view.Mode.{Mode}
use Rattle.mv_core.specs.declared.view.Mode.TheVariants.{Open, Aborting, Named}
use Rattle.mv_core.specs.declared.view.Naming.{Naming}
use Rattle.mv_core.specs.declared.view.WalkStage.TheVariants.{Nowhere}
use Rattle.mv_core.specs.declared.view.LoadedClocks.{LoadedClocks}
use Rattle.mv_core.specs.declared.view.FoundStamp.{FoundStamp}
use Rattle.mv_core.specs.Rings.{slot_at, index_of, HoldsNothing}
use Rattle.mv_core.specs.Views.{no_clocks, low_of, names_none, with_step}
use Rattle.mv_core.specs.HistoryFacts.{BeginsWith}

-- h is the whole history where CLOCK is this word: it begins with all that was seen, is as long as the word says, and each entry is of a
-- seat of the domain
abbrev pub IsWhole : Config → Knowledge → ℕ → List Entry → Type 0
IsWhole c v word h = BeginsWith h v.past.seen × (clock_time_of word ≡ c.base + length h) × All (λ e. maker_of e < c.seats) h

-- the place of the stamp of the commit that a clock word names
abbrev pub stamp_place : ℕ → SharedWord
stamp_place word = Stamp (clock_seat_of word) (clock_slot_of word)

-- the word, if it names no commit
abbrev pub if_none : ℕ → List ℕ
if_none word = if names_none word then word ∷ [] else []

-- load CLOCK (low bound): outside, with no scan
pub record MayLoadLow (v : Knowledge) : Type 0 where
  pub outside : v.phase ≡ Outside
  pub no_scan : v.scan ≡ None

-- it gives the low time; clock words are forgotten
abbrev pub low_loaded : Config → Knowledge → ℕ → Knowledge
low_loaded c v word = record v { phase = Lowered (clock_time_of word); clocks = no_clocks; trail = with_step c v LoadLow Clock (Some word) None }

-- store MARK: a low time was loaded
abbrev pub MayStoreMark : Knowledge → ℕ → Type 0
MayStoreMark v low = v.phase ≡ Lowered low

-- the mark is stored for that low time
abbrev pub mark_stored : Config → Knowledge → ℕ → Knowledge
mark_stored c v low = record v { phase = Marked low; trail = with_step c v StoreMark (Mark v.number) None (Some (1 + low)) }

-- load CLOCK (take time): the mark was stored
abbrev pub MayLoadTime : Knowledge → Type 0
MayLoadTime v = (low : ℕ) × (v.phase ≡ Marked low)

-- a section begins, of this word's time, and the whole history h is seen
abbrev pub time_loaded : Config → Knowledge → ℕ → List Entry → Knowledge
time_loaded c v word h = record v {
  phase = Inside (record { low = low_of v.phase; word = word; mode = Open });
  past = record v.past { seen = h };
  clocks = record { loaded = word ∷ []; helped = if_none word; found = None };
  walk = Nowhere;
  back = None;
  trail = with_step c v LoadTime Clock (Some word) None;
}

-- the word is helped, and no unset stamp is kept
abbrev pub helped_too : LoadedClocks → ℕ → LoadedClocks
helped_too clocks word = record clocks { helped = clocks.helped ++ word ∷ []; found = None }

-- load STAMP named: of a clock word that was loaded and names a commit
pub record MayLoadNamed (v : Knowledge) (word : ℕ) : Type 0 where
  pub loaded : Contains v.clocks.loaded word
  pub names : clock_slot_of word ≢ 8191

-- an unset stamp is kept, and else the word is helped
abbrev pub named_clocks : LoadedClocks → ℕ → ℕ → LoadedClocks
named_clocks clocks word found =
    if leb 9223372036854775808 found then record clocks { found = Some (record { word = word; unset = found; checked = false }) } else helped_too clocks word

-- what was found there is noted
abbrev pub named_loaded : Config → Knowledge → ℕ → ℕ → Knowledge
named_loaded c v word found =
    record v { clocks = named_clocks v.clocks word found; trail = with_step c v LoadNamed (stamp_place word) (Some found) None }

-- load CLOCK (check): outside or in a section
abbrev pub MayLoadCheck : Phase → Type 0
MayLoadCheck Outside = Unit {0}
MayLoadCheck (Lowered low) = ⊥
MayLoadCheck (Marked low) = ⊥
MayLoadCheck (Inside s) = Unit {0}

-- the unset stamp that is kept is checked where the clock has its word, and else that word is helped
abbrev pub checked_found : Option FoundStamp → ℕ → Option FoundStamp
checked_found None word = None
checked_found (Some f) word = if f.word == word then Some (record f { checked = true }) else None

-- the word of the kept stamp, where the clock has another
abbrev pub checked_helped : Option FoundStamp → ℕ → List ℕ
checked_helped None word = []
checked_helped (Some f) word = if f.word == word then [] else f.word ∷ []

-- what is noted of the clock's word
abbrev pub checked_clocks : LoadedClocks → ℕ → LoadedClocks
checked_clocks clocks word = record {
  loaded = clocks.loaded ++ word ∷ [];
  helped = clocks.helped ++ (if_none word ++ checked_helped clocks.found word);
  found = checked_found clocks.found word;
}

-- the whole history h is seen, and the word is loaded
abbrev pub check_loaded : Config → Knowledge → ℕ → List Entry → Knowledge
check_loaded c v word h = record v {
  past = record v.past { seen = h };
  clocks = checked_clocks v.clocks word;
  trail = with_step c v LoadCheck Clock (Some word) None;
}

-- the clock word is that of the commit that this seat's section has named, and this its unset stamp
abbrev pub IsOwnNaming : Config → Knowledge → ℕ → ℕ → Type 0
IsOwnNaming c v word unset =
    (inside : OwnSection) × (n : Naming) × (v.phase ≡ Inside inside) × (inside.mode ≡ Named n)
    × (word ≡ clock_of n.time v.number (index_of c n.first)) × (unset ≡ unset_of n.first)

-- the clock word of the own commit of this time, whose write set begins at this position
abbrev pub own_word : Config → Knowledge → ℕ → ℕ → ℕ
own_word c v first time = clock_of time v.number (index_of c first)

-- compare_exchange STAMP: the unset stamp was found for the word, which was in the clock afterwards, or both are of the own commit
abbrev pub MayStamp : Config → Knowledge → ℕ → ℕ → Type 0
MayStamp c v word unset =
    (v.clocks.found ≡ Some (record { word = word; unset = unset; checked = true })) ⊎ IsOwnNaming c v word unset

-- whether the word and the unset stamp are those of the named commit of this seat
abbrev pub is_own : Config → ℕ → Naming → ℕ → ℕ → Bool
is_own c seat n word unset = (word == clock_of n.time seat (index_of c n.first)) && (unset == unset_of n.first)

-- the own commit's exchange was made, where these are of it
abbrev pub stamped_mode : Config → ℕ → Mode → ℕ → ℕ → Mode
stamped_mode c seat Open word unset = Open
stamped_mode c seat Aborting word unset = Aborting
stamped_mode c seat (Named n) word unset = Named (record n { stamped = n.stamped || is_own c seat n word unset })

-- the same of a seat's phase
abbrev pub stamped_phase : Config → ℕ → Phase → ℕ → ℕ → Phase
stamped_phase c seat Outside word unset = Outside
stamped_phase c seat (Lowered low) word unset = Lowered low
stamped_phase c seat (Marked low) word unset = Marked low
stamped_phase c seat (Inside s) word unset = Inside (record s { mode = stamped_mode c seat s.mode word unset })

-- what an exchange stores where it found this: the new number where it is won
abbrev pub stored_if : ℕ → ℕ → ℕ → Option ℕ
stored_if found old new = if found == old then Some new else None

-- won or lost, the word is helped
abbrev pub stamp_swapped : Config → Knowledge → ℕ → ℕ → ℕ → Knowledge
stamp_swapped c v word unset found = record v {
  phase = stamped_phase c v.number v.phase word unset;
  clocks = helped_too v.clocks word;
  trail = with_step c v SwapStamp (stamp_place word) (Some found) (stored_if found unset (clock_time_of word));
}

-- store MARK 0: in a section that holds nothing; where it named a commit, the stamp's exchange and each SUPER are done
abbrev pub IsFinished : Knowledge → Mode → Type 0
IsFinished v Open = Unit {0}
IsFinished v Aborting = Unit {0}
IsFinished v (Named n) =
    (n.stamped ≡ true)
    × ((k : ℕ) (x : Version) (note : CommitNote) → slot_at v.ring k ≡ Live x (Committed note) → note.time ≡ n.time → note.linked ≡ true)

-- the condition of it
pub record MayClearMark (v : Knowledge) : Type 0 where
  pub inside : OwnSection
  pub phase : v.phase ≡ Inside inside
  pub nothing : HoldsNothing v.ring
  pub finished : IsFinished v inside.mode

-- the section, its walk and its write-back end, and clock words are forgotten
abbrev pub mark_cleared : Config → Knowledge → Knowledge
mark_cleared c v = record v {
  phase = Outside;
  clocks = no_clocks;
  walk = Nowhere;
  back = None;
  trail = with_step c v ClearMark (Mark v.number) None (Some 0);
}

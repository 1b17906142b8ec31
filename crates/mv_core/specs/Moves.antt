-- A move: what one step of one seat makes of the words, the history and the views.
use Rattle.std.specs.Prelude.{◌≡◌, ◌≢◌, ℕ, ◌+◌, ◌-◌, ◌<◌, ◌^◌, ◌==◌, leb, max, false, true}
use Rattle.std.specs.Prelude.{if◌then◌else◌, List, [], ◌∷◌, ◌++◌, take, length, Option, Some, None}
use Rattle.mv_history.specs.declared.Entry.{Entry}
use Rattle.mv_history.specs.declared.Entry.TheVariants.{Rest, Change}
use Rattle.mv_history.specs.State.{State, Writes}
use Rattle.mv_layout.specs.declared.Config.{Config}
use Rattle.mv_layout.specs.declared.SharedWord.{SharedWord}
use Rattle.mv_layout.specs.declared.SharedWord.TheVariants.{Clock, Grace, Mark, Head, Master, First, Stamp, Prev, Super, Data}
use Rattle.mv_layout.specs.Words.{clock_time_of, link_of, link_seat_of}
use Rattle.mv_layout.specs.Places.{Memory, put}
use Rattle.mv_core.specs.declared.ring.Build.{Build}
use Rattle.mv_core.specs.declared.ring.Version.{Version}
use Rattle.mv_core.specs.declared.ring.CommitNote.{CommitNote}
use Rattle.mv_core.specs.declared.view.Knowledge.{Knowledge}
use Rattle.mv_core.specs.declared.view.OwnSection.{OwnSection}
use Rattle.mv_core.specs.declared.view.Stand.{Stand}
use Rattle.mv_core.specs.declared.view.Scan.{Scan}
use Rattle.mv_core.specs.Rings.{index_of}
use Rattle.mv_core.specs.Views.{new_view, set_at}
use Rattle.mv_core.specs.EnterSteps.{MayLoadLow, low_loaded, MayStoreMark, mark_stored, MayLoadTime, time_loaded, MayClearMark, mark_cleared}
use Rattle.mv_core.specs.EnterSteps.{stamp_place, MayLoadNamed, named_loaded, MayLoadCheck, check_loaded, MayStamp, stamp_swapped, stored_if}
use Rattle.mv_core.specs.WalkSteps.{slot_named, MayLoadHead, head_loaded, MayLoadFirst, first_loaded, MayLoadStamp, stamp_loaded}
use Rattle.mv_core.specs.WalkSteps.{MayLoadPrev, prev_loaded, MayLoadData, data_loaded, MayLoadMaster, master_loaded}
use Rattle.mv_core.specs.LockSteps.{field_place, MayStoreBuilt, built_stored, MayStoreData, data_stored, MayLoadDeath, death_loaded}
use Rattle.mv_core.specs.LockSteps.{MayLock, head_locked, lock_lost, MayUnlock, head_unlocked}
use Rattle.mv_core.specs.NameSteps.{MayNameCommit, commit_of, commit_word, commit_named, commit_lost, MayStoreSuper, super_stored}
use Rattle.mv_core.specs.NameSteps.{MayNameRest, rest_word, rest_named, rest_lost}
use Rattle.mv_core.specs.ReclaimSteps.{MayLoadScan, scan_loaded, MayLoadMark, mark_loaded, MayLoadSuper, super_loaded, MayStoreMaster, master_stored}
use Rattle.mv_core.specs.ReclaimSteps.{MayCutHead, head_cut, cut_lost, MayStoreFree, free_stored}
use Rattle.mv_core.specs.SeatSteps.{made_one, newly_made, MayJoin, joined, joined_loaded, grace_loaded, MayRaiseGrace, grace_raised}
use Rattle.mv_core.specs.Start.{opening_memory}

-- a state of a domain: its words by name, its history, and the view of each seat by number
pub record Moment : Type 0 where
  pub memory : Memory
  pub history : List Entry
  pub seats : ℕ → Knowledge

-- the kinds of step on one word, each with its operands and with what its seat knows of them
pub data MoveKind : Type 0 where
  load_low : MoveKind
  store_mark : (low : ℕ) → MoveKind
  load_time : MoveKind
  clear_mark : MoveKind
  load_named : (word : ℕ) → MoveKind
  load_check : MoveKind
  stamp : (word unset : ℕ) → MoveKind
  load_head : (object : ℕ) → (inside : OwnSection) → MoveKind
  load_first : (link : ℕ) → (stand : Stand) → MoveKind
  load_stamp : (link first : ℕ) → (stand : Stand) → MoveKind
  load_prev : (link : ℕ) → (stand : Stand) → MoveKind
  load_data : (link word : ℕ) → (stand : Stand) → (inside : OwnSection) → MoveKind
  load_master : (object word : ℕ) → (inside : OwnSection) → MoveKind
  store_built : (position field value : ℕ) → (build : Build) → MoveKind
  store_data : (position word value : ℕ) → (version : Version) → MoveKind
  load_death : MoveKind
  lock_head : (object previous position : ℕ) → (words : List ℕ) → (build : Build) → (inside : OwnSection) → MoveKind
  unlock_head : (object previous slot : ℕ) → (version : Version) → (inside : OwnSection) → MoveKind
  name_commit : (word : ℕ) → (tag : List ℕ) → (inside : OwnSection) → MoveKind
  store_super : (link time slot : ℕ) → (version : Version) → (note : CommitNote) → MoveKind
  name_rest : (word : ℕ) → MoveKind
  load_scan : MoveKind
  load_mark : (seat : ℕ) → (scan : Scan) → MoveKind
  load_grace : MoveKind
  raise_grace : (time : ℕ) → MoveKind
  load_super : (position : ℕ) → (version : Version) → (note : CommitNote) → MoveKind
  store_master : (object word value position : ℕ) → (version : Version) → (note : CommitNote) → (inside : OwnSection) → MoveKind
  cut_head : (object position : ℕ) → (version : Version) → (note : CommitNote) → MoveKind
  store_free : (position : ℕ) → MoveKind
  load_joined : MoveKind

-- a step on one word: its condition, its place, and, of the word found there and the history before, the word written, the view after, and the entry made
pub record Act : Type 1 where
  pub may : Type 0
  pub place : SharedWord
  pub writes : ℕ → Option ℕ
  pub view : ℕ → List Entry → Knowledge
  pub entry : ℕ → Option Entry

-- a load writes nothing
abbrev pub loads : Type 0 → SharedWord → (ℕ → List Entry → Knowledge) → Act
loads may place view = record { may = may; place = place; writes = λ found. None; view = view; entry = λ found. None }

-- a store writes a word, whatever it finds
abbrev pub stores : Type 0 → SharedWord → ℕ → Knowledge → Act
stores may place new view = record { may = may; place = place; writes = λ found. Some new; view = λ found h. view; entry = λ found. None }

-- what is so only where an exchange found the word that it expected
abbrev pub if_won : {A : Type 0} → ℕ → ℕ → A → A → A
if_won old found won lost = if found == old then won else lost

-- an exchange is won where it finds `old`, writes then, and may make an entry; else it changes the view alone
abbrev pub swaps : Type 0 → SharedWord → ℕ → ℕ → (List Entry → Knowledge) → (ℕ → List Entry → Knowledge) → Option Entry → Act
swaps may place old new won lost made = record {
  may = may;
  place = place;
  writes = λ found. stored_if found old new;
  view = λ found h. if_won old found (won h) (lost found h);
  entry = λ found. if_won old found made None;
}

-- a fetch_max writes the greater of the two
abbrev pub raises : Type 0 → SharedWord → ℕ → (ℕ → Knowledge) → Act
raises may place by view = record { may = may; place = place; writes = λ found. Some (max found by); view = λ found h. view found; entry = λ found. None }

-- what a seat has seen that learned of this time: the history up to it, or what it had seen, if that is longer
abbrev pub seen_to : Config → Knowledge → ℕ → List Entry → List Entry
seen_to c v time h = take (max (length v.past.seen) (time - c.base)) h

-- a stamp that is a time tells of it, and one that is unset of nothing
abbrev pub seen_at : Config → Knowledge → ℕ → List Entry → List Entry
seen_at c v found h = if leb 9223372036854775808 found then v.past.seen else seen_to c v found h

-- each kind of step, by the own view
abbrev pub act : (List ℕ → State → Writes → Type 0) → Config → Knowledge → MoveKind → Act
act allows c v load_low = loads (MayLoadLow v) Clock (λ word h. low_loaded c v word)
act allows c v (store_mark low) = stores (MayStoreMark v low) (Mark v.number) (1 + low) (mark_stored c v low)
act allows c v load_time = loads (MayLoadTime v) Clock (λ word h. time_loaded c v word h)
act allows c v clear_mark = stores (MayClearMark v) (Mark v.number) 0 (mark_cleared c v)
act allows c v (load_named word) = loads (MayLoadNamed v word) (stamp_place word) (λ found h. named_loaded c v word found)
act allows c v load_check = loads (MayLoadCheck v.phase) Clock (λ word h. check_loaded c v word h)
act allows c v (stamp word unset) =
    swaps (MayStamp c v word unset) (stamp_place word) unset (clock_time_of word)
    (λ h. stamp_swapped c v word unset unset) (λ found h. stamp_swapped c v word unset found) None
act allows c v (load_head object inside) = loads (MayLoadHead v inside) (Head object) (λ link h. head_loaded c v inside object link)
act allows c v (load_first link stand) =
    loads (MayLoadFirst v link stand) (First (link_seat_of link) (slot_named c link)) (λ found h. first_loaded c v stand found)
act allows c v (load_stamp link first stand) =
    loads (MayLoadStamp v link first stand) (Stamp (link_seat_of link) (index_of c first))
    (λ found h. stamp_loaded c v stand first found (seen_at c v found h))
act allows c v (load_prev link stand) =
    loads (MayLoadPrev v link stand) (Prev (link_seat_of link) (slot_named c link)) (λ found h. prev_loaded c v stand found)
act allows c v (load_data link word stand inside) =
    loads (MayLoadData v link word stand inside) (Data (link_seat_of link) (slot_named c link) word) (λ found h. data_loaded c v stand word found)
act allows c v (load_master object word inside) =
    loads ((object < c.objects) × MayLoadMaster v object word inside) (Master object word) (λ found h. master_loaded c v object word found)
act allows c v (store_built position field value build) =
    stores (MayStoreBuilt c v position field value build) (field_place v.number (index_of c position) field) value
    (built_stored c v position field value build)
act allows c v (store_data position word value version) =
    stores (MayStoreData c v position word version) (Data v.number (index_of c position) word) value (data_stored c v position word value version)
act allows c v load_death = loads (MayLoadDeath v) Clock (λ word h. death_loaded c v word h)
act allows c v (lock_head object previous position words build inside) =
    swaps (MayLock c c.write_max v object previous position words build inside) (Head object) previous (link_of v.number position)
    (λ h. head_locked c v object previous position words) (λ found h. lock_lost c v object found) None
act allows c v (unlock_head object previous slot version inside) =
    stores (MayUnlock v object previous slot version inside) (Head object) previous (head_unlocked c v object previous slot version inside)
act allows c v (name_commit word tag inside) =
    swaps (MayNameCommit allows c v word tag inside) Clock word (commit_word c v word)
    (λ h. commit_named c v inside tag word h) (λ found h. commit_lost c v found h) (Some (Change (commit_of c v inside tag)))
act allows c v (store_super link time slot version note) =
    stores (MayStoreSuper v link time slot version note) (Super (link_seat_of link) (slot_named c link)) time
    (super_stored c v link time slot version note)
act allows c v (name_rest word) =
    swaps (MayNameRest v word) Clock word (rest_word v word)
    (λ h. rest_named c v word h) (λ found h. rest_lost c v found h) (Some (Rest v.number))
act allows c v load_scan = loads (MayLoadScan v) Clock (λ word h. scan_loaded c v word h)
act allows c v (load_mark seat scan) = loads (MayLoadMark c v seat scan) (Mark seat) (λ mark h. mark_loaded c v seat scan mark)
act allows c v load_grace = loads (Unit {0}) Grace (λ found h. grace_loaded c v found)
act allows c v (raise_grace time) = raises (MayRaiseGrace v time) Grace time (λ found. grace_raised c v time found)
act allows c v (load_super position version note) =
    loads (MayLoadSuper c v position version note) (Super v.number (index_of c position))
    (λ found h. super_loaded c v position version note found (seen_to c v found h))
act allows c v (store_master object word value position version note inside) =
    stores (MayStoreMaster c v object word value position version note inside) (Master object word) value (master_stored c v object word value position)
act allows c v (cut_head object position version note) =
    swaps (MayCutHead c v object position version note) (Head object) (link_of v.number position) 0
    (λ h. head_cut c v object position version note) (λ found h. cut_lost c v object position found) None
act allows c v (store_free position) =
    stores (MayStoreFree c v position) (Stamp v.number (index_of c position)) 0 (free_stored c v position)
act allows c v load_joined = loads (Unit {0}) Clock (λ word h. joined_loaded c v word h)

-- the words after a write, if there is one
abbrev pub memory_after : Memory → SharedWord → Option ℕ → Memory
memory_after m p None = m
memory_after m p (Some n) = put m p n

-- the history after an entry, if one is made
abbrev pub history_after : List Entry → Option Entry → List Entry
history_after h None = h
history_after h (Some e) = h ++ e ∷ []

-- the state after a step of the seat n: one word, its own view, and the history
abbrev pub stepped : Act → ℕ → Moment → Moment
stepped a n s = record {
  memory = memory_after s.memory a.place (a.writes (s.memory a.place));
  history = history_after s.history (a.entry (s.memory a.place));
  seats = set_at s.seats n (a.view (s.memory a.place) s.history);
}

-- the state after the seat n made the next one
abbrev pub seat_made : Config → ℕ → Moment → Moment
seat_made c n s = record s { seats = set_at (set_at s.seats n (made_one c (s.seats n))) (s.seats n).made (newly_made c (s.seats n)) }

-- the state after the seat `other` was joined into the seat n, which has a note of it; it makes no move any more
abbrev pub seat_joined : Config → ℕ → ℕ → Moment → Moment
seat_joined c n other s = record s { seats = set_at (set_at s.seats n (joined c (s.seats n) (s.seats other))) other (record (s.seats other) { spent = true }) }

-- a seat that was made, and wasn't joined into another
pub record IsSeat (s : Moment) (n : ℕ) : Type 0 where
  pub made : n < (s.seats 0).made
  pub unspent : (s.seats n).spent ≡ false

-- a word that is written is one of 64 bits
abbrev pub IsStorable : Option ℕ → Type 0
IsStorable None = Unit {0}
IsStorable (Some n) = n < 2 ^ 64

-- a move of the seat n: a step on one word, the making of a seat, or the joining of one
pub data Move (allows : List ℕ → State → Writes → Type 0) (c : Config) (n : ℕ) (s t : Moment) : Type 0 where
  steps : (k : MoveKind) → (act allows c (s.seats n) k).may
      → IsStorable ((act allows c (s.seats n) k).writes (s.memory (act allows c (s.seats n) k).place))
      → t ≡ stepped (act allows c (s.seats n) k) n s → Move allows c n s t
  makes : n ≡ 0 → (s.seats n).made < c.seats → t ≡ seat_made c n s → Move allows c n s t
  joins : (other : ℕ) → other ≢ n → IsSeat s other → MayJoin (s.seats n) (s.seats other) → t ≡ seat_joined c n other s → Move allows c n s t

-- a seat makes a move
abbrev pub Moves : (List ℕ → State → Writes → Type 0) → Config → Moment → Moment → Type 0
Moves allows c s t = (n : ℕ) × IsSeat s n × Move allows c n s t

-- the state of a new domain: only the first seat is made, and each is as new
abbrev pub opening_of : Config → State → Moment
opening_of c start = record { memory = opening_memory c start; history = []; seats = λ n. new_view c start n (if n == 0 then 1 else 0) }

-- a state that is reached from a new domain by moves
pub data Reached (allows : List ℕ → State → Writes → Type 0) (c : Config) (start : State) : Moment → Type 0 where
  opened : Reached allows c start (opening_of c start)
  moved : (s t : Moment) → Reached allows c start s → Moves allows c s t → Reached allows c start t

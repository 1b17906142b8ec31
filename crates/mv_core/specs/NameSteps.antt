-- Naming the next entry of the history: what each kind of step asks of its own view, and what it makes of it.
use Rattle.std.specs.Prelude.{◌≡◌, ◌≢◌, ℕ, ◌+◌, ◌-◌, ◌<◌, ◌≤◌, ◌==◌, true, false, List, [], ◌∷◌, ◌++◌}
use Rattle.std.specs.Prelude.{length, map, Contains, Some, None}
use Rattle.mv_history.specs.declared.Commit.{Commit}
use Rattle.mv_history.specs.declared.Entry.{Entry}
use Rattle.mv_history.specs.declared.Entry.TheVariants.{Rest, Change}
use Rattle.mv_history.specs.State.{State, Writes, maker_of, state_at}
use Rattle.mv_history.specs.Drift.{IsFit}
use Rattle.mv_history.specs.declared.StepKind.TheVariants.{NameCommit, StoreSuper, NameRest}
use Rattle.mv_layout.specs.declared.Config.{Config}
use Rattle.mv_layout.specs.declared.SharedWord.TheVariants.{Clock, Super}
use Rattle.mv_layout.specs.Words.{clock_of, clock_time_of, clock_seat_of, link_seat_of}
use Rattle.mv_core.specs.declared.ring.Slot.{Slot}
use Rattle.mv_core.specs.declared.ring.Slot.TheVariants.{Live}
use Rattle.mv_core.specs.declared.ring.Version.{Version}
use Rattle.mv_core.specs.declared.ring.WriteSetStatus.TheVariants.{Held, Committed}
use Rattle.mv_core.specs.declared.ring.CommitNote.{CommitNote}
use Rattle.mv_core.specs.declared.view.Knowledge.{Knowledge}
use Rattle.mv_core.specs.declared.view.Phase.TheVariants.{Outside, Inside}
use Rattle.mv_core.specs.declared.view.OwnSection.{OwnSection}
use Rattle.mv_core.specs.declared.view.Mode.TheVariants.{Open, Named}
use Rattle.mv_core.specs.declared.view.Naming.{Naming}
use Rattle.mv_core.specs.Rings.{slot_at, index_of, put_slot, held_count, set_first, own_of}
use Rattle.mv_core.specs.Times.{IsEntry}
use Rattle.mv_core.specs.Views.{time_in, with_step}
use Rattle.mv_core.specs.SectionFacts.{IsPastHelp}
use Rattle.mv_core.specs.EnterSteps.{IsWhole, if_none}
use Rattle.mv_core.specs.WalkSteps.{IsLinkOf, slot_named}

-- the commit of what the section holds
abbrev pub commit_of : Config → Knowledge → OwnSection → List ℕ → Commit
commit_of c v inside tag = record {
  seat = v.number;
  number = length v.past.mine + 1;
  snapshot = time_in inside - c.base;
  tag = tag;
  writes = own_of c v.ring;
}

-- what the exchange tells of the own log before it: the links of what is held are packed ones, or 0, and no commit there is later than the word found
pub record LogTold (c : Config) (v : Knowledge) (found : ℕ) : Type 0 where
  pub links : (k : ℕ) (x : Version) → slot_at v.ring k ≡ Live x Held → IsLinkOf c x.previous
  pub old : (k : ℕ) (x : Version) (note : CommitNote) → slot_at v.ring k ≡ Live x (Committed note) → note.time ≤ clock_time_of found

-- the clock word of that commit, after this one
abbrev pub commit_word : Config → Knowledge → ℕ → ℕ
commit_word c v word = clock_of (clock_time_of word + 1) v.number (index_of c (set_first v.ring))

-- compare_exchange CLOCK (commit): an open section past its help holds something, the word was loaded and helped, a time is left,
-- and the drift condition holds of the tag
pub record MayNameCommit (allows : List ℕ → State → Writes → Type 0) (c : Config) (v : Knowledge) (word : ℕ) (tag : List ℕ)
    (inside : OwnSection) : Type 0 where
  pub phase : v.phase ≡ Inside inside
  pub open_is : inside.mode ≡ Open
  pub past_help : IsPastHelp v.clocks inside
  pub some_held : 0 < held_count v.ring
  pub loaded : Contains v.clocks.loaded word
  pub helped : Contains v.clocks.helped word
  pub room : clock_time_of word < 35184372088831
  pub fit : IsFit allows (state_at v.start v.past.seen (time_in inside - c.base)) tag (own_of c v.ring)

-- a held version is committed at this time
abbrev pub committed_slot : ℕ → Slot → Slot
committed_slot t (Live x Held) = Live x (Committed (record { time = t; dead = None; cut = false; linked = x.previous == 0 }))
committed_slot t slot = slot

-- won, over the whole history h that was there
abbrev pub commit_named : Config → Knowledge → OwnSection → List ℕ → ℕ → List Entry → Knowledge
commit_named c v inside tag word h = record v {
  past = record v.past { seen = h ++ Change (commit_of c v inside tag) ∷ []; mine = v.past.mine ++ commit_of c v inside tag ∷ [] };
  phase = Inside (record inside { mode = Named (record { time = clock_time_of word + 1; first = set_first v.ring; stamped = false }) });
  ring = record v.ring { slots = map (committed_slot (clock_time_of word + 1)) v.ring.slots };
  trail = with_step c v NameCommit Clock (Some word) (Some (commit_word c v word));
}

-- lost to the word found, which is loaded, as the whole history h is seen
abbrev pub commit_lost : Config → Knowledge → ℕ → List Entry → Knowledge
commit_lost c v found h = record v {
  past = record v.past { seen = h };
  clocks = record v.clocks { loaded = v.clocks.loaded ++ found ∷ []; helped = v.clocks.helped ++ if_none found };
  trail = with_step c v NameCommit Clock (Some found) None;
}

-- an exchange that expected this word found that of a later entry, which ends the history, and is by the seat that the word found names
pub record IsOvertaken (c : Config) (word found : ℕ) (h : List Entry) : Type 0 where
  pub later : clock_time_of word < clock_time_of found
  pub made : c.base ≤ clock_time_of word → (e : Entry) × IsEntry c.base h (clock_time_of found) e × (maker_of e ≡ clock_seat_of found)

-- what the exchange tells
abbrev pub CommitTold : Config → Knowledge → OwnSection → List ℕ → ℕ → ℕ → Knowledge → Type 0
CommitTold c v inside tag word found w =
    (found ≡ word → (h : List Entry) × IsWhole c v word h × (w ≡ commit_named c v inside tag word h))
    × (found ≢ word → (h : List Entry) × IsWhole c v found h × (w ≡ commit_lost c v found h) × IsOvertaken c word found h)

-- store SUPER: of the version that an own version of the stamped commit links to, not stored yet
pub record MayStoreSuper (v : Knowledge) (link time k : ℕ) (x : Version) (note : CommitNote) : Type 0 where
  pub inside : OwnSection
  pub naming : Naming
  pub phase : v.phase ≡ Inside inside
  pub mode : inside.mode ≡ Named naming
  pub time_is : naming.time ≡ time
  pub stamped : naming.stamped ≡ true
  pub own : slot_at v.ring k ≡ Live x (Committed note)
  pub of_commit : note.time ≡ time
  pub link_is : x.previous ≡ link
  pub not_yet : note.linked ≡ false

-- that SUPER was stored is noted
abbrev pub super_stored : Config → Knowledge → ℕ → ℕ → ℕ → Version → CommitNote → Knowledge
super_stored c v link time k x note = record v {
  ring = put_slot v.ring k (Live x (Committed (record note { linked = true })));
  trail = with_step c v StoreSuper (Super (link_seat_of link) (slot_named c link)) None (Some time);
}

-- the clock word of a rest, after this one
abbrev pub rest_word : Knowledge → ℕ → ℕ
rest_word v word = clock_of (clock_time_of word + 1) v.number 8191

-- compare_exchange CLOCK (rest): outside, the word was loaded and helped, and a time is left
pub record MayNameRest (v : Knowledge) (word : ℕ) : Type 0 where
  pub outside : v.phase ≡ Outside
  pub loaded : Contains v.clocks.loaded word
  pub helped : Contains v.clocks.helped word
  pub room : clock_time_of word < 35184372088831

-- won, over the whole history h that was there
abbrev pub rest_named : Config → Knowledge → ℕ → List Entry → Knowledge
rest_named c v word h = record v {
  past = record v.past { seen = h ++ Rest v.number ∷ []; rests = v.past.rests + 1 };
  trail = with_step c v NameRest Clock (Some word) (Some (rest_word v word));
}

-- lost to the word found, which is loaded, as the whole history h is seen
abbrev pub rest_lost : Config → Knowledge → ℕ → List Entry → Knowledge
rest_lost c v found h = record v {
  past = record v.past { seen = h };
  clocks = record v.clocks { loaded = v.clocks.loaded ++ found ∷ []; helped = v.clocks.helped ++ if_none found };
  trail = with_step c v NameRest Clock (Some found) None;
}

-- what the exchange tells
abbrev pub RestTold : Config → Knowledge → ℕ → ℕ → Knowledge → Type 0
RestTold c v word found w =
    (found ≡ word → (h : List Entry) × IsWhole c v word h × (w ≡ rest_named c v word h))
    × (found ≢ word → (h : List Entry) × IsWhole c v found h × (w ≡ rest_lost c v found h) × IsOvertaken c word found h)

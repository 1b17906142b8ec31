-- What a link that was found in HEAD names, in the state of the rule in which it was found.
use Rattle.std.specs.Prelude.{◌≡◌, ◌≢◌, ◌⊎◌, ℕ, List}
use Rattle.mv_history.specs.declared.Entry.{Entry}
use Rattle.mv_history.specs.State.{State, Writes}
use Rattle.mv_layout.specs.declared.Config.{Config}
use Rattle.mv_layout.specs.declared.SharedWord.TheVariants.{Head}
use Rattle.mv_layout.specs.Places.{Memory}
use Rattle.mv_layout.specs.Words.{link_of, link_seat_of}
use Rattle.mv_core.specs.declared.ring.Slot.TheVariants.{Live}
use Rattle.mv_core.specs.declared.ring.Version.{Version}
use Rattle.mv_core.specs.declared.ring.WriteSetStatus.{WriteSetStatus}
use Rattle.mv_core.specs.declared.ring.WriteSetStatus.TheVariants.{Held, Committed}
use Rattle.mv_core.specs.declared.ring.CommitNote.{CommitNote}
use Rattle.mv_core.specs.declared.view.Knowledge.{Knowledge}
use Rattle.mv_core.specs.Rings.{slot_at}
use Rattle.mv_core.specs.Times.{latest}
use Rattle.mv_core.specs.Views.{parts_of}
use Rattle.mv_core.specs.Chains.{IsLater}
use Rattle.mv_core.specs.Rule.{Facts}
use Rattle.mv_core.specs.WalkSteps.{slot_named}

-- a client with no rules allows any opening state
abbrev pub any_start : State → Type 0
any_start start = Unit {0}

-- and any commit
abbrev pub any_commit : List ℕ → State → Writes → Type 0
any_commit tag state writes = Unit {0}

-- A state of the rule in which a seat has this view: words by name, a history, and the views of all seats. All facts hold of it, but
-- for what the client's own rules say of the history.
pub record StateWith (c : Config) (v : Knowledge) : Type 0 where
  pub memory : Memory
  pub history : List Entry
  pub seats : ℕ → Knowledge
  pub own : seats v.number ≡ v
  pub facts : Facts any_start any_commit c v.start memory history (parts_of seats)

-- The link was in HEAD of the object in a state of the rule in which the seat has this view. There it names a live version of the
-- object, in the log of the seat that it is of, which is held, or has the object's last commit; and which is held, or was committed
-- later than each version of the object that the own log has as committed.
pub record NamesNewer (c : Config) (v : Knowledge) (object link : ℕ) : Type 0 where
  pub state : StateWith c v
  pub head : state.memory (Head object) ≡ link
  pub version : Version
  pub status : WriteSetStatus
  pub lives : slot_at (state.seats (link_seat_of link)).ring (slot_named c link) ≡ Live version status
  pub link_is : link ≡ link_of (link_seat_of link) version.position
  pub object_is : version.object ≡ object
  pub last : (status ≡ Held) ⊎ ((note : CommitNote) × (status ≡ Committed note) × (note.time ≡ latest c.base state.history object))
  pub newer : (k : ℕ) (x : Version) (own : CommitNote) → slot_at v.ring k ≡ Live x (Committed own) → x.object ≡ object → IsLater own.time status

-- so it is where the link is of another seat
abbrev pub IsNewer : Config → Knowledge → ℕ → ℕ → Type 0
IsNewer c v object link = link ≢ 0 → link_seat_of link ≢ v.number → NamesNewer c v object link

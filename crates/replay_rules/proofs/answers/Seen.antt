-- What a seat has seen behind a step, and what a load of STAMP tells it.
use Rattle.std.proofs.Common.{ℕ, ◌<◌, List, [], sym, subst, append-nil}
use Rattle.mv_layout.specs.Words.{link_seat_of}
use Rattle.mv_core.proofs.Terms.{Config, Checked, Stamp}
use Rattle.mv_core.specs.declared.view.Knowledge.{Knowledge}
use Rattle.mv_core.specs.declared.view.Stand.{Stand}
use Rattle.mv_core.specs.HistoryFacts.{BeginsWith}
use Rattle.mv_core.specs.Rings.{index_of}
use Rattle.mv_core.specs.WalkSteps.{MayLoadStamp, StampSays, IsOwnTime}
use Rattle.mv_core.specs.Moves.{Moment, seen_at}
use Rattle.mv_core.proofs.moves.LaterHistory.{sees_now, seen_at_is}
use Rattle.mv_core.proofs.kinds.walking.LoadStamp.{stamp_loads}
use Rattle.replay_rules.specs.States.{any_commit, any_start, zeros, Made, state_of, AreMade}
use Rattle.replay_rules.proofs.runs.Known.{facts, view_there, seated, starts, word_small}

-- what was seen begins with itself
pub all_seen : (v : Knowledge) → BeginsWith v.past.seen v.past.seen
all_seen v = ([], sym (append-nil v.past.seen))

module _ (c : Config) (k : Checked c) (n : ℕ) (lt : n < c.seats) (made : List Made) (each : AreMade c made) where
  abbrev s : Moment
  s = state_of c made

  abbrev v : Knowledge
  v = s.seats n

  -- what was seen behind it is as the core has it
  pub stamp_told : (link first : ℕ) (stand : Stand) → MayLoadStamp v link first stand
      → let found = s.memory (Stamp (link_seat_of link) (index_of c first)) in
      StampSays c v stand found (seen_at c v found s.history) × IsOwnTime c v link found
  stamp_told link first stand may =
      let found = s.memory (Stamp (link_seat_of link) (index_of c first)) in
      let f = facts c k n made each in
      let r = stamp_loads any_start any_commit c (zeros c) v first stand link may s.memory s.history s.seats f (view_there c k n made each)
      (seated c k n made each lt) (starts c k n made each) (word_small c k n made each (Stamp (link_seat_of link) (index_of c first))) in
      let told = r.2.0.0 in
      let sees = told.1.sees in
      let is = seen_at_is c v s.history r.0.past.seen (sees_now s.seats v r.0 r.1) sees.more found sees.least sees.time f.history.in_time in
      (subst (StampSays c v stand found) is told.1, told.2)

-- The log stands for the pass after a rest.
use Rattle.std.proofs.Common.{ℕ, ◌+◌, ◌^◌, ◌<◌, ◌≤◌, List, length, refl, sym, ap, ◌∙◌, arith}
use Rattle.std.proofs.Math.Logic.{∥∥₁_elim}
use Rattle.std.proofs.Math.Bridge.{le_prop}
use Rattle.mv_history.specs.declared.Entry.{Entry}
use Rattle.mv_history.specs.State.{State, Writes}
use Rattle.mv_layout.specs.declared.Config.{Config}
use Rattle.reader_marks.specs.mv_core.declared.view.Knowledge.{Knowledge}
use Rattle.reader_marks.specs.mv_core.Known.{Known}
use Rattle.reader_marks.specs.mv_core.NameSteps.{rest_named, rest_lost}
use Rattle.reader_marks.proofs.mv_core_lemmas.history.OwnEntries.{own_seen}
use Rattle.seat_log.specs.Notes.{Noted, rest_noted}
use Rattle.seat_log.specs.Stands.{is_free, is_won_cut, Stands}
use Rattle.seat_log.proofs.BuildsOn.{unpassed}
use Rattle.seat_log.proofs.StepCounts.{KeepsLocks, keeps_one}
use Rattle.seat_log.proofs.Noting.{counted_is_log}
use Rattle.seat_log.proofs.Stays.{stands_same}

-- one more rest may be counted: what was seen has fewer entries
pub rests_room : (starts : State → Type 0) (allows : List ℕ → State → Writes → Type 0) (c : Config) (v : Knowledge) (l : Noted) → Stands c v l
    → ∥ Known starts allows v ∥₁ → l.rests + 1 < 2 ^ 63
rests_room starts allows c v l k known =
    let own = own_seen starts allows v known in
    let rests = k.rests in
    let few : length v.past.seen ≤ 35184372088831 = ∥∥₁_elim known le_prop (λ a. let long = a.in_time in omega arith) in
    omega arith

-- a rest locks nothing and gives nothing up
rest_keeps : (c : Config) (v : Knowledge) (word : ℕ) (h : List Entry) → KeepsLocks v.trail (rest_named c v word h).trail
rest_keeps c v word h = keeps_one v.trail _ refl refl

-- the log stands for the pass after a rest, with one more
pub stands_rested : (c : Config) (v : Knowledge) (l : Noted) (word : ℕ) (h : List Entry) → Stands c v l → l.rests + 1 < 2 ^ 63
    → Stands c (rest_named c v word h) (rest_noted l)
stands_rested c v l word h k room = record {
  seat = k.seat;
  slots = k.slots;
  wide = k.wide;
  log = counted_is_log l l.back (l.rests + 1) k.log.backs room k.log;
  next = k.next;
  held = k.held;
  live = k.live;
  all = k.all;
  none_freeing = k.none_freeing;
  builds = k.builds;
  built = k.built;
  spare = k.spare;
  commits = k.commits;
  rests = ap (λ n. n + 1) k.rests;
  frees = k.frees ∙ sym (unpassed is_free v.trail _ refl);
  backs = k.backs ∙ sym (unpassed is_won_cut v.trail _ refl);
  locks = k.locks ∙ sym (rest_keeps c v word h).locks;
  aborts = k.aborts ∙ sym (rest_keeps c v word h).aborts;
  settled = (rest_keeps c v word h).settled k.settled;
  cuts = k.cuts;
  used = k.used;
  all_used = k.all_used;
}

-- and as it is after one whose exchange was lost
pub stands_unrested : (c : Config) (v : Knowledge) (l : Noted) (found : ℕ) (h : List Entry) → Stands c v l → Stands c (rest_lost c v found h) l
stands_unrested c v l found h k =
    stands_same c v (rest_lost c v found h) l refl refl refl refl (unpassed is_free v.trail _ refl) (unpassed is_won_cut v.trail _ refl)
    (keeps_one v.trail _ refl refl) k

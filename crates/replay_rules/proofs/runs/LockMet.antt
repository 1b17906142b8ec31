-- A lock that met a held version: it looks at whose it is, and is refused.
use Rattle.std.proofs.Common.{◌≡◌, ℕ, ◌<◌, List, true, Option, Some, None, All, refl, arith, mod-lt}
use Rattle.mv_core.specs.WalkSteps.{slot_named}
use Rattle.mv_layout.specs.Words.{link_seat_of}
use Rattle.mv_core.proofs.Terms.{Config, Checked, First, Stamp}
use Rattle.mv_core.specs.declared.view.Knowledge.{Knowledge}
use Rattle.mv_core.specs.declared.view.OwnSection.{OwnSection}
use Rattle.mv_core.specs.Rings.{index_of}
use Rattle.mv_core.specs.Moves.{Moment, load_first, load_stamp}
use Rattle.replay_rules.specs.declared.plan.Call.{Call}
use Rattle.replay_rules.specs.declared.plan.CallOf.{CallOf}
use Rattle.replay_rules.specs.declared.seats.NotedVersion.{NotedVersion}
use Rattle.replay_rules.specs.declared.seats.Sweep.{Sweep}
use Rattle.replay_rules.specs.declared.seats.Locking.{Locking}
use Rattle.replay_rules.specs.declared.seats.Locking.TheVariants.{FoundFirst, FoundStamp}
use Rattle.replay_rules.specs.declared.seats.NextStep.{NextStep}
use Rattle.replay_rules.specs.declared.seats.NextStep.TheVariants.{Locks}
use Rattle.replay_rules.specs.FitPlans.{IsFitCallOf}
use Rattle.replay_rules.specs.GoesOn.{is_lock}
use Rattle.replay_rules.specs.States.{Made, state_of}
use Rattle.replay_rules.specs.Runs.{SeatOf, TapeOf}
use Rattle.replay_rules.specs.Behind.{IsTapeBehind}
use Rattle.replay_rules.proofs.runs.Sections.{seat_with, InSection, MayHold, StandsAt}
use Rattle.replay_rules.proofs.runs.Standing.{Builds, StepsSo}
use Rattle.replay_rules.proofs.runs.Standing.{by_step}
use Rattle.replay_rules.proofs.runs.Stepping.{IsOfKind, view_by, next_is}
use Rattle.replay_rules.proofs.runs.Known.{logs_left}
use Rattle.replay_rules.proofs.runs.WalkFacts.{section_stays, refused}
use Rattle.replay_rules.proofs.runs.Walking.{stands_in}
use Rattle.replay_rules.proofs.runs.Building.{builds_stay}

module _ (c : Config) (k : Checked c) (n : ℕ) (lt : n < c.seats) (made : List Made) (t : TapeOf) (b : IsTapeBehind c t made)
    (log : List NotedVersion) (freed from : ℕ) (time : Option ℕ) (call : Call) (sweep : Sweep) (own : Option NextStep) (left : List CallOf)
    (no_scan : ((state_of c made).seats n).scan ≡ None) (before : All (IsFitCallOf c) left)
    (lock : is_lock call ≡ true) (inside : InSection c ((state_of c made).seats n) log freed from time) (o : ℕ) (range : o < c.objects)
    (may : MayHold c log freed from o) where
  abbrev s : Moment
  s = state_of c made

  abbrev v : Knowledge
  v = s.seats n

  abbrev i : OwnSection
  i = inside.section

  abbrev seat : SeatOf
  seat = seat_with n log freed from time call sweep own left

  abbrev Made_so : NotedVersion → ℕ → Locking → Type 0
  Made_so version at step = StepsSo c n made t (Locks version at step) seat

  module _ (version : NotedVersion) (at : ℕ) (builds : Builds c v i log from o version at) where
    -- the write set of the version that was met
    pub first_made : (link : ℕ) → StandsAt v o link → Made_so version at (FoundFirst link)
    first_made link stands =
        let task = Locks version at (FoundFirst link) in
        let in_range = stands_in c k n lt made t b log freed from time call sweep own left no_scan before inside o link stands in
        let of : IsOfKind c s n (load_first link stands.stand) task = record {
          is = (stands.stand, refl);
          may = record { stands = stands.at; link_is = stands.link_is };
          range = (in_range.0, in_range.1);
          place = refl;
          writes = λ x. refl;
          fits = λ x _. tt;
        } in
        let w = view_by c s n (load_first link stands.stand) in
        let still = section_stays c v w log freed from time inside refl refl refl
        (logs_left c v w log freed from refl refl refl refl _ refl (refl, refl) inside.logs) in
        next_is c k n lt made t b (load_first link stands.stand) task of seat refl log freed from time call sweep own left refl no_scan before
        (by_step (Locks version at (FoundStamp link (s.memory (First (link_seat_of link) (slot_named c link))))) refl (
          record {
            inside = still;
            object = o;
            range = range;
            may = may;
            builds = builds_stay c v w i log from o version at refl refl builds;
            locks = (record { stand = _; at = refl; object_is = stands.object_is; link_is = stands.link_is }, refl);
          },
          lock,
        ))

    -- and its stamp, by which the lock is refused
    pub stamp_made : (link first : ℕ) (stands : StandsAt v o link) → stands.stand.first ≡ Some first → Made_so version at (FoundStamp link first)
    stamp_made link first stands first_is =
        let task = Locks version at (FoundStamp link first) in
        let in_range = stands_in c k n lt made t b log freed from time call sweep own left no_scan before inside o link stands in
        let slots = k.slots.0 in
        let kind = load_stamp link first stands.stand in
        let of : IsOfKind c s n kind task = record {
          is = (stands.stand, refl);
          may = record { stands = stands.at; link_is = stands.link_is; first_is = first_is };
          range = (in_range.0, mod-lt first (omega (arith, slots)));
          place = refl;
          writes = λ x. refl;
          fits = λ x _. tt;
        } in
        let w = view_by c s n kind in
        let still = section_stays c v w log freed from time inside refl refl refl
        (logs_left c v w log freed from refl refl refl refl _ refl (refl, refl) inside.logs) in
        next_is c k n lt made t b kind task of seat refl log freed from time call sweep own left refl no_scan before
        (refused c n w log freed from time call sweep link (s.memory (Stamp (link_seat_of link) (index_of c first))) still)

-- Where each move leaves a client.
use Rattle.std.proofs.Common.{◌≡◌, ℕ, List, refl, sym, ap, ◌∙◌, subst, Option, Some, None}
use Rattle.std.specs.Prelude.{Contains}
use Rattle.mv_history.specs.declared.Step.{Step}
use Rattle.mv_history.specs.declared.Entry.{Entry}
use Rattle.mv_history.specs.declared.StepKind.{StepKind}
use Rattle.mv_history.specs.declared.StepKind.TheVariants.{LoadHead, LoadFirst, LoadStamp, LoadPrev}
use Rattle.mv_layout.specs.declared.Config.{Config}
use Rattle.mv_core.specs.declared.view.Knowledge.{Knowledge}
use Rattle.mv_core.specs.declared.view.LoadedClocks.{LoadedClocks}
use Rattle.mv_core.specs.declared.view.OwnSection.{OwnSection}
use Rattle.mv_core.specs.EnterSteps.{IsWhole, check_loaded, mark_cleared}
use Rattle.mv_core.specs.WalkSteps.{IsWalking}
use Rattle.commit_clock.specs.Helps.{HasLoaded, Helps}
use Rattle.reader_marks.specs.Sections.{Begins}
use Rattle.seat_log.specs.Notes.{Noted}
use Rattle.seat_log.specs.Stands.{Stands}
use Rattle.seat_log.proofs.PlainSteps.{LeavesLog, stands_left, stands_entered, stands_unmarked, kinds_leave, kind_leaves}
use Rattle.version_chain.specs.Walks.{inside_of, section_in, MayWalk, IsWalkStep, Walks}
use Rattle.version_chain.specs.Reads.{Reads}
use Rattle.mv_history.specs.declared.answers.LockAnswer.{LockAnswer}
use Rattle.object_lock.specs.declared.locking.StartedLock.{StartedLock}
use Rattle.object_lock.specs.Locks.{Outcome}
use Rattle.object_lock.specs.Writes.{Stores}
use Rattle.commit_abort.proofs.Tried.{stands_next, phase_next, helped_next}
use Rattle.runtime_tests.specs.Clients.{IsOutside, IsInside, HasStarted}
use Rattle.runtime_tests.proofs.Begun.{may_walk}

pub walks_in : (w : Knowledge) (inside : OwnSection) → IsWalking w inside → MayWalk w
walks_in w inside walking = subst (IsWalking w) (sym (ap inside_of walking.phase)) walking

pub entered : (c : Config) (v w : Knowledge) (l : Noted) (time : ℕ) → IsOutside c v l → Begins c v w time → IsInside c w l None
entered c v w l time o b = record {
  may = may_walk c v w time b;
  no_scan = ap (λ (u : Knowledge). u.scan) b.rest ∙ o.may.no_scan;
  stands = stands_entered c v w l time b o.stands;
  unbuilt = o.unbuilt;
  helped = λ x e. absurd cc;
}

pub left : (c : Config) (v w : Knowledge) (l : Noted) (word : Option ℕ) → IsInside c v l word → w ≡ mark_cleared c v → IsOutside c w l
left c v w l word i is = record {
  may = record { outside = ap (λ (u : Knowledge). u.phase) is; no_scan = ap (λ (u : Knowledge). u.scan) is ∙ i.no_scan };
  stands = subst (λ (u : Knowledge). Stands c u l) (sym is) (stands_unmarked c v l i.stands);
  unbuilt = i.unbuilt;
}

-- the steps of a walk leave the log alone
walk_leaves : (k : StepKind) → IsWalkStep k → LeavesLog k
walk_leaves LoadHead h = (refl, refl)
walk_leaves LoadFirst h = (refl, refl)
walk_leaves LoadStamp h = (refl, refl)
walk_leaves LoadPrev h = (refl, refl)
walk_leaves _ h = absurd h

-- a section goes on after what leaves its scan and the clock words heard as they were
still_inside : (c : Config) (v w : Knowledge) (l m : Noted) (word : Option ℕ) → IsInside c v l word → w.scan ≡ v.scan → w.clocks ≡ v.clocks → MayWalk w
    → Stands c w m → m.built ≡ None → IsInside c w m word
still_inside c v w l m word i scan clocks may stands unbuilt = record {
  may = may;
  no_scan = scan ∙ i.no_scan;
  stands = stands;
  unbuilt = unbuilt;
  helped = subst (λ (h : LoadedClocks). (x : ℕ) → word ≡ Some x → Contains h.loaded x × Contains h.helped x) (sym clocks) i.helped;
}

pub walked : (c : Config) (v w : Knowledge) (l : Noted) (word : Option ℕ) (before after : ℕ) → IsInside c v l word → Walks v w before after → MayWalk w
    → IsInside c w l word
walked c v w l word before after i k may =
    still_inside c v w l l word i (ap (λ (u : Knowledge). u.scan) k.rest) (ap (λ (u : Knowledge). u.clocks) k.rest) may
    (stands_left c v w l i.stands (ap (λ (u : Knowledge). u.number) k.rest) (ap (λ (u : Knowledge). u.ring) k.rest) (ap (λ (u : Knowledge). u.past.mine) k.rest)
    (ap (λ (u : Knowledge). u.past.rests) k.rest) k.trail.0 k.trail.1 (kinds_leave IsWalkStep walk_leaves k.trail.0 k.trail.3)) i.unbuilt

pub has_read : (c : Config) (kind : StepKind) → LeavesLog kind → (v w : Knowledge) (l : Noted) (word : Option ℕ) → IsInside c v l word → Reads kind v w
    → MayWalk w → IsInside c w l word
has_read c kind leaves v w l word i r may =
    still_inside c v w l l word i (ap (λ (u : Knowledge). u.scan) r.rest) (ap (λ (u : Knowledge). u.clocks) r.rest) may
    (stands_left c v w l i.stands (ap (λ (u : Knowledge). u.number) r.rest) (ap (λ (u : Knowledge). u.ring) r.rest) (ap (λ (u : Knowledge). u.past.mine) r.rest)
    (ap (λ (u : Knowledge). u.past.rests) r.rest) r.trail.0 r.trail.1 (kind_leaves kind leaves r.trail.0 r.trail.3)) i.unbuilt

-- and ended
pub has_ended : {words : List ℕ} (c : Config) (v w : Knowledge) (l m : Noted) (object before after : ℕ) (lock : StartedLock) (answer : LockAnswer)
    → HasStarted c v l lock → {exchanged : List Step} → Outcome c v w m object words answer before after exchanged → IsInside c w m None
has_ended c v w l m object before after lock answer k o = record {
  may = o.may;
  no_scan = ap (λ (u : Knowledge). u.scan) o.tries.rest ∙ k.no_scan;
  stands = o.stands;
  unbuilt = o.unbuilt;
  helped = λ x e. absurd cc;
}

pub written : (c : Config) (v w : Knowledge) (l m : Noted) (word : Option ℕ) (n : ℕ) → IsInside c v l word → Stores v w n → MayWalk w → Stands c w m
    → m.built ≡ None → IsInside c w m word
written c v w l m word n i s may stands unbuilt =
    still_inside c v w l m word i (ap (λ (u : Knowledge). u.scan) s.rest) (ap (λ (u : Knowledge). u.clocks) s.rest) may stands unbuilt

-- CLOCK was loaded, and its word helped
pub loaded : (c : Config) (v x y : Knowledge) (l : Noted) (old : Option ℕ) (word : ℕ) (h : List Entry) → IsInside c v l old → IsWhole c v word h
    → x ≡ check_loaded c v word h → HasLoaded x word → Helps c x y word → IsInside c y l (Some word)
loaded c v x y l old word h i whole is has helps =
    let inside : OwnSection = section_in v in
    let back = ap (λ (u : Knowledge). u.back) helps.rest ∙ ap (λ (u : Knowledge). u.back) is ∙ i.may.no_back in
    record {
      may = walks_in y inside (record {
        phase = phase_next c v x word h whole is inside i.may.phase i.may.helped y helps i.may.open_is;
        open_is = i.may.open_is;
        helped = helped_next c v x word h whole is inside i.may.phase i.may.helped y helps i.may.open_is;
        no_back = back;
      });
      no_scan = ap (λ (u : Knowledge). u.scan) helps.rest ∙ ap (λ (u : Knowledge). u.scan) is ∙ i.no_scan;
      stands = stands_next c v x word h whole is inside i.may.phase i.may.helped y helps i.may.open_is l i.stands;
      unbuilt = i.unbuilt;
      helped = λ w e.
          let same : word ≡ w = cc in
          subst (λ n. Contains y.clocks.loaded n × Contains y.clocks.helped n) same (helps.still_loaded word has, helps.helped);
    }

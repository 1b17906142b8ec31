-- Where the parts of an `enter` leave a client, and the watermarks that it finds.
use Rattle.std.proofs.Common.{◌≡◌, ℕ, zero, suc, ◌+◌, ◌==◌, Bool, true, false, cond, List, [], ◌∷◌, ◌++◌}
use Rattle.std.proofs.Common.{refl, sym, ap, ◌∙◌, subst, Some, None}
use Rattle.std.specs.Prelude.{Contains}
use Rattle.std.proofs.lemmas.List.Elements.{All-nil, All-cons, All-append}
use Rattle.mv_history.specs.declared.Entry.{Entry}
use Rattle.mv_history.specs.declared.Step.{Step}
use Rattle.mv_history.specs.declared.StepKind.TheVariants.{LoadLow, StoreMark, LoadTime, LoadGrace}
use Rattle.mv_layout.specs.declared.Config.{Config}
use Rattle.mv_layout.specs.declared.SharedWord.TheVariants.{Clock, Grace, Mark}
use Rattle.mv_layout.specs.Places.{place_of}
use Rattle.mv_layout.specs.Words.{clock_time_of}
use Rattle.mv_core.specs.declared.view.Knowledge.{Knowledge}
use Rattle.mv_core.specs.declared.view.Past.{Past}
use Rattle.mv_core.specs.declared.view.Phase.TheVariants.{Lowered}
use Rattle.mv_core.specs.declared.view.Mode.TheVariants.{Open}
use Rattle.mv_core.specs.Views.{low_of}
use Rattle.mv_core.specs.EnterSteps.{low_loaded, mark_stored, time_loaded}
use Rattle.mv_core.specs.SeatSteps.{grace_loaded}
use Rattle.commit_clock.specs.Helps.{HasLoaded, IsHelpStep, Helps}
use Rattle.reader_marks.specs.declared.scanning.Watermark.{Watermark}
use Rattle.reader_marks.specs.Scans.{mark_step, mark_steps, scan_step, grace_step, scan_steps, Scans}
use Rattle.seat_log.specs.Notes.{Noted}
use Rattle.commit_clock.proofs.HelpedPhase.{still_open}
use Rattle.seat_log.proofs.PlainSteps.{LeavesLog, AllLeaveLog, stands_left, kinds_leave, one_leaves, help_leaves}
use Rattle.runtime_tests.specs.Clients.{IsOutside, IsBetween, HasLowered, HasMarked, HasTaken, IsInside}
use Rattle.runtime_tests.proofs.Moved.{walks_in}

begun : (c : Config) (v : Knowledge) (l : Noted) → IsOutside c v l → IsBetween c v l
begun c v l o = record { no_scan = o.may.no_scan; stands = o.stands; unbuilt = o.unbuilt }

-- a step that leaves the log and the scan alone
goes_on : (c : Config) (v w : Knowledge) (l : Noted) → IsBetween c v l → w.number ≡ v.number → w.ring ≡ v.ring → w.past.mine ≡ v.past.mine
    → w.past.rests ≡ v.past.rests → w.scan ≡ v.scan → (s : Step) → w.trail ≡ v.trail ++ s ∷ [] → LeavesLog s.kind → IsBetween c w l
goes_on c v w l e number ring mine rests scan s trail plain = record {
  no_scan = scan ∙ e.no_scan;
  stands = stands_left c v w l e.stands number ring mine rests (s ∷ []) trail (one_leaves s plain);
  unbuilt = e.unbuilt;
}

pub lowered : (c : Config) (v w : Knowledge) (l : Noted) (word low : ℕ) → IsOutside c v l → w ≡ low_loaded c v word → low ≡ clock_time_of word
    → HasLowered c w l low
lowered c v w l word low o is time =
    let s : Step = record { kind = LoadLow; word = place_of c Clock; found = Some word; stored = None } in
    record {
      may = ap (λ (u : Knowledge). u.phase) is ∙ ap Lowered (sym time);
      between = goes_on c v w l (begun c v l o) (ap (λ (u : Knowledge). u.number) is) (ap (λ (u : Knowledge). u.ring) is)
          (ap (λ (u : Knowledge). u.past.mine) is)
          (ap (λ (u : Knowledge). u.past.rests) is) (ap (λ (u : Knowledge). u.scan) is) s (ap (λ (u : Knowledge). u.trail) is) (refl, refl);
    }

pub marked : (c : Config) (v w : Knowledge) (l : Noted) (low : ℕ) → HasLowered c v l low → w ≡ mark_stored c v low → HasMarked c w l
marked c v w l low h is =
    let s : Step = record { kind = StoreMark; word = place_of c (Mark v.number); found = None; stored = Some (1 + low) } in
    record {
      may = (low, ap (λ (u : Knowledge). u.phase) is);
      between = goes_on c v w l h.between (ap (λ (u : Knowledge). u.number) is) (ap (λ (u : Knowledge). u.ring) is) (ap (λ (u : Knowledge). u.past.mine) is)
          (ap (λ (u : Knowledge). u.past.rests) is) (ap (λ (u : Knowledge). u.scan) is) s (ap (λ (u : Knowledge). u.trail) is) (refl, refl);
    }

pub taken : (c : Config) (v w : Knowledge) (l : Noted) (word : ℕ) (h : List Entry) → HasMarked c v l → w ≡ time_loaded c v word h
    → HasLoaded w word → HasTaken c w l word
taken c v w l word h m is loaded =
    let s : Step = record { kind = LoadTime; word = place_of c Clock; found = Some word; stored = None } in
    record {
      inside = record { low = low_of v.phase; word = word; mode = Open };
      phase_is = ap (λ (u : Knowledge). u.phase) is;
      open_is = refl;
      word_is = refl;
      loaded = loaded;
      no_back = ap (λ (u : Knowledge). u.back) is;
      between = goes_on c v w l m.between (ap (λ (u : Knowledge). u.number) is) (ap (λ (u : Knowledge). u.ring) is) (ap (λ (u : Knowledge). u.past.mine) is)
          (ap (λ (u : Knowledge). u.past.rests) is) (ap (λ (u : Knowledge). u.scan) is) s (ap (λ (u : Knowledge). u.trail) is) (refl, refl);
    }

pub helped : (c : Config) (v w : Knowledge) (l : Noted) (word : ℕ) → HasTaken c v l word → Helps c v w word → IsInside c w l None
helped c v w l word t helps = record {
  may = walks_in w t.inside (record {
    phase = still_open c v w word t.inside t.phase_is t.open_is helps;
    open_is = t.open_is;
    helped = subst (Contains w.clocks.helped) (sym t.word_is) helps.helped;
    no_back = ap (λ (u : Knowledge). u.back) helps.rest ∙ t.no_back;
  });
  no_scan = ap (λ (u : Knowledge). u.scan) helps.rest ∙ t.between.no_scan;
  stands = stands_left c v w l t.between.stands (ap (λ (u : Knowledge). u.number) helps.rest) (ap (λ (u : Knowledge). u.ring) helps.rest)
      (ap (λ (p : Past). p.mine) helps.past.2) (ap (λ (p : Past). p.rests) helps.past.2) helps.trail.0 helps.trail.1
      (kinds_leave IsHelpStep help_leaves helps.trail.0 helps.trail.3);
  unbuilt = t.between.unbuilt;
  helped = λ x e. absurd cc;
}

-- the loads of the marks leave the log alone
one_unless : (b : Bool) (s : Step) → LeavesLog s.kind → AllLeaveLog (cond b [] (s ∷ []))
one_unless true s leaves = All-nil (λ (t : Step). LeavesLog t.kind)
one_unless false s leaves = one_leaves s leaves

marks_plain : (c : Config) (own : ℕ) (marks : ℕ → ℕ) (n : ℕ) → AllLeaveLog (mark_steps c own marks n)
marks_plain c own marks zero = All-nil (λ (t : Step). LeavesLog t.kind)
marks_plain c own marks (suc n) =
    All-append (λ (t : Step). LeavesLog t.kind) (mark_steps c own marks n) (cond (n == own) [] (mark_step c n (marks n) ∷ []))
    (marks_plain c own marks n) (one_unless (n == own) (mark_step c n (marks n)) (refl, refl))

scan_plain : (c : Config) (own word : ℕ) (marks : ℕ → ℕ) (low found : ℕ) → AllLeaveLog (scan_steps c own word marks low found)
scan_plain c own word marks low found =
    All-cons (λ (t : Step). LeavesLog t.kind) (scan_step c word) (mark_steps c own marks c.seats ++ grace_step c low found ∷ []) (refl, refl)
    (All-append (λ (t : Step). LeavesLog t.kind) (mark_steps c own marks c.seats) (grace_step c low found ∷ []) (marks_plain c own marks c.seats)
    (one_leaves (grace_step c low found) (refl, refl)))

pub scanned : (c : Config) (v w : Knowledge) (l : Noted) (mark : Watermark) (clock before after : ℕ) → IsOutside c v l
    → Scans c v w mark clock before after → IsOutside c w l
scanned c v w l mark clock before after o s =
    let is = s.view in
    record {
      may = record { outside = ap (λ (u : Knowledge). u.phase) is ∙ o.may.outside; no_scan = ap (λ (u : Knowledge). u.scan) is };
      stands = stands_left c v w l o.stands (ap (λ (u : Knowledge). u.number) is) (ap (λ (u : Knowledge). u.ring) is) (ap (λ (u : Knowledge). u.past.mine) is)
          (ap (λ (u : Knowledge). u.past.rests) is) (scan_steps c v.number s.word s.marks mark.low s.found) (ap (λ (u : Knowledge). u.trail) is)
          (scan_plain c v.number s.word s.marks mark.low s.found);
      unbuilt = o.unbuilt;
    }

pub known : (c : Config) (v w : Knowledge) (l : Noted) (time : ℕ) → IsOutside c v l → w ≡ grace_loaded c v time → IsOutside c w l
known c v w l time o is =
    let s : Step = record { kind = LoadGrace; word = place_of c Grace; found = Some time; stored = None } in
    record {
      may = record { outside = ap (λ (u : Knowledge). u.phase) is ∙ o.may.outside; no_scan = ap (λ (u : Knowledge). u.scan) is ∙ o.may.no_scan };
      stands = stands_left c v w l o.stands (ap (λ (u : Knowledge). u.number) is) (ap (λ (u : Knowledge). u.ring) is) (ap (λ (u : Knowledge). u.past.mine) is)
          (ap (λ (u : Knowledge). u.past.rests) is) (s ∷ []) (ap (λ (u : Knowledge). u.trail) is) (one_leaves s (refl, refl));
      unbuilt = o.unbuilt;
    }

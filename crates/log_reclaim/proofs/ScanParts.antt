-- What a scan, and a load of GRACE, leave of a pass that reclaims.
use Rattle.std.proofs.Common.{◌≡◌, ℕ, ◌+◌, ◌≤◌, max, List, [], ◌∷◌, ◌++◌, length, All, refl, sym, ap, ◌∙◌, subst}
use Rattle.std.proofs.Common.{arith, append-nil, None}
use Rattle.std.proofs.lemmas.List.Elements.{All-nil, All-cons}
use Rattle.mv_history.specs.declared.Entry.{Entry}
use Rattle.mv_history.specs.declared.Step.{Step}
use Rattle.mv_history.specs.declared.StepKind.{StepKind}
use Rattle.mv_history.specs.declared.StepKind.TheVariants.{LoadScan, LoadMark, RaiseGrace}
use Rattle.mv_layout.specs.declared.Config.{Config}
use Rattle.seat_log.specs.mv_core.declared.view.Knowledge.{Knowledge}
use Rattle.seat_log.specs.mv_core.declared.view.WalkStage.TheVariants.{Nowhere}
use Rattle.seat_log.specs.mv_core.EnterSteps.{MayLoadLow}
use Rattle.seat_log.specs.mv_core.HistoryFacts.{BeginsWith}
use Rattle.seat_log.specs.mv_core.SeatSteps.{grace_loaded}
use Rattle.seat_log.specs.reader_marks.declared.scanning.Watermark.{Watermark}
use Rattle.seat_log.specs.reader_marks.Scans.{Scans, scan_step, grace_step, mark_steps, scan_steps}
use Rattle.seat_log.specs.Notes.{Noted}
use Rattle.seat_log.specs.Stands.{Stands}
use Rattle.seat_log.proofs.PlainSteps.{LeavesLog, stands_left}
use Rattle.log_reclaim.specs.Parts.{IsReclaimKind, BeginsNoScan, LeavesClock, IsOtherKind, IsPlainKind, Reclaims, HasScanned, grace_load}
use Rattle.log_reclaim.specs.Tries.{Makes}
use Rattle.seat_log.proofs.mv_core_lemmas.history.Fronts.{begins_long}
use Rattle.log_reclaim.proofs.Reclaiming.{reclaims_outside}
use Rattle.log_reclaim.proofs.causes.ScanCauses.{after_clock_all}

one_kind : (P : StepKind → Type 0) (s : Step) → P s.kind → All (λ (x : Step). P x.kind) (s ∷ [])
one_kind P s p = All-cons (λ (x : Step). P x.kind) s [] p (All-nil (λ (x : Step). P x.kind))

module _ (c : Config) (v w : Knowledge) (found : ℕ) (is : w ≡ grace_loaded c v found) where
  pub grace_makes : MayLoadLow v → (v.walk ≡ Nowhere) × (v.back ≡ None) → Makes v w (grace_load c found ∷ [])
  grace_makes may still = record {
    reclaims = reclaims_outside v w (grace_load c found ∷ []) may still
        (ap (λ (x : Knowledge). record x { past = w.past; clocks = w.clocks; empty = w.empty; ring = w.ring; grace = w.grace; trail = w.trail }) is)
        ([], ap (λ (x : Knowledge). x.past.seen) is ∙ sym (append-nil v.past.seen))
        (ap (λ (x : Knowledge). x.past.mine) is)
        (let e : w.grace ≡ max v.grace found = ap (λ (x : Knowledge). x.grace) is in omega arith)
        (ap (λ (x : Knowledge). x.trail) is)
        (one_kind IsReclaimKind (grace_load c found) tt);
    rests = ap (λ (x : Knowledge). x.past.rests) is;
    kinds = one_kind IsOtherKind (grace_load c found) tt;
  }

  pub grace_may : MayLoadLow v → MayLoadLow w
  grace_may may = record { outside = ap (λ (x : Knowledge). x.phase) is ∙ may.outside; no_scan = ap (λ (x : Knowledge). x.scan) is ∙ may.no_scan }

  pub grace_stands : (l : Noted) → Stands c v l → Stands c w l
  grace_stands l k =
      stands_left c v w l k (ap (λ (x : Knowledge). x.number) is) (ap (λ (x : Knowledge). x.ring) is) (ap (λ (x : Knowledge). x.past.mine) is)
      (ap (λ (x : Knowledge). x.past.rests) is) (grace_load c found ∷ []) (ap (λ (x : Knowledge). x.trail) is)
      (one_kind LeavesLog (grace_load c found) (refl, refl))

module _ (c : Config) (v w : Knowledge) (mark : Watermark) (clock before after : ℕ) (k : Scans c v w mark clock before after) where
  -- the steps of the scan
  abbrev pub steps_of : List Step
  steps_of = scan_steps c v.number k.word k.marks mark.low k.found

  steps_all : (P : StepKind → Type 0) → P LoadScan → P LoadMark → P RaiseGrace → All (λ (s : Step). P s.kind) steps_of
  steps_all P a b d =
      All-cons (λ (s : Step). P s.kind) (scan_step c k.word) (mark_steps c v.number k.marks c.seats ++ grace_step c mark.low k.found ∷ []) a
      (after_clock_all P c v.number k.marks mark.low k.found b d)

  pub scan_leaves : All (λ s. LeavesClock s.kind) steps_of
  scan_leaves = steps_all LeavesClock tt tt tt

  pub scan_plain : All (λ s. IsPlainKind s.kind) steps_of
  scan_plain = steps_all IsPlainKind tt tt tt

  seen_is : w.past.seen ≡ k.h
  seen_is = ap (λ (x : Knowledge). x.past.seen) k.view

  scan_seen : BeginsWith w.past.seen v.past.seen
  scan_seen = subst (λ (h : List Entry). BeginsWith h v.past.seen) (sym seen_is) k.whole.0

  -- it has seen just what its clock says
  pub scan_clock_is : v.base ≡ c.base → clock ≡ w.base + length w.past.seen
  scan_clock_is from =
      let long = k.whole.1 in
      let is = k.clock_is in
      let base : w.base ≡ v.base = ap (λ (x : Knowledge). x.base) k.view in
      let seen : length w.past.seen ≡ length k.h = ap length seen_is in
      omega arith

  pub scan_later : v.base ≡ c.base → v.base + length v.past.seen ≤ clock
  scan_later from =
      let e = scan_clock_is from in
      let base : w.base ≡ v.base = ap (λ (x : Knowledge). x.base) k.view in let more = begins_long w.past.seen v.past.seen scan_seen in omega arith

  pub scan_reclaims : MayLoadLow v → (v.walk ≡ Nowhere) × (v.back ≡ None) → Reclaims v w steps_of
  scan_reclaims may still =
      let is = k.view in record {
        outside = ap (λ (x : Knowledge). x.phase) is ∙ may.outside;
        no_scan = ap (λ (x : Knowledge). x.scan) is;
        seen = scan_seen;
        mine = ap (λ (x : Knowledge). x.past.mine) is;
        grace = (let e : w.grace ≡ max (max v.grace mark.low) k.found = ap (λ (x : Knowledge). x.grace) is in omega arith);
        trail = ap (λ (x : Knowledge). x.trail) is;
        kinds = steps_all IsReclaimKind tt tt tt;
        rest = is
            ∙ (λ i. record v {
              past = sym (ap (λ (x : Knowledge). x.past) is) i;
              phase = may.outside i;
              clocks = sym (ap (λ (x : Knowledge). x.clocks) is) i;
              walk = still.0 i;
              empty = sym (ap (λ (x : Knowledge). x.empty) is) i;
              ring = sym (ap (λ (x : Knowledge). x.ring) is) i;
              back = still.1 i;
              scan = None;
              grace = sym (ap (λ (x : Knowledge). x.grace) is) i;
              trail = sym (ap (λ (x : Knowledge). x.trail) is) i;
            });
      }

  pub scan_rests : w.past.rests ≡ v.past.rests
  scan_rests = ap (λ (x : Knowledge). x.past.rests) k.view

  pub scan_stands : (l : Noted) → Stands c v l → Stands c w l
  scan_stands l s =
      let is = k.view in
      stands_left c v w l s (ap (λ (x : Knowledge). x.number) is) (ap (λ (x : Knowledge). x.ring) is)
      (ap (λ (x : Knowledge). x.past.mine) is) scan_rests steps_of
      (ap (λ (x : Knowledge). x.trail) is) (steps_all LeavesLog (refl, refl) (refl, refl) (refl, refl))

  pub scan_shown : HasScanned c v.number steps_of mark clock
  scan_shown = record {
    word = k.word;
    clock_is = k.clock_is;
    marks = k.marks;
    own_is = k.own;
    lowest = k.lowest;
    unmarked = k.unmarked;
    found = k.found;
    time = k.time;
    before = [];
    after = [];
    made_is = sym (append-nil steps_of);
    last = All-nil (λ (s : Step). BeginsNoScan s.kind);
  }

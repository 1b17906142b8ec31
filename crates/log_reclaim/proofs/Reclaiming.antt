-- The parts of a reclaiming call, one after the other.
use Rattle.std.proofs.Common.{◌≡◌, ◌≤◌, List, [], ◌++◌, length, All, refl, sym, ap, ◌∙◌, arith, append_assoc, append-nil, None}
use Rattle.std.proofs.lemmas.List.Elements.{All-nil, All-append}
use Rattle.mv_history.specs.declared.Step.{Step}
use Rattle.seat_log.specs.mv_core.declared.view.Knowledge.{Knowledge}
use Rattle.seat_log.specs.mv_core.declared.view.Phase.TheVariants.{Outside}
use Rattle.seat_log.specs.mv_core.declared.view.WalkStage.TheVariants.{Nowhere}
use Rattle.seat_log.specs.mv_core.HistoryFacts.{BeginsWith}
use Rattle.seat_log.specs.mv_core.EnterSteps.{MayLoadLow}
use Rattle.seat_log.proofs.mv_core_lemmas.history.Fronts.{begins_by, begins_long}
use Rattle.log_reclaim.specs.Parts.{IsReclaimKind, IsOtherKind, Reclaims}
use Rattle.log_reclaim.specs.Tries.{Makes}

-- steps outside a section that change only what was seen, the clock words that were loaded, the rests, the HEADs found empty, the
-- own log, the watermark and the trail
pub reclaims_outside : (v w : Knowledge) (made : List Step) → MayLoadLow v → (v.walk ≡ Nowhere) × (v.back ≡ None)
    → w ≡ record v { past = w.past; clocks = w.clocks; empty = w.empty; ring = w.ring; grace = w.grace; trail = w.trail }
    → BeginsWith w.past.seen v.past.seen → w.past.mine ≡ v.past.mine → v.grace ≤ w.grace → w.trail ≡ v.trail ++ made
    → All (λ s. IsReclaimKind s.kind) made → Reclaims v w made
reclaims_outside v w made may still is seen mine grace trail kinds = record {
  outside = ap (λ (x : Knowledge). x.phase) is ∙ may.outside;
  no_scan = ap (λ (x : Knowledge). x.scan) is ∙ may.no_scan;
  seen = seen;
  mine = mine;
  grace = grace;
  trail = trail;
  kinds = kinds;
  rest = is ∙ (λ i. record v {
    past = w.past;
    phase = may.outside i;
    clocks = w.clocks;
    walk = still.0 i;
    empty = w.empty;
    ring = w.ring;
    back = still.1 i;
    scan = may.no_scan i;
    grace = w.grace;
    trail = w.trail;
  });
}

-- a pass outside a section that makes no step
pub reclaims_none : (v : Knowledge) → MayLoadLow v → (v.walk ≡ Nowhere) × (v.back ≡ None) → Reclaims v v []
reclaims_none v may still =
    reclaims_outside v v [] may still refl ([], sym (append-nil v.past.seen)) refl (let e : v.grace ≤ v.grace = omega arith in e)
    (sym (append-nil v.trail)) (All-nil (λ s. IsReclaimKind s.kind))

pub makes_none : (v : Knowledge) → MayLoadLow v → (v.walk ≡ Nowhere) × (v.back ≡ None) → Makes v v []
makes_none v may still = record { reclaims = reclaims_none v may still; rests = refl; kinds = All-nil (λ s. IsOtherKind s.kind) }

-- two parts, one after the other
pub reclaims_on : (v u w : Knowledge) (made more : List Step) → Reclaims v u made → Reclaims u w more → Reclaims v w (made ++ more)
reclaims_on v u w made more a b = record {
  outside = b.outside;
  no_scan = b.no_scan;
  seen = begins_by w.past.seen u.past.seen v.past.seen b.seen a.seen;
  mine = b.mine ∙ a.mine;
  grace = (let first = a.grace in let then = b.grace in omega arith);
  trail = b.trail ∙ ap (λ l. l ++ more) a.trail ∙ append_assoc v.trail made more;
  kinds = All-append (λ s. IsReclaimKind s.kind) made more a.kinds b.kinds;
  rest = b.rest
      ∙ ap
      (λ (x : Knowledge).
      record x {
        past = w.past;
        phase = Outside;
        clocks = w.clocks;
        walk = Nowhere;
        empty = w.empty;
        ring = w.ring;
        back = None;
        scan = None;
        grace = w.grace;
        trail = w.trail;
      })
      a.rest;
}

pub makes_on : (v u w : Knowledge) (made more : List Step) → Makes v u made → Makes u w more → Makes v w (made ++ more)
makes_on v u w made more a b = record {
  reclaims = reclaims_on v u w made more a.reclaims b.reclaims;
  rests = b.rests ∙ a.rests;
  kinds = All-append (λ s. IsOtherKind s.kind) made more a.kinds b.kinds;
}

-- what a part leaves as it is, and what the next needs
module _ (v w : Knowledge) (made : List Step) (r : Reclaims v w made) where
  pub reclaims_number : w.number ≡ v.number
  reclaims_number = ap (λ (x : Knowledge). x.number) r.rest

  pub reclaims_base : w.base ≡ v.base
  reclaims_base = ap (λ (x : Knowledge). x.base) r.rest

  pub reclaims_more : length v.past.seen ≤ length w.past.seen
  reclaims_more = begins_long w.past.seen v.past.seen r.seen

  pub reclaims_may : MayLoadLow w
  reclaims_may = record { outside = r.outside; no_scan = r.no_scan }

  pub reclaims_still : (w.walk ≡ Nowhere) × (w.back ≡ None)
  reclaims_still = (ap (λ (x : Knowledge). x.walk) r.rest, ap (λ (x : Knowledge). x.back) r.rest)

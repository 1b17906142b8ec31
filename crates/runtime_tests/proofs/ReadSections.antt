-- What a section that reads an object leaves of a view.
use Rattle.std.proofs.Common.{◌≡◌, ℕ, ◌+◌, [], ◌∷◌, length, sym, ap, ◌∙◌, subst, arith, length-append, Some, None}
use Rattle.mv_history.specs.declared.Step.{Step}
use Rattle.mv_history.specs.declared.StepKind.{StepKind}
use Rattle.mv_history.specs.declared.StepKind.TheVariants.{LoadHead, LoadMaster}
use Rattle.mv_layout.specs.declared.Config.{Config}
use Rattle.mv_layout.specs.declared.SharedWord.TheVariants.{Head}
use Rattle.mv_layout.specs.Places.{place_of}
use Rattle.mv_core.specs.declared.ring.Ring.{Ring}
use Rattle.mv_core.specs.declared.view.Knowledge.{Knowledge}
use Rattle.mv_core.specs.declared.view.OwnSection.{OwnSection}
use Rattle.mv_core.specs.Rings.{HoldsNothing}
use Rattle.mv_core.specs.WalkSteps.{head_loaded}
use Rattle.mv_core.specs.EnterSteps.{MayLoadLow, mark_cleared}
use Rattle.reader_marks.specs.Sections.{Begins, IsOpen}
use Rattle.version_chain.specs.Walks.{Walks}
use Rattle.version_chain.specs.Reads.{Reads}
use Rattle.runtime_tests.specs.Reads.{Keeps, ReadsMaster}

-- one after another
pub keeps_on : (u v w : Knowledge) → Keeps u v → Keeps v w → Keeps u w
keeps_on u v w a b =
    let kept : Knowledge → Knowledge = λ x. record x { past = w.past; walk = w.walk; empty = w.empty; trail = w.trail } in
    ap kept b ∙ ap kept a

-- a walk, or a part of one
pub keeps_walk : (v w : Knowledge) (before after : ℕ) → Walks v w before after → Keeps v w
keeps_walk v w before after walks =
    let kept : Knowledge → Knowledge = λ x. record x { past = w.past; walk = w.walk; empty = w.empty; trail = w.trail } in
    ap kept walks.rest

-- the one load of a HEAD that is 0, and a reader of the master
pub reads_master : (c : Config) (v w x y : Knowledge) (inside : OwnSection) (object link : ℕ) → w ≡ head_loaded c v inside object link → x ≡ w
    → Reads LoadMaster x y → ReadsMaster v.trail y.trail
reads_master c v w x y inside object link head same reads =
    let step : Step = record { kind = LoadHead; word = place_of c (Head object); found = Some link; stored = None } in
    let one : length w.trail ≡ length v.trail + 1 = ap (λ (u : Knowledge). length u.trail) head ∙ length-append v.trail (step ∷ []) in
    let still : length x.trail ≡ length w.trail = ap (λ (u : Knowledge). length u.trail) same in
    let six : length y.trail ≡ length x.trail + length reads.trail.0 = ap length reads.trail.1 ∙ length-append x.trail reads.trail.0 in
    let long = reads.trail.2 in
    record { found = x.trail; finds = omega arith; reads = omega arith }

-- a walk, and a reader
pub keeps_read : (kind : StepKind) (v w x : Knowledge) (before after : ℕ) → Walks v w before after → Reads kind w x → Keeps v x
keeps_read kind v w x before after walks reads =
    let kept : Knowledge → Knowledge = λ u. record u { past = x.past; walk = x.walk; empty = x.empty; trail = x.trail } in
    ap kept reads.rest ∙ ap kept walks.rest

-- the section may be left then
pub open_after : (c : Config) (v w x : Knowledge) (time : ℕ) → Begins c v w time → Keeps w x → IsOpen x
open_after c v w x time begins keeps = record {
  inside = begins.inside;
  phase = ap (λ (u : Knowledge). u.phase) keeps ∙ begins.phase;
  open_is = begins.open_is;
  nothing = subst (λ (r : Ring). HoldsNothing r) (sym (ap (λ (u : Knowledge). u.ring) keeps)) begins.nothing;
}

-- and once it was left, the next one may begin
pub may_enter_again : (c : Config) (v w x y : Knowledge) (time : ℕ) → MayLoadLow v → Begins c v w time → Keeps w x → y ≡ mark_cleared c x
    → MayLoadLow y
may_enter_again c v w x y time may begins keeps left = record {
  outside = ap (λ (u : Knowledge). u.phase) left;
  no_scan = ap (λ (u : Knowledge). u.scan) left ∙ ap (λ (u : Knowledge). u.scan) keeps ∙ ap (λ (u : Knowledge). u.scan) begins.rest ∙ may.no_scan;
}

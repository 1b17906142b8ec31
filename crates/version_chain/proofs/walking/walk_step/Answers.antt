use Rattle.std.proofs.Common.{◌⊎◌, ℕ, ◌<◌, ap, inl, inr, refl, subst}
use Rattle.mv_layout.specs.Words.{IsUnset}
use Rattle.mv_core.specs.declared.view.WalkStage as core
use Rattle.mv_core.specs.Passes.{view, config_of}
use Rattle.version_chain.specs.Walks.{section_in, stand_of, time_at}
use Rattle.version_chain.proofs.Going.{same_on, of_still, may_looked, may_passed}
use Rattle.version_chain.proofs.Standing.{found_here, stands_here}
use Rattle.version_chain.proofs.Looking.{may_first, may_stamp, may_prev, at_master, walks_none, walks_looked, walks_passed, ends_at, goes_on}
use Rattle.version_chain.proofs.Looking.{stands_next, is_time}
use Rattle.version_chain.proofs.walking.walk_step.Goals as goal
use Rattle.version_chain.proofs.walking.walk_step.Goals.{then-is_unset-via-then-is_unset, then-is_unset-via-else-is_unset+then-stamp-time}

pub returns-then-link-eq0-clause-answers : goal.returns-then-link-eq0-clause-answers
returns-then-link-eq0-clause-answers g c = (c.if-link-eq0.true, refl, refl)

pub returns-then-link-eq0-clause-put : goal.returns-then-link-eq0-clause-put
returns-then-link-eq0-clause-put g c =
    at_master (view c.args.pass.now) c.args.walk.object c.args.walk.link _ c.if-link-eq0.true c.requires.stands.stands

pub returns-then-link-eq0-clause-walks : goal.returns-then-link-eq0-clause-walks
returns-then-link-eq0-clause-walks g c = walks_none (view c.args.pass.now) c.args.steps.now

pub slot_linked-slot-requires : goal.slot_linked-slot-requires
slot_linked-slot-requires g c = c.requires.stands.link c.if-link-eq0.false

pub load_first-first-requires : goal.load_first-first-requires
load_first-first-requires g c κs within = (
  within.0,
  (
    within.1,
    (
      c.requires.of,
      (
        c.requires.stands.link c.if-link-eq0.false,
        (
          c.slot_linked-slot.ensures,
          may_first (view c.args.pass.now) c.args.walk.object c.args.walk.link _ c.if-link-eq0.false c.requires.stands.stands,
        ),
      ),
    ),
  ),
)

pub load_stamp-stamp-requires : goal.load_stamp-stamp-requires
load_stamp-stamp-requires g c κs within = (
  within.0,
  (
    within.1,
    (
      of_still c.args.shared.now c.args.pass.now c.load_first-first.new.pass c.load_first-first.ensures.same c.requires.of,
      (
        c.requires.stands.link c.if-link-eq0.false,
        (
          c.slot_of_first-set.ensures,
          may_stamp (config_of c.args.shared.now) (view c.args.pass.now) (view c.load_first-first.new.pass) c.args.walk.link c.load_first-first.result
              (may_first (view c.args.pass.now) c.args.walk.object c.args.walk.link _ c.if-link-eq0.false c.requires.stands.stands)
              c.load_first-first.ensures.view,
        ),
      ),
    ),
  ),
)

pub returns-then-is_unset-clause-may : goal.returns-then-is_unset-clause-may
returns-then-is_unset-clause-may g c =
    may_passed (config_of c.args.shared.now) (view c.load_stamp-stamp.new.pass) _ _ c.load_prev-link.ensures.view
    (may_looked (config_of c.args.shared.now) (view c.args.pass.now) (view c.load_first-first.new.pass) _ _ _ _ c.load_first-first.ensures.view
    c.load_stamp-stamp.ensures.view c.requires.may)

pub returns-then-is_unset-clause-same : goal.returns-then-is_unset-clause-same
returns-then-is_unset-clause-same g c =
    same_on c.args.pass.now c.load_stamp-stamp.new.pass c.load_prev-link.new.pass
    (same_on c.args.pass.now c.load_first-first.new.pass c.load_stamp-stamp.new.pass c.load_first-first.ensures.same
    c.load_stamp-stamp.ensures.same) c.load_prev-link.ensures.same

pub returns-then-is_unset-clause-walks : goal.returns-then-is_unset-clause-walks
returns-then-is_unset-clause-walks g c =
    walks_passed (config_of c.args.shared.now) (view c.args.pass.now) (view c.load_first-first.new.pass) c.args.walk.link c.load_first-first.result
    (may_first (view c.args.pass.now) c.args.walk.object c.args.walk.link _ c.if-link-eq0.false c.requires.stands.stands)
    c.load_first-first.ensures.view (view c.load_stamp-stamp.new.pass) c.load_stamp-stamp.result c.load_stamp-stamp.ensures.view
    c.load_stamp-stamp.ensures.says (view c.load_prev-link.new.pass) c.load_prev-link.result c.load_prev-link.ensures.view
    c.args.steps.now c.load_first-first.new.steps c.load_stamp-stamp.new.steps c.load_prev-link.new.steps
    c.load_first-first.ensures.step c.load_stamp-stamp.ensures.step c.load_prev-link.ensures.step

pub returns-then-is_unset-clause-put : goal.returns-then-is_unset-clause-put
returns-then-is_unset-clause-put g c =
    stands_next (config_of c.args.shared.now) (view c.args.pass.now) (view c.load_first-first.new.pass) c.args.walk.link c.load_first-first.result
    (may_first (view c.args.pass.now) c.args.walk.object c.args.walk.link _ c.if-link-eq0.false c.requires.stands.stands)
    c.load_first-first.ensures.view (view c.load_stamp-stamp.new.pass) c.load_stamp-stamp.result c.load_stamp-stamp.ensures.view
    c.load_stamp-stamp.ensures.says (view c.load_prev-link.new.pass) c.load_prev-link.result c.load_prev-link.ensures.view
    c.args.walk.object
    (ap (λ (k : core.WalkStage). (stand_of k).object)
    (stands_here (view c.args.pass.now) c.args.walk.object c.args.walk.link _ c.if-link-eq0.false c.requires.stands.stands))
    c.load_prev-link.ensures.link

pub returns-clause-may : goal.returns-clause-may
returns-clause-may g c =
    may_looked (config_of c.args.shared.now) (view c.args.pass.now) (view c.load_first-first.new.pass) _ _ _ _ c.load_first-first.ensures.view
    c.load_stamp-stamp.ensures.view c.requires.may

pub returns-clause-same : goal.returns-clause-same
returns-clause-same g c =
    same_on c.args.pass.now c.load_first-first.new.pass c.load_stamp-stamp.new.pass c.load_first-first.ensures.same
    c.load_stamp-stamp.ensures.same

pub returns-clause-walks : goal.returns-clause-walks
returns-clause-walks g c =
    walks_looked (config_of c.args.shared.now) (view c.args.pass.now) (view c.load_first-first.new.pass) c.args.walk.link c.load_first-first.result
    (may_first (view c.args.pass.now) c.args.walk.object c.args.walk.link _ c.if-link-eq0.false c.requires.stands.stands)
    c.load_first-first.ensures.view (view c.load_stamp-stamp.new.pass) c.load_stamp-stamp.result c.load_stamp-stamp.ensures.view
    c.load_stamp-stamp.ensures.says c.args.steps.now c.load_first-first.new.steps c.load_stamp-stamp.new.steps
    c.load_first-first.ensures.step c.load_stamp-stamp.ensures.step

pub returns-clause-put : goal.returns-clause-put
returns-clause-put g c =
    let may = may_looked (config_of c.args.shared.now) (view c.args.pass.now) (view c.load_first-first.new.pass) _ _ _ _ c.load_first-first.ensures.view
    c.load_stamp-stamp.ensures.view c.requires.may in
    found_here (config_of c.args.shared.now) (view c.args.pass.now) (view c.load_first-first.new.pass) _ _ _ _ _ _ _ c.if-link-eq0.false
    c.requires.stands.link c.requires.stands.stands c.load_first-first.ensures.view c.load_stamp-stamp.ensures.view
    c.time.result (c.time.ensures (section_in (view c.load_stamp-stamp.new.pass)) may.phase) c.if-stamp-time.false c.slot_linked-slot.ensures

pub load_prev-link-requires : goal.load_prev-link-requires
load_prev-link-requires g c κs within =
    let may = may_looked (config_of c.args.shared.now) (view c.args.pass.now) (view c.load_first-first.new.pass) _ _ _ _ c.load_first-first.ensures.view
    c.load_stamp-stamp.ensures.view c.requires.may in
    let later : IsUnset c.load_stamp-stamp.result ⊎ (time_at (view c.load_stamp-stamp.new.pass) < c.load_stamp-stamp.result) =
    elim c.then-is_unset.branch [
      | then-is_unset-via-then-is_unset w ↦ inl (w.if-is_unset.ensures.0 refl)
      | then-is_unset-via-else-is_unset+then-stamp-time w ↦ inr (subst (λ (t : ℕ). t < c.load_stamp-stamp.result)
          (w.time.ensures (section_in (view c.load_stamp-stamp.new.pass)) may.phase) w.if-stamp-time.true)
    ] in (
      within.0,
      (
        within.1,
        (
          of_still c.args.shared.now c.args.pass.now c.load_stamp-stamp.new.pass
              (same_on c.args.pass.now c.load_first-first.new.pass c.load_stamp-stamp.new.pass c.load_first-first.ensures.same
              c.load_stamp-stamp.ensures.same) c.requires.of,
          (
            c.requires.stands.link c.if-link-eq0.false,
            (
              c.slot_linked-slot.ensures,
              may_prev (config_of c.args.shared.now) (view c.args.pass.now) (view c.load_first-first.new.pass) c.args.walk.link c.load_first-first.result
                  (may_first (view c.args.pass.now) c.args.walk.object c.args.walk.link _ c.if-link-eq0.false c.requires.stands.stands)
                  c.load_first-first.ensures.view (view c.load_stamp-stamp.new.pass) c.load_stamp-stamp.result c.load_stamp-stamp.ensures.view
                  c.load_stamp-stamp.ensures.says may later,
            ),
          ),
        ),
      ),
    )

pub returns-then-is_unset-clause-answers : goal.returns-then-is_unset-clause-answers
returns-then-is_unset-clause-answers g c =
    let may = may_looked (config_of c.args.shared.now) (view c.args.pass.now) (view c.load_first-first.new.pass) _ _ _ _ c.load_first-first.ensures.view
    c.load_stamp-stamp.ensures.view c.requires.may in
    let later : IsUnset c.load_stamp-stamp.result ⊎ (time_at (view c.load_stamp-stamp.new.pass) < c.load_stamp-stamp.result) =
    elim c.then-is_unset.branch [
      | then-is_unset-via-then-is_unset w ↦ inl (w.if-is_unset.ensures.0 refl)
      | then-is_unset-via-else-is_unset+then-stamp-time w ↦ inr (subst (λ (t : ℕ). t < c.load_stamp-stamp.result)
          (w.time.ensures (section_in (view c.load_stamp-stamp.new.pass)) may.phase) w.if-stamp-time.true)
    ] in
    goes_on (config_of c.args.shared.now) (view c.args.pass.now) (view c.load_first-first.new.pass) c.args.walk.link c.load_first-first.result
    (may_first (view c.args.pass.now) c.args.walk.object c.args.walk.link _ c.if-link-eq0.false c.requires.stands.stands)
    c.load_first-first.ensures.view (view c.load_stamp-stamp.new.pass) c.load_stamp-stamp.result c.load_stamp-stamp.ensures.view
    c.load_stamp-stamp.ensures.says (view c.load_prev-link.new.pass) c.load_prev-link.result c.load_prev-link.ensures.view
    c.args.walk refl c.if-link-eq0.false later c.args.steps.now c.load_first-first.new.steps c.load_stamp-stamp.new.steps
    c.load_prev-link.new.steps c.load_first-first.ensures.step c.load_stamp-stamp.ensures.step c.load_prev-link.ensures.step

pub returns-clause-answers : goal.returns-clause-answers
returns-clause-answers g c =
    let may = may_looked (config_of c.args.shared.now) (view c.args.pass.now) (view c.load_first-first.new.pass) _ _ _ _ c.load_first-first.ensures.view
    c.load_stamp-stamp.ensures.view c.requires.may in
    ends_at (config_of c.args.shared.now) (view c.args.pass.now) (view c.load_first-first.new.pass) c.args.walk.link c.load_first-first.result
    (may_first (view c.args.pass.now) c.args.walk.object c.args.walk.link _ c.if-link-eq0.false c.requires.stands.stands)
    c.load_first-first.ensures.view (view c.load_stamp-stamp.new.pass) c.load_stamp-stamp.result c.load_stamp-stamp.ensures.view
    c.load_stamp-stamp.ensures.says c.args.walk (record { link = c.args.walk.link; slot = c.slot_linked-slot.result }) refl refl
    c.if-link-eq0.false c.time.result (c.time.ensures (section_in (view c.load_stamp-stamp.new.pass)) may.phase) c.if-stamp-time.false
    (is_time _ c.if-is_unset.ensures.1) c.args.steps.now c.load_first-first.new.steps c.load_stamp-stamp.new.steps
    c.load_first-first.ensures.step c.load_stamp-stamp.ensures.step

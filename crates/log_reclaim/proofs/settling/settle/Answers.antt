use Rattle.std.proofs.Common.{◌≡◌, false, List, [], refl, sym, subst, ⊎_elim, arith, length}
use Rattle.mv_history.specs.declared.Step.{Step}
use Rattle.seat_log.specs.mv_core.declared.view.Knowledge.{Knowledge}
use Rattle.seat_log.specs.mv_core.Passes.{view, config_of}
use Rattle.seat_log.specs.Notes.{Noted}
use Rattle.log_reclaim.specs.declared.settling.HeadHolders.{HeadHolders}
use Rattle.log_reclaim.specs.Tries.{LoadsSuper}
use Rattle.log_reclaim.specs.Sweeps.{found_set, SettlesOne}
use Rattle.seat_log.proofs.commit_clock_lemmas.Hearing.{hears_none, hears_on}
use Rattle.log_reclaim.proofs.rests.Heard.{heard_super}
use Rattle.log_reclaim.proofs.looks.OneNote.{untimed_same, loads_is, log_same, tries_is, may_try, knows_still}
use Rattle.log_reclaim.proofs.looks.OneLook.{settles_timed, settles_found, settles_unbacked, settles_tried}
use Rattle.seat_log.proofs.OwnSlots.{same_none, same_on, of_still}
use Rattle.log_reclaim.proofs.Lengths.{none_more, one_longer, super_bound, looks_bound}
use Rattle.log_reclaim.proofs.settling.settle.Goals as goal

pub returns-then-version-ne0-clause-settles : goal.returns-then-version-ne0-clause-settles
returns-then-version-ne0-clause-settles g c clock may =
    let r = c.requires in (
      [],
      settles_timed _ _ (config_of c.args.shared.now) (view c.args.pass.now) c.args.log.now c.args.mark.now clock c.args.pass.now.known r.of.2 r.stands may
          c.args.index c.note-version.result c.note-version.ensures c.args.back c.args.found.now r.table c.if-version-ne0.true,
    )

pub load_super-requires : goal.load_super-requires
load_super-requires g c κs within =
    let r = c.requires in
    let may = r.may.1 in
    let none : c.note-version.result.dead ≡ 0 = omega arith in (
      within.0,
      (
        within.1,
        (
          r.of,
          (
            may.outside,
            (
              r.stands,
              untimed_same (config_of c.args.shared.now) (view c.args.pass.now) c.args.log.now r.stands c.args.index c.note-version.result
                  c.note-version.ensures _ _ c.args.pass.now.known may.outside.outside c.args.log.now refl none,
            ),
          ),
        ),
      ),
    )

pub returns-then-load_super-clause-settles : goal.returns-then-load_super-clause-settles
returns-then-load_super-clause-settles g c clock may =
    let r = c.requires in
    let none : c.note-version.result.dead ≡ 0 = omega arith in
    let u : Knowledge = view c.load_super.new.pass in
    let m : Noted = c.load_super.new.log in
    let loads = loads_is (config_of c.args.shared.now) (view c.args.pass.now) c.args.log.now r.stands c.args.index c.note-version.result
    c.note-version.ensures u m c.load_super.result c.load_super.ensures.loads in
    ⊎_elim
    (λ e. settles_found _ _ (config_of c.args.shared.now) (view c.args.pass.now) c.args.log.now c.args.mark.now clock c.args.pass.now.known r.of.2 r.stands
    may c.args.index c.note-version.result c.note-version.ensures u m c.args.back c.args.found.now r.table none
    (subst (LoadsSuper (config_of c.args.shared.now) (view c.args.pass.now) u c.args.log.now m c.note-version.result) e loads))
    (λ e.
    let zero = subst (LoadsSuper (config_of c.args.shared.now) (view c.args.pass.now) u c.args.log.now m c.note-version.result) e.0 loads in
    let same = log_same (config_of c.args.shared.now) (view c.args.pass.now) c.args.log.now r.stands c.args.index c.note-version.result
    c.note-version.ensures u m zero in
    settles_unbacked _ _ (config_of c.args.shared.now) (view c.args.pass.now) c.args.log.now c.args.mark.now clock c.args.pass.now.known r.of.2 r.stands may
    c.args.index c.note-version.result c.note-version.ensures u
    (subst (λ (z : Noted). LoadsSuper (config_of c.args.shared.now) (view c.args.pass.now) u c.args.log.now z c.note-version.result false) same zero) none
    m c.args.back c.args.found.now r.table e.1 same)
    c.then-load_super.either

pub write_back-tried-requires : goal.write_back-tried-requires
write_back-tried-requires g c κs within =
    let r = c.requires in
    let may = r.may.1 in
    let none : c.note-version.result.dead ≡ 0 = omega arith in
    let loads = loads_is (config_of c.args.shared.now) (view c.args.pass.now) c.args.log.now r.stands c.args.index c.note-version.result
    c.note-version.ensures (view c.load_super.new.pass) c.load_super.new.log false c.if-load_super.ensures.loads in
    let same = log_same (config_of c.args.shared.now) (view c.args.pass.now) c.args.log.now r.stands c.args.index c.note-version.result c.note-version.ensures
    (view c.load_super.new.pass) c.load_super.new.log loads in (
      within.0,
      (
        within.1,
        (
          of_still c.args.shared.now c.args.pass.now c.load_super.new.pass c.load_super.ensures.same r.of,
          (
            may_try (config_of c.args.shared.now) (view c.args.pass.now) c.args.log.now r.stands c.args.index c.note-version.result c.note-version.ensures
                (view c.load_super.new.pass) c.load_super.new.log false loads,
            (
              c.load_super.ensures.stands,
              (
                untimed_same (config_of c.args.shared.now) (view c.args.pass.now) c.args.log.now r.stands c.args.index c.note-version.result
                    c.note-version.ensures _ _ c.args.pass.now.known may.outside.outside c.load_super.new.log same none,
                knows_still (config_of c.args.shared.now) (view c.args.pass.now) c.args.log.now r.stands c.args.index c.note-version.result
                    c.note-version.ensures (view c.load_super.new.pass) c.load_super.new.log false c.args.mark.now loads may.known,
              ),
            ),
          ),
        ),
      ),
    )

pub returns-clause-settles : goal.returns-clause-settles
returns-clause-settles g c clock may =
    let r = c.requires in
    let none : c.note-version.result.dead ≡ 0 = omega arith in
    let loads = loads_is (config_of c.args.shared.now) (view c.args.pass.now) c.args.log.now r.stands c.args.index c.note-version.result
    c.note-version.ensures (view c.load_super.new.pass) c.load_super.new.log false c.if-load_super.ensures.loads in
    let same = log_same (config_of c.args.shared.now) (view c.args.pass.now) c.args.log.now r.stands c.args.index c.note-version.result c.note-version.ensures
    (view c.load_super.new.pass) c.load_super.new.log loads in
    let t = tries_is (config_of c.args.shared.now) (view c.args.pass.now) c.args.log.now r.stands c.args.index c.note-version.result c.note-version.ensures
    (view c.load_super.new.pass) (view c.write_back-tried.new.pass) c.load_super.new.log c.write_back-tried.new.log c.args.mark.now
    c.write_back-tried.result same c.write_back-tried.ensures.tries in
    let zero = subst
    (λ (z : Noted). LoadsSuper (config_of c.args.shared.now) (view c.args.pass.now) (view c.load_super.new.pass) c.args.log.now z c.note-version.result
    false) same loads in
    let one = settles_tried _ _ (config_of c.args.shared.now) (view c.args.pass.now) c.args.log.now c.args.mark.now clock c.args.pass.now.known r.of.2
    r.stands may c.args.index c.note-version.result c.note-version.ensures (view c.load_super.new.pass) zero none (view c.write_back-tried.new.pass)
    c.write_back-tried.new.log c.write_back-tried.result t c.args.found.now r.table in
    subst (λ (f : HeadHolders). (made : List Step) × SettlesOne (config_of c.args.shared.now) (view c.args.pass.now) (view c.write_back-tried.new.pass)
    c.args.log.now c.write_back-tried.new.log made c.args.mark.now clock c.args.back c.args.found.now f c.args.index c.write_back-tried.result.clock)
    (sym c.note.ensures)
    (subst (λ b. (made : List Step) × SettlesOne (config_of c.args.shared.now) (view c.args.pass.now) (view c.write_back-tried.new.pass) c.args.log.now
    c.write_back-tried.new.log made c.args.mark.now clock b c.args.found.now (found_set c.args.found.now c.args.index c.write_back-tried.result.above)
    c.args.index c.write_back-tried.result.clock) (sym c.if-not-back.false) (_, one))

pub returns-then-version-ne0-clause-hears : goal.returns-then-version-ne0-clause-hears
returns-then-version-ne0-clause-hears g c = hears_none _ _ 0 refl

pub returns-then-load_super-clause-hears : goal.returns-then-load_super-clause-hears
returns-then-load_super-clause-hears g c =
    heard_super (config_of c.args.shared.now) (view c.args.pass.now) (view c.load_super.new.pass) _ _ _ _ 0 c.load_super.ensures.loads

pub returns-clause-hears : goal.returns-clause-hears
returns-clause-hears g c =
    hears_on (view c.args.pass.now) (view c.load_super.new.pass) (view c.write_back-tried.new.pass) c.write_back-tried.result.clock
    (heard_super (config_of c.args.shared.now) (view c.args.pass.now) (view c.load_super.new.pass) _ _ _ _ c.write_back-tried.result.clock
    c.load_super.ensures.loads) c.write_back-tried.ensures.hears

pub returns-then-version-ne0-clause-same : goal.returns-then-version-ne0-clause-same
returns-then-version-ne0-clause-same g c = same_none c.args.pass.now

pub returns-then-version-ne0-clause-stands : goal.returns-then-version-ne0-clause-stands
returns-then-version-ne0-clause-stands g c = c.requires.stands

pub returns-then-version-ne0-clause-cost : goal.returns-then-version-ne0-clause-cost
returns-then-version-ne0-clause-cost g c = none_more c.args.steps.now 18

pub returns-then-version-ne0-clause-trail : goal.returns-then-version-ne0-clause-trail
returns-then-version-ne0-clause-trail g c = none_more (length (view c.args.pass.now).trail) 18

pub returns-then-load_super-clause-same : goal.returns-then-load_super-clause-same
returns-then-load_super-clause-same g c = c.load_super.ensures.same

pub returns-then-load_super-clause-stands : goal.returns-then-load_super-clause-stands
returns-then-load_super-clause-stands g c = c.load_super.ensures.stands

pub returns-then-load_super-clause-cost : goal.returns-then-load_super-clause-cost
returns-then-load_super-clause-cost g c = super_bound _ _ c.load_super.ensures.step

pub returns-then-load_super-clause-trail : goal.returns-then-load_super-clause-trail
returns-then-load_super-clause-trail g c = super_bound _ _ (one_longer _ _ _ c.load_super.ensures.loads.makes.reclaims.trail)

pub returns-clause-same : goal.returns-clause-same
returns-clause-same g c = same_on c.args.pass.now c.load_super.new.pass c.write_back-tried.new.pass c.load_super.ensures.same c.write_back-tried.ensures.same

pub returns-clause-stands : goal.returns-clause-stands
returns-clause-stands g c = c.write_back-tried.ensures.stands

pub returns-clause-cost : goal.returns-clause-cost
returns-clause-cost g c = looks_bound _ c.load_super.new.steps _ c.load_super.ensures.step c.write_back-tried.ensures.cost

pub returns-clause-trail : goal.returns-clause-trail
returns-clause-trail g c =
    looks_bound _ (length (view c.load_super.new.pass).trail) _ (one_longer _ _ _ c.load_super.ensures.loads.makes.reclaims.trail)
    c.write_back-tried.ensures.trail

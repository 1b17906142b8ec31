use Rattle.std.proofs.Common.{◌≡◌, ◌≢◌, refl, sym, ap, ◌∙◌, subst, arith, Result, Ok, Err, None, ℕ, length}
use Rattle.seat_log.specs.mv_core.Passes.{view, config_of}
use Rattle.log_reclaim.specs.declared.settling.WriteBackSeen.{WriteBackSeen}
use Rattle.log_reclaim.specs.declared.writing_back.StartedWriteBack.{StartedWriteBack}
use Rattle.log_reclaim.specs.declared.writing_back.NoBack.{NoBack}
use Rattle.log_reclaim.specs.declared.writing_back.NoBack.TheVariants.{Young, Gone, Above}
use Rattle.log_reclaim.specs.Backs.{StartsSo}
use Rattle.log_reclaim.specs.Tries.{LoadsSuper, TriesOne}
use Rattle.seat_log.proofs.commit_clock_lemmas.Hearing.{hears_on, hears_more}
use Rattle.log_reclaim.proofs.rests.Heard.{heard_super}
use Rattle.log_reclaim.proofs.looks.Visits.{looked_stands, left_stands}
use Rattle.log_reclaim.proofs.looks.Trying.{tries_young, gone_may, gone_number, gone_empty, tries_gone, tries_own, tries_above, tries_cut, tries_lost}
use Rattle.seat_log.specs.mv_core.declared.view.Knowledge.{Knowledge}
use Rattle.seat_log.specs.Stands.{Stands}
use Rattle.seat_log.proofs.OwnSlots.{same_on, of_still}
use Rattle.log_reclaim.proofs.Lengths.{one_longer, two_bounds, more_bound, gone_bound}
use Rattle.log_reclaim.proofs.settling.write_back.Goals as goal
use Rattle.log_reclaim.proofs.settling.write_back.Goals.{in-Cut, in-Above}

-- the answer isn't that the version is young
not_young : (r : Result StartedWriteBack NoBack) (b : NoBack) → r ≡ Err b → b ≢ Young → r ≢ Err Young
not_young r b is other e = let f : Err b ≡ Err Young = sym is ∙ e in other (cc)

is_ok : (r : Result StartedWriteBack NoBack) (b : StartedWriteBack) → r ≡ Ok b → r ≢ Err Young
is_ok r b is e = let f : Ok b ≡ Err Young = sym is ∙ e in absurd (cc)

gone_old : Gone ≢ Young
gone_old e = cc

above_old : (seat : ℕ) → Above seat ≢ Young
above_old seat e = cc

pub store_all-end-requires-clause-stands : goal.store_all-end-requires-clause-stands
store_all-end-requires-clause-stands g c =
    let s = subst
    (StartsSo (config_of c.args.shared.now) (view c.args.pass.now) (view c.start_clock-start.new.pass) c.args.log.now g.at c.args.mark.now
    c.args.steps.now c.start_clock-start.new.steps) c.in-Ok.is c.start_clock-start.ensures.starts in
    looked_stands (config_of c.args.shared.now) (view c.args.pass.now) (view c.start_clock-start.new.pass) g.at.object _ s.1 c.args.log.now c.requires.1.1.1.1.0

pub returns-in-Ok-clause-tries : goal.returns-in-Ok-clause-tries
returns-in-Ok-clause-tries g c =
    let s = subst
    (StartsSo (config_of c.args.shared.now) (view c.args.pass.now) (view c.start_clock-start.new.pass) c.args.log.now g.at c.args.mark.now
    c.args.steps.now c.start_clock-start.new.steps) c.in-Ok.is c.start_clock-start.ensures.starts in
    let last = c.start_clock-start.ensures.clock (is_ok c.start_clock-start.result.0 c.in-Ok.back c.in-Ok.is) in
    elim c.match-end.branch [
      | in-Cut w ↦
          subst (λ (t : WriteBackSeen). TriesOne (config_of c.args.shared.now) (view c.args.pass.now) (view c.store_all-end.new.pass) c.args.log.now
          c.store_all-end.new.log g.at c.args.mark.now t) (λ i. record { above = sym w.above-is i; clock = sym c.max.ensures i })
          (tries_cut _ _ (config_of c.args.shared.now) (view c.args.pass.now) c.args.log.now g.at c.args.mark.now c.args.pass.now.known c.requires.1.1.1.0
          c.requires.1.1.0.2 (view c.start_clock-start.new.pass) (view c.store_all-end.new.pass) c.store_all-end.new.log _ c.in-Ok.back
          c.store_all-end.result.0 c.store_all-end.result.1 c.start_clock-start.result.1 s.1 c.store_all-end.ensures.stores last w.in-Cut.is
          (ap (λ (b : StartedWriteBack). b.position) s.3))
      | in-Above w ↦
          subst (λ (t : WriteBackSeen). TriesOne (config_of c.args.shared.now) (view c.args.pass.now) (view c.store_all-end.new.pass) c.args.log.now
          c.store_all-end.new.log g.at c.args.mark.now t) (λ i. record { above = sym w.above-is i; clock = sym c.max.ensures i })
          (tries_lost _ _ (config_of c.args.shared.now) (view c.args.pass.now) c.args.log.now g.at c.args.mark.now c.args.pass.now.known c.requires.1.1.1.0
          c.requires.1.1.0.2 (view c.start_clock-start.new.pass) (view c.store_all-end.new.pass) c.store_all-end.new.log _ c.in-Ok.back
          c.store_all-end.result.0 c.store_all-end.result.1 c.start_clock-start.result.1 s.1 c.store_all-end.ensures.stores last c.args.position
          c.requires.1.1.1.1.0 c.requires.1.1.1.1.1.0 w.in-Above.seat w.in-Above.is (ap (λ (b : StartedWriteBack). b.object) s.3))
    ]

pub load_super-requires : goal.load_super-requires
load_super-requires g c κs within =
    let is : c.in-Err-Gone.field-0 ≡ Gone = rw c.in-Err-Gone.is at c.in-Err-Gone.field-0-is in
    let s = subst
    (StartsSo (config_of c.args.shared.now) (view c.args.pass.now) (view c.start_clock-start.new.pass) c.args.log.now g.at c.args.mark.now
    c.args.steps.now c.start_clock-start.new.steps) (c.in-Err-Gone.is ∙ ap Err is) c.start_clock-start.ensures.starts in
    let last = (c.start_clock-start.ensures.clock
    (not_young c.start_clock-start.result.0 c.in-Err-Gone.field-0 c.in-Err-Gone.is (λ e. gone_old (sym is ∙ e)))) in
    let may = gone_may _ _ (config_of c.args.shared.now) (view c.args.pass.now) c.args.log.now g.at c.args.mark.now c.args.pass.now.known c.requires.1.1.1.0
    c.requires.1.1.0.2 (view c.start_clock-start.new.pass) 0 s.1 c.start_clock-start.result.1 last in
    let stands =
    left_stands (config_of c.args.shared.now) (view c.args.pass.now) s.1.inside g.at.object 0 s.1.looked (view c.start_clock-start.new.pass) s.1.left
    c.args.log.now c.requires.1.1.1.1.0 in (
      within.0,
      (
        within.1,
        (
          of_still c.args.shared.now c.args.pass.now c.start_clock-start.new.pass c.start_clock-start.ensures.same c.requires.1.1.0,
          (may, (stands, c.requires.1.1.1.1.1.0)),
        ),
      ),
    )

pub returns-in-Err-Young-clause-tries : goal.returns-in-Err-Young-clause-tries
returns-in-Err-Young-clause-tries g c =
    let is : c.in-Err-Young.field-0 ≡ Young = rw c.in-Err-Young.is at c.in-Err-Young.field-0-is in
    let s = subst
    (StartsSo (config_of c.args.shared.now) (view c.args.pass.now) (view c.start_clock-start.new.pass) c.args.log.now g.at c.args.mark.now
    c.args.steps.now c.start_clock-start.new.steps) (c.in-Err-Young.is ∙ ap Err is) c.start_clock-start.ensures.starts in
    let clock = c.start_clock-start.ensures.young (c.in-Err-Young.is ∙ ap Err is) in
    subst (λ x. TriesOne (config_of c.args.shared.now) (view c.args.pass.now) x c.args.log.now c.args.log.now g.at c.args.mark.now
    (record { above = None; clock = c.start_clock-start.result.1 })) (sym s.1)
    (subst (λ t. TriesOne (config_of c.args.shared.now) (view c.args.pass.now) (view c.args.pass.now) c.args.log.now c.args.log.now g.at c.args.mark.now
    (record { above = None; clock = t })) (sym clock)
    (tries_young _ _ (config_of c.args.shared.now) (view c.args.pass.now) c.args.log.now g.at c.args.mark.now c.args.pass.now.known c.requires.1.1.1.0
    c.requires.1.1.0.2 s.0))

pub returns-in-Err-Gone-clause-tries : goal.returns-in-Err-Gone-clause-tries
returns-in-Err-Gone-clause-tries g c =
    let is : c.in-Err-Gone.field-0 ≡ Gone = rw c.in-Err-Gone.is at c.in-Err-Gone.field-0-is in
    let s = subst
    (StartsSo (config_of c.args.shared.now) (view c.args.pass.now) (view c.start_clock-start.new.pass) c.args.log.now g.at c.args.mark.now
    c.args.steps.now c.start_clock-start.new.steps) (c.in-Err-Gone.is ∙ ap Err is) c.start_clock-start.ensures.starts in
    let last = (c.start_clock-start.ensures.clock
    (not_young c.start_clock-start.result.0 c.in-Err-Gone.field-0 c.in-Err-Gone.is (λ e. gone_old (sym is ∙ e)))) in
    let empty = gone_empty _ _ (config_of c.args.shared.now) (view c.args.pass.now) c.args.log.now g.at c.args.mark.now c.args.pass.now.known
    c.requires.1.1.1.0 c.requires.1.1.0.2 (view c.start_clock-start.new.pass) 0 s.1 c.start_clock-start.result.1 last c.args.position c.requires.1.1.1.1.0
    c.requires.1.1.1.1.1.0 refl in
    let loads = subst
    (λ b. LoadsSuper (config_of c.args.shared.now) (view c.start_clock-start.new.pass) (view c.load_super.new.pass) c.args.log.now c.load_super.new.log
    g.at b) (c.load_super.ensures.empty empty) c.load_super.ensures.loads in
    tries_gone _ _ (config_of c.args.shared.now) (view c.args.pass.now) c.args.log.now g.at c.args.mark.now c.args.pass.now.known c.requires.1.1.1.0
    c.requires.1.1.0.2 (view c.start_clock-start.new.pass) 0 s.1 c.start_clock-start.result.1 last (view c.load_super.new.pass) c.load_super.new.log loads

pub returns-then-seat-clause-stands : goal.returns-then-seat-clause-stands
returns-then-seat-clause-stands g c =
    let is : c.in-Err-Above.field-0 ≡ Above c.in-Err-Above.seat = rw c.in-Err-Above.is at c.in-Err-Above.field-0-is in
    let s = subst
    (StartsSo (config_of c.args.shared.now) (view c.args.pass.now) (view c.start_clock-start.new.pass) c.args.log.now g.at c.args.mark.now
    c.args.steps.now c.start_clock-start.new.steps) (c.in-Err-Above.is ∙ ap Err is) c.start_clock-start.ensures.starts in
    left_stands (config_of c.args.shared.now) (view c.args.pass.now) s.2.inside g.at.object s.1 s.2.looked (view c.start_clock-start.new.pass) s.2.left
    c.args.log.now c.requires.1.1.1.1.0

pub returns-then-seat-clause-tries : goal.returns-then-seat-clause-tries
returns-then-seat-clause-tries g c =
    let is : c.in-Err-Above.field-0 ≡ Above c.in-Err-Above.seat = rw c.in-Err-Above.is at c.in-Err-Above.field-0-is in
    let s = subst
    (StartsSo (config_of c.args.shared.now) (view c.args.pass.now) (view c.start_clock-start.new.pass) c.args.log.now g.at c.args.mark.now
    c.args.steps.now c.start_clock-start.new.steps) (c.in-Err-Above.is ∙ ap Err is) c.start_clock-start.ensures.starts in
    let last = (c.start_clock-start.ensures.clock
    (not_young c.start_clock-start.result.0 c.in-Err-Above.field-0 c.in-Err-Above.is
    (λ e. above_old _ (sym is ∙ e)))) in
    let own = c.seat.ensures ∙ gone_number _ _ (config_of c.args.shared.now) (view c.args.pass.now) c.args.log.now g.at c.args.mark.now c.args.pass.now.known
    c.requires.1.1.1.0 c.requires.1.1.0.2 (view c.start_clock-start.new.pass) s.1 s.2 c.start_clock-start.result.1 last in
    tries_own _ _ (config_of c.args.shared.now) (view c.args.pass.now) c.args.log.now g.at c.args.mark.now c.args.pass.now.known c.requires.1.1.1.0
    c.requires.1.1.0.2 (view c.start_clock-start.new.pass) s.1 s.2 c.start_clock-start.result.1 last c.in-Err-Above.seat s.3 (c.if-seat.true ∙ own)

pub returns-else-seat-clause-stands : goal.returns-else-seat-clause-stands
returns-else-seat-clause-stands g c =
    let is : c.in-Err-Above.field-0 ≡ Above c.in-Err-Above.seat = rw c.in-Err-Above.is at c.in-Err-Above.field-0-is in
    let s = subst
    (StartsSo (config_of c.args.shared.now) (view c.args.pass.now) (view c.start_clock-start.new.pass) c.args.log.now g.at c.args.mark.now
    c.args.steps.now c.start_clock-start.new.steps) (c.in-Err-Above.is ∙ ap Err is) c.start_clock-start.ensures.starts in
    left_stands (config_of c.args.shared.now) (view c.args.pass.now) s.2.inside g.at.object s.1 s.2.looked (view c.start_clock-start.new.pass) s.2.left
    c.args.log.now c.requires.1.1.1.1.0

pub returns-else-seat-clause-tries : goal.returns-else-seat-clause-tries
returns-else-seat-clause-tries g c =
    let is : c.in-Err-Above.field-0 ≡ Above c.in-Err-Above.seat = rw c.in-Err-Above.is at c.in-Err-Above.field-0-is in
    let s = subst
    (StartsSo (config_of c.args.shared.now) (view c.args.pass.now) (view c.start_clock-start.new.pass) c.args.log.now g.at c.args.mark.now
    c.args.steps.now c.start_clock-start.new.steps) (c.in-Err-Above.is ∙ ap Err is) c.start_clock-start.ensures.starts in
    let last = (c.start_clock-start.ensures.clock
    (not_young c.start_clock-start.result.0 c.in-Err-Above.field-0 c.in-Err-Above.is
    (λ e. above_old _ (sym is ∙ e)))) in
    let own = c.seat.ensures ∙ gone_number _ _ (config_of c.args.shared.now) (view c.args.pass.now) c.args.log.now g.at c.args.mark.now c.args.pass.now.known
    c.requires.1.1.1.0 c.requires.1.1.0.2 (view c.start_clock-start.new.pass) s.1 s.2 c.start_clock-start.result.1 last in
    tries_above _ _ (config_of c.args.shared.now) (view c.args.pass.now) c.args.log.now g.at c.args.mark.now c.args.pass.now.known c.requires.1.1.1.0
    c.requires.1.1.0.2 (view c.start_clock-start.new.pass) s.1 s.2 c.start_clock-start.result.1 last c.args.position
    c.requires.1.1.1.1.0 c.requires.1.1.1.1.1.0 c.in-Err-Above.seat s.3
    (λ e. c.if-seat.false (e ∙ sym own))

pub returns-in-Ok-clause-hears : goal.returns-in-Ok-clause-hears
returns-in-Ok-clause-hears g c =
    let most = c.max.ensures in
    hears_on (view c.args.pass.now) (view c.start_clock-start.new.pass) (view c.store_all-end.new.pass) c.max.result
    (hears_more (view c.args.pass.now) (view c.start_clock-start.new.pass) c.start_clock-start.result.1 c.max.result (omega arith)
    c.start_clock-start.ensures.hears)
    (hears_more (view c.start_clock-start.new.pass) (view c.store_all-end.new.pass) c.store_all-end.result.1 c.max.result (omega arith)
    c.store_all-end.ensures.hears)

pub returns-in-Err-Gone-clause-hears : goal.returns-in-Err-Gone-clause-hears
returns-in-Err-Gone-clause-hears g c =
    hears_on (view c.args.pass.now) (view c.start_clock-start.new.pass) (view c.load_super.new.pass) c.start_clock-start.result.1
    c.start_clock-start.ensures.hears
    (heard_super (config_of c.args.shared.now) (view c.start_clock-start.new.pass) (view c.load_super.new.pass) _ _ _ _ c.start_clock-start.result.1
    c.load_super.ensures.loads)

pub store_all-end-requires-clause-of : goal.store_all-end-requires-clause-of
store_all-end-requires-clause-of g c = of_still c.args.shared.now c.args.pass.now c.start_clock-start.new.pass c.start_clock-start.ensures.same c.requires.1.1.0

pub store_all-end-requires-clause-writing : goal.store_all-end-requires-clause-writing
store_all-end-requires-clause-writing g c =
    let s = subst
    (StartsSo (config_of c.args.shared.now) (view c.args.pass.now) (view c.start_clock-start.new.pass) c.args.log.now g.at c.args.mark.now
    c.args.steps.now c.start_clock-start.new.steps) c.in-Ok.is c.start_clock-start.ensures.starts in
    s.2

pub store_all-end-requires-clause-begun : goal.store_all-end-requires-clause-begun
store_all-end-requires-clause-begun g c =
    let s = subst
    (StartsSo (config_of c.args.shared.now) (view c.args.pass.now) (view c.start_clock-start.new.pass) c.args.log.now g.at c.args.mark.now
    c.args.steps.now c.start_clock-start.new.steps) c.in-Ok.is c.start_clock-start.ensures.starts in
    ap (λ (b : StartedWriteBack). b.stored) s.3

pub returns-in-Ok-clause-same : goal.returns-in-Ok-clause-same
returns-in-Ok-clause-same g c =
    same_on c.args.pass.now c.start_clock-start.new.pass c.store_all-end.new.pass c.start_clock-start.ensures.same c.store_all-end.ensures.same

pub returns-in-Ok-clause-stands : goal.returns-in-Ok-clause-stands
returns-in-Ok-clause-stands g c = c.store_all-end.ensures.stands

pub returns-in-Ok-clause-cost : goal.returns-in-Ok-clause-cost
returns-in-Ok-clause-cost g c = two_bounds _ c.start_clock-start.new.steps _ 8 9 c.start_clock-start.ensures.cost c.store_all-end.ensures.cost

pub returns-in-Ok-clause-trail : goal.returns-in-Ok-clause-trail
returns-in-Ok-clause-trail g c =
    two_bounds _ (length (view c.start_clock-start.new.pass).trail) _ 8 9 c.start_clock-start.ensures.trail c.store_all-end.ensures.trail

pub returns-in-Err-Young-clause-same : goal.returns-in-Err-Young-clause-same
returns-in-Err-Young-clause-same g c = c.start_clock-start.ensures.same

pub returns-in-Err-Young-clause-stands : goal.returns-in-Err-Young-clause-stands
returns-in-Err-Young-clause-stands g c =
    let is : c.in-Err-Young.field-0 ≡ Young = rw c.in-Err-Young.is at c.in-Err-Young.field-0-is in
    let s = subst
    (StartsSo (config_of c.args.shared.now) (view c.args.pass.now) (view c.start_clock-start.new.pass) c.args.log.now g.at c.args.mark.now
    c.args.steps.now c.start_clock-start.new.steps) (c.in-Err-Young.is ∙ ap Err is) c.start_clock-start.ensures.starts in
    subst (λ (w : Knowledge). Stands (config_of c.args.shared.now) w c.args.log.now) (sym s.1) c.requires.1.1.1.1.0

pub returns-in-Err-Young-clause-cost : goal.returns-in-Err-Young-clause-cost
returns-in-Err-Young-clause-cost g c = more_bound _ _ 8 9 c.start_clock-start.ensures.cost

pub returns-in-Err-Young-clause-trail : goal.returns-in-Err-Young-clause-trail
returns-in-Err-Young-clause-trail g c = more_bound _ _ 8 9 c.start_clock-start.ensures.trail

pub returns-in-Err-Young-clause-hears : goal.returns-in-Err-Young-clause-hears
returns-in-Err-Young-clause-hears g c = c.start_clock-start.ensures.hears

pub returns-then-seat-clause-same : goal.returns-then-seat-clause-same
returns-then-seat-clause-same g c = c.start_clock-start.ensures.same

pub returns-then-seat-clause-cost : goal.returns-then-seat-clause-cost
returns-then-seat-clause-cost g c = more_bound _ _ 8 9 c.start_clock-start.ensures.cost

pub returns-then-seat-clause-trail : goal.returns-then-seat-clause-trail
returns-then-seat-clause-trail g c = more_bound _ _ 8 9 c.start_clock-start.ensures.trail

pub returns-then-seat-clause-hears : goal.returns-then-seat-clause-hears
returns-then-seat-clause-hears g c = c.start_clock-start.ensures.hears

pub returns-else-seat-clause-same : goal.returns-else-seat-clause-same
returns-else-seat-clause-same g c = c.start_clock-start.ensures.same

pub returns-else-seat-clause-cost : goal.returns-else-seat-clause-cost
returns-else-seat-clause-cost g c = more_bound _ _ 8 9 c.start_clock-start.ensures.cost

pub returns-else-seat-clause-trail : goal.returns-else-seat-clause-trail
returns-else-seat-clause-trail g c = more_bound _ _ 8 9 c.start_clock-start.ensures.trail

pub returns-else-seat-clause-hears : goal.returns-else-seat-clause-hears
returns-else-seat-clause-hears g c = c.start_clock-start.ensures.hears

pub returns-in-Err-Gone-clause-same : goal.returns-in-Err-Gone-clause-same
returns-in-Err-Gone-clause-same g c =
    same_on c.args.pass.now c.start_clock-start.new.pass c.load_super.new.pass c.start_clock-start.ensures.same c.load_super.ensures.same

pub returns-in-Err-Gone-clause-stands : goal.returns-in-Err-Gone-clause-stands
returns-in-Err-Gone-clause-stands g c = c.load_super.ensures.stands

pub returns-in-Err-Gone-clause-cost : goal.returns-in-Err-Gone-clause-cost
returns-in-Err-Gone-clause-cost g c = gone_bound _ c.start_clock-start.new.steps _ c.start_clock-start.ensures.cost c.load_super.ensures.step

pub returns-in-Err-Gone-clause-trail : goal.returns-in-Err-Gone-clause-trail
returns-in-Err-Gone-clause-trail g c =
    gone_bound _ (length (view c.start_clock-start.new.pass).trail) _ c.start_clock-start.ensures.trail
    (one_longer _ _ _ c.load_super.ensures.loads.makes.reclaims.trail)

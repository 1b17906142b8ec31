use Rattle.std.proofs.Common.{refl, sym, ap, ◌∙◌, arith, ℕ, ◌+◌, ◌<◌, None}
use Rattle.seat_log.specs.mv_core.declared.ring.WriteSetStatus.TheVariants.{Aborted}
use Rattle.seat_log.specs.mv_core.Rings.{index_of}
use Rattle.seat_log.specs.mv_core.Passes.{config_of}
use Rattle.seat_log.specs.Notes.{held_from}
use Rattle.seat_log.proofs.OwnSlots.{same_none}
use Rattle.commit_abort.proofs.aborting.abort_death.Goals as goal

pub load_death-requires-clause-may : goal.load_death-requires-clause-may
load_death-requires-clause-may g c =
    let l = c.args.log.now in
    let k = c.requires.aborting in
    let held = c.held.ensures.held in
    let ne = c.if-held-eq0.false in
    let some : 0 < l.held = omega arith in
    let gone = k.1.unlocks.gone (held_from l) (omega arith) (omega arith) in
    (index_of (config_of c.args.shared.now) (l.freed + held_from l), gone.0, Aborted None, gone.1, refl)

pub returns-clause-death : goal.returns-clause-death
returns-clause-death g c =
    let held = c.held.ensures.held in
    let ne = c.if-held-eq0.false in
    let v = c.load_death.ensures.view in
    record {
      none = λ e. absurd (ne (held ∙ e));
      some = λ some.
          record {
            word = c.load_death.result;
            history = v.0;
            whole = v.1;
            view = v.2;
            dead_is = ap (λ (t : ℕ). t + 1) c.clock_time.ensures;
            step = c.load_death.ensures.step;
          };
    }

pub returns-clause-same : goal.returns-clause-same
returns-clause-same g c = c.load_death.ensures.same

pub load_death-requires-clause-of : goal.load_death-requires-clause-of
load_death-requires-clause-of g c = c.requires.of

pub returns-then-held-eq0-clause-death : goal.returns-then-held-eq0-clause-death
returns-then-held-eq0-clause-death g c =
    record { none = λ e. (refl, refl, refl); some = λ some. absurd (some (sym c.held.ensures.held ∙ c.if-held-eq0.true)) }

pub returns-then-held-eq0-clause-same : goal.returns-then-held-eq0-clause-same
returns-then-held-eq0-clause-same g c = same_none c.args.pass.now

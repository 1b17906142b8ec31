use Rattle.std.proofs.Common.{ℕ, [], sym, ap, ◌∙◌, subst}
use Rattle.std.specs.Prelude.{unwrap_or}
use Rattle.seat_log.specs.mv_core.declared.view.Knowledge.{Knowledge}
use Rattle.seat_log.specs.mv_core.Passes.{view, config_of}
use Rattle.object_lock.specs.Locks.{built_words, AreFew, AnswersWith}
use Rattle.version_chain.specs.Reads.{words_in}
use Rattle.object_lock.proofs.Outcomes.{tries_on}
use Rattle.object_lock.proofs.Built.{words_stay}
use Rattle.object_lock.proofs.Locked.{made_answers, answers_of, kept_too}
use Rattle.object_lock.proofs.Bounds.{both_bound, begun_bound}
use Rattle.seat_log.proofs.OwnSlots.{same_on, of_still}
use Rattle.object_lock.proofs.locking.lock_new.Goals as goal

pub returns-in-Ok-clause-tries : goal.returns-in-Ok-clause-tries
returns-in-Ok-clause-tries g c =
    let config = config_of c.args.shared.now in
    let begun = c.in-Ok.ensures in
    let ended = c.lock_end.ensures.outcome in (
      ended.0,
      tries_on (view c.args.pass.now) (view c.start.new.pass) (view c.lock_end.new.pass) c.args.steps.now c.start.new.steps
          c.lock_end.new.steps begun.tries ended.1.tries,
      subst (λ (o : ℕ). AreFew config o ended.0) begun.started.object_is ended.2,
    )

pub returns-in-Ok-clause-answers : goal.returns-in-Ok-clause-answers
returns-in-Ok-clause-answers g c =
    let config = config_of c.args.shared.now in
    let v = view c.args.pass.now in
    let w = view c.start.new.pass in
    let x = view c.lock_end.new.pass in
    let begun = c.in-Ok.ensures in
    let rest = begun.tries.rest in
    let words = built_words c.start.new.log in
    let made = made_answers config v w begun.keeps x c.in-Ok.started.object words c.lock_end.result begun.tries.trail.0
    begun.tries.trail.1 (ap (λ (u : Knowledge). u.number) rest)
    (ap (λ (u : Knowledge). u.phase) rest) begun.started.room c.lock_end.ensures.outcome.1.makes in
    let ended = c.lock_end.ensures.outcome.1 in
    let stay = ended.tries.rest in
    answers_of config v x c.args.object words (unwrap_or c.args.given (words_in config x c.args.object)) c.lock_end.result
    (λ held. begun.started.words_are ∙ ap (unwrap_or c.args.given)
    (sym (words_stay config w x c.args.object (ap (λ (u : Knowledge). u.start) stay) (ended.sees held) (ap (λ (u : Knowledge). u.phase) stay))))
    (subst (λ (o : ℕ). AnswersWith config v x o words c.lock_end.result) begun.started.object_is made)

pub returns-in-Err-clause-tries : goal.returns-in-Err-clause-tries
returns-in-Err-clause-tries g c = ([], c.in-Err.ensures.tries, tt)

pub start-requires-clause-of : goal.start-requires-clause-of
start-requires-clause-of g c = c.requires.of

pub start-requires-clause-may : goal.start-requires-clause-may
start-requires-clause-may g c = c.requires.may

pub start-requires-clause-range : goal.start-requires-clause-range
start-requires-clause-range g c = c.requires.range

pub start-requires-clause-stands : goal.start-requires-clause-stands
start-requires-clause-stands g c = c.requires.stands

pub start-requires-clause-unbuilt : goal.start-requires-clause-unbuilt
start-requires-clause-unbuilt g c = c.requires.unbuilt

pub start-requires-clause-few : goal.start-requires-clause-few
start-requires-clause-few g c = c.requires.few

pub lock_end-requires-clause-of : goal.lock_end-requires-clause-of
lock_end-requires-clause-of g c = of_still c.args.shared.now c.args.pass.now c.start.new.pass c.in-Ok.ensures.same c.requires.of

pub lock_end-requires-clause-started : goal.lock_end-requires-clause-started
lock_end-requires-clause-started g c = c.in-Ok.ensures.started.started

pub returns-in-Ok-clause-same : goal.returns-in-Ok-clause-same
returns-in-Ok-clause-same g c = same_on c.args.pass.now c.start.new.pass c.lock_end.new.pass c.in-Ok.ensures.same c.lock_end.ensures.same

pub returns-in-Ok-clause-may : goal.returns-in-Ok-clause-may
returns-in-Ok-clause-may g c = c.lock_end.ensures.outcome.1.may

pub returns-in-Ok-clause-stands : goal.returns-in-Ok-clause-stands
returns-in-Ok-clause-stands g c = c.lock_end.ensures.outcome.1.stands

pub returns-in-Ok-clause-unbuilt : goal.returns-in-Ok-clause-unbuilt
returns-in-Ok-clause-unbuilt g c = c.lock_end.ensures.outcome.1.unbuilt

pub returns-in-Ok-clause-few : goal.returns-in-Ok-clause-few
returns-in-Ok-clause-few g c = c.lock_end.ensures.few

pub returns-in-Ok-clause-refused : goal.returns-in-Ok-clause-refused
returns-in-Ok-clause-refused g c = λ ne.
    kept_too (config_of c.args.shared.now) (view c.args.pass.now) (view c.start.new.pass) c.in-Ok.ensures.keeps (view c.lock_end.new.pass)
    (c.lock_end.ensures.outcome.1.keeps ne)

pub returns-in-Ok-clause-aborts : goal.returns-in-Ok-clause-aborts
returns-in-Ok-clause-aborts g c = c.lock_end.ensures.aborts ∙ c.in-Ok.ensures.aborts

pub returns-in-Ok-clause-bound : goal.returns-in-Ok-clause-bound
returns-in-Ok-clause-bound g c =
    both_bound c.args.given c.args.steps.now c.start.new.steps c.lock_end.new.steps c.in-Ok.ensures.bound c.lock_end.ensures.bound

pub returns-in-Err-clause-same : goal.returns-in-Err-clause-same
returns-in-Err-clause-same g c = c.in-Err.ensures.same

pub returns-in-Err-clause-may : goal.returns-in-Err-clause-may
returns-in-Err-clause-may g c = c.in-Err.ensures.may

pub returns-in-Err-clause-stands : goal.returns-in-Err-clause-stands
returns-in-Err-clause-stands g c = c.in-Err.ensures.stands

pub returns-in-Err-clause-unbuilt : goal.returns-in-Err-clause-unbuilt
returns-in-Err-clause-unbuilt g c = c.in-Err.ensures.unbuilt

pub returns-in-Err-clause-few : goal.returns-in-Err-clause-few
returns-in-Err-clause-few g c = c.in-Err.ensures.few

pub returns-in-Err-clause-answers : goal.returns-in-Err-clause-answers
returns-in-Err-clause-answers g c = c.in-Err.ensures.answers _

pub returns-in-Err-clause-refused : goal.returns-in-Err-clause-refused
returns-in-Err-clause-refused g c = λ ne. c.in-Err.ensures.keeps

pub returns-in-Err-clause-aborts : goal.returns-in-Err-clause-aborts
returns-in-Err-clause-aborts g c = c.in-Err.ensures.aborts

pub returns-in-Err-clause-bound : goal.returns-in-Err-clause-bound
returns-in-Err-clause-bound g c = begun_bound c.args.given c.args.steps.now c.start.new.steps c.in-Err.ensures.bound

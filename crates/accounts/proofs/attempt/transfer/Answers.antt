use Rattle.accounts.proofs.Outcomes.{answered_is}
use Rattle.accounts.proofs.attempt.transfer.Goals as goal

pub returns-in-Done : goal.returns-in-Done
returns-in-Done g c = record {
  continues = c.attempt_work-store.ensures.continues;
  tries = c.attempt_work-store.ensures.at_most_one;
  answers = rw c.answer-answered.ensures
      (answered_is _ _ _ (g.met.S.Store.lawful c.attempt_work-store.result.0) _ _ _ (rw c.in-Done.is at c.attempt_work-store.ensures.attempted));
}

pub returns-in-Again : goal.returns-in-Again
returns-in-Again g c = record {
  continues = c.attempt_work-store.ensures.continues;
  tries = c.attempt_work-store.ensures.at_most_one;
  answers = rw c.in-Again.is at c.attempt_work-store.ensures.attempted;
}

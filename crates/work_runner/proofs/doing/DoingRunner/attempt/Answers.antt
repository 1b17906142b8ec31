use Rattle.work_runner.proofs.Works.{still}
use Rattle.work_runner.proofs.doing.DoingRunner.attempt.Goals as goal

pub attempt_work-store-requires : goal.attempt_work-store-requires
attempt_work-store-requires g c = record {
  accepts = c.requires.does;
  most = c.requires.under.1.1.most c.args.item.now c.requires.does;
  knows = c.requires.under.1.1.known;
}

pub returns-in-Done : goal.returns-in-Done
returns-in-Done g c = record {
  tried = λ s u. (
    record { from = _; none = u.0; attempted = rw c.in-Done.is at c.attempt_work-store.ensures.attempted; lawful = tt },
    record { most = λ w a. rw c.attempt_work-store.ensures.continues.write_max (u.1.most w a); known = c.attempt_work-store.ensures.knows },
  );
}

pub returns-in-Again : goal.returns-in-Again
returns-in-Again g c = record {
  tried = λ s u. (
    still _ _ s _ _ _ u.0 (rw c.in-Again.is at c.attempt_work-store.ensures.attempted),
    record { most = λ w a. rw c.attempt_work-store.ensures.continues.write_max (u.1.most w a); known = c.attempt_work-store.ensures.knows },
  );
}

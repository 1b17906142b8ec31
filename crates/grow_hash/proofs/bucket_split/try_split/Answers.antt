use Rattle.grow_hash.proofs.AsGrown.{seat_as}
use Rattle.grow_hash.proofs.split.Outcomes.{split_tried}
use Rattle.grow_hash.proofs.bucket_split.try_split.Goals as goal

pub returns-clause-tried : goal.returns-clause-tried
returns-clause-tried g c =
    let rules = g.met.R.GrowingRules in
    let seat = g.met.S.Store.lawful c.attempt_work-store.result.0 in
    let lawful = seat_as _ _ g.row.LEVELS rules.starts rules.allows rules.allowed_grows _ seat in
    rw c.answer-split.ensures
    (split_tried g.row.LEVELS _ _ _ lawful c.attempt_work-store.result.1 c.attempt_work-store.ensures.attempted)

pub returns-clause-steps : goal.returns-clause-steps
returns-clause-steps g c = (c.attempt_work-store.result.1, c.answer-split.ensures, c.attempt_work-store.ensures.steps)

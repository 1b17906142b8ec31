use Rattle.script_workers.proofs.Turns.{done_command, turn_done, split_told}
use Rattle.script_workers.proofs.Terms.{◌≡◌, ◌&&◌, ◌∙◌, sym, is_added, odd_with}
use Rattle.script_workers.proofs.growing.GrowingRunner.attempt.Goals as goal

pub returns-in-Some : goal.returns-in-Some
returns-in-Some g c =
    record {
      tried = λ s u.
          let under = rw c.in-Some.is at u in
          split_told _ s c.args.item.now under.0 _ _ _ _ _ _ _ under.1 under.2 under.3 (g.met.S.Store.lawful c.split.result.0.store) c.split.ensures.tried;
    }

pub returns-then-is_due : goal.returns-then-is_due
returns-then-is_due g c =
    record {
      tried = λ s u.
          let new = c.attempt_grow-store.result.0 in
          let begun = rw c.in_default.is at u in
          let done = done_command _ s c.args.item.now _ (g.S.Store.seat_of new) _ _ begun.0 (g.met.S.Store.lawful new)
          (rw c.in-Done.is at c.attempt_grow-store.ensures.attempted) in
          let due : c.is_due.result ≡ (s.odd && is_added c.args.item.now c.in-Done.reply) =
          c.is_due.ensures ∙ (λ i. begun.1 i && c.is_added-added.ensures i) in
          split_told _ s c.args.item.now _ _ _ _ _ _ _ _ done.0 done.1 (sym due ∙ c.if-is_due.true)
          (g.met.S.Store.lawful c.split-then-is_due.result.0.store) c.split-then-is_due.ensures.tried;
    }

pub returns-else-is_due : goal.returns-else-is_due
returns-else-is_due g c =
    record {
      tried = λ s u.
          let new = c.attempt_grow-store.result.0 in
          let begun = rw c.in_default.is at u in
          let done = done_command _ s c.args.item.now _ (g.S.Store.seat_of new) _ _ begun.0 (g.met.S.Store.lawful new)
          (rw c.in-Done.is at c.attempt_grow-store.ensures.attempted) in
          let due : c.is_due.result ≡ (s.odd && is_added c.args.item.now c.in-Done.reply) =
          c.is_due.ensures ∙ (λ i. begun.1 i && c.is_added-added.ensures i) in
          let odd : c.odd_with-odd.result ≡ odd_with s.odd (is_added c.args.item.now c.in-Done.reply) =
          c.odd_with-odd.ensures ∙ (λ i. odd_with (begun.1 i) (c.is_added-added.ensures i)) in (
            turn_done _ s c.args.item.now (g.S.Store.seat_of new) c.odd_with-odd.result _ _ done.0 (sym due ∙ c.if-is_due.false) odd,
            (c.in_default.is, done.1.may),
          );
    }

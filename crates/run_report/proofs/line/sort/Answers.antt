use Rattle.std.proofs.Common.{rules, ◌≡◌, false, Result, Ok, Err, OnOk}
use Rattle.std.specs.Result.{is_err}
use Rattle.std.specs.declared.alloc.AllocError.{AllocError}
use Rattle.std.proofs.lemmas.List.Sorted.{answers_always}
use Rattle.run_report.specs.Order.{order_key}
use Rattle.run_report.proofs.line.sort.Goals as goal

-- what holds of each value holds where there is no error
not_refused : (result : Result (Unit {0}) AllocError) (P : Type 0) → is_err result ≡ false → OnOk result P → P
not_refused (Ok u) P none holds = holds
not_refused (Err e) P none holds = absurd (cc)

-- each call gives the key of its line
pub returns-then-is_err-clause-in_order : goal.returns-then-is_err-clause-in_order
returns-then-is_err-clause-in_order c = c.sort_unstable_by_key.ensures.sorted order_key (answers_always _ _ _ (λ f a r g called. search rules))

pub returns-else-is_err-clause-in_order : goal.returns-else-is_err-clause-in_order
returns-else-is_err-clause-in_order c =
    not_refused c.sort_by_key.result _ (search rules) c.sort_by_key.ensures.sorted order_key (answers_always _ _ _ (λ f a r g called. search rules))

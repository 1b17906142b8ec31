use Rattle.std.proofs.Common.{◌≡◌, ◌∙◌, ℕ, List, ◌++◌, append_assoc, codes, Result, Ok, Err, OnOk, is_ok, if◌then◌else◌}
use Rattle.std.specs.Prelude.{decimal}
use Rattle.std.specs.declared.alloc.AllocError.{AllocError}
use Rattle.replay_rules.specs.Lines.{spaced}
use Rattle.replay_text.proofs.writing.write_deed.Goals as goal

-- five parts written one by one are their whole written
in_one : (old a b d e f : List ℕ) → old ++ a ++ b ++ d ++ e ++ f ≡ old ++ (a ++ b ++ d ++ e ++ f)
in_one old a b d e f = simp append_assoc

-- the word found, the word offered and the outcome are written behind one another
swap_told : (old named offered now outcome : List ℕ) (place found new : ℕ) (result : Result (Unit {0}) AllocError)
    → named ≡ old ++ codes "swap " ++ decimal place ++ spaced found → offered ≡ named ++ spaced new
    → now ≡ (if is_ok result then offered ++ outcome else offered)
    → OnOk result (now ≡ old ++ (codes "swap " ++ decimal place ++ spaced found ++ spaced new ++ outcome))
swap_told old named offered now outcome place found new (Ok u) first second third =
    third ∙ rw (second, first) (in_one old (codes "swap ") (decimal place) (spaced found) (spaced new) outcome)
swap_told old named offered now outcome place found new (Err e) first second third = tt

pub returns-in_ok-write_spaced-in-Swap : goal.returns-in_ok-write_spaced-in-Swap
returns-in_ok-write_spaced-in-Swap c =
    rw (c.in-Swap.is, ← c.outcome_of.ensures)
    (swap_told _ _ _ _ c.outcome_of.result.now c.args.place c.args.found c.in-Swap.new c.push_str.result c.in_ok-write_access-in-Swap.ensures
    c.in_ok-write_spaced-in-Swap.ensures c.push_str.ensures.bytes)

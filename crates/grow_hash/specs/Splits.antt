-- How many splits a history has.
use Rattle.mv_history.specs.declared.history.Entry.{Entry}
use Rattle.mv_history.specs.declared.history.Entry.TheVariants.{Rest, Change}
use Rattle.std.specs.Prelude.{◌+◌, if◌then◌else◌, ◌∷◌, ℕ, Bool, true, false, List, [], Option, Some, None}
use Rattle.grow_hash.specs.GrowRules.{Growing, makes, splits, growing_of}

-- whether a commit is a split, by what its tag stands for
abbrev pub is_splitting : Option Growing → Bool
is_splitting None = false
is_splitting (Some (makes command)) = false
is_splitting (Some (splits place)) = true

-- the number of splits among the entries
abbrev pub count_splits : List Entry → ℕ
count_splits [] = 0
count_splits (Rest seat ∷ es) = count_splits es
count_splits (Change c ∷ es) = (if is_splitting (growing_of c.tag) then 1 else 0) + count_splits es

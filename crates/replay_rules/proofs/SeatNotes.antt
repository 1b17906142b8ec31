-- The first version that is looked for, and versions that a step changes, one after another.
use Rattle.std.proofs.Common.{◌≡◌, ℕ, zero, suc, ◌+◌, ◌<◌, ◌≤◌, List, [], ◌∷◌, length, get_or, set, true, false, refl, ap}
use Rattle.std.proofs.Common.{◌∙◌, arith, if◌then◌else◌}
use Rattle.replay_rules.specs.declared.seats.NotedVersion.{NotedVersion}
use Rattle.replay_rules.specs.declared.seats.Edit.{Edit}
use Rattle.replay_rules.specs.declared.seats.Test.{Test}
use Rattle.replay_rules.specs.SeatNotes.{passes, before_first, first_from, edited, edited_from}

-- from the end on there is none
pub none_left : (log : List NotedVersion) (from : ℕ) (test : Test) → length log ≤ from → first_from log from test ≡ length log
none_left [] zero test h = refl
none_left [] (suc from) test h = refl
none_left (v ∷ log) zero test h = absurd (omega (arith, h))
none_left (v ∷ log) (suc from) test h = ap suc (none_left log from test (omega (arith, h)))

-- a version that isn't what is looked for is passed by
pub passed_by : (log : List NotedVersion) (at : ℕ) (test : Test) (v : NotedVersion) → at < length log
    → passes test (get_or log at v) ≡ false → first_from log at test ≡ first_from log (suc at) test
passed_by [] at test v lt fails = absurd (omega (arith, lt))
passed_by (w ∷ log) zero test v lt fails = ap (λ b. if b then 0 else suc (before_first log test)) fails
passed_by (w ∷ log) (suc at) test v lt fails = ap suc (passed_by log at test v (omega (arith, lt)) fails)

-- and one that is so is the first
pub stopped_at : (log : List NotedVersion) (at : ℕ) (test : Test) (v : NotedVersion) → at < length log
    → passes test (get_or log at v) ≡ true → first_from log at test ≡ at
stopped_at [] at test v lt holds = absurd (omega (arith, lt))
stopped_at (w ∷ log) zero test v lt holds = ap (λ b. if b then 0 else suc (before_first log test)) holds
stopped_at (w ∷ log) (suc at) test v lt holds = ap suc (stopped_at log at test v (omega (arith, lt)) holds)

-- so many versions are as they are, and each behind them is changed
abbrev pub edited_behind : Edit → ℕ → ℕ → List NotedVersion → List NotedVersion
edited_behind edit zero place log = edited_from edit place log
edited_behind edit (suc k) place [] = []
edited_behind edit (suc k) place (v ∷ log) = v ∷ edited_behind edit k (suc place) log

pub one_edited : (edit : Edit) (k place at : ℕ) (log : List NotedVersion) (v : NotedVersion) → at ≡ place + k → k < length log → get_or log k v ≡ v
    → edited_behind edit k place log ≡ edited_behind edit (suc k) place (set log k (edited edit at v))
one_edited edit k place at [] v here lt is = absurd (omega (arith, lt))
one_edited edit zero place at (w ∷ log) v here lt is =
    let same : place ≡ at = omega (arith, here) in
    ap (λ x. x ∷ edited_from edit (suc place) log) (ap (edited edit place) is ∙ ap (λ p. edited edit p v) same)
one_edited edit (suc k) place at (w ∷ log) v here lt is =
    ap (λ xs. w ∷ xs) (one_edited edit k (suc place) at log v (omega (arith, here)) (omega (arith, lt)) is)

pub all_edited : (edit : Edit) (k place : ℕ) (log : List NotedVersion) → length log ≤ k → edited_behind edit k place log ≡ log
all_edited edit zero place [] h = refl
all_edited edit (suc k) place [] h = refl
all_edited edit zero place (v ∷ log) h = absurd (omega (arith, h))
all_edited edit (suc k) place (v ∷ log) h = ap (λ xs. v ∷ xs) (all_edited edit k (suc place) log (omega (arith, h)))

-- The first version of a log that is what is looked for.
use Rattle.std.proofs.Common.{◌≡◌, ◌≢◌, ℕ, zero, suc, ◌<◌, ◌≤◌, ◌==◌, not, List, [], ◌∷◌, length, Bool, true, false, refl, arith}
use Rattle.std.proofs.Common.{if◌then◌else◌, eqb-true}
use Rattle.replay_rules.specs.declared.seats.NotedVersion.{NotedVersion}
use Rattle.replay_rules.specs.declared.seats.Test.{Test}
use Rattle.replay_rules.specs.declared.seats.Test.TheVariants.{IsOf, IsLinked}
use Rattle.replay_rules.specs.SeatNotes.{passes, before_first, first_from, version_at}
use Rattle.replay_rules.proofs.runs.Known.{eqb_ne}

-- the place is one of the log, or the next one
pub first_within : (log : List NotedVersion) (from : ℕ) (test : Test) → from ≤ length log → first_from log from test ≤ length log
first_within [] zero test le = omega arith
first_within [] (suc from) test le = omega arith
first_within (v ∷ log) zero test le = here (passes test v) (first_within log 0 test (omega arith))
  where
    here : (b : Bool) → before_first log test ≤ length log → (if b then 0 else suc (before_first log test)) ≤ suc (length log)
    here true rest = omega arith
    here false rest = omega (arith, rest)
first_within (v ∷ log) (suc from) test le = let rest = first_within log from test (omega (arith, le)) in omega (arith, rest)

-- and not before where one looks from
pub first_after : (log : List NotedVersion) (from : ℕ) (test : Test) → from ≤ length log → from ≤ first_from log from test
first_after [] zero test le = omega arith
first_after [] (suc from) test le = absurd (omega (arith, le))
first_after (v ∷ log) zero test le = omega arith
first_after (v ∷ log) (suc from) test le = let rest = first_after log from test (omega (arith, le)) in omega (arith, rest)

-- those before it aren't what is looked for
pub first_before : (log : List NotedVersion) (from : ℕ) (test : Test) (j : ℕ) → from ≤ j → j < first_from log from test → j < length log
    → passes test (version_at log j) ≡ false
first_before [] from test j le lt within = absurd (omega (arith, within))
first_before (v ∷ log) zero test j le lt within = here (passes test v) refl (λ i a d. first_before log 0 test i (omega arith) a d) j lt within
  where
    here : (b : Bool) → passes test v ≡ b
        → ((i : ℕ) → i < before_first log test → i < length log → passes test (version_at log i) ≡ false)
        → (j : ℕ) → j < (if b then 0 else suc (before_first log test)) → j < suc (length log)
        → passes test (version_at (v ∷ log) j) ≡ false
    here true e rest j lt within = absurd (omega (arith, lt))
    here false e rest zero lt within = e
    here false e rest (suc j) lt within = rest j (omega (arith, lt)) (omega (arith, within))
first_before (v ∷ log) (suc from) test zero le lt within = absurd (omega (arith, le))
first_before (v ∷ log) (suc from) test (suc j) le lt within = first_before log from test j (omega (arith, le)) (omega (arith, lt)) (omega (arith, within))

-- and the one there is
pub first_there : (log : List NotedVersion) (from : ℕ) (test : Test) → from ≤ length log → first_from log from test < length log
    → passes test (version_at log (first_from log from test)) ≡ true
first_there [] from test le within = absurd (omega (arith, within))
first_there (v ∷ log) zero test le within = here (passes test v) refl (λ d. first_there log 0 test (omega arith) d) within
  where
    here : (b : Bool) → passes test v ≡ b → (before_first log test < length log → passes test (version_at log (before_first log test)) ≡ true)
        → (if b then 0 else suc (before_first log test)) < suc (length log)
        → passes test (version_at (v ∷ log) (if b then 0 else suc (before_first log test))) ≡ true
    here true e rest within = e
    here false e rest within = rest (omega (arith, within))
first_there (v ∷ log) (suc from) test le within = first_there log from test (omega (arith, le)) (omega (arith, within))

-- no version is of an object where none is found
pub none_of : (log : List NotedVersion) (from o : ℕ) → length log ≤ first_from log from (IsOf o) → (i : ℕ) → from ≤ i → i < length log →
    (version_at log i).object ≢ o
none_of log from o none i le within =
    eqb_ne (version_at log i).object o (first_before log from (IsOf o) i le (omega (arith, none, within)) within)

-- a version is there where one is found
pub one_of : (log : List NotedVersion) (from : ℕ) → from ≤ length log → first_from log from IsLinked < length log
    → (version_at log (first_from log from IsLinked)).previous ≢ 0
one_of log from le within = go (version_at log (first_from log from IsLinked)).previous (first_there log from IsLinked le within)
  where
    go : (previous : ℕ) → not (previous == 0) ≡ true → previous ≢ 0
    go previous e zero_is = eqb_ne previous 0 (flip (previous == 0) e) zero_is
      where
        flip : (b : Bool) → not b ≡ true → b ≡ false
        flip true e = absurd (cc)
        flip false e = refl

-- and nothing is below those before
pub unlinked : (log : List NotedVersion) (from j : ℕ) → from ≤ j → j < first_from log from IsLinked → j < length log → (version_at log j).previous ≡ 0
unlinked log from j le lt within = go (version_at log j).previous (first_before log from IsLinked j le lt within)
  where
    go : (previous : ℕ) → not (previous == 0) ≡ false → previous ≡ 0
    go previous e = eqb-true previous 0 (flip (previous == 0) e)
      where
        flip : (b : Bool) → not b ≡ false → b ≡ true
        flip true e = refl
        flip false e = absurd (cc)

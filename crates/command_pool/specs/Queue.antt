-- The queue of a pool: which numbers it holds, and what each pass has put in and taken.
use Rattle.std.specs.Prelude.{◌≡◌, ℕ, zero, suc, ◌+◌, ◌≤◌, List, [], ◌∷◌, length, sum_by, All, ⊤}
use Rattle.command_pool.specs.declared.queue.Hand.{Hand}

-- what a pass has: so many parts of the whole, so many numbers put in, and these taken
abbrev pub hand : ℕ → ℕ → List ℕ → Hand
hand parts put taken = record { parts = parts; put = put; taken = taken }

-- the parts of the whole: one for each of the eight workers, and one more
abbrev pub all_parts : ℕ
all_parts = 9

-- the values at the numbers from 1 to this one, added up
abbrev pub total_to : (ℕ → ℕ) → ℕ → ℕ
total_to f zero = 0
total_to f (suc n) = total_to f n + f (suc n)

-- the numbers follow one another from this one on
abbrev pub AreFrom : ℕ → List ℕ → Type 0
AreFrom first [] = ⊤
AreFrom first (x ∷ xs) = (x ≡ first) × AreFrom (suc first) xs

-- the last of the numbers, or 0
abbrev pub last_of : List ℕ → ℕ
last_of [] = 0
last_of (x ∷ []) = x
last_of (x ∷ y ∷ xs) = last_of (y ∷ xs)

-- The last number that a pass took is not above this one, and with no part it has put nothing in and taken nothing.
pub record IsHand (done : ℕ) (v : Hand) : Type 0 where
  pub low : last_of v.taken ≤ done
  pub idle : v.parts ≡ 0 → (v.put ≡ 0) × (v.taken ≡ [])

-- The rule of the queue, of what it holds and of what each pass has.
pub record IsShared (items : List ℕ) (views : List Hand) : Type 0 where
  -- the last number that was taken
  pub done : ℕ
  -- it holds the numbers that follow
  pub items_are : AreFrom (suc done) items
  -- no part of the whole is lost
  pub whole : sum_by (λ (v : Hand). v.parts) views ≡ all_parts
  -- as many were put in as were taken and are held
  pub put : sum_by (λ (v : Hand). v.put) views ≡ done + length items
  -- each number up to the last one was taken once, and no other
  pub once : (f : ℕ → ℕ) → sum_by (λ (v : Hand). sum_by f v.taken) views ≡ total_to f done
  -- so each pass has what it may have
  pub each : All (IsHand done) views

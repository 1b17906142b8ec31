-- How many steps the parts of a lock make together, and what they leave of the notes.
use Rattle.std.proofs.Common.{◌≡◌, ℕ, ◌+◌, ◌<◌, ◌≤◌, List, Option, Some, None, ap, sym, subst, arith}
use Rattle.seat_log.specs.Notes.{Noted, held_noted, cleared}
use Rattle.object_lock.specs.Locks.{HoldsObject, most_to_start, most_to_lock}

-- a won first exchange
pub won_bound : (a b : ℕ) → b ≡ a + 1 → b ≤ a + 5
won_bound a b one = omega arith

-- a lost one, and one more try
pub again_bound : (a b d : ℕ) → b ≡ a + 1 → d ≤ b + 4 → d ≤ a + 5
again_bound a b d one four = omega arith

-- a lost one, and the look at what came first
pub lost_bound : (a b d : ℕ) → b ≡ a + 1 → d ≡ b + 2 → d ≤ a + 5
lost_bound a b d one two = omega arith

-- the link below stored, and a won exchange
pub cleared_won_bound : (a b d : ℕ) → b ≡ a + 1 → d ≡ b + 1 → d ≤ a + 4
cleared_won_bound a b d one next = omega arith

-- a lost one, and the look at what came first
pub cleared_lost_bound : (a b d e : ℕ) → b ≡ a + 1 → d ≡ b + 1 → e ≡ d + 2 → e ≤ a + 4
cleared_lost_bound a b d e one next two = omega arith

-- both parts
pub both_bound : (given : Option (List ℕ)) (a b d : ℕ) → b ≤ a + most_to_start given → d ≤ b + 5 → d ≤ a + most_to_lock given
both_bound None a b d begun ended = omega arith
both_bound (Some words) a b d begun ended = omega arith

-- the first part alone
pub begun_bound : (given : Option (List ℕ)) (a b : ℕ) → b ≤ a + most_to_start given → b ≤ a + most_to_lock given
begun_bound None a b begun = omega arith
begun_bound (Some words) a b begun = omega arith

-- a log that holds fewer than it may holds no more than it may with one more
pub few_held : (l m : Noted) (most : ℕ) → m ≡ held_noted l → l.held < most → m.held ≤ most
few_held l m most is few = let one : m.held ≡ l.held + 1 = ap (λ (n : Noted). n.held) is in omega arith

-- the built version without a link below: the log holds what it held
pub unheld_cleared : (l m : Noted) (object : ℕ) → m ≡ cleared l → ¬ (HoldsObject l object) → ¬ (HoldsObject m object)
unheld_cleared l m object is = subst (λ (n : Noted). ¬ (HoldsObject n object)) (sym is)

pub few_cleared : (l m : Noted) (most : ℕ) → m ≡ cleared l → l.held < most → m.held < most
few_cleared l m most is = subst (λ (n : Noted). n.held < most) (sym is)

-- The commands of one seat may be replayed ahead of all others.
use Rattle.std.proofs.Common.{◌≡◌, ◌≢◌, ℕ, ◌%◌, ◌≤◌, Bool, true, false, not, cond, eqb, eqb-true, List, [], ◌∷◌, ◌++◌, filter, refl, sym, ap, ◌∙◌}
use Rattle.std.specs.List.{AllByRecursion}
use Rattle.std.proofs.lemmas.Bool.{eqb-false}
use Rattle.set_model.specs.declared.commands.Command.{Command}
use Rattle.script_gen.specs.Script.{IsGenerated}
use Rattle.generated_runs.specs.OneAfterAnother.{Tally, counted, replayed}
use Rattle.generated_runs.proofs.small.Keeping.{IsSmall}
use Rattle.generated_runs.proofs.small.Steps.{key_of, next_small}
use Rattle.generated_runs.proofs.sifted.Commuting.{counted_commutes}

-- the seat of a generated command, by its key
abbrev pub seat_of : Command → ℕ
seat_of command = key_of command % 4

-- it is generated for that seat
abbrev pub IsKnown : Command → Type 0
IsKnown command = IsGenerated (seat_of command) command

-- whether a command is of this seat, and whether it is of another
abbrev pub is_own : ℕ → Command → Bool
is_own seat command = eqb (seat_of command) seat

abbrev pub is_other : ℕ → Command → Bool
is_other seat command = not (is_own seat command)

-- a command that is known and of another key
abbrev Passes : Command → Command → Type 0
Passes x y = IsKnown y × (key_of x ≢ key_of y)

-- the commands of a seat have other keys than a command of another seat
others_pass : (seat : ℕ) (x : Command) (ys : List Command) → is_own seat x ≡ false → AllByRecursion IsKnown ys
    → AllByRecursion (Passes x) (filter (is_own seat) ys)
others_pass seat x [] other known = tt
others_pass seat x (y ∷ ys) other known = go (is_own seat y) refl (others_pass seat x ys other known.1)
  where
    go : (b : Bool) → is_own seat y ≡ b → AllByRecursion (Passes x) (filter (is_own seat) ys)
        → AllByRecursion (Passes x) (cond b (y ∷ filter (is_own seat) ys) (filter (is_own seat) ys))
    go true e rest =
        ((known.0, λ q. eqb-false (seat_of x) seat other (ap (λ (k : ℕ). k % 4) q ∙ eqb-true (seat_of y) seat e)), rest)
    go false e rest = rest

module _ (capacity : ℕ) (room : 10230 ≤ capacity) where
  -- a command may be replayed behind others of other keys
  past : (x : Command) (ys zs : List Command) (t : Tally) → IsKnown x → IsSmall t.maps → AllByRecursion (Passes x) ys
      → replayed capacity (ys ++ zs) (counted capacity x t) ≡ replayed capacity (ys ++ x ∷ zs) t
  past x [] zs t known small pass = refl
  past x (y ∷ ys) zs t known small pass =
      ap (replayed capacity (ys ++ zs))
      (sym (counted_commutes capacity room (seat_of x) (seat_of y) x y t known pass.0.0 small pass.0.1))
      ∙ past x ys zs (counted capacity y t) known (next_small (seat_of y) y t.maps capacity pass.0.0 small room) pass.1

  -- the commands of a seat first, and then the others
  pub sift : (seat : ℕ) (xs : List Command) (t : Tally) → AllByRecursion IsKnown xs → IsSmall t.maps
      → replayed capacity xs t ≡ replayed capacity (filter (is_own seat) xs ++ filter (is_other seat) xs) t
  sift seat [] t known small = refl
  sift seat (x ∷ xs) t known small =
      go (is_own seat x) refl (sift seat xs (counted capacity x t) known.1 (next_small (seat_of x) x t.maps capacity known.0 small room))
    where
      go : (b : Bool) → is_own seat x ≡ b → replayed capacity xs (counted capacity x t)
          ≡ replayed capacity (filter (is_own seat) xs ++ filter (is_other seat) xs) (counted capacity x t)
          → replayed capacity xs (counted capacity x t)
          ≡ replayed capacity (cond b (x ∷ filter (is_own seat) xs) (filter (is_own seat) xs)
          ++ cond (not b) (x ∷ filter (is_other seat) xs) (filter (is_other seat) xs)) t
      go true e rest = rest
      go false e rest = rest ∙ past x (filter (is_own seat) xs) (filter (is_other seat) xs) t known.0 small (others_pass seat x xs e known.1)

  pub replayed_small : (xs : List Command) (t : Tally) → AllByRecursion IsKnown xs → IsSmall t.maps → IsSmall (replayed capacity xs t).maps
  replayed_small [] t known small = small
  replayed_small (x ∷ xs) t known small =
      replayed_small xs (counted capacity x t) known.1 (next_small (seat_of x) x t.maps capacity known.0 small room)

pub replayed-append : (capacity : ℕ) (xs ys : List Command) (t : Tally) → replayed capacity (xs ++ ys) t ≡ replayed capacity ys (replayed capacity xs t)
replayed-append capacity [] ys t = refl
replayed-append capacity (x ∷ xs) ys t = replayed-append capacity xs ys (counted capacity x t)

-- The commands of lines, of scripts that are generated for their seats.
use Rattle.std.proofs.Common.{◌≡◌, ℕ, zero, suc, List, [], ◌∷◌, Option, None, Some, sym, subst}
use Rattle.std.specs.List.{All, AllByRecursion, slice_get}
use Rattle.std.specs.Option.{IsSomeAnd}
use Rattle.std.specs.Prelude.{slice_index_or}
use Rattle.std.proofs.lemmas.List.Elements.{All-head, All-tail}
use Rattle.set_model.specs.declared.commands.Command.{Command}
use Rattle.set_model.specs.declared.commands.Command.TheVariants.{Add, Put, Del, Has, Get, Move, Pair, Size, Next}
use Rattle.run_report.specs.declared.line.Line.{Line}
use Rattle.run_report.specs.Legal.{command_at, command_of}
use Rattle.script_gen.specs.Script.{IsGenerated}
use Rattle.generated_runs.specs.OneAfterAnother.{AreGenerated}
use Rattle.generated_runs.proofs.sifted.Sifting.{seat_of, IsKnown}

-- a command more, if there is one
abbrev pub with_some : Option Command → List Command → List Command
with_some None xs = xs
with_some (Some x) xs = x ∷ xs

-- the commands of lines
abbrev pub commands_in : List (List Command) → List Line → List Command
commands_in scripts [] = []
commands_in scripts (line ∷ lines) = with_some (command_of scripts line) (commands_in scripts lines)

-- the line is of a command that is generated for its seat
abbrev pub HasKnown : List (List Command) → Line → Type 0
HasKnown scripts line = IsSomeAnd (command_of scripts line) (λ x. IsGenerated line.seat x)

-- the key of a generated command tells its seat
pub seat-is : (seat : ℕ) (command : Command) → IsGenerated seat command → seat_of command ≡ seat
seat-is seat (Add name key) own = own.2
seat-is seat (Del name key) own = own.2
seat-is seat (Has name key) own = own.2
seat-is seat (Move source target key) own = own.0.2
seat-is seat (Put name key value) own = absurd own
seat-is seat (Get name key) own = absurd own
seat-is seat (Pair first second key) own = absurd own
seat-is seat (Size name) own = absurd own
seat-is seat (Next name key) own = absurd own

pub known : (seat : ℕ) (command : Command) → IsGenerated seat command → IsKnown command
known seat command own = subst (λ n. IsGenerated n command) (sym (seat-is seat command own)) own

pub all_known : (scripts : List (List Command)) (lines : List Line) → AllByRecursion (HasKnown scripts) lines
    → AllByRecursion IsKnown (commands_in scripts lines)
all_known scripts [] has = tt
all_known scripts (line ∷ lines) has = go (command_of scripts line) has.0 (all_known scripts lines has.1)
  where
    go : (o : Option Command) → IsSomeAnd o (λ x. IsGenerated line.seat x) → AllByRecursion IsKnown (commands_in scripts lines)
        → AllByRecursion IsKnown (with_some o (commands_in scripts lines))
    go None h rest = rest
    go (Some x) h rest = (known line.seat x h, rest)

at_all : (P : Command → Type 0) (xs : List Command) (n : ℕ) (x : Command) → All P xs → slice_get xs n ≡ Some x → P x
at_all P [] n x all e = absurd (cc)
at_all P (y ∷ ys) zero x all e = let same : y ≡ x = cc in subst P same (All-head P y ys all)
at_all P (y ∷ ys) (suc n) x all e = at_all P ys n x (All-tail P y ys all) e

-- a command of generated scripts is generated for its seat
pub generated_at : (scripts : List (List Command)) → AreGenerated scripts → (seat number : ℕ) (x : Command)
    → command_at (slice_index_or scripts seat []) number ≡ Some x → IsGenerated seat x
generated_at (a ∷ b ∷ c ∷ d ∷ []) all zero zero x e = absurd (cc)
generated_at (a ∷ b ∷ c ∷ d ∷ []) all zero (suc n) x e = at_all (IsGenerated 0) a n x all.0 e
generated_at (a ∷ b ∷ c ∷ d ∷ []) all (suc zero) zero x e = absurd (cc)
generated_at (a ∷ b ∷ c ∷ d ∷ []) all (suc zero) (suc n) x e = at_all (IsGenerated 1) b n x all.1 e
generated_at (a ∷ b ∷ c ∷ d ∷ []) all (suc (suc zero)) zero x e = absurd (cc)
generated_at (a ∷ b ∷ c ∷ d ∷ []) all (suc (suc zero)) (suc n) x e = at_all (IsGenerated 2) c n x all.2 e
generated_at (a ∷ b ∷ c ∷ d ∷ []) all (suc (suc (suc zero))) zero x e = absurd (cc)
generated_at (a ∷ b ∷ c ∷ d ∷ []) all (suc (suc (suc zero))) (suc n) x e = at_all (IsGenerated 3) d n x all.3 e
generated_at (a ∷ b ∷ c ∷ d ∷ []) all (suc (suc (suc (suc seat)))) zero x e = absurd (cc)
generated_at (a ∷ b ∷ c ∷ d ∷ []) all (suc (suc (suc (suc seat)))) (suc n) x e = absurd (cc)
generated_at [] all seat number x e = absurd all
generated_at (a ∷ []) all seat number x e = absurd all
generated_at (a ∷ b ∷ []) all seat number x e = absurd all
generated_at (a ∷ b ∷ c ∷ []) all seat number x e = absurd all
generated_at (a ∷ b ∷ c ∷ d ∷ f ∷ more) all seat number x e = absurd all

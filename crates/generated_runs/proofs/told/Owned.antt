-- The commands of a seat's lines, in the order of the lines, are its script.
use Rattle.std.proofs.Common.{◌≡◌, ℕ, zero, suc, ◌+◌, Bool, true, false, cond, eqb, eqb-true, List}
use Rattle.std.proofs.Common.{[], ◌∷◌, map, filter, Option, None, Some, refl, sym, ap, ◌∙◌, arith}
use Rattle.std.specs.Prelude.{slice_index_or}
use Rattle.std.specs.List.{AllByRecursion, slice_get}
use Rattle.std.specs.Option.{IsSomeAnd}
use Rattle.set_model.specs.declared.commands.Command.{Command}
use Rattle.run_report.specs.declared.line.Line.{Line}
use Rattle.run_report.specs.Legal.{command_at, command_of, id_of, ids_from}
use Rattle.script_gen.specs.Script.{IsGenerated}
use Rattle.generated_runs.proofs.sifted.Sifting.{is_own}
use Rattle.generated_runs.proofs.told.Known.{with_some, commands_in, HasKnown, seat-is}
use Rattle.generated_runs.proofs.told.Numbered.{Id, is_of}

-- the commands of numbers
abbrev picked : (ℕ → Option Command) → List Id → List Command
picked f [] = []
picked f (id ∷ ids) = with_some (f id.1) (picked f ids)

own_commands : (scripts : List (List Command)) (seat : ℕ) (lines : List Line) → AllByRecursion (HasKnown scripts) lines
    → filter (is_own seat) (commands_in scripts lines) ≡ picked (command_at (slice_index_or scripts seat [])) (filter (is_of seat) (map id_of lines))
own_commands scripts seat [] has = refl
own_commands scripts seat (line ∷ lines) has = go (command_of scripts line) refl has.0 (eqb line.seat seat) refl (own_commands scripts seat lines has.1)
  where
    go : (o : Option Command) → command_of scripts line ≡ o → IsSomeAnd o (λ x. IsGenerated line.seat x) → (b : Bool) → eqb line.seat seat ≡ b
        → filter (is_own seat) (commands_in scripts lines)
        ≡ picked (command_at (slice_index_or scripts seat [])) (filter (is_of seat) (map id_of lines))
        → filter (is_own seat) (with_some o (commands_in scripts lines))
        ≡ picked (command_at (slice_index_or scripts seat []))
        (cond b (id_of line ∷ filter (is_of seat) (map id_of lines)) (filter (is_of seat) (map id_of lines)))
    go None e h b q rest = absurd h
    go (Some x) e h true q rest =
        let here : command_at (slice_index_or scripts seat []) line.number ≡ Some x =
        ap (λ s. command_at (slice_index_or scripts s []) line.number) (sym (eqb-true line.seat seat q)) ∙ e in
        let own : is_own seat x ≡ true = ap (λ s. eqb s seat) (seat-is line.seat x h) ∙ q in
        ap (λ (b : Bool). cond b (x ∷ filter (is_own seat) (commands_in scripts lines)) (filter (is_own seat) (commands_in scripts lines))) own
        ∙ ap (λ ys. x ∷ ys) rest
        ∙ ap (λ o. with_some o (picked (command_at (slice_index_or scripts seat [])) (filter (is_of seat) (map id_of lines)))) (sym here)
    go (Some x) e h false q rest =
        let own : is_own seat x ≡ false = ap (λ s. eqb s seat) (seat-is line.seat x h) ∙ q in
        ap (λ (b : Bool). cond b (x ∷ filter (is_own seat) (commands_in scripts lines)) (filter (is_own seat) (commands_in scripts lines))) own ∙ rest

-- the commands of the numbers of commands are these
picked_all : (f : ℕ → Option Command) (seat number : ℕ) (commands : List Command) → ((i n : ℕ) → n ≡ number + i → f n ≡ slice_get commands i)
    → picked f (ids_from seat number commands) ≡ commands
picked_all f seat number [] is = refl
picked_all f seat number (x ∷ xs) is =
    let rest : picked f (ids_from seat (suc number) xs) ≡ xs = picked_all f seat (suc number) xs (λ i n e. is (suc i) n (omega (arith, e))) in
    ap (λ o. with_some o (picked f (ids_from seat (suc number) xs))) (is 0 number (omega arith)) ∙ ap (λ ys. x ∷ ys) rest

at_number : (script : List Command) (i n : ℕ) → n ≡ 1 + i → command_at script n ≡ slice_get script i
at_number script i zero e = absurd (omega (arith, e))
at_number script i (suc n) e = let same : n ≡ i = omega (arith, e) in ap (slice_get script) same

pub own_script : (scripts : List (List Command)) (seat : ℕ) (lines : List Line) → AllByRecursion (HasKnown scripts) lines
    → filter (is_of seat) (map id_of lines) ≡ ids_from seat 1 (slice_index_or scripts seat [])
    → filter (is_own seat) (commands_in scripts lines) ≡ slice_index_or scripts seat []
own_script scripts seat lines has ids =
    own_commands scripts seat lines has ∙ ap (picked (command_at (slice_index_or scripts seat []))) ids
    ∙ picked_all (command_at (slice_index_or scripts seat [])) seat 1 (slice_index_or scripts seat []) (at_number (slice_index_or scripts seat []))

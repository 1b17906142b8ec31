-- Commands are drawn one after another from what is left of a generator's words.
use Rattle.std.proofs.Common.{◌≡◌, ℕ, suc, ◌*◌, ◌-◌, ◌≤◌, List, [], ◌∷◌, ◌++◌, refl, ap, sym, ◌∙◌, append-nil, arith}
use Rattle.rand_core.specs.Steps.{first_words}
use Rattle.set_model.specs.declared.commands.Command.{Command}
use Rattle.rand_pcg.specs.Lcg.{Lcg}
use Rattle.rand_pcg.specs.Pcg.{pcg32}
use Rattle.script_gen.specs.declared.script.TheConstants.{COMMANDS}
use Rattle.script_gen.specs.Script.{commands_of, command_of, generator, script}

-- four words drawn one after another are a command, and the words behind them are the others'
pub draws_one : {G : Type 0} (step : G → ℕ × G) (seat left : ℕ) (g g1 g2 g3 g4 : G) (w1 w2 w3 w4 : ℕ) (command : Command) → (w1, g1) ≡ step g
    → (w2, g2) ≡ step g1 → (w3, g3) ≡ step g2 → (w4, g4) ≡ step g3 → command ≡ command_of seat w1 w2 w3 w4
    → commands_of seat (first_words step (suc (suc (suc (suc left)))) g) ≡ command ∷ commands_of seat (first_words step left g4)
unfolding first_words
draws_one {G} step seat left g g1 g2 g3 g4 w1 w2 w3 w4 command e1 e2 e3 e4 is =
    let first : w1 ≡ (step g).0 = ap (λ (p : ℕ × G). p.0) e1 in
    let second : w2 ≡ (step g1).0 = ap (λ (p : ℕ × G). p.0) e2 in
    let third : w3 ≡ (step g2).0 = ap (λ (p : ℕ × G). p.0) e3 in
    let fourth : w4 ≡ (step g3).0 = ap (λ (p : ℕ × G). p.0) e4 in
    let after_first : g1 ≡ (step g).1 = ap (λ (p : ℕ × G). p.1) e1 in
    let after_second : g2 ≡ (step g1).1 = ap (λ (p : ℕ × G). p.1) e2 in
    let after_third : g3 ≡ (step g2).1 = ap (λ (p : ℕ × G). p.1) e3 in
    let after_fourth : g4 ≡ (step g3).1 = ap (λ (p : ℕ × G). p.1) e4 in
    rw (is, first, second, third, fourth, after_fourth, after_third, after_second, after_first) refl

-- no words are no commands
pub draws_none : {G : Type 0} (step : G → ℕ × G) (seat : ℕ) (g : G) → commands_of seat (first_words step 0 g) ≡ []
unfolding first_words
draws_none step seat g = refl

-- the last command is drawn
pub all_drawn : {G : Type 0} (step : G → ℕ × G) (seat count i : ℕ) (g : G) (commands all : List Command) → count ≤ i
    → commands ++ commands_of seat (first_words step (4 * (count - i)) g) ≡ all → commands ≡ all
all_drawn step seat count i g commands all past told =
    let none : 4 * (count - i) ≡ 0 = omega (arith, past) in
    sym (append-nil commands)
    ∙ ap (λ (rest : List Command). commands ++ rest) (sym (draws_none step seat g))
    ∙ ap (λ (k : ℕ). commands ++ commands_of seat (first_words step k g)) (sym none)
    ∙ told

-- no command is drawn yet
pub none_drawn : (number seat : ℕ) (g : Lcg) (commands : List Command) → commands ≡ [] → g ≡ generator number seat
    → commands ++ commands_of seat (first_words pcg32 (4 * COMMANDS) g) ≡ script number seat
unfolding script
none_drawn number seat g commands none is =
    ap (λ (before : List Command). before ++ commands_of seat (first_words pcg32 (4 * COMMANDS) g)) none
    ∙ ap (λ (h : Lcg). commands_of seat (first_words pcg32 (4 * COMMANDS) h)) is

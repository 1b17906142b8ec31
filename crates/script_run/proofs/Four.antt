-- The four generated scripts, one after another.
use Rattle.std.proofs.Common.{◌≡◌, ◌<◌, ◌+◌, ℕ, zero, suc, [], ◌∷◌, ◌++◌, take, map, List, Vec, refl, arith}
use Rattle.std.specs.declared.alloc.Global.{Global}
use Rattle.std.proofs.lemmas.List.{map-append}
use Rattle.set_model.specs.declared.commands.Command.{Command}
use Rattle.script_gen.specs.Script.{script}
use Rattle.script_workers.specs.Workers.{items_of}
use Rattle.generated_runs.specs.OneAfterAnother.{scripts_of}

next : (number seat : ℕ) → seat < 4 → take (suc seat) (scripts_of number) ≡ take seat (scripts_of number) ++ script number seat ∷ []
next number zero lt = refl
next number (suc zero) lt = refl
next number (suc (suc zero)) lt = refl
next number (suc (suc (suc zero))) lt = refl
next number (suc (suc (suc (suc seat)))) lt = absurd (omega (arith, lt))

-- one more script
pub one_more : (number seat : ℕ) (scripts more : List (Vec Command Global)) (v : Vec Command Global) → seat < 4
    → map items_of scripts ≡ take seat (scripts_of number) → v.items ≡ script number seat → more ≡ scripts ++ v ∷ []
    → map items_of more ≡ take (seat + 1) (scripts_of number)
one_more number seat scripts more v lt before is m =
    let e : seat + 1 ≡ suc seat = omega arith in
    rw (m, e, map-append items_of scripts (v ∷ []), before, is, next number seat lt) refl

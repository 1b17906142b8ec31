use Rattle.grow_hash.proofs.Terms.{ℕ, length, ap, refl, subst, sym, State, Command, Size, Count, grown_map, IsOfGrown, IsGrowFound, Settled, ◌≡◌}
use Rattle.grow_hash.proofs.attempts.Found.{has_found}
use Rattle.grow_hash.proofs.deciding.find_change.Goals as goal

-- a size is settled by the number of keys
size_found : (levels : ℕ) (s : State) (command : Command) (name n : ℕ) → command ≡ Size name → IsOfGrown command → n ≡ length (grown_map levels s)
    → IsGrowFound levels command s (Settled (Count n))
size_found levels s command name n e names is =
    subst (λ (u : Command). IsGrowFound levels u s (Settled (Count n))) (sym e)
    (subst (λ m. IsGrowFound levels (Size m) s (Settled (Count n))) (sym (subst IsOfGrown e names)) (λ last. ap Count is, refl))

pub returns-in-Size-clause-found : goal.returns-in-Size-clause-found
returns-in-Size-clause-found g c =
    size_found g.row.LEVELS (g.V.View.state c.args.view.now) c.args.command.now c.in-Size.name c.size.result c.in-Size.is c.requires.command c.size.ensures.size

pub returns-in-Has-clause-found : goal.returns-in-Has-clause-found
returns-in-Has-clause-found g c =
    has_found g.row.LEVELS _ c.in-Has.key c.requires.lawful c.find.result.window c.find.ensures.window _ c.has.ensures c.args.command.now c.in-Has.name _
    c.in-Has.is
    c.requires.command c.yes_or_no.ensures

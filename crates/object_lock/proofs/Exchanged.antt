-- Which exchanges of HEAD are among the steps of a lock.
use Rattle.std.proofs.Common.{◌≡◌, cond, Bool, false, List, [], ◌∷◌, ◌++◌, All, refl, ap, ◌∙◌}
use Rattle.std.proofs.lemmas.List.Elements.{All-head, All-tail, filter-append}
use Rattle.mv_history.specs.declared.Step.{Step}
use Rattle.object_lock.specs.Tops.{is_lock_exchange, lock_exchanges}

-- a step that is none
abbrev pub IsNoExchange : Step → Type 0
IsNoExchange s = is_lock_exchange s.kind ≡ false

pub none_exchanged : (made : List Step) → All IsNoExchange made → lock_exchanges made ≡ []
none_exchanged [] all = refl
none_exchanged (s ∷ made) all =
    ap (λ (b : Bool). cond b (s ∷ lock_exchanges made) (lock_exchanges made)) (All-head IsNoExchange s made all)
    ∙ none_exchanged made (All-tail IsNoExchange s made all)

-- the exchanges of two parts, one after the other
pub exchanged_on : (made more : List Step) {a b : List Step} → lock_exchanges made ≡ a → lock_exchanges more ≡ b → lock_exchanges (made ++ more) ≡ a ++ b
exchanged_on made more p q = filter-append (λ (s : Step). is_lock_exchange s.kind) made more ∙ (λ i. p i ++ q i)

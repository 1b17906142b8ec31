-- How many exchanges on CLOCK are among the steps of a reclaiming call.
use Rattle.std.proofs.Common.{◌≡◌, ◌+◌, ◌≤◌, Bool, true, false, cond, List, [], ◌∷◌, ◌++◌, length, All, refl, ap, ◌∙◌, arith, length-append}
use Rattle.std.proofs.lemmas.List.Elements.{All-head, All-tail, All-weaker, filter-append}
use Rattle.mv_history.specs.declared.Step.{Step}
use Rattle.mv_history.specs.declared.StepKind.{StepKind}
use Rattle.mv_history.specs.declared.StepKind.TheVariants.{LoadScan, NameCommit, NameRest}
use Rattle.mv_history.specs.Trail.{is_clock_exchange, clock_exchanges}
use Rattle.log_reclaim.specs.Parts.{BeginsNoScan, LeavesClock, IsOtherKind}

begins : (k : StepKind) → IsOtherKind k → BeginsNoScan k
begins LoadScan h = absurd h
begins _ h = tt

leaves : (k : StepKind) → IsOtherKind k → LeavesClock k
leaves NameCommit h = absurd h
leaves NameRest h = absurd h
leaves _ h = tt

no_exchange : (k : StepKind) → LeavesClock k → is_clock_exchange k ≡ false
no_exchange NameCommit h = absurd h
no_exchange NameRest h = absurd h
no_exchange _ h = refl

-- steps of the other kinds begin no scan, and are no exchanges on CLOCK
pub begins_none : (made : List Step) → All (λ s. IsOtherKind s.kind) made → All (λ s. BeginsNoScan s.kind) made
begins_none made h = All-weaker (λ (s : Step). IsOtherKind s.kind) (λ s. BeginsNoScan s.kind) (λ s. begins s.kind) made h

pub leaves_clock : (made : List Step) → All (λ s. IsOtherKind s.kind) made → All (λ s. LeavesClock s.kind) made
leaves_clock made h = All-weaker (λ (s : Step). IsOtherKind s.kind) (λ s. LeavesClock s.kind) (λ s. leaves s.kind) made h

-- where none of the steps is an exchange on CLOCK there is none
pub none_exchanged : (made : List Step) → All (λ s. LeavesClock s.kind) made → clock_exchanges made ≡ []
none_exchanged [] h = refl
none_exchanged (s ∷ made) h =
    ap (λ (b : Bool). cond b (s ∷ clock_exchanges made) (clock_exchanges made)) (no_exchange s.kind (All-head (λ (x : Step). LeavesClock x.kind) s made h))
    ∙ none_exchanged made (All-tail (λ (x : Step). LeavesClock x.kind) s made h)

-- the exchanges of two parts are those of the one and those of the other
exchanges_both : (made more : List Step) → length (clock_exchanges (made ++ more)) ≡ length (clock_exchanges made) + length (clock_exchanges more)
exchanges_both made more =
    ap length (filter-append (λ (s : Step). is_clock_exchange s.kind) made more) ∙ length-append (clock_exchanges made) (clock_exchanges more)

-- none in two parts is none in both
pub none_in_both : (made more : List Step) → clock_exchanges made ≡ [] → clock_exchanges more ≡ [] → clock_exchanges (made ++ more) ≡ []
none_in_both made more a b = filter-append (λ (s : Step). is_clock_exchange s.kind) made more ∙ (λ i. a i ++ b i)

-- at most one in a part between two that have none
pub one_between : (made rested later : List Step) → clock_exchanges made ≡ [] → length (clock_exchanges rested) ≤ 1 → clock_exchanges later ≡ []
    → length (clock_exchanges (made ++ rested ++ later)) ≤ 1
one_between made rested later a one b =
    let all = exchanges_both (made ++ rested) later in
    let both = exchanges_both made rested in
    let first = ap length a in
    let then = ap length b in
    omega arith

-- one step is at most one
one_step : (s : Step) → length (clock_exchanges (s ∷ [])) ≤ 1
one_step s = go (is_clock_exchange s.kind)
  where
    go : (b : Bool) → length (cond b (s ∷ []) []) ≤ 1
    go true = omega arith
    go false = omega arith

-- none, and then one step
pub one_last : (made : List Step) (s : Step) → clock_exchanges made ≡ [] → length (clock_exchanges (made ++ s ∷ [])) ≤ 1
one_last made s a = let both = exchanges_both made (s ∷ []) in let first = ap length a in let then = one_step s in omega arith

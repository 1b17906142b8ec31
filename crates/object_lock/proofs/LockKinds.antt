-- A step of a lock frees no slot, cuts no chain and gives nothing up; so it is plain, but for an exchange that is won.
use Rattle.std.proofs.Common.{◌≡◌, Bool, true, false, cond, List, [], ◌∷◌, All, refl, sym, ap, ◌∙◌}
use Rattle.std.specs.Prelude.{◌&&◌, is_some}
use Rattle.std.proofs.lemmas.List.Elements.{All-nil, All-cons}
use Rattle.mv_history.specs.declared.Step.{Step}
use Rattle.mv_history.specs.declared.StepKind.{StepKind}
use Rattle.mv_history.specs.declared.StepKind.TheVariants.{LoadHead, LoadFirst, LoadStamp, LoadData, LoadMaster, StoreBuilt, LockHead}
use Rattle.seat_log.specs.Stands.{is_free_kind, is_cut_kind, is_lock_kind, is_unlock_kind, is_won_lock}
use Rattle.seat_log.proofs.PlainSteps.{IsPlain}
use Rattle.object_lock.specs.Tops.{IsLockStep, is_lock_exchange, lock_exchanges}

-- no kind of step of a lock does any of these
lock_kind : (kind : StepKind) → IsLockStep kind → (is_free_kind kind ≡ false) × (is_cut_kind kind ≡ false) × (is_unlock_kind kind ≡ false)
lock_kind LoadHead is = (refl, refl, refl)
lock_kind LoadFirst is = (refl, refl, refl)
lock_kind LoadStamp is = (refl, refl, refl)
lock_kind LoadData is = (refl, refl, refl)
lock_kind LoadMaster is = (refl, refl, refl)
lock_kind StoreBuilt is = (refl, refl, refl)
lock_kind LockHead is = (refl, refl, refl)
lock_kind _ is = absurd is

-- a step of a lock that isn't a won exchange is plain
pub lock_plain : (s : Step) → IsLockStep s.kind → is_won_lock s ≡ false → IsPlain s
lock_plain s is lost = let k = lock_kind s.kind is in (k.0, ap (λ b. b && is_some s.stored) k.1, lost, k.2)

-- what is no exchange of HEAD of a lock won none
unlocking : (kind : StepKind) → is_lock_exchange kind ≡ false → is_lock_kind kind ≡ false
unlocking LockHead e = e
unlocking _ e = refl

-- where no exchange was tried, none was won
pub none_won : (steps : List Step) → lock_exchanges steps ≡ [] → All (λ s. is_won_lock s ≡ false) steps
none_won [] e = All-nil (λ s. is_won_lock s ≡ false)
none_won (s ∷ steps) e = by_test (none_won steps) (is_lock_exchange s.kind) refl
  where
    by_test : (lock_exchanges steps ≡ [] → All (λ t. is_won_lock t ≡ false) steps) → (b : Bool) → is_lock_exchange s.kind ≡ b
        → All (λ t. is_won_lock t ≡ false) (s ∷ steps)
    by_test more true is =
        let tried : s ∷ lock_exchanges steps ≡ [] = sym (ap (λ b. cond b (s ∷ lock_exchanges steps) (lock_exchanges steps)) is) ∙ e in
        absurd (cc)
    by_test more false is =
        let rest : lock_exchanges steps ≡ [] = sym (ap (λ b. cond b (s ∷ lock_exchanges steps) (lock_exchanges steps)) is) ∙ e in
        All-cons (λ t. is_won_lock t ≡ false) s steps (ap (λ b. b && is_some s.stored) (unlocking s.kind is)) (more rest)

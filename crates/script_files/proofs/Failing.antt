-- Which call of the files failed.
use Rattle.std.proofs.Common.{◌∙◌, ℕ, List, [], ◌∷◌, ◌++◌, Result, Ok, Err, ap, arith}
use Rattle.host_io.specs.Outside.{Faults, IsTold}
use Rattle.script_files.specs.Scripts.{HasFailed, NoneFailed}

-- a call that failed behind calls of which none did is the one that failed
pub failed_from : (name : List ℕ) (faults mid now : Faults) → NoneFailed faults mid → HasFailed name mid now → HasFailed name faults now
failed_from name faults mid now none failed = record {
  told = failed.told ∙ ap (λ names. names ++ name ∷ []) none.told;
  rose = omega (arith, none.later, failed.rose);
}

-- calls of which none failed, one after another
pub none_from : (faults mid now : Faults) → NoneFailed faults mid → NoneFailed mid now → NoneFailed faults now
none_from faults mid now a b = record { told = b.told ∙ a.told; later = omega (arith, a.later, b.later) }

-- a call that ended well
pub none_by : {T E : Type 0} (t : T) (name : List ℕ) (faults now : Faults) → IsTold {T = T} {E = E} faults now name (Ok t) → NoneFailed faults now
none_by t name faults now told = record { told = told.names; later = told.cause.later }

-- a call that failed
pub failed_by : {T E : Type 0} (e : E) (name : List ℕ) (faults now : Faults) → IsTold {T = T} {E = E} faults now name (Err e) → HasFailed name faults now
failed_by e name faults now told = record { told = told.names; rose = told.cause.failed }

-- what is told of a call is told of it with the calls before, of which none failed
pub told_from : {T E : Type 0} (r : Result T E) (name : List ℕ) (faults mid now : Faults) → NoneFailed faults mid → IsTold mid now name r
    → IsTold faults now name r
told_from (Ok t) name faults mid now none told = record {
  cause = record { later = omega (arith, none.later, told.cause.later); failed = tt };
  names = told.names ∙ none.told;
}
told_from (Err e) name faults mid now none told = record {
  cause = record { later = omega (arith, none.later, told.cause.later); failed = omega (arith, none.later, told.cause.failed) };
  names = told.names ∙ ap (λ names. names ++ name ∷ []) none.told;
}

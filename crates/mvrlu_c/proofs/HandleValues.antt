-- The machine values of a handle: what its fields own tells them, and is made of nothing.
use Rattle.std.proofs.Common.{◌≡◌, ℕ, zero, suc, List, [], ◌∷◌, ◌++◌, Bool, true, false, refl, ◌∙◌}
use seplogic.Ra.Ura.{Ura}
use mir.Syntax.{ty_bool, ty_ptr, ty_struct, tcons, tnil}
use mir.Val.{Val, vbool, vstruct, of_list, has_ty}
use base.Logic.{ent, emp}
use base.Fml.{Fml}
use base.Shift.{Keyless}
use mir.Raw.{raw}
use denote.Memory.{lone}
use denote.Param.Send.{IsSend}
use types.Logic.{Logic, sem}
use denote.RattleType.{RattleType}
use denote.Signature.{Slot, plain}
use denote.Builtin.{bool, unit}
use denote.RawPtr.{Ptr, RawPtr, ptr_val}
use denote.Shadow.{shadow, makes_shadow}
use denote.Struct.Struct.{Struct}
use Rattle.core.proofs.cell.Inside.{Good}
use Rattle.std_alloc.proofs.SendSync.{lies}
use Rattle.std.proofs.Crossing.{frees}
use Rattle.mvrlu_c.specs.Held.{held_if, token}
use Rattle.mvrlu_c.proofs.Values.{both, ptr_typed}
use Rattle.std_alloc.proofs.ResultValues.{and_tt}

-- a struct by its fields alone: what it owns does not read its name
abbrev pub plainly : List RattleType → RattleType
plainly Rs = Struct (record { name = []; args = []; types = []; fields = Rs })

-- the machine value of a handle
abbrev pub seat_val : Bool → Ptr → Val
seat_val t p = both (vbool t) (ptr_val p)

-- what its fields own
abbrev pub seat_own : Bool → Ptr → List Val → Fml
seat_own t p = (plainly (bool ∷ RawPtr ∷ [])).own_val (t, (p, tt))

-- which tells its machine value
pub seat_told : (t : Bool) (p : Ptr) (vs : List Val) → shadow (seat_own t p vs) → (vs ≡ seat_val t p ∷ []) × Unit {0}
seat_told t p vs s = (s.1.0 ∙ (λ i. vstruct (of_list (s.1.1.0 i ++ (s.1.1.1.0 i ++ []))) ∷ []), tt)

-- and is had for nothing
pub seat_made : {M : Type 1} {𝓤 : Ura M} (𝓛 : Logic 𝓤) (t : Bool) (p : Ptr) → ent 𝓤 (emp 𝓤) (sem 𝓛 (seat_own t p (seat_val t p ∷ [])))
seat_made 𝓛 t p = makes_shadow 𝓛 (seat_own t p (seat_val t p ∷ [])) (λ _. (tt, (tt, (tt, tt)))) (
  (
    vbool t ∷ [],
    (
      ptr_val p ∷
          [],
      tt,
    ),
  ),
  (refl, (refl, (refl, tt))),
)

-- the machine value is one of its type
pub seat_typed : (t : Bool) (p : Ptr) → Good (ty_struct [] (tcons ty_bool (tcons ty_ptr tnil))) (seat_val t p)
seat_typed t p = (and_tt (has_ty ty_ptr (ptr_val p)) (ptr_typed p).0, (tt, ((ptr_typed p).1, tt)))

-- the slot of a parameter
abbrev pub slot_at : {n : ℕ} → ℕ → List (Slot n) → Slot n
slot_at k [] = plain (λ _. unit)
slot_at zero (s ∷ ss) = s
slot_at (suc k) (s ∷ ss) = slot_at k ss

-- what a handle owns may go to another thread where the seat may
pub held_keyless : (R : RattleType) → IsSend R → (t : Bool) (p : Ptr) (x : R.Denot) → Keyless (held_if token R t p x)
held_keyless R s true p x = (lies R s p x, frees.frees _ (raw (lone R.mir)) p)
held_keyless R s false p x = tt

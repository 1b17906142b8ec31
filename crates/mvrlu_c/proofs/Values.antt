-- The machine values of a `Loose`, a box as its pointer, or none. Assumes `Logic`.
use Rattle.std.proofs.Common.{◌≡◌, List, [], ◌∷◌, ◌++◌, refl, subst, lit<}
use mathlib.Core.Bool.{Bool, true, false, ◌&&◌}
use lib.Dec.{T}
use seplogic.Ra.Ura.{Ura}
use mir.Syntax.{impl, tnil, dnil, ty_ptr}
use mir.Val.{Val, vstruct, vcons, vnil, of_list, has_ty, WT}
use types.Logic.{Logic}
use types.Kit.{Item, Goal, Seq, Step, step, ‵, ◌$◌, move, drop, fsplit, fjoin, fpick, fpack, feq_i, feq_l}
use denote.RattleType.{RattleType, Valss}
use denote.Builtin.{RawPtr}
use denote.RawPtr.{Ptr, block_ptr, null_ptr, ptr_val}
use denote.Steps.{nothing}
use denote.Param.{layout}
use denote.Param.Laws.{Laws}
use denote.Struct.Struct.{within}
use denote.Struct.Owning.{shape}
use Rattle.core.specs.declared.alloc.Allocator.{Ghosts}
use Rattle.core.proofs.alloc.Calls.{Al, handle_tells}
use Rattle.core.proofs.cell.Inside.{Good}
use Rattle.mvrlu_c.specs.Held.{held_if}
use Rattle.mvrlu_c.specs.contracts.loose.Loose as loose

-- a struct of two values
abbrev pub both : Val → Val → Val
both v w = vstruct (vcons v (vcons w vnil))

-- both are of their types
both_tt : (x y : Bool) → T x → T y → T (x && (y && true))
both_tt true true s t = tt
both_tt true false s t = absurd t
both_tt false y s t = absurd s

-- a pointer is of its type
pub ptr_typed : (p : Ptr) → Good ty_ptr (ptr_val p)
ptr_typed (block_ptr b o) = (tt, tt)
ptr_typed null_ptr = (tt, record { fits = lit< tt })

module _ (R Z : RattleType) (L : Laws Z) (g : Ghosts Z.Denot) where
  -- its type
  abbrev pub Loose : RattleType
  Loose = loose.the_row R Z g

  -- its allocator
  abbrev pub al : Al
  al = record { row = Z; laws = L; g = g; d = impl [] tnil dnil; drops = impl [] tnil dnil }

  -- its machine value is one of its type
  pub loose_good : (p : Ptr) (h : Val) → Good (layout Z) h → T (has_ty ty_ptr (ptr_val p) && (has_ty (layout Z) h && true)) × WT (both (ptr_val p) h)
  loose_good p h fits = (both_tt (has_ty ty_ptr (ptr_val p)) (has_ty (layout Z) h) (ptr_typed p).0 fits.0, ((ptr_typed p).1, (fits.1, tt)))

  module _ {M : Type 1} {𝓤 : Ura M} {𝓛 : Logic 𝓤} {K : Type 0} {Γ : List (Item 𝓤)} {G : Goal 𝓤 𝓛.H} where
    -- it is taken apart into what it owns
    pub loose_out : K → (d : Loose.Denot) (vs : List Val)
        → ((h : Val) → vs ≡ both (ptr_val d.at) h ∷ [] → Good (layout Z) h →
        Seq K 𝓛 (‵ (held_if (g.dealloc_token d.alloc) R d.is_full d.at d.value) ∷ ‵ (Z.own_val d.alloc (h ∷ [])) ∷ Γ) G)
        → Seq K 𝓛 (‵ (Loose.own_val d vs) ∷ Γ) G
    loose_out t d vs k =
        fsplit t $ fpick t (λ vss. fsplit t $ feq_l t (λ ev. fsplit t $ feq_l t (λ ep. fsplit t $ handle_tells al t d.alloc vss.1.0
        (λ h ea fits. move t (1 ∷ []) $ drop t $ move t (1 ∷ []) $ k h
        (subst (λ (ws : List Val). vs ≡ vstruct (of_list (ptr_val d.at ∷ (ws ++ []))) ∷ []) ea (subst (λ (ps : List Val). vs ≡ vstruct
        (of_list (ps ++ (vss.1.0 ++ []))) ∷ []) ep ev)) fits))))

    -- and made of it
    pub loose_in : K → (t : Bool) (p : Ptr) (h : Val) (a : Z.Denot) (x : R.Denot)
        → Step K 𝓛 (‵ (Loose.own_val (record { at = p; alloc = a; is_full = t; value = x }) (both (ptr_val p) h ∷ [])) ∷
        Γ) G (‵ (held_if (g.dealloc_token a) R t p x) ∷ ‵ (Z.own_val a (h ∷ [])) ∷ Γ) G
    loose_in k t p h a x = step (λ s. let v : Val = both (ptr_val p) h in
        nothing k $ move k (2 ∷ 0 ∷ []) $ fjoin k $ feq_i k (List Val) (ptr_val p ∷ []) (ptr_val p ∷ []) refl $ fjoin k $ feq_i k (List Val) (v ∷ []) (v ∷
        []) refl $ fjoin k $
        fpack k (Valss (RawPtr ∷ Z ∷ [])) (within (shape (loose.the_type R Z g)) (p, (a, tt)) (v ∷ [])) (ptr_val p ∷ [], (h ∷ [], tt)) $ fjoin k $ s)

-- The two walks of a handle of C, of whatever kind: it is taken apart, and made. Assumes `Logic`.
use Rattle.mvrlu_c.proofs.Terms.{◌≡◌, List, [], ◌∷◌, ◌++◌, Bool, refl, Val, SProp, ent, emp, WpFn, fact, tables, ‵, raw, ◌⊛◌, prop, ◌$◌, ◌∵◌, !, qed, by}
use Rattle.mvrlu_c.proofs.Terms.{move, drop, use0, use1, split, regoal, rewrite, fsplit, fjoin, feq_i, feq_l, whole, sub, agg, stop, fld, of_opd, no_more}
use Rattle.mvrlu_c.proofs.Terms.{and_then, returns, enter, alloc_all, pass_all, free_all, look_at, get, get_in, sets, RattleType, owns, layout, ptr_val}
use Rattle.mvrlu_c.proofs.Terms.{types_at, nothing, heard, Tuple, alive, Stays, stay_dropped, walk_of, Goes-dropped, Goes-blank, proved_at, leaves, both}
use Rattle.mvrlu_c.proofs.Terms.{Loose, loose_good, loose_in, loose_out, plain, held_if}
use mir.Val.{vbool}
use types.Kit.{use2}
use Rattle.core.proofs.cell.Inside.{one}
use Rattle.std_alloc.proofs.Pairs.{pair_of, pair_val, pair_Typed}
use Rattle.std.specs.contracts.impls.GlobalAllocator.TheImpl.{ghosts}
use Rattle.mvrlu_c.proofs.Values.{ptr_typed}
use Rattle.mvrlu_c.proofs.HandleValues.{seat_val, seat_own, seat_told, seat_made, seat_typed}
use Rattle.mvrlu_c.specs.Held.{token}
use Rattle.std.proofs.Common.{ℕ}
use seplogic.Ra.Ura.{Ura}
use base.Fml.{Fml, fsep}
use mir.Syntax.{Sym, Callee, Fn, Local, Body, ty_bool, ty_ptr, ty_struct, tcons, tnil}
use mir.Syntax.{local, value_local, assign, place, rv_opd, copy, field, aggregate, seq, return}
use prog.Model.{Model}
use prog.Wp.{Calls, Loops, Closed}
use types.Logic.{Logic}
use contract.Lifetimes.{Lfts}
use contract.Running.{Running}
use denote.Exit.{yes, hidden, under}
use denote.Builtin.{RawPtr, bool}
use denote.RawPtr.{Ptr}
use denote.Struct.Struct.{exits_of}
use denote.Triple.Clauses.{Ended, Clauses, AtExit, at_exit, closing}
use denote.Triple.Entry.{Args}
use denote.Triple.Spec.{Meets}
use Rattle.std.specs.contracts.alloc.Global as heap
use Rattle.std.proofs.alloc.Global.TheLaws as heap_laws

-- the heap of the C library
abbrev pub Z : RattleType
Z = heap.the_row

-- a local by its type
abbrev pub of_type : RattleType → Local
of_type R = local (layout R) value_local

-- a local is given another
abbrev pub is_copy : ℕ → ℕ → Body
is_copy i j = assign (place i []) (rv_opd (copy (place j [])))

-- a local is given a field of another
abbrev pub is_field : ℕ → ℕ → ℕ → Body
is_field i j k = assign (place i []) (rv_opd (copy (place j (field k ∷ []))))

-- a local is given a struct of two others
abbrev pub is_pair : ℕ → ℕ → ℕ → Body
is_pair i j k = assign (place i []) (aggregate (copy (place j []) ∷ copy (place k []) ∷ []))

-- The handle of this name whose type is Q: whether it is open, where its box lies, and what is in that, of the type R.
module _ (Q R : RattleType) (name : Sym) (is_open : Q.Denot → Bool) (at : Q.Denot → Ptr) (state : Q.Denot → R.Denot) where
  -- the box behind it
  abbrev pub Block : RattleType
  Block = Loose R Z heap_laws.the_row_laws ghosts

  -- its type, with what it owns written out
  abbrev pub Handle : RattleType
  Handle = record {
    Denot = Q.Denot;
    mir = ty_struct name (tcons ty_bool (tcons ty_ptr tnil)) ∷ [];
    written = Q.written;
    reaches = Q.reaches;
    lives = Q.lives;
    own_val = λ d vs. fsep (seat_own (is_open d) (at d) vs) (held_if token R (is_open d) (at d) (state d));
    exit = λ k. hidden (under (λ d. (is_open d, (at d, tt))) (exits_of k (bool ∷ RawPtr ∷ [])));
    coded = Q.coded;
    shr_at = Q.shr_at;
  }

  -- the signature of `take_apart`
  abbrev pub takes_apart : Ended
  takes_apart = record {
    signature = record {
      lifetimes = 0;
      outlives = [];
      params = plain (λ κs. Handle) ∷ plain (λ κs. Z) ∷ [];
      result = plain (λ κs. Tuple (bool ∷ Block ∷ []));
    };
    kept = (yes, (yes, tt));
  }

  -- its code
  abbrev pub take_apart : Fn
  take_apart = record {
    lifetimes = 0;
    outlives = [];
    ty_params = [];
    givens = 0;
    params = 2;
    locals = of_type (Tuple (bool ∷ Block ∷ [])) ∷ of_type Handle ∷ of_type Z ∷ of_type bool ∷ of_type RawPtr ∷ of_type RawPtr ∷ of_type Block ∷ [];
    body = seq (is_field 3 1 0) (seq (is_field 4 1 1) (seq (is_copy 5 4) (seq (is_pair 6 5 2) (seq (is_pair 0 3 6) return))));
  }

  -- the signature of `of`
  abbrev pub makes : Ended
  makes = record {
    signature = record {
      lifetimes = 0;
      outlives = [];
      params = plain (λ κs. bool) ∷ plain (λ κs. Block) ∷ [];
      result = plain (λ κs. Handle);
    };
    kept = (yes, (yes, tt));
  }

  -- its code
  abbrev pub make : Fn
  make = record {
    lifetimes = 0;
    outlives = [];
    ty_params = [];
    givens = 0;
    params = 2;
    locals = of_type Handle ∷ of_type bool ∷ of_type Block ∷ of_type RawPtr ∷ of_type RawPtr ∷ [];
    body = seq (is_field 3 2 0) (seq (is_copy 4 3) (seq (is_pair 0 1 4) return));
  }

  module _ {M : Type 1} {𝓤 : Ura M} (𝓛 : Logic 𝓤) (𝓜 : Model 𝓤 𝓛.H) (𝓡 : Running 𝓤 𝓛.H 𝓜) (k : Callee) where
    -- the table of calls
    abbrev pub C : Calls 𝓤 𝓛.H
    C = (tables 𝓤 𝓛.H 𝓜 𝓡 𝓡.env).C

    -- the table of loops
    abbrev pub Λ : Loops 𝓤 𝓛.H
    Λ = (tables 𝓤 𝓛.H 𝓜 𝓡 𝓡.env).Λ

    -- `take_apart` meets each contract that tells the fields: the box goes with its pointer
    pub taken_apart : (c : Clauses 𝓤 takes_apart)
        → ((κs : Lfts 0) (a : Args takes_apart.signature κs) (g : (c κs a).ghost) (e : AtExit takes_apart κs)
        → ent 𝓤 (emp 𝓤) ((c κs a).ensures g (is_open a.0, record { at = at a.0; alloc = a.1.0; is_full = is_open a.0; value = state a.0 }) e))
        → Closed 𝓤 𝓛.H C Λ k take_apart → Meets 𝓛 takes_apart.signature (C k) (closing 𝓛 takes_apart c)
    taken_apart c tells unfolded =
        let T = takes_apart in
        let hs : Stays T.signature.params T.kept = (stay_dropped (plain (λ κs. Handle)) yes, (stay_dropped (plain (λ κs. Z)) yes, tt)) in
        proved_at 𝓛 T hs c 𝓜 𝓡 (
          Goes-blank 𝓛 0 (plain (λ κs. Handle)) yes (λ κs x f. tt),
          (Goes-dropped 𝓛 0 (plain (λ κs. Z)) yes (λ κs x f. refl), tt),
        ) k take_apart unfolded (λ z are.
        let Post : Val → SProp 𝓤 = (walk_of 𝓛 T hs c).post z in
        let a = z.0.3 in
        let vss = z.0.4 in
        let x = a.0 in
        let g = a.1.0 in
        let t = is_open x in
        let p = at x in
        let got = one (layout Z) vss.1.0 ((heap_laws.the_row_laws.lawful 𝓛).typed g vss.1.0 are.1.0) in
        let h : Val = got.0 in
        let told = seat_told t p vss.0 are.0.0 in
        let good = loose_good R Z heap_laws.the_row_laws ghosts p h got.2 in
        let d : Block.Denot = record { at = p; alloc = g; is_full = t; value = state x } in
        let v : Val = both (ptr_val p) h in
        qed 𝓛 ((raw (alive 𝓛 T.signature z.0.0 z.0.1) ⊛ ‵ (owns (types_at T.signature.params z.0.0) a vss)) ∷ raw ((c z.0.0 a).requires z.1) ∷ []) ∵
        move ! (1 ∷ []) $ drop ! $ split ! $ move ! (1 ∷ []) $ fsplit ! $ fsplit ! $ drop ! $ move ! (1 ∷ []) $ fsplit ! $ move ! (1 ∷ []) $ drop ! $
        rewrite ! 0 (λ (us : List Val). ‵ (Z.own_val g us)) got.1 refl $ move ! (1 ∷ 0 ∷ []) $
        regoal ! (λ (us : List Val). prop (WpFn 𝓤 𝓛.H C Λ take_apart us Post)) (λ i. told.0 i ++ (got.1 i ++ [])) refl $
        enter ! C Λ take_apart (seat_val t p ∷ h ∷ []) Post $
        alloc_all ! (λ l. pass_all ! refl (seat_typed t p, (got.2, tt)) $
        sets ! (of_opd ! (get_in ! (fld ! refl (stop !)) (sub ! 0 refl (whole !)))) refl (tt, tt) $
        sets ! (of_opd ! (get_in ! (fld ! refl (stop !)) (sub ! 1 refl (whole !)))) refl (ptr_typed p) $
        sets ! (of_opd ! (get ! refl)) refl (ptr_typed p) $
        sets ! (agg ! (and_then ! (get ! refl) (and_then ! (get ! refl) (no_more !)))) refl good $
        sets ! (agg ! (and_then ! (get ! refl) (and_then ! (get ! refl) (no_more !)))) refl (pair_Typed ty_bool (layout Block) (vbool t) v (tt, tt) good) $
        loose_in R Z heap_laws.the_row_laws ghosts ! t p h g (state x) $ feq_i ! (List Val) (vbool t ∷ []) (vbool t ∷ []) refl $
        use2 𝓛 (‵ ((Tuple (bool ∷ Block ∷ [])).own_val (t, d) (pair_val (vbool t) v ∷ []))) (pair_of 𝓛 bool Block t d (vbool t) v) $
        use0 𝓛 (raw ((c z.0.0 a).ensures z.1 (t, d) (at_exit T z.0.0 a (tt, (tt, tt))))) (tells z.0.0 a z.1 (at_exit T z.0.0 a (tt, (tt, tt)))) $
        nothing ! $ nothing ! $ fjoin ! $ nothing ! $ fjoin ! $
        returns ! (look_at ! 0 refl) $ free_all ! refl $ move ! (3 ∷ 0 ∷ 2 ∷ 1 ∷ []) $
        by ! (leaves 𝓛 T hs c z (pair_val (vbool t) v) (t, d) (tt, (tt, tt)) (tt, (tt, tt)))))

    -- `of` meets each contract that tells the fields, and asks that there is a box where the handle is open
    pub made : (fields : Bool → Ptr → R.Denot → Q.Denot)
        → ((t : Bool) (p : Ptr) (x : R.Denot) (vs : List Val) → fsep (seat_own t p vs) (held_if token R t p x) ≡ Handle.own_val (fields t p x) vs)
        → (c : Clauses 𝓤 makes)
        → ((κs : Lfts 0) (a : Args makes.signature κs) (g : (c κs a).ghost) → ent 𝓤 ((c κs a).requires g) (fact 𝓤 (a.1.0.is_full ≡ a.0)))
        → ((κs : Lfts 0) (a : Args makes.signature κs) (g : (c κs a).ghost) (e : AtExit makes κs)
        → ent 𝓤 (emp 𝓤) ((c κs a).ensures g (fields a.0 a.1.0.at a.1.0.value) e))
        → Closed 𝓤 𝓛.H C Λ k make → Meets 𝓛 makes.signature (C k) (closing 𝓛 makes c)
    made fields owned c asks tells unfolded =
        let T = makes in
        let hs : Stays T.signature.params T.kept = (stay_dropped (plain (λ κs. bool)) yes, (stay_dropped (plain (λ κs. Block)) yes, tt)) in
        proved_at 𝓛 T hs c 𝓜 𝓡 (
          Goes-dropped 𝓛 0 (plain (λ κs. bool)) yes (λ κs x f. refl),
          (Goes-blank 𝓛 0 (plain (λ κs. Block)) yes (λ κs x f. tt), tt),
        ) k make unfolded (λ z are.
        let Post : Val → SProp 𝓤 = (walk_of 𝓛 T hs c).post z in
        let a = z.0.3 in
        let vss = z.0.4 in
        let t = a.0 in
        let x = a.1.0 in
        let p = x.at in
        let d : Q.Denot = fields t p x.value in
        qed 𝓛 ((raw (alive 𝓛 T.signature z.0.0 z.0.1) ⊛ ‵ (owns (types_at T.signature.params z.0.0) a vss)) ∷ raw ((c z.0.0 a).requires z.1) ∷ []) ∵
        move ! (1 ∷ []) $ use1 𝓛 (raw (fact 𝓤 (x.is_full ≡ t))) (asks z.0.0 a z.1) $ heard ! (x.is_full ≡ t) (λ is.
        split ! $ move ! (1 ∷ []) $ fsplit ! $ feq_l ! (λ et. fsplit ! $
        loose_out R Z heap_laws.the_row_laws ghosts ! x vss.1.0 (λ h ws fits. move ! (1 ∷ []) $ drop ! $ move ! (1 ∷ []) $ drop ! $
        rewrite ! 0 (λ (f : Bool). ‵ (held_if token R f p x.value)) is refl $
        regoal ! (λ (us : List Val). prop (WpFn 𝓤 𝓛.H C Λ make us Post)) (λ i. et i ++ (ws i ++ [])) refl $
        enter ! C Λ make (vbool t ∷ both (ptr_val p) h ∷ []) Post $
        alloc_all ! (λ l. pass_all ! refl ((tt, tt), (loose_good R Z heap_laws.the_row_laws ghosts p h fits, tt)) $
        sets ! (of_opd ! (get_in ! (fld ! refl (stop !)) (sub ! 0 refl (whole !)))) refl (ptr_typed p) $
        sets ! (of_opd ! (get ! refl)) refl (ptr_typed p) $
        sets ! (agg ! (and_then ! (get ! refl) (and_then ! (get ! refl) (no_more !)))) refl (seat_typed t p) $
        returns ! (look_at ! 0 refl) $ free_all ! refl $
        use0 𝓛 (‵ (seat_own t p (seat_val t p ∷ []))) (seat_made 𝓛 t p) $ fjoin ! $
        rewrite ! 0 (λ (F : Fml). ‵ F) (owned t p x.value (seat_val t p ∷ [])) refl $
        use0 𝓛 (raw ((c z.0.0 a).ensures z.1 d (at_exit T z.0.0 a (tt, (tt, tt))))) (tells z.0.0 a z.1 (at_exit T z.0.0 a (tt, (tt, tt)))) $
        nothing ! $ nothing ! $ fjoin ! $ nothing ! $ fjoin ! $ move ! (3 ∷ 0 ∷ 2 ∷ 1 ∷ []) $
        by ! (leaves 𝓛 T hs c z (seat_val t p) d (tt, (tt, tt)) (tt, (tt, tt))))))))

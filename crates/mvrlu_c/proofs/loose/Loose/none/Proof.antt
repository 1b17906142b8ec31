-- `none` owns nothing.
use Rattle.mvrlu_c.proofs.Terms.{◌≡◌, List, [], ◌∷◌, ◌++◌, refl, a_type, dcons, dnil, Val, vptr, inst_fn, SProp, emp, WpFn, ‵, raw, ◌⊛◌, prop, ◌$◌, ◌∵◌, ! }
use Rattle.mvrlu_c.proofs.Terms.{qed, by, move, drop, use0, split, regoal, fsplit, fjoin, agg, of_opd, no_more, and_then, returns, enter, alloc_all}
use Rattle.mvrlu_c.proofs.Terms.{pass_all, free_all, look_at, get, sets, fact, fact_i, tables, RattleType, owns, types_at, null_ptr, ptr_val, nothing, param}
use Rattle.mvrlu_c.proofs.Terms.{bounded, param_laws, alive, Stays, stay_dropped, walk_of, Goes-dropped, Goes-blank, handle_tells, proved_at, leaves, both}
use Rattle.mvrlu_c.proofs.Terms.{loose_good, loose_in}
use Rattle.mvrlu_c.proofs.HandleValues.{slot_at}
use Rattle.std.proofs.Common.{false}
use types.Run.{lit}
use Rattle.mvrlu_c.proofs.Values.{al}
use Rattle.mvrlu_c.specs.contracts.loose.Loose.none.{ended, clauses}
use Rattle.mvrlu_c.specs.contracts.loose.Loose.none.Key.{name as #self}
use Rattle.mvrlu_c.proofs.loose.Loose.none.Statement.{statement}
use Rattle.mvrlu_c.proofs.loose.Loose.none.Code as code

pub none_spec : {M : Type 1} → statement M
none_spec 𝓤 𝓛 𝓜 𝓡 wired T A L LA g d dx dd allocator glue glued =
    let H = 𝓛.H in let 𝓣 = tables 𝓤 H 𝓜 𝓡 𝓡.env in let R : RattleType = param 0 T in let Z : RattleType = param 1 A in let LZ = param_laws 1 A LA in
    let En = ended T A g d dx dd in let c = clauses T A g d dx dd 𝓛 𝓜.mem 𝓡.returns in
    let fn = inst_fn (bounded (a_type ∷ a_type ∷ []) (T, (A, tt)) (dcons d (dcons dx (dcons dd dnil)))) code.function in
    let hs : Stays En.signature.params En.kept =
    (stay_dropped (slot_at 0 En.signature.params) En.kept.0, (stay_dropped (slot_at 1 En.signature.params) En.kept.1.0, tt)) in
    proved_at 𝓛 En hs c 𝓜 𝓡 (
      Goes-blank 𝓛 3 (slot_at 0 En.signature.params) En.kept.0 (λ κs x f. tt),
      (Goes-dropped 𝓛 3 (slot_at 1 En.signature.params) En.kept.1.0 (λ κs x f. refl), tt),
    ) (#self (bounded (a_type ∷ a_type ∷ []) (T, (A, tt)) (dcons d (dcons dx (dcons dd dnil))))) fn
    (code.unfolded 𝓤 H 𝓜 𝓡 wired (T, (A, tt)) d dx dd) (λ z are.
    let Post : Val → SProp 𝓤 = (walk_of 𝓛 En hs c).post z in let a = z.0.3.0 in let x = z.0.3.1.0 in let at = x.ref_ptr in
    qed 𝓛 ((raw (alive 𝓛 En.signature z.0.0 z.0.1) ⊛ ‵ (owns (types_at En.signature.params z.0.0) z.0.3 z.0.4)) ∷ raw ((c z.0.0 z.0.3).requires z.1) ∷ []) ∵
    move ! (1 ∷ []) $ drop ! $ split ! $ move ! (1 ∷ []) $ fsplit ! $ handle_tells (al R Z LZ g) ! a z.0.4.0 (λ h eh fits. move ! (1 ∷ []) $ drop ! $
    regoal ! (λ (us : List Val). prop (WpFn 𝓤 H 𝓣.C 𝓣.Λ fn us Post)) (λ i. eh i ++ (are.1.0.0 i ++ [])) refl $
    enter ! 𝓣.C 𝓣.Λ fn (h ∷ vptr at.0 at.1 ∷ []) Post $ alloc_all ! (λ l. pass_all ! refl (fits, ((tt, tt), tt)) $
    sets ! (of_opd ! (get ! refl)) refl fits $
    sets ! (agg ! (and_then ! (lit ! tt) (and_then ! (get ! refl) (no_more !)))) refl (loose_good R Z LZ g null_ptr h fits) $
    nothing ! $ loose_in R Z LZ g ! false null_ptr h a x.now $
    use0 𝓛 (raw (fact 𝓤 (false ≡ false))) (fact_i 𝓤 (false ≡ false) (emp 𝓤) refl) $ nothing ! $ nothing ! $ fjoin ! $ nothing ! $ fjoin ! $
    returns ! (look_at ! 0 refl) $ free_all ! refl $ move ! (3 ∷ 0 ∷ 2 ∷ 1 ∷ []) $
    by ! (leaves 𝓛 En hs c z (both (ptr_val null_ptr) h) (record { at = null_ptr; alloc = a; is_full = false; value = x.now }) (tt, (tt, tt)) (tt, (tt, tt))))))

-- Making the seats of a new domain.
use Rattle.std.proofs.Common.{◌≡◌, ◌⊎◌, ℕ, zero, suc, ◌+◌, ◌*◌, ◌<◌, cond, count_by, List, []}
use Rattle.std.proofs.Common.{◌∷◌, ◌++◌, length, replicate, refl, sym, ap, ◌∙◌, subst, inl, inr, ⊎_elim, arith}
use mathlib.Core.Option.{some}
use lib.ListN.{get_elem?}
use Rattle.std.proofs.lemmas.List.Folds.{sum_by-replicate}
use Rattle.mv_history.specs.State.{State, Writes}
use Rattle.mv_history.specs.declared.Protocol.{Ghosts}
use Rattle.mv_layout.specs.declared.Config.{Config}
use Rattle.mv_layout.specs.Limits.{Checked}
use Rattle.object_lock.specs.mv_core.declared.ring.Slot.TheVariants.{Free}
use Rattle.object_lock.specs.mv_core.declared.view.Knowledge.{Knowledge}
use Rattle.object_lock.specs.mv_core.declared.shared.Shared.{Shared}
use Rattle.object_lock.specs.mv_core.declared.shared.Pass.{Pass}
use Rattle.object_lock.specs.mv_core.Rings.{is_spare, spare_count, empty_ring}
use Rattle.object_lock.specs.mv_core.Passes.{view, home_of, seat_meant, config_of, start_of, table_of, AreNew}
use Rattle.object_lock.specs.mv_core.Start.{starting_view}
use Rattle.object_lock.specs.mv_core.EnterSteps.{MayLoadLow}
use Rattle.object_lock.specs.mv_core.Known.{Known}
use Rattle.object_lock.proofs.mv_core_lemmas.Terms.{some-injective}
use Rattle.object_lock.specs.seat_log.Notes.{Noted, nothing_noted}
use Rattle.object_lock.specs.seat_log.Stands.{Stands}
use Rattle.object_lock.proofs.seat_log_lemmas.Beginning.{stands_new}
use Rattle.mvrlu.specs.declared.domain.Seat.{Seat}
use Rattle.mvrlu.specs.declared.opening.Ready.{Ready}
use Rattle.mvrlu.specs.Opened.{new_seat, IsNewSeatOf}
use Rattle.mvrlu.specs.Placed.{placed, seat_from, IsIdle}
use Rattle.mvrlu.specs.Readiness.{IsNewPass, IsReady, AreReady, AreSeats}

-- an element of a list with one more is of the list, or that one
pub at_end : {X : Type 0} (xs : List X) (y x : X) (k : ℕ) → get_elem? (xs ++ y ∷ []) k ≡ some x → (get_elem? xs k ≡ some x) ⊎ ((k ≡ length xs) ×
    (some y ≡ some x))
at_end [] y x zero e = inr (refl, e)
at_end [] y x (suc k) e = inl e
at_end (z ∷ xs) y x zero e = inl e
at_end (z ∷ xs) y x (suc k) e = ⊎_elim inl (λ r. inr (ap suc r.0, r.1)) (at_end xs y x k e)

pub before_end : {X : Type 0} (xs : List X) (y x : X) (k : ℕ) → get_elem? xs k ≡ some x → get_elem? (xs ++ y ∷ []) k ≡ some x
before_end [] y x zero e = absurd (cc)
before_end [] y x (suc k) e = absurd (cc)
before_end (z ∷ xs) y x zero e = e
before_end (z ∷ xs) y x (suc k) e = before_end xs y x k e

pub the_end : {X : Type 0} (xs : List X) (y : X) → get_elem? (xs ++ y ∷ []) (length xs) ≡ some y
the_end [] y = refl
the_end (z ∷ xs) y = the_end xs y

-- all slots of a new log are free
new_spare : (c : Config) → spare_count (empty_ring c) ≡ c.slots
new_spare c =
    let n : count_by is_spare (replicate c.slots Free) ≡ c.slots * 1 = sum_by-replicate (λ y. cond (is_spare y) 1 0) c.slots Free in omega arith

-- the view with which a seat begins means the new seat
new_meant : (home : List ℕ) (c : Config) (start : State) (number : ℕ) → seat_meant home c.write_max
    (starting_view c start number) ≡ new_seat home c start number
new_meant home c start zero =
    let spare = new_spare c in λ i. record (new_seat home c start zero) { spare = spare i }
new_meant home c start (suc number) =
    let spare = new_spare c in λ i. record (new_seat home c start (suc number)) { spare = spare i }

begins_outside : (c : Config) (start : State) (number : ℕ) → MayLoadLow (starting_view c start number)
begins_outside c start zero = record { outside = refl; no_scan = refl }
begins_outside c start (suc number) = record { outside = refl; no_scan = refl }

module _ {P : Type 0} {g : Ghosts P} (s : Shared P) (p : Pass P g) (log : Noted) (number : ℕ) (new : IsNewPass s number p)
    (noted : log ≡ nothing_noted number (config_of s).slots) where
  abbrev c : Config
  c = config_of s

  config_is : p.domain ≡ c
  config_is = new.0.4

  -- the seat that it means is the new one
  pub placed_new : seat_from (placed p log) ≡ new_seat (home_of c (table_of s)) c (start_of s) number
  placed_new =
      (λ i. seat_meant (home_of (config_is i) (new.0.0 i)) (config_is i).write_max (new.2 i)) ∙ new_meant (home_of c (table_of s)) c (start_of s) number

  -- and it is outside a section, with a log that stands for its pass
  pub placed_idle : (starts : State → Type 0) (allows : List ℕ → State → Writes → Type 0) → ∥ Known starts allows (view p) ∥₁ → Checked c
      → IsIdle starts allows (placed p log)
  placed_idle starts allows known checked =
      let low : number < c.seats = subst (λ (n : ℕ). n < c.seats) new.1 new.0.1 in
      let begun : Stands c (starting_view c (start_of s) number) (nothing_noted number c.slots) = stands_new c (start_of s) number checked low in record {
        placed = record {
          known = known;
          range = subst (λ (e : Config). (view p).number < e.seats) (sym config_is) (subst (λ (n : ℕ). n < c.seats) p.numbered new.0.1);
          base = new.0.2 ∙ sym (ap (λ (e : Config). e.base) config_is);
          stands = subst (λ (e : Config). Stands e (view p) log) (sym config_is)
              (subst (λ (v : Knowledge). Stands c v log) (sym new.2) (subst (Stands c (starting_view c (start_of s) number)) (sym noted) begun));
          unbuilt = ap (λ (l : Noted). l.built) noted;
        };
        outside = subst MayLoadLow (sym new.2) (begins_outside c (start_of s) number);
      }

-- one more pass with its log, below all before
module _ {P : Type 0} {rules : _} (s : Shared P) where
  pub ready_next : (rs : List (Ready P rules)) (r : Ready P rules) (number : ℕ) → AreReady s rs → length rs + number + 1 ≡ (config_of s).seats
      → IsReady s number r
      → AreReady s (rs ++ r ∷ [])
  ready_next rs r number all count is k n x e place =
      ⊎_elim
      (λ old. all k n x old place)
      (λ last.
      let same : r ≡ x = some-injective r x last.1 in
      let at : number ≡ n = (let here = last.0 in omega arith) in
      subst (λ (m : ℕ). IsReady s m x) at (subst (IsReady s number) same is))
      (at_end rs r x k e)

  pub ready_front : (rs all : List (Ready P rules)) (r : Ready P rules) → all ≡ rs ++ r ∷ [] → AreReady s all → AreReady s rs
  ready_front rs all r split are k n x e place = are k n x (ap (λ xs. get_elem? xs k) split ∙ before_end rs r x k e) place

  pub ready_last : (rs all : List (Ready P rules)) (r : Ready P rules) → all ≡ rs ++ r ∷ [] → AreReady s all
      → (number : ℕ) → length rs + number + 1 ≡ (config_of s).seats → IsReady s number r
  ready_last rs all r split are number place = are (length rs) number r (ap (λ xs. get_elem? xs (length rs)) split ∙ the_end rs r) place

  pub new_front : (ps all : List (Pass P rules)) (p : Pass P rules) → all ≡ ps ++ p ∷ [] → AreNew s all → AreNew s ps
  new_front ps all p split are k x e = are k x (ap (λ xs. get_elem? xs k) split ∙ before_end ps p x k e)

  pub new_last : (ps all : List (Pass P rules)) (p : Pass P rules) → all ≡ ps ++ p ∷ [] → AreNew s all → IsNewPass s (length ps) p
  new_last ps all p split are =
      let r = are (length ps) p (ap (λ xs. get_elem? xs (length ps)) split ∙ the_end ps p) in (r.0, r.1, r.2)

  -- one more seat, above all before
  pub seats_next : (seats : List (Seat P rules)) (seat : Seat P rules) → AreSeats s seats → IsNewSeatOf s (length seats) seat → AreSeats s
      (seats ++ seat ∷ [])
  seats_next seats seat all is k x e =
      ⊎_elim
      (λ old. all k x old)
      (λ last. subst (λ (m : ℕ). IsNewSeatOf s m x) (sym last.0) (subst (IsNewSeatOf s (length seats)) (some-injective seat x last.1) is))
      (at_end seats seat x k e)

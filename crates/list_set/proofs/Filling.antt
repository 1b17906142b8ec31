-- One node after another is filled.
use Rattle.std.proofs.Common.{◌≡◌, ◌≢◌, ℕ, suc, ◌+◌, ◌<◌, ◌≤◌, [], ◌∷◌, length, refl, subst, sym, ap, ◌∙◌, arith, get_or-set_other}
use Rattle.mv_history.specs.State.{State}
use Rattle.mv_history.specs.State.{state_after}
use Rattle.mv_history.specs.Meaning.{Seat, InSection, state_of}
use Rattle.mv_history.specs.Calls.{Enters, IsAsBefore}
use Rattle.mv_history.proofs.Writing.{length-written}
use Rattle.mv_history.proofs.Holding.{state_of-as_before}
use Rattle.set_model.specs.Objects.{owner}
use Rattle.set_model.proofs.ObjectWords.{word}
use Rattle.section_work.specs.Held.{count_unheld, HasRoom}
use Rattle.set_model.specs.Lawful.{IsLawful, IsOpening}
use Rattle.set_model.proofs.Opening.{opening_owner, opening_lawful}
use Rattle.list_set.specs.Places.{add_writes, put_writes}
use Rattle.list_set.specs.Calls.{Adds, Takes, Puts}
use Rattle.list_set.specs.Filling.{IsFilled}
use Rattle.list_set.proofs.Parts.{place_not_vacant}
use Rattle.list_set.proofs.Windows.{two_distinct}
use Rattle.list_set.proofs.Clients.{count_unheld-two, room_for_two, rewritten-held, adds-length, adds-others, takes-length, state-entered}

-- there is room for one more
pub filled_room : (s : InSection) (n o p : ℕ) → IsFilled s n → n < 6 → HasRoom s (o ∷ p ∷ [])
filled_room s n o p f lt =
    room_for_two s o p (let a = f.spare in omega arith) (let a = f.held in let b = f.most in omega arith)

-- an add fills one more
pub filled_more : (old new : InSection) (head k v node n m : ℕ) → head < 170 → IsFilled old n → node ≡ 180 + n → m ≡ n + 1
    → Adds old new head k v node → IsFilled new m
filled_more old new head k v node n m lh f here more a =
    let apart : a.previous ≢ node =
    place_not_vacant (state_of old) head a.previous node (omega arith) a.place.within (omega arith) (f.vacant node (omega arith)) in
    let two : count_unheld old.own (a.previous ∷ node ∷ []) ≤ 2 = count_unheld-two old.own a.previous node in
    record {
      lawful = a.lawful;
      objects = adds-length old new head k v node a ∙ f.objects;
      vacant = λ o lo.
          (ap (word 0) (adds-others old new head k v node lh a o (omega arith) (f.vacant o (omega arith)) (omega arith)) ∙ f.vacant o (omega arith));
      held = let x = rewritten-held old new (add_writes (state_of old) head k v a.previous node) (two_distinct a.previous node apart) a.change in let y =
          f.held in omega arith;
      spare = let x = a.change.holds.spare in let y = f.spare in omega arith;
      most = let x = a.change.holds.goes_on.continues.write_max in let y = f.most in omega arith;
    }

-- what reads alike is filled alike
pub filled_same : (a b : InSection) (n : ℕ) → a.at ≤ length a.seat.seen → IsAsBefore a b → IsFilled a n → IsFilled b n
filled_same a b n le same f =
    let e : state_of b ≡ state_of a = state_of-as_before a b le same in
    let l : length b.own ≡ length a.own = ap length same.own in
    record {
      lawful = subst (λ (u : State). IsLawful u) (sym e) f.lawful;
      objects = ap length e ∙ f.objects;
      vacant = λ o lo. (ap (λ (u : State). owner u o) e ∙ f.vacant o lo);
      held = let x = f.held in omega arith;
      spare = let x = same.seat.spare in let y = f.spare in omega arith;
      most = let x = same.seat.continues.write_max in let y = f.most in omega arith;
    }

-- there is room for a put
pub filled_room_one : (s : InSection) (n o : ℕ) → IsFilled s n → n < 6 → HasRoom s (o ∷ [])
filled_room_one s n o f lt = let r = filled_room s n o o f lt in record { spare = (let x = r.spare in omega arith); held = (let x = r.held in omega arith) }

-- and after it no more than one is held for one more
pub filled_put : (old new : InSection) (head k v n m : ℕ) → IsFilled old n → m ≡ n + 1 → Puts old new head k v → IsFilled new m
filled_put old new head k v n m f more p =
    let one : count_unheld old.own (p.node ∷ []) ≤ 2 = (let c = count_unheld-two old.own p.node p.node in omega arith) in
    record {
      lawful = p.lawful;
      objects = ap length p.change.state ∙ length-written (state_of old) (put_writes (state_of old) p.node v) ∙ f.objects;
      vacant = λ o lo.
          (let z : owner (state_of old) o ≡ 0 = f.vacant o (omega arith) in
          let apart : o ≢ p.node = λ e. (let q : owner (state_of old) o ≡ suc head = ap (owner (state_of old)) e ∙ p.place.own in omega arith) in
          ap (λ (u : State). owner u o) p.change.state ∙ ap (word 0) (get_or-set_other (state_of old) p.node o _ [] apart) ∙ z);
      held = let x = rewritten-held old new (put_writes (state_of old) p.node v) refl p.change in let y = f.held in omega arith;
      spare = let x = p.change.holds.spare in let y = f.spare in omega arith;
      most = let x = p.change.holds.goes_on.continues.write_max in let y = f.most in omega arith;
    }

-- what is left of it after a del, in the words of views: from `a`, filled, by `b`, which reads the same, to `c` after the del
pub filled_less : (a b c : InSection) (s t u : State) (head k node n : ℕ) → IsFilled a n → s ≡ state_of a → t ≡ s → t ≡ state_of b → u ≡ state_of c
    → Takes b c head k node → IsLawful u × (length u ≡ 186)
filled_less a b c s t u head k node n f ea same eb ec take =
    (subst (λ (v : State). IsLawful v) (sym ec) take.lawful, ap length ec ∙ takes-length b c head k node take ∙ ap length (sym eb ∙ same ∙ ea) ∙ f.objects)

-- a section over a store whose objects are all zero
pub filled_none : (old : Seat) (new : InSection) → Enters old new → new.at ≡ length old.seen → old.seen ≡ [] → IsOpening old.start → length old.start ≡ 186
    → 16 ≤ old.spare → 16 ≤ old.write_max → IsFilled new 0
filled_none old new e whole none zero size spare most =
    let here : state_of new ≡ old.start = state-entered old new e whole ∙ ap (state_after old.start) none in
    let own : length new.own ≡ 0 = ap length e.own in
    record {
      lawful = subst (λ (s : State). IsLawful s) (sym here) (opening_lawful old.start zero);
      objects = ap length here ∙ size;
      vacant = λ o lo. (ap (λ (s : State). owner s o) here ∙ opening_owner old.start zero o);
      held = omega arith;
      spare = let x = e.seat.spare in omega arith;
      most = let x = e.seat.continues.write_max in omega arith;
    }

-- Each move of a state of the rule leads to one, a new domain is in one, and so is each state that is reached.
use Rattle.std.proofs.Common.{◌≡◌, ◌≢◌, ℕ, ◌+◌, ◌<◌, ◌≤◌, ◌^◌, Bool, true, false, cond, List, [], ◌∷◌, sym}
use Rattle.std.proofs.Common.{refl, ap, ◌∙◌, subst, arith, ne_eqb, append-nil, Option, Some, None}
use Rattle.mv_core.proofs.Terms.{Entry, State, Writes, Config, SharedWord, Clock, Grace, Mark, Head, Master, First, Stamp, Prev, Super, Data, Memory, same}
use Rattle.mv_core.proofs.Terms.{some-ne-none, Knowledge, new_view, parts_of, set_at}
use Rattle.mv_core.specs.HistoryFacts.{BeginsWith}
use Rattle.mv_core.specs.SeatSteps.{made_one, newly_made, MayJoin, joined}
use Rattle.mv_core.specs.Start.{opening_memory}
use Rattle.mv_core.specs.Rule.{Facts}
use Rattle.mv_core.specs.Moves.{Moment, Act, act, memory_after, history_after, stepped, IsStorable, IsSeat, Move, steps, makes, joins, seat_made}
use Rattle.mv_core.specs.Moves.{seat_joined, opened, moved}
use Rattle.mv_core.specs.MoveLaws.{SeatsHold, NotesHold, Holds}
use Rattle.mv_core.specs.MoveLaws.{MovesKeep, OpeningHolds, ReachedHold}
use Rattle.mv_core.proofs.frames.FrameLaw.{set_at_here, set_at_else, set_at_all, set_at_same, unread}
use Rattle.mv_core.proofs.kinds.opening.Starting.{starting_facts}
use Rattle.mv_core.proofs.moves.Kept.{Keeps}
use Rattle.mv_core.proofs.moves.Kinds.{kept}
use Rattle.mv_core.proofs.moves.Notes.{seat_is, notes_after, notes_joined}

-- a word is written, if any
small_after : (m : Memory) (q : SharedWord) (o : Option ℕ) → ((p : SharedWord) → m p < 2 ^ 64) → IsStorable o → (p : SharedWord) → memory_after m q o p < 2 ^ 64
small_after m q None small fits p = small p
small_after m q (Some n) small fits p = go (same q p)
  where
    go : (b : Bool) → cond b n (m p) < 2 ^ 64
    go true = fits
    go false = small p

-- the history begins with the old one
begins_after : (h : List Entry) (o : Option Entry) → BeginsWith (history_after h o) h
begins_after h None = ([], sym (append-nil h))
begins_after h (Some e) = (e ∷ [], refl)

-- the seats after one of those made has a new view, of which it keeps what it is
seats_after : (c : Config) (start : State) (seats : ℕ → Knowledge) → SeatsHold c start seats → (n : ℕ) → n < (seats 0).made → (w : Knowledge)
    → w.number ≡ n → w.start ≡ start → w.base ≡ c.base → w.made ≡ (seats n).made
    → SeatsHold c start (set_at seats n w)
seats_after c start seats k n there w number begins from made =
    let as_made : (set_at seats n w 0).made ≡ (seats 0).made = set_at_all (λ s u. u.made ≡ (seats s).made) seats n w made (λ s ne. refl) 0 in
    record {
      own = set_at_all (λ s u. (u.number ≡ s) × (u.start ≡ start) × (u.base ≡ c.base)) seats n w (number, begins, from) (λ s ne. k.own s);
      made = subst (λ (x : ℕ). x ≤ c.seats) (sym as_made) k.made;
      later = λ s le.
          let old : (seats 0).made ≤ s = subst (λ (x : ℕ). x ≤ s) as_made le in
          set_at_else seats n w s (λ e. omega arith) ∙ k.later s old;
    }

module _ (starts : State → Type 0) (allows : List ℕ → State → Writes → Type 0) (c : Config) (start : State) where
  module _ (s : Moment) (k : Holds starts allows c start s) (n : ℕ) (active : IsSeat s n) where
    abbrev v : Knowledge
    v = s.seats n

    own : (v.number ≡ n) × (v.start ≡ start) × (v.base ≡ c.base)
    own = k.seats.own n

    -- after a step on one word
    step_holds : (a : Act) → IsStorable (a.writes (s.memory a.place)) → Keeps starts allows c start v a → Holds starts allows c start (stepped a n s)
    step_holds a fits keeps =
        let r = keeps.keeps s.memory s.history s.seats k.facts (ap s.seats own.0)
        (seat_is c start s.seats k.seats k.notes n active.made active.unspent) own.1
        (k.words a.place) in
        let w = a.view (s.memory a.place) s.history in
        record {
          words = small_after s.memory a.place (a.writes (s.memory a.place)) k.words fits;
          seats = seats_after c start s.seats k.seats n active.made w (r.1.0 ∙ own.0) (r.1.1 ∙ own.1) (r.1.2 ∙ own.2) r.1.3;
          notes = notes_after c s.seats k.notes n active.unspent w r.1.4 r.1.5;
          facts = subst
              (λ (i : ℕ). Facts starts allows c start (memory_after s.memory a.place (a.writes (s.memory a.place)))
              (history_after s.history (a.entry (s.memory a.place))) (parts_of (set_at s.seats i w))) own.0 r.0;
        }

    -- after the making of a seat, which was as new already
    made_holds : n ≡ 0 → v.made < c.seats → Holds starts allows c start (seat_made c n s)
    made_holds first room =
        let w = made_one c v in
        let x = newly_made c v in
        let as_first : v.made ≡ (s.seats 0).made = ap (λ (i : ℕ). (s.seats i).made) first in
        let there = active.made in
        let ne : v.made ≢ n = λ e. omega arith in
        let was : s.seats v.made ≡ x = k.seats.later v.made (omega arith) ∙ ap (λ (t : State). new_view c t v.made 0) (sym own.1) in
        let same : set_at (set_at s.seats n w) v.made x ≡ set_at s.seats n w =
        set_at_same (set_at s.seats n w) v.made x (set_at_else s.seats n w v.made ne ∙ was) in
        let first_is : (set_at s.seats n w 0).made ≡ v.made + 1 =
        ap (λ (i : ℕ). (set_at s.seats n w i).made) (sym first) ∙ ap (λ (u : Knowledge). u.made) (set_at_here s.seats n w) in
        let facts = unread starts allows c start s.memory s.history s.seats n v w refl
        (refl, refl, refl, refl, refl, refl, refl, refl, refl, refl, refl) k.facts in
        let seats : SeatsHold c start (set_at s.seats n w) = record {
          own = set_at_all (λ t u. (u.number ≡ t) × (u.start ≡ start) × (u.base ≡ c.base)) s.seats n w own (λ t ne. k.seats.own t);
          made = omega arith;
          later = λ t le. set_at_else s.seats n w t (λ e. omega arith) ∙ k.seats.later t (omega arith);
        } in
        record {
          words = k.words;
          seats = subst (SeatsHold c start) (sym same) seats;
          notes = subst (NotesHold c) (sym same) (notes_after c s.seats k.notes n active.unspent w refl refl);
          facts = subst (λ (f : ℕ → Knowledge). Facts starts allows c start s.memory s.history (parts_of f)) (sym same) facts;
        }

    -- after the joining of another seat, whose view is as it was but spent
    joined_holds : (o : ℕ) → o ≢ n → IsSeat s o → MayJoin v (s.seats o) → Holds starts allows c start (seat_joined c n o s)
    joined_holds o ne other may =
        let w = s.seats o in
        let u = joined c v w in
        let there : set_at s.seats n u o ≡ w = set_at_else s.seats n u o ne in
        let facts = unread starts allows c start s.memory s.history s.seats n v u refl
        (refl, refl, refl, refl, refl, refl, refl, refl, refl, refl, refl) k.facts in
        let seats : SeatsHold c start (set_at s.seats n u) = seats_after c start s.seats k.seats n active.made u own.0 own.1 own.2 refl in
        let as_made : (set_at s.seats n u 0).made ≡ (s.seats 0).made = set_at_all (λ t y. y.made ≡ (s.seats t).made) s.seats n u refl (λ t e. refl) 0 in
        let other_made : o < (set_at s.seats n u 0).made = subst (λ (i : ℕ). o < i) (sym as_made) other.made in
        let own_other = k.seats.own o in
        record {
          words = k.words;
          seats = seats_after c start (set_at s.seats n u) seats o other_made (record w { spent = true }) own_other.0 own_other.1
              own_other.2 (ap (λ (y : Knowledge). y.made) (sym there));
          notes = notes_joined c s.seats k.notes n o active.unspent other.unspent may
              (let a = other.made in let b = k.seats.made in omega arith) own_other.0 ne;
          facts = unread starts allows c start s.memory s.history (set_at s.seats n u) o w (record w { spent = true }) there
              (refl, refl, refl, refl, refl, refl, refl, refl, refl, refl, refl) facts;
        }

    move_holds : (t : Moment) → Move allows c n s t → Holds starts allows c start t × BeginsWith t.history s.history
    move_holds t (steps kind may fits is) =
        let a : Act = act allows c v kind in
        subst (λ (u : Moment). Holds starts allows c start u × BeginsWith u.history s.history) (sym is) (
          step_holds (act allows c v kind) fits (kept starts allows c start v kind may),
          begins_after s.history ((act allows c v kind).entry (s.memory (act allows c v kind).place)),
        )
    move_holds t (makes first room is) =
        subst (λ (u : Moment). Holds starts allows c start u × BeginsWith u.history s.history) (sym is)
        (made_holds first room, ([], sym (append-nil s.history)))
    move_holds t (joins other ne seat may is) =
        subst (λ (u : Moment). Holds starts allows c start u × BeginsWith u.history s.history) (sym is)
        (joined_holds other ne seat may, ([], sym (append-nil s.history)))

pub moves_keep : (starts : State → Type 0) (allows : List ℕ → State → Writes → Type 0) → MovesKeep starts allows
moves_keep starts allows c start s t k move = move_holds starts allows c start s k move.0 move.1 t move.2

pub opening_holds : (starts : State → Type 0) (allows : List ℕ → State → Writes → Type 0) → OpeningHolds starts allows
opening_holds starts allows c start k = record {
  words = small;
  seats = record {
    own = λ n. (refl, refl, refl);
    made = k.checked.seats.0;
    later = λ n le. ap (λ b. new_view c start n (cond b 1 0)) (ne_eqb n 0 (λ e. omega arith));
  };
  notes = record {
    noted = λ n x un has. let lt = has.1 in absurd (omega arith);
    once = λ i j a b x y un vn e. absurd (some-ne-none x (sym e));
  };
  facts = starting_facts starts allows c start k.checked k.sized k.six k.lawful;
}
  where
    small : (p : SharedWord) → opening_memory c start p < 2 ^ 64
    small Clock = let b = k.checked.base in omega arith
    small Grace = let b = k.checked.base in omega arith
    small (Mark n) = omega arith
    small (Head o) = omega arith
    small (Master o w) = k.small o w
    small (First n i) = omega arith
    small (Stamp n i) = omega arith
    small (Prev n i) = omega arith
    small (Super n i) = omega arith
    small (Data n i w) = omega arith

pub reached_hold : (starts : State → Type 0) (allows : List ℕ → State → Writes → Type 0) → ReachedHold starts allows
reached_hold starts allows c start k s opened = opening_holds starts allows c start k
reached_hold starts allows c start k t (moved s t' before move) = (moves_keep starts allows c start s t' (reached_hold starts allows c start k s before) move).0

-- What a commit of a seat did to the state just before it, and how that state came from the snapshot.
use Rattle.std.proofs.Common.{◌≡◌, ℕ, zero, suc, ◌+◌, ◌-◌, ◌<◌, ◌≤◌, List, [], ◌∷◌, ◌++◌, length, take, drop, refl, sym, ap, ◌∙◌}
use Rattle.std.proofs.Common.{subst, arith}
use Rattle.std.specs.Prelude.{Some, slice_get}
use Rattle.std.proofs.lemmas.List.{take-append-drop}
use Rattle.mv_history.specs.State.{State, Writes, Commit, Entry, Change, written, state_after, state_at}
use Rattle.mv_history.specs.Legal.{IsLegal, IsAllowed}
use Rattle.mv_history.specs.Drift.{Drifts}
use Rattle.mv_history.specs.Meaning.{Seat, IsSeat, state_of_time}
use Rattle.mv_history.specs.Calls.{IsEntryAt}
use Rattle.mv_history.proofs.Writing.{state_after-append}
use Rattle.mv_history.proofs.Histories.{IsAllowed-front, IsLegal-front, split_at}
use Rattle.mv_history.proofs.Drifting.{drifts_past}

-- one element more of a front
take_next : {X : Type 0} (xs : List X) (i : ℕ) (x : X) → slice_get xs i ≡ Some x → take (suc i) xs ≡ take i xs ++ x ∷ []
take_next [] i x e = absurd (cc)
take_next (y ∷ xs) zero x e = let same : y ≡ x = cc in ap (λ z. z ∷ []) same
take_next (y ∷ xs) (suc i) x e = ap (λ zs. y ∷ zs) (take_next xs i x e)

-- a front of a front
take_front : {X : Type 0} (i j : ℕ) (xs : List X) → i ≤ length (take j xs) → take i (take j xs) ≡ take i xs
take_front zero j xs le = refl
take_front (suc i) zero xs le = absurd (omega (arith, le))
take_front (suc i) (suc j) [] le = refl
take_front (suc i) (suc j) (x ∷ xs) le = ap (λ ys. x ∷ ys) (take_front i j xs (omega (arith, le)))

-- Between the times before and at a commit of a seat's history: the states there, that it was allowed, and that its snapshot
-- drifts to the state just before it.
module _ (starts : State → Type 0) (allowed : List ℕ → State → Writes → Type 0) (s : Seat) (law : IsSeat starts allowed s) (c : Commit) (time : ℕ)
    (entry : IsEntryAt s time (Change c)) where
  abbrev front : List Entry
  front = take (time - (s.base + 1)) s.seen

  abbrev back : List Entry
  back = drop (suc (time - (s.base + 1))) s.seen

  parts : s.seen ≡ front ++ Change c ∷ back
  parts = split_at s.seen (time - (s.base + 1)) (Change c) entry.there

  pub before_is : state_of_time s (time - 1) ≡ state_after s.start front
  before_is =
      let later : s.base < time = entry.later in
      let at : time - 1 - s.base ≡ time - (s.base + 1) = omega arith in
      ap (state_at s.start s.seen) at

  pub after_is : state_of_time s time ≡ written (state_after s.start front) c.writes
  after_is =
      let one : time - s.base ≡ suc (time - (s.base + 1)) = omega (arith, entry.later) in
      ap (state_at s.start s.seen) one ∙ ap (state_after s.start) (take_next s.seen (time - (s.base + 1)) (Change c) entry.there)
      ∙ state_after-append s.start front (Change c ∷ [])

  pub allowed_there : allowed c.tag (state_after s.start front) c.writes
  allowed_there = law.allowed front back c parts

  pub drifts_there : Drifts allowed c.writes (state_at s.start s.seen c.snapshot) (state_after s.start front)
  drifts_there =
      let next = law.legal front back c parts in
      let whole : take c.snapshot front ++ drop c.snapshot front ≡ front = take-append-drop c.snapshot front in
      let legal = IsLegal-front (length s.start) front (Change c ∷ back) (subst (IsLegal (length s.start)) parts law.legal) in
      let rules = IsAllowed-front allowed s.start front (Change c ∷ back) (subst (IsAllowed allowed s.start) parts law.allowed) in
      let d = drifts_past allowed (length s.start) s.start (take c.snapshot front) (drop c.snapshot front) c.writes
      (subst (IsLegal (length s.start)) (sym whole) legal) (subst (IsAllowed allowed s.start) (sym whole) rules) next.unwritten in
      subst (λ es. Drifts allowed c.writes (state_at s.start s.seen c.snapshot) (state_after s.start es)) whole
      (subst (λ es. Drifts allowed c.writes (state_after s.start es) (state_after s.start (take c.snapshot front ++ drop c.snapshot front)))
      (take_front c.snapshot (time - (s.base + 1)) s.seen next.past) d)

-- Chains of what a runner keeps, with a link for each item.
use Rattle.std.specs.Prelude.{◌≡◌, ℕ, ◌+◌, List, [], ◌∷◌, Vec, ⊤}
use Rattle.std.specs.declared.alloc.Global.{Global}
use Rattle.mv_history.specs.Meaning.{Seat}
use Rattle.item_workers.specs.declared.runner.Answer.{Answer}
use Rattle.item_workers.specs.declared.runner.Tried.{Tried}
use Rattle.item_workers.specs.declared.runner.Tried.TheVariants.{Done, Again}

-- what holds by what came of an attempt
abbrev pub OnTried : {D : Type 0} → (D → Type 0) → Type 0 → Tried D → Type 0
OnTried done again (Done d) = done d
OnTried done again Again = again

-- From the one state to the other the items were done in order, with these answers: each begins at that at which the one before it was done.
abbrev pub Chain : {X I D : Type 0} → (X → X → I → D → Type 0) → X → X → List I → List D → Type 0
Chain link s t [] [] = t ≡ s
Chain {X} link s t (i ∷ is) (d ∷ ds) = (u : X) × link s u i d × Chain link u t is ds
Chain link s t _ _ = ⊥

-- The answers are by the seat of this number, and numbered from this number on, each above all that the items before it have.
abbrev pub HaveNumbers : {I D : Type 0} → (I → ℕ) → ℕ → ℕ → List I → List (Answer D) → Type 0
HaveNumbers width seat number [] [] = ⊤
HaveNumbers width seat number (i ∷ is) (a ∷ answers) =
    (a.seat ≡ seat) × (a.number ≡ number) × HaveNumbers width seat (number + width i) is answers
HaveNumbers width seat number _ _ = ⊥

-- the link of an item that has this answer
abbrev pub answered : {X I D : Type 0} → (X → X → I → D → Type 0) → X → X → I → Answer D → Type 0
answered link s t item answer = link s t item answer.done

-- From the one state to the other the items of a list were done, with these answers, by its seat and numbered from 1.
pub record DidAll {X I D : Type 0} (seat_of : X → Seat) (link : X → X → I → D → Type 0) (width : I → ℕ) (s t : X) (items : List I)
    (answers : List (Answer D)) : Type 0 where
  pub chain : Chain (answered link) s t items answers
  pub numbers : HaveNumbers width (seat_of s).number 1 items answers

-- The items of a list were done from this state on, and this seat was left.
pub record DidTo {X I D : Type 0} (seat_of : X → Seat) (link : X → X → I → D → Type 0) (width : I → ℕ) (s : X) (n : Seat) (items : List I)
    (answers : List (Answer D)) : Type 0 where
  pub end : X
  pub seat_is : seat_of end ≡ n
  pub did : DidAll seat_of link width s end items answers

-- From each state the items of the list of its place were done, and the seat of that place was left.
abbrev pub EachDid : {X I D : Type 0} → (X → Seat) → (X → X → I → D → Type 0) → (I → ℕ) → List X → List Seat → List (List I)
    → List (Vec (Answer D) Global) → Type 0
EachDid seat_of link width [] [] [] [] = ⊤
EachDid seat_of link width (o ∷ os) (n ∷ ns) (list ∷ lists) (own ∷ others) =
    DidTo seat_of link width o n list own.items × EachDid seat_of link width os ns lists others
EachDid seat_of link width _ _ _ _ = ⊥

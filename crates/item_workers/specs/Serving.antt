-- What a worker leaves that has its items from a source.
use Rattle.std.specs.Prelude.{ℕ, ◌≡◌, List, [], ◌∷◌, Option, Some, None, Vec, ⊤}
use Rattle.std.specs.declared.alloc.Global.{Global}
use Rattle.mv_history.specs.Meaning.{Seat}
use Rattle.item_workers.specs.declared.runner.Answer.{Answer}
use Rattle.item_workers.specs.declared.source.Given.{Given}

-- what holds by what was taken
abbrev pub OnTaken : (ℕ → ℕ → Type 0) → Type 0 → Option Given → Type 0
OnTaken some none (Some given) = some given.place given.number
OnTaken some none None = none

-- The source gave the item of the answer's number, and from the one state to the other it was done.
pub record IsGiven {X I D P : Type 0} (link : X → X → I → D → Type 0) (gives : P → ℕ → I → P → Type 0) (seat : ℕ)
    (s : X) (a : P) (t : X) (b : P) (answer : Answer D) : Type 0 where
  pub item : I
  pub given : gives a answer.number item b
  pub by : answer.seat ≡ seat
  pub linked : link s t item answer.done

-- From the one state to the other, of what is kept and of the source, these items were done in order: each was given, and it begins at what was
-- kept when the one before it was done.
abbrev pub Serves : {X I D P : Type 0} → (X → X → I → D → Type 0) → (P → ℕ → I → P → Type 0) → ℕ → X → P → X → P → List (Answer D) → Type 0
Serves link gives seat s a t b [] = (t ≡ s) × (b ≡ a)
Serves {X} {I} {D} {P} link gives seat s a t b (d ∷ ds) =
    (u : X) × (c : P) × IsGiven link gives seat s a u c d × Serves link gives seat u c t b ds

-- and then there was none to give
pub record IsServed {X I D P : Type 0} (seat_of : X → Seat) (link : X → X → I → D → Type 0) (gives : P → ℕ → I → P → Type 0) (ended : P → P → Type 0)
    (s : X) (a : P) (t : X) (b : P) (ds : List (Answer D)) : Type 0 where
  pub last : P
  pub serves : Serves link gives (seat_of s).number s a t last ds
  pub ended_is : ended last b

-- from this state on it was served, and this seat was left
pub record IsServedTo {X I D P : Type 0} (seat_of : X → Seat) (link : X → X → I → D → Type 0) (gives : P → ℕ → I → P → Type 0) (ended : P → P → Type 0)
    (s : X) (a : P) (n : Seat) (b : P) (ds : List (Answer D)) : Type 0 where
  pub end : X
  pub seat_is : seat_of end ≡ n
  pub served : IsServed seat_of link gives ended s a end b ds

-- From each state it was served by the source of its place, and the seat and the source of that place were left.
abbrev pub EachServed : {X I D P : Type 0} → (X → Seat) → (X → X → I → D → Type 0) → (P → ℕ → I → P → Type 0) → (P → P → Type 0)
    → List X → List P → List Seat → List P → List (Vec (Answer D) Global) → Type 0
EachServed seat_of link gives ended [] [] [] [] [] = ⊤
EachServed seat_of link gives ended (o ∷ os) (old ∷ olds) (n ∷ ns) (new ∷ news) (own ∷ others) =
    IsServedTo seat_of link gives ended o old n new own.items × EachServed seat_of link gives ended os olds ns news others
EachServed seat_of link gives ended _ _ _ _ _ = ⊥

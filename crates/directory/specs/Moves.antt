-- Which states a directory opens with, and which commits move a user.
use Rattle.std.specs.Prelude.{◌≡◌, ◌≢◌, ℕ, ◌-◌, ◌<◌, true, Bool, List, [], ◌∷◌, length, map, slice_index}
use Rattle.directory.specs.declared.rules.TheConstants.{OBJECTS, SHELVES}
use Rattle.directory.specs.declared.moving.Whereabouts.{Whereabouts}
use Rattle.directory.specs.declared.moving.Whereabouts.TheVariants.{Away, There, Late}
use Rattle.mv_history.specs.State.{State, Writes}
use Rattle.mv_history.specs.Meaning.{words_at}
use Rattle.section_work.specs.Works.{Meaning}
use Rattle.directory.specs.Layout.{link_of, linked}
use Rattle.directory.specs.Ring.{next_of, IsUser, IsOn}

-- each object leads to the next one, so all users stand on shelf 1
abbrev pub IsOpening : State → Type 0
IsOpening s = map link_of s ≡ 1 ∷ 2 ∷ 3 ∷ 4 ∷ 5 ∷ 6 ∷ 7 ∷ 8 ∷ 9 ∷ 0 ∷ []

-- the object before the user that is moved, by the move's tag
abbrev pub before_in : List ℕ → ℕ
before_in tag = slice_index tag 0

-- the user that is moved
abbrev pub user_in : List ℕ → ℕ
user_in tag = slice_index tag 1

-- the shelf to which it goes
abbrev pub shelf_in : List ℕ → ℕ
shelf_in tag = slice_index tag 2

-- the first object that is written
abbrev pub first_object : Writes → ℕ
first_object [] = 0
first_object (w ∷ ws) = w.0

-- What the move with this tag writes in a state: links alone. What was behind the user comes behind the object before it, the user leads to what
-- was first on the shelf, and the shelf leads to the user.
abbrev pub move_writes : List ℕ → State → Writes
move_writes tag s = (before_in tag, linked (words_at s (before_in tag)) (next_of s (user_in tag)))
    ∷ (user_in tag, linked (words_at s (user_in tag)) (next_of s (shelf_in tag)))
    ∷ (shelf_in tag, linked (words_at s (shelf_in tag)) (user_in tag)) ∷ []

-- The commit with this tag takes the user from behind the one object to the front of the shelf, and changes links alone.
pub record IsMove (tag : List ℕ) (before : State) (writes : Writes) : Type 0 where
  pub many : length before ≡ OBJECTS
  pub from : before_in tag < OBJECTS
  pub user : IsUser (user_in tag)
  pub below : user_in tag < OBJECTS
  pub shelf : shelf_in tag < SHELVES
  pub apart : before_in tag ≢ shelf_in tag
  pub other : before_in tag ≢ user_in tag
  pub here : next_of before (before_in tag) ≡ user_in tag
  pub moves : writes ≡ move_writes tag before

-- a move of this user to this shelf is planned
pub record PlansMove (user shelf : ℕ) (s : State) (tag : List ℕ) (ws : Writes) : Type 0 where
  pub user_is : user_in tag ≡ user
  pub shelf_is : shelf_in tag ≡ shelf
  pub moves : IsMove tag s ws

-- why none is made: the user is there already, or it is on the other shelf, but no time is left
abbrev pub SettlesMove : ℕ → ℕ → State → Bool → Whereabouts → Type 0
SettlesMove user shelf s last Away = ⊥
SettlesMove user shelf s last There = IsOn s shelf user
SettlesMove user shelf s last Late = IsOn s (1 - shelf) user × (last ≡ true)

-- A move of a user to a shelf, as a work. It changes something where the user is on the other shelf, and puts the user in front.
abbrev pub move_meaning : ℕ → ℕ → Meaning Whereabouts
move_meaning user shelf = record {
  most = 3;
  changes = λ s. IsOn s (1 - shelf) user;
  plans = λ s tag ws found. PlansMove user shelf s tag ws;
  settles = λ s last found. SettlesMove user shelf s last found;
  makes = λ before after found. next_of after shelf ≡ user;
}

-- a user, and a shelf
pub record IsMoving (user shelf : ℕ) : Type 0 where
  pub user_is : IsUser user
  pub below : user < OBJECTS
  pub shelf_is : shelf < SHELVES

-- the tag of a plan, whose first write is of the object before the user
abbrev pub tag_of_plan : ℕ → ℕ → Writes → List ℕ
tag_of_plan user shelf plan = first_object plan ∷ user ∷ shelf ∷ 0 ∷ []

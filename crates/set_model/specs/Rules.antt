-- Which commits the sets allow.
use Rattle.std.specs.Prelude.{ℕ, ◌≡◌, ◌≢◌, ◌-◌, ◌^◌, ◌<◌, ◌≤◌, false, List, length, Option, Some, None}
use Rattle.mv_history.specs.State.{State, Writes, written, touches}
use Rattle.set_model.specs.declared.commands.Command.{Command}
use Rattle.set_model.specs.declared.commands.Command.TheVariants.{Add, Put, Del, Has, Get, Move, Pair, Size, Next}
use Rattle.set_model.specs.declared.commands.Reply.TheVariants.{Yes}
use Rattle.set_model.specs.Catalogue.{names}
use Rattle.set_model.specs.CatalogueOf.{catalogue_of}
use Rattle.set_model.specs.Replies.{reply, next}
use Rattle.set_model.specs.Objects.{first_node, first_root, owner, kind, key}
use Rattle.set_model.specs.Trees.{EndsAt}
use Rattle.set_model.specs.Lawful.{IsLawful}
use Rattle.set_model.specs.Tags.{command_of}

-- how many nodes a state has
abbrev pub capacity : State → ℕ
capacity s = length s - first_node

-- the command's names are those of sets, and its key and its value fit their types
abbrev pub IsInRange : Command → Type 0
IsInRange (Add name key) = (name < names) × (key < 2 ^ 32)
IsInRange (Put name key value) = (name < names) × (key < 2 ^ 32) × (value < 2 ^ 64)
IsInRange (Del name key) = (name < names) × (key < 2 ^ 32)
IsInRange (Has name key) = (name < names) × (key < 2 ^ 32)
IsInRange (Get name key) = (name < names) × (key < 2 ^ 32)
IsInRange (Move source target key) = (source < names) × (target < names) × (key < 2 ^ 32)
IsInRange (Pair first second key) = (first < names) × (second < names) × (key < 2 ^ 32)
IsInRange (Size name) = name < names
IsInRange (Next name key) = (name < names) × (key < 2 ^ 32)

-- What a commit keeps of the structures: the state before and the state after are lawful; an object that stays in its
-- list or tree keeps its kind and its key; and a search in a tree that ends at a leaf which is not written ends there still.
pub record Keeps (before after : State) (writes : Writes) : Type 0 where
  pub lawful_before : IsLawful before
  pub lawful_after : IsLawful after
  pub keys : (o : ℕ) → owner before o ≢ 0 → owner after o ≡ owner before o → (kind after o ≡ kind before o) × (key after o ≡ key before o)
  pub ends : (root k leaf : ℕ) → first_root ≤ root → root < first_node → EndsAt before root k leaf → touches writes leaf ≡ false
      → EndsAt after root k leaf

-- The command replies yes on the catalogue of the state before, at a place that is not the last time, and leaves that of the state after.
pub record Makes (command : Command) (before after : State) : Type 0 where
  pub in_range : IsInRange command
  pub answer : reply command (catalogue_of before) (capacity before) false ≡ Yes
  pub leaves : catalogue_of after ≡ next command (catalogue_of before) (capacity before) false

-- there is a command, and it does so
abbrev pub MakesSome : Option Command → State → State → Type 0
MakesSome None before after = ⊥
MakesSome (Some command) before after = Makes command before after

-- A commit of the sets with this tag and these writes, on the state before it.
pub record IsSetCommit (tag : List ℕ) (before : State) (writes : Writes) : Type 0 where
  pub keeps : Keeps before (written before writes) writes
  pub makes : MakesSome (command_of tag) before (written before writes)

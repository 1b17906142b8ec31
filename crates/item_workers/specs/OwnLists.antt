-- A worker's own list, and how far it has been given.
use Rattle.std.specs.Prelude.{ℕ, suc, ◌≡◌, ◌≤◌, ◌+◌, List, take, length, sum_by, slice_get, Some}
use Rattle.std.specs.List.{AllZip}
use Rattle.item_workers.specs.declared.source.Own.{Own}
use Rattle.item_workers.specs.Workers.{MayDo}

-- The items ahead of the next one were given, and the next has a number above all of theirs.
pub record IsAt {I : Type 0} (does : I → Type 0) (width : I → ℕ) (own : Own I) : Type 0 where
  pub may : MayDo does width own.items.now
  pub within : own.next ≤ length own.items.now
  pub number_is : own.number ≡ 1 + sum_by width (take own.next own.items.now)

-- the next item was given, with its number
pub record GaveOwn {I : Type 0} (width : I → ℕ) (old : Own I) (number : ℕ) (item : I) (new : Own I) : Type 0 where
  pub there : slice_get old.items.now old.next ≡ Some item
  pub numbered : number ≡ old.number
  pub items : new.items.now ≡ old.items.now
  pub next : new.next ≡ suc old.next
  pub after : new.number ≡ old.number + width item

-- the sources of these lists, none of whose items was given yet
abbrev pub AreOwn : {I : Type 0} → List (List I) → List (Own I) → Type 0
AreOwn {I} lists sources = AllZip (λ (list : List I) (own : Own I). (own.items.now ≡ list) × (own.next ≡ 0) × (own.number ≡ 1)) lists sources

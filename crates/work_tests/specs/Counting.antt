-- What a counter is, which commits count, and what a count means as a work.
use Rattle.std.specs.Prelude.{◌≡◌, ℕ, ◌+◌, ◌%◌, ◌^◌, ◌<◌, true, List, [], ◌∷◌, length, slice_index, ⊤}
use Rattle.mv_history.specs.State.{State, Writes, written}
use Rattle.mv_history.specs.Meaning.{words_at}
use Rattle.section_work.specs.Works.{Meaning}
use Rattle.work_tests.specs.declared.told.Told.{Told}
use Rattle.work_tests.specs.declared.told.Told.TheVariants.{Counted, Late}

-- the words of the counter, once one more is counted
abbrev pub one_more : State → List ℕ
one_more s = (slice_index (words_at s 0) 0 + 1) % 2 ^ 64 ∷ 0 ∷ 0 ∷ 0 ∷ 0 ∷ 0 ∷ []

-- a store opens with one object
abbrev pub IsCounter : State → Type 0
IsCounter s = length s ≡ 1

-- a commit counts one more
abbrev pub CountsOne : List ℕ → State → Writes → Type 0
CountsOne tag before writes = (0 < length before) × (writes ≡ (0, one_more before) ∷ [])

-- the count, as a work
abbrev pub count_meaning : Meaning Told
count_meaning = record {
  most = 1;
  changes = λ s. ⊤;
  plans = λ s tag ws told. CountsOne tag s ws × (told ≡ Counted);
  settles = λ s last told. (last ≡ true) × (told ≡ Late);
  makes = λ before after told. (ws : Writes) × CountsOne [] before ws × (after ≡ written before ws);
}

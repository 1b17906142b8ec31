-- What a lock answers, and what a write does.
use Rattle.std.specs.Prelude.{◌≡◌, ◌≢◌, ℕ, ◌≤◌, true, false, List}
use Rattle.mv_history.specs.declared.answers.LockAnswer.{LockAnswer}
use Rattle.mv_history.specs.declared.answers.LockAnswer.TheVariants.{Held}
use Rattle.mv_history.specs.State.{touches, rewritten}
use Rattle.mv_layout.specs.declared.config.Config.{Config}
use Rattle.mv_core.specs.declared.view.Knowledge.{Knowledge}
use Rattle.mv_core.specs.Rings.{own_of, spare_count}
use Rattle.object_lock.specs.Locks.{LockAnswers, TriesFew, KeepsOwn}
use Rattle.object_lock.specs.Writes.{Stores}

-- A lock of an object that is held does nothing. Else it answers with its cause, makes at most 24 steps and tries few exchanges of HEAD; a
-- refusal leaves what is held.
pub record LocksSo (c : Config) (v w : Knowledge) (object : ℕ) (answer : LockAnswer) : Type 0 where
  pub again : touches (own_of c v.ring) object ≡ true → (answer ≡ Held) × (w ≡ v)
  pub answers : touches (own_of c v.ring) object ≡ false → LockAnswers c v w object answer
  pub refused : answer ≢ Held → KeepsOwn c v w
  pub made : ℕ
  pub tries : TriesFew c v w object 0 made
  pub few : made ≤ 24

-- A write gives the held object these words, in what is held alone, by six stores.
pub record WritesSo (c : Config) (v w : Knowledge) (object : ℕ) (words : List ℕ) : Type 0 where
  pub held : touches (own_of c v.ring) object ≡ true
  pub own : own_of c w.ring ≡ rewritten (own_of c v.ring) object words
  pub spare : spare_count w.ring ≡ spare_count v.ring
  pub stores : Stores v w 6

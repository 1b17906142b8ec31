-- What a clause says of a call of a closure at a section.
use Rattle.std.specs.Prelude.{◌≡◌}
use denote.Ref.{MutBor}
use Rattle.core.specs.Fn.{Shared}

module _ {F X R : Type 0} (g : Shared F (MutBor X × Unit {0}) (R × (MutBor X × Unit {0}))) (f : F) where
  -- the closure may be called at a `&mut` to x
  abbrev pub MayShow : X → Type 0
  MayShow x = (shown : MutBor X) → shown.now ≡ x → g.pre f (shown, tt)

  -- such a call may answer r, and leave y there
  pub record Shows (x : X) (r : R) (y : X) : Type 0 where
    pub shown : MutBor X
    pub shows : shown.now ≡ x
    pub left : MutBor X
    pub met : g.post f (shown, tt) (r, (left, tt))
    pub leaves : left.now ≡ y

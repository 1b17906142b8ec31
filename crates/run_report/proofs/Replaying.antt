-- A replay with one line more at its end.
use Rattle.std.proofs.Common.{Option, None, Some}
use Rattle.std.specs.Option.{IsSomeAnd}

pub some_and : {T : Type 0} (o : Option T) (P Q : T → Type 0) → ((x : T) → P x → Q x) → IsSomeAnd o P → IsSomeAnd o Q
some_and None P Q h p = p
some_and (Some x) P Q h p = h x p

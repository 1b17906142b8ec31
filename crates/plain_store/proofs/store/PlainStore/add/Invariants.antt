use Rattle.std.proofs.Common.{◌≡◌, take}
use Rattle.mv_history.specs.State.{written}
use Rattle.plain_store.proofs.store.PlainStore.add.Given as goal

abbrev pub invariant-loop-i : goal.invariant-loop-i
invariant-loop-i g l = l.words.items ≡ written l.fn.self.words.items (take l.i l.own)

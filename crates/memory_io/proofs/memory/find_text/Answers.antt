use Rattle.std.proofs.Common.{arith, sym}
use Rattle.memory_io.proofs.Texts.{text_of_at}
use Rattle.memory_io.proofs.memory.find_text.Goals as goal

pub returns-then-eq : goal.returns-then-eq
returns-then-eq c = (
  omega arith,
  text_of_at c.args.texts.now c.args.name.now c.loop-place.place c.index-texts-place.result (omega arith) c.index-texts-place.is
      (rw (← c.as_str.ensures.value) (sym c.if-eq.ensures)) c.loop-place.invariant,
)

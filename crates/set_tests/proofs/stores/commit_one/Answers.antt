use Rattle.std.proofs.Common.{length, arith, ap}
use Rattle.mv_history.proofs.Snapshots.{length-state_of}
use Rattle.set_tests.proofs.stores.commit_one.Goals as goal

pub try_lock-requires : goal.try_lock-requires
try_lock-requires g c =
    let section = c.enter-section.result in
    omega (
      arith,
      c.requires.in_range,
      ap length (g.met.S.Open.Section.reads section),
      length-state_of (g.S.Open.Section.section section),
      ap length c.enter-section.ensures.enters.seat.continues.start,
    )

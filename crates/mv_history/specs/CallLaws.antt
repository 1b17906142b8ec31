-- What a call that does nothing does.
use Rattle.std.specs.Prelude.{length, refl}
use Rattle.std.proofs.Common.{ap, arith}
use Rattle.std.proofs.lemmas.List.{take_all, drop_all}
use Rattle.mv_history.specs.Trail.{commit_exchanges, clock_exchanges}
use Rattle.mv_history.specs.Meaning.{Seat, InSection}
use Rattle.mv_history.specs.Calls.{Continues, Waits, IsAsBefore, GoesOn, NamesNoCommit, NamesNothing}

pub Continues-itself : (s : Seat) → Continues s s
Continues-itself s = record {
  number = refl;
  home = refl;
  write_max = refl;
  start = refl;
  base = refl;
  last = refl;
  seen = take_all (length s.seen) s.seen (omega arith);
  trail = take_all (length s.trail) s.trail (omega arith);
}

pub NamesNoCommit-itself : (s : Seat) → NamesNoCommit s s
NamesNoCommit-itself s = ap commit_exchanges (drop_all (length s.trail) s.trail (omega arith))

pub NamesNothing-itself : (s : Seat) → NamesNothing s s
NamesNothing-itself s = ap clock_exchanges (drop_all (length s.trail) s.trail (omega arith))

pub Waits-itself : (s : Seat) → Waits s s
Waits-itself s = record { continues = Continues-itself s; mine = refl; rests = refl; spare = refl }

pub IsAsBefore-itself : (s : InSection) → IsAsBefore s s
IsAsBefore-itself s = record { seat = Waits-itself s.seat; at = refl; own = refl }

pub GoesOn-itself : (s : InSection) → GoesOn s s
GoesOn-itself s = record {
  continues = Continues-itself s.seat;
  mine = refl;
  rests = refl;
  at = refl;
  names_no_commit = NamesNoCommit-itself s.seat;
}

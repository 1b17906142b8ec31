-- Attempts that made no commit, one behind another, and what comes behind them.
use Rattle.std.proofs.Common.{◌≡◌, ℕ, ◌+◌, ◌≤◌, length, ◌∙◌, arith}
use Rattle.section_work.specs.Sections.{IsEntered}
use Rattle.work_runner.proofs.Terms.{Seat, InSection, Continues, Prepares, Continues-Continues, length-seen, Causes, CommitsNone, IsUnder, IsEnteredBetween}

-- one more attempt that was given up
pub none_still : (s t u : Seat) → CommitsNone s t → CommitsNone t u → CommitsNone s u
none_still s t u p q = record { continues = Continues-Continues p.continues q.continues; mine = q.mine ∙ p.mine }

pub under_still : (most : ℕ) (s t u : Seat) → IsUnder most s t → CommitsNone t u → IsUnder most s u
under_still most s t u h none = record { none = none_still s t u h.none none; may = omega (arith, h.may, none.continues.write_max) }

-- an attempt that entered a section and made no commit
pub gave_up : (k : Causes) (s t prepared : Seat) (entered : InSection) → t.mine ≡ s.mine → Prepares s prepared → IsEntered k prepared entered t
    → CommitsNone s t
gave_up k s t prepared entered mine prepares enters =
    record { continues = Continues-Continues prepares.continues (Continues-Continues enters.enters.seat.continues enters.continues); mine = mine }

-- the printed time of all that was seen doesn't fall
pub seen_grows : (s t : Seat) → Continues s t → s.base + length s.seen ≤ t.base + length t.seen
seen_grows s t c = omega (arith, c.base, length-seen c)

-- The time of a section that was entered behind a seat.
module _ (k : Causes) (s t before : Seat) (entered : InSection) (time : ℕ) (comes : Continues s before) (enters : IsEntered k before entered t)
    (is : time ≡ entered.seat.base + entered.at) where
  pub entered_continues : Continues s t
  entered_continues = Continues-Continues comes (Continues-Continues enters.enters.seat.continues enters.continues)

  pub entered_within : (s.base + length s.seen ≤ time) × (time ≤ t.base + length t.seen)
  entered_within =
      let base : entered.seat.base ≡ s.base = enters.enters.seat.continues.base ∙ comes.base in
      let same : t.base ≡ entered.seat.base = enters.continues.base in
      let grew : length s.seen ≤ length before.seen = length-seen comes in
      let later : length entered.seat.seen ≤ length t.seen = length-seen enters.continues in
      (omega (arith, is, enters.enters.at), omega (arith, is, enters.at))

  -- its snapshot holds all that was seen at a seat before
  pub entered_fresh : (first : Seat) → CommitsNone first s → IsEnteredBetween k first t time
  entered_fresh first none = record {
    before = before;
    comes = Continues-Continues none.continues comes;
    entered = entered;
    enters = enters;
    time_is = is;
    holds = omega (arith, length-seen none.continues, length-seen comes, enters.enters.at);
  }

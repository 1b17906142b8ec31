-- What a scan of a handle leaves of its seat, and the time that it tells.
use Rattle.std.proofs.Common.{◌≡◌, ℕ, ◌+◌, ◌≤◌, List, length, drop, sym, ap, subst, arith}
use Rattle.mv_history.specs.State.{State, Writes}
use Rattle.mv_history.specs.declared.Step.{Step}
use Rattle.object_lock.specs.mv_core.declared.view.Knowledge.{Knowledge}
use Rattle.object_lock.specs.mv_core.Known.{Known}
use Rattle.mv_layout.specs.declared.Config.{Config}
use Rattle.object_lock.specs.seat_log.Notes.{Noted}
use Rattle.object_lock.specs.seat_log.Stands.{Stands}
use Rattle.object_lock.specs.reader_marks.declared.scanning.Watermark.{Watermark}
use Rattle.object_lock.specs.reader_marks.Scans.{Scans, IsKnown}
use Rattle.log_reclaim.specs.Parts.{Reclaims}
use Rattle.log_reclaim.proofs.Idle.{still_of}
use Rattle.log_reclaim.proofs.ScanParts.{steps_of, scan_reclaims, scan_stands}
use Rattle.log_reclaim.proofs.Lengths.{scanned_longer}
use Rattle.mvrlu.specs.Placed.{Placed, IsIdle}
use Rattle.mvrlu.specs.Grace.{TellsGrace}
use Rattle.mvrlu.proofs.rooms.Left.{trail_is, idle_after, prepared, few_steps}
use Rattle.mvrlu.proofs.NeverBelow.{never_below}

-- a scan in a domain of these numbers, by the numbers that the seat's place has
pub scans_by : (c d : Config) → c ≡ d → (v w : Knowledge) (mark : Watermark) (clock before after : ℕ) → Scans c v w mark clock before after
    → Scans d v w mark clock before after
scans_by c d is v w mark clock before after k = subst (λ (e : Config). Scans e v w mark clock before after) is k

pub few_by : (c d : Config) → c ≡ d → (before after : ℕ) → after ≤ before + (c.seats + 3) → after ≤ before + (d.seats + 3)
few_by c d is before after few = subst (λ (e : Config). after ≤ before + (e.seats + 3)) is few

module _ (starts : State → Type 0) (allows : List ℕ → State → Writes → Type 0) (p q : Placed) (config : q.config ≡ p.config)
    (table : q.table ≡ p.table) (idle : IsIdle starts allows p) (known : ∥ Known starts allows q.view ∥₁) (log : q.log ≡ p.log)
    (mark : Watermark) (clock before after : ℕ) (k : Scans q.config p.view q.view mark clock before after) where
  abbrev made : List Step
  made = steps_of q.config p.view q.view mark clock before after k

  reclaims : Reclaims p.view q.view made
  reclaims = scan_reclaims q.config p.view q.view mark clock before after k idle.outside (still_of starts allows p.view idle.placed.known idle.outside.outside)

  stands : Stands q.config q.view q.log
  stands =
      subst (λ (l : Noted). Stands q.config q.view l) (sym log)
      (scan_stands q.config p.view q.view mark clock before after k p.log
      (subst (λ (d : Config). Stands d p.view p.log) (sym config) idle.placed.stands))

  pub told_idle : IsIdle starts allows q
  told_idle = idle_after starts allows p q made config table idle reclaims known stands (ap (λ (l : Noted). l.built) log)

  steps_is : drop (length p.view.trail) q.view.trail ≡ made
  steps_is = trail_is starts allows p q made config table idle reclaims known stands

  pub told : (time : ℕ) → time ≡ mark.time → IsKnown q.view mark → after ≤ before + (q.config.seats + 3) → TellsGrace starts allows p q time
  told time is at_most few = record {
    prepares = prepared starts allows p q made config table idle reclaims known stands;
    log = log;
    mark = mark;
    clock = clock;
    scans = record {
      word = k.word;
      clock_is = k.clock_is;
      h = k.h;
      whole = k.whole;
      marks = k.marks;
      own = k.own;
      lowest = k.lowest;
      unmarked = k.unmarked;
      found = k.found;
      time = k.time;
      view = k.view;
      count = (let e = ap length steps_is in omega arith);
    };
    time_is = is;
    never_below = never_below starts allows q.config q.view time (let le : mark.time ≤ q.view.grace = at_most in omega arith);
    steps = few_steps starts allows p q made config table idle reclaims known stands (q.config.seats + 3)
        (scanned_longer q.config p.view q.view mark clock before after k few);
  }

-- Of a scan and a rest: the next clock word, and the least time.
use Rattle.std.proofs.Common.{◌≡◌, ℕ, ◌+◌, ◌-◌, ◌<◌, ◌==◌, ◌&&◌, ltb, leb, min, Bool, true, false, refl, sym, ap, ◌∙◌, arith, lt-ltb, le-leb, if◌then◌else◌}
use Rattle.mv_layout.specs.Words.{clock_of, clock_time_of}
use Rattle.mv_core.proofs.Terms.{Config}
use Rattle.mv_core.specs.ReclaimSteps.{least_with}
use Rattle.replay_rules.specs.declared.seats.Scanned.{Scanned}
use Rattle.replay_rules.specs.Tasks.{next_clock}
use Rattle.replay_rules.specs.Learns.{lowered}
use Rattle.replay_rules.proofs.runs.Known.{leb_le, leb_gt}

-- the clock word of the next rest, where the numbers fit one
pub next_is_word : (c : Config) (word n : ℕ) → clock_time_of word < 35184372088831 → n < 64 → next_clock word n 8191 ≡ clock_of (clock_time_of word + 1) n 8191
next_is_word c word n room seat =
    ap (λ b. if b && (ltb n 64 && leb 8191 8191) then clock_of (clock_time_of word + 1) n 8191 else 0) (lt-ltb (clock_time_of word) 35184372088831 room)
    ∙ ap (λ b. if b && leb 8191 8191 then clock_of (clock_time_of word + 1) n 8191 else 0) (lt-ltb n 64 seat)
    ∙ ap (λ b. if b then clock_of (clock_time_of word + 1) n 8191 else 0) (le-leb 8191 8191 (omega arith))

-- a mark lowers the least time of a scan
pub lowered_low : (scan : Scanned) (seat mark : ℕ) → (lowered scan seat mark).low ≡ least_with scan.low mark
lowered_low scan seat mark = go (mark == 0) refl (leb scan.low (mark - 1)) refl
  where
    go : (a : Bool) → (mark == 0) ≡ a → (b : Bool) → leb scan.low (mark - 1) ≡ b → (lowered scan seat mark).low ≡ least_with scan.low mark
    go true p b q = (λ i. (if p i then scan else (if leb scan.low (mark - 1) then scan else record scan { low = mark - 1; seat = seat })).low)
        ∙ sym (ap (λ x. if x then scan.low else min scan.low (mark - 1)) p)
    go false p true q = (λ i. (if p i then scan else (if q i then scan else record scan { low = mark - 1; seat = seat })).low)
        ∙ (let le = leb_le scan.low (mark - 1) q in let e : scan.low ≡ min scan.low (mark - 1) = omega (arith, le) in e)
        ∙ sym (ap (λ x. if x then scan.low else min scan.low (mark - 1)) p)
    go false p false q = (λ i. (if p i then scan else (if q i then scan else record scan { low = mark - 1; seat = seat })).low)
        ∙ (let gt = leb_gt scan.low (mark - 1) q in let e : mark - 1 ≡ min scan.low (mark - 1) = omega (arith, gt) in e)
        ∙ sym (ap (λ x. if x then scan.low else min scan.low (mark - 1)) p)

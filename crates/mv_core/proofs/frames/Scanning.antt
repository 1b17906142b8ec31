-- A scan goes on: what keeps all facts where a seat outside a section begins a scan, goes on with it or ends it.
use Rattle.std.proofs.Common.{◌≡◌, ℕ, ◌≤◌, ◌<◌, nat_lt, max, Bool, true, false, cond, List, refl, subst, le_refl, arith, Option, Some, None}
use Rattle.std.proofs.lemmas.Bool.Decides.{nat_tests}
use Rattle.mv_core.proofs.Terms.{Entry, State, Writes, Config, Clock, clock_time_of, Memory, Outside, Scan, NotAbove, NotAboveAny, ViewParts}
use Rattle.mv_core.proofs.FactTerms.{ScanIs, Facts}
use Rattle.mv_core.specs.ReclaimSteps.{scan_on, grace_on}
use Rattle.mv_core.proofs.frames.FrameLaw.{set_at_all, unchanged, changed}
use Rattle.mv_core.proofs.frames.Watermarks.{max_not_above, watermark_rises}

module _ {starts : State → Type 0} {allows : List ℕ → State → Writes → Type 0} {c : Config} {start : State} {m : Memory} {h : List Entry} {f : ViewParts}
    (k : Facts starts allows c start m h f) (n : ℕ) (out : f.phase n ≡ Outside) where
  -- the scan of a seat that is outside becomes one whose least time is no section's that it has scanned
  scan_is : (o : Option Scan) → ScanIs (m Clock) f.time o → Facts starts allows c start m h (changed f n (record unchanged { scan = Some o }))
  scan_is o fits =
      let scans = set_at_all (λ s x. ScanIs (m Clock) f.time x) f.scan n o fits (λ s ne. k.grace.scans s) in
      let scanning = set_at_all (λ s x. (running : Scan) → x ≡ Some running → f.phase s ≡ Outside) f.scan n o (λ running e. out)
      (λ s ne. k.phases_and_scan.scanning s) in
      assumption (scans, scanning, k)

  module _ (clock least next : ℕ) (low : least ≤ clock) (now : clock ≤ clock_time_of (m Clock)) (scanned : (s : ℕ) → s < next → NotAbove least (f.time s)) where
    scan_fits : (b : Bool) → nat_lt next c.seats ≡ b → ScanIs (m Clock) f.time (cond b (Some (record { clock = clock; least = least; next = next })) None)
    scan_fits true e = (low, now, scanned)
    scan_fits false e = tt

    -- all seats are scanned
    all_scanned : nat_lt next c.seats ≡ false → (s : ℕ) → NotAbove least (f.time s)
    all_scanned e s = go (f.time s) refl
      where
        go : (o : Option ℕ) → f.time s ≡ o → NotAbove least o
        go None at = tt
        go (Some u) at = let ge : c.seats ≤ next = grind (arith, nat_tests, e) in let lt =
            k.phases_and_scan.within s u at in subst (NotAbove least) at (scanned s (omega arith))

    grace_fits : (g : ℕ) (b : Bool) → nat_lt next c.seats ≡ b → (g ≤ clock_time_of (m Clock)) × NotAboveAny g f.time
        → (cond b g (max g least) ≤ clock_time_of (m Clock)) × NotAboveAny (cond b g (max g least)) f.time
    grace_fits g true e old = old
    grace_fits g false e old = let le = old.0 in (omega arith, λ s. max_not_above g least (f.time s) (old.1 s) (all_scanned e s))

    grace_up : (g : ℕ) (b : Bool) → g ≤ cond b g (max g least)
    grace_up g true = le_refl g
    grace_up g false = omega arith

    pub scan_goes_on : Facts starts allows c start m h
        (changed f n (record unchanged { scan = Some (scan_on c clock least next); grace = Some (grace_on c (f.grace n) least next) }))
    scan_goes_on =
        let b = nat_lt next c.seats in
        watermark_rises
        (scan_is (scan_on c clock least next) (scan_fits b refl)) n (grace_on c (f.grace n) least next)
        (grace_up (f.grace n) b) (grace_fits (f.grace n) b refl (k.grace.views n))

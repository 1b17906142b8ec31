-- load CLOCK (scan) and load MARK: a scan begins with the clock's time, and each mark lowers its least time to one that the section of that seat isn't below.
use Rattle.std.proofs.Common.{◌≡◌, ◌≢◌, ℕ, ◌+◌, ◌-◌, ◌==◌, ◌≤◌, ◌<◌, ◌++◌, min, Bool, true, false, cond, List}
use Rattle.std.proofs.Common.{refl, sym, ap, ◌∙◌, subst, le_refl, eqb-true, arith, Some}
use Rattle.mv_core.proofs.Terms.{Entry, State, Writes, Config, Clock, Mark, clock_time_of, Knowledge, Past, Phase, Outside, Lowered, Marked}
use Rattle.mv_core.proofs.Terms.{Inside, Scan, NotAbove, ViewParts, parts_of, time_of, time_in}
use Rattle.mv_core.proofs.FactTerms.{ScanIs, MarkedAs, IsWord, RunsOn, Loads, IsKept}
use Rattle.mv_core.specs.EnterSteps.{IsWhole}
use Rattle.mv_core.specs.ReclaimSteps.{other_from, least_with, MayLoadScan, scan_loaded, MayLoadMark, mark_loaded, scan_on, grace_on}
use Rattle.mv_core.proofs.frames.FrameLaw.{unchanged, settle}
use Rattle.mv_core.proofs.frames.ClockLoads.{whole_seen}
use Rattle.mv_core.proofs.frames.Watermarks.{lower_not_above}
use Rattle.mv_core.proofs.frames.Scanning.{scan_goes_on}

-- a time that no section of another seat is below, up to a seat, is one that no section is below, as the own seat is outside
with_own : (n from : ℕ) (t : ℕ) (phase : ℕ → Phase) → phase n ≡ Outside → ((s : ℕ) → s < from → NotAbove t (time_of (phase s))) → (s : ℕ)
    → s < other_from n from → NotAbove t (time_of (phase s))
with_own n from t phase out old s lt = go (from == n) refl lt
  where
    go : (b : Bool) → (from == n) ≡ b → s < cond b (from + 1) from → NotAbove t (time_of (phase s))
    go false e below = old s below
    go true e below = last (s == from) refl
      where
        last : (d : Bool) → (s == from) ≡ d → NotAbove t (time_of (phase s))
        last true same = let is : s ≡ n = eqb-true s from same ∙ eqb-true from n e in subst (λ (p : Phase). NotAbove t (time_of p)) (sym (ap phase is ∙ out)) tt
        last false other = old s (let ne : s ≢ from = grind (arith, other) in omega (arith, below))

-- a seat's mark lowers the least time to one that its section isn't below
by_mark : (clock least mark : ℕ) (p : Phase) → MarkedAs clock mark p → NotAbove (least_with least mark) (time_of p)
by_mark clock least mark Outside is = tt
by_mark clock least mark (Lowered low) is = tt
by_mark clock least mark (Marked low) is = tt
by_mark clock least mark (Inside s) is = go (mark == 0) refl
  where
    go : (b : Bool) → (mark == 0) ≡ b → cond b least (min least (mark - 1)) ≤ time_in s
    go true e = let zero_is : mark ≡ 0 = eqb-true mark 0 e in let one = is.0 in absurd (omega arith)
    go false e = let one = is.0 in let low = is.1 in omega arith

-- and to none above the one before
lowered : (least mark : ℕ) → least_with least mark ≤ least
lowered least mark = go (mark == 0)
  where
    go : (b : Bool) → cond b least (min least (mark - 1)) ≤ least
    go true = le_refl least
    go false = omega arith

-- the seats up to one of which the mark was loaded
up_to_mark : (clock least mark seat : ℕ) (phase : ℕ → Phase) → MarkedAs clock mark (phase seat) → ((s : ℕ) → s < seat → NotAbove least (time_of (phase s)))
    → (s : ℕ) → s < seat + 1 → NotAbove (least_with least mark) (time_of (phase s))
up_to_mark clock least mark seat phase is old s lt = go (s == seat) refl
  where
    go : (b : Bool) → (s == seat) ≡ b → NotAbove (least_with least mark) (time_of (phase s))
    go true e = subst (λ (x : ℕ). NotAbove (least_with least mark) (time_of (phase x))) (sym (eqb-true s seat e)) (by_mark clock least mark (phase seat) is)
    go false e =
        lower_not_above least (least_with least mark) (time_of (phase s)) (lowered least mark)
        (old s (let ne : s ≢ seat = grind (arith, e) in omega (arith, lt)))

module _ (starts : State → Type 0) (allows : List ℕ → State → Writes → Type 0) (c : Config) (start : State) (v : Knowledge) where
  pub scan_loads : MayLoadScan v
      → Loads starts allows c start v Clock
      (λ x w. ((((h : List Entry) × IsWhole c v x h × (w ≡ scan_loaded c v x h)) × IsWord c x) × RunsOn v w) × IsKept v w)
  scan_loads may m h seats k is own begins wide =
      let n = v.number in
      let f : ViewParts = parts_of seats in
      let now = clock_time_of (m Clock) in
      let w : Knowledge = scan_loaded c v (m Clock) h in
      let p : Past = record (seats n).past { seen = h } in
      let out : (seats n).phase ≡ Outside = ap (λ (u : Knowledge). u.phase) is ∙ may.outside in
      let seen = whole_seen k n in
      let from = other_from n 0 in
      let scanned = with_own n 0 now f.phase out (λ s lt. absurd (omega (arith, lt))) in
      let facts = scan_goes_on seen n out now now from (le_refl now) (le_refl now) scanned in
      let front : (rest : List Entry) × (h ≡ v.past.seen ++ rest) =
      subst (λ (u : Knowledge). (rest : List Entry) × (h ≡ u.past.seen ++ rest)) is (k.history.seats n).seen in (
        w,
        settle starts allows c start m h seats n v w is
            (record unchanged { past = Some p; scan = Some (scan_on c now now from); grace = Some (grace_on c (seats n).grace now from) }) (
              ap (λ (u : Knowledge). record u.past { seen = h }) (sym is),
              refl,
              refl,
              refl,
              refl,
              refl,
              refl,
              refl,
              refl,
              refl,
              ap (λ (u : Knowledge). grace_on c u.grace now from) (sym is),
            ) facts,
        (
          (((h, (front, k.history.long, k.history.makers), refl), k.loaded_words.clock_is), (λ t i a b. (a, b))),
          (refl, refl, refl, refl, refl, refl),
        ),
      )

  pub mark_loads : (seat : ℕ) (scan : Scan) → MayLoadMark c v seat scan
      → Loads starts allows c start v (Mark seat) (λ x w. ((w ≡ mark_loaded c v seat scan x) × RunsOn v w) × IsKept v w)
  mark_loads seat scan may m h seats k is own begins wide =
      let n = v.number in
      let f : ViewParts = parts_of seats in
      let mark = m (Mark seat) in
      let w : Knowledge = mark_loaded c v seat scan mark in
      let running : (seats n).scan ≡ Some scan = ap (λ (u : Knowledge). u.scan) is ∙ may.running in
      let out : (seats n).phase ≡ Outside = k.phases_and_scan.scanning n scan running in
      let old : ScanIs (m Clock) f.time (Some scan) = subst (ScanIs (m Clock) f.time) running (k.grace.scans n) in
      let least = least_with scan.least mark in
      let low : least ≤ scan.clock = (let a = lowered scan.least mark in let b = old.0 in omega arith) in
      let up_to = up_to_mark (m Clock) scan.least mark seat f.phase (k.marks seat)
      (subst (λ (x : ℕ). (s : ℕ) → s < x → NotAbove scan.least (f.time s)) may.next old.2) in
      let from = other_from n (seat + 1) in
      let scanned = with_own n (seat + 1) least f.phase out up_to in
      let facts = scan_goes_on k n out scan.clock least from low old.1 scanned in (
        w,
        settle starts allows c start m h seats n v w is
            (record unchanged { scan = Some (scan_on c scan.clock least from); grace = Some (grace_on c (seats n).grace least from) })
            (refl, refl, refl, refl, refl, refl, refl, refl, refl, refl, ap (λ (u : Knowledge). grace_on c u.grace least from) (sym is)) facts,
        ((refl, (λ t i a b. (a, b))), (refl, refl, refl, refl, refl, refl)),
      )

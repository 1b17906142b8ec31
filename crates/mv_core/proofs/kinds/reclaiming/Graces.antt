-- load GRACE and fetch_max GRACE: what was found there is a time that no section is below.
use Rattle.std.proofs.Common.{◌≡◌, ℕ, ◌≤◌, max, List, refl, sym, ap, subst, arith, Some}
use Rattle.mv_core.proofs.Terms.{Entry, State, Writes, Config, Clock, Grace, clock_time_of, Memory, put, Knowledge, NotAboveAny, parts_of}
use Rattle.mv_core.specs.SeatSteps.{MayRaiseGrace, grace_loaded, grace_raised}
use Rattle.mv_core.proofs.FactTerms.{RunsOn, Facts, Loads, Raises, IsKept}
use Rattle.mv_core.proofs.frames.FrameLaw.{unchanged, settle}
use Rattle.mv_core.proofs.frames.Watermarks.{max_not_above, lower_not_above, watermark_rises, shared_rises}

module _ (starts : State → Type 0) (allows : List ℕ → State → Writes → Type 0) (c : Config) (start : State) (v : Knowledge) where
  -- the watermark of the seat after it found what is in GRACE
  known_below : (m : Memory) (h : List Entry) (seats : ℕ → Knowledge) → Facts starts allows c start m h (parts_of seats) → seats v.number ≡ v
      → (max v.grace (m Grace) ≤ clock_time_of (m Clock)) × NotAboveAny (max v.grace (m Grace)) (parts_of seats).time
  known_below m h seats k is =
      let own = subst (λ (x : ℕ). (x ≤ clock_time_of (m Clock)) × NotAboveAny x (parts_of seats).time) (ap (λ (u : Knowledge). u.grace) is)
      (k.grace.views v.number) in
      let le = own.0 in let shared =
      k.grace.shared.0 in (omega arith, λ s. max_not_above v.grace (m Grace) ((parts_of seats).time s) (own.1 s) (k.grace.shared.1 s))

  up : (seats : ℕ → Knowledge) (x : ℕ) → seats v.number ≡ v → (seats v.number).grace ≤ max v.grace x
  up seats x is = subst (λ (y : ℕ). y ≤ max v.grace x) (sym (ap (λ (u : Knowledge). u.grace) is)) (omega arith)

  pub grace_loads : Loads starts allows c start v Grace (λ n w. ((w ≡ grace_loaded c v n) × RunsOn v w) × IsKept v w)
  grace_loads m h seats k is own begins small =
      let w = grace_loaded c v (m Grace) in
      let g = max v.grace (m Grace) in (
        w,
        settle starts allows c start m h seats v.number v w is (record unchanged { grace = Some g })
            (refl, refl, refl, refl, refl, refl, refl, refl, refl, refl, refl)
            (watermark_rises k v.number g (up seats (m Grace) is) (known_below m h seats k is)),
        ((refl, (λ t i a b. (a, b))), (refl, refl, refl, refl, refl, refl)),
      )

  pub grace_raises : (time : ℕ) → MayRaiseGrace v time
      → Raises starts allows c start v Grace time (λ n w. ((w ≡ grace_raised c v time n) × RunsOn v w) × IsKept v w)
  grace_raises time may m h seats k is own begins small =
      let w = grace_raised c v time (m Grace) in
      let g = max v.grace (m Grace) in
      let mine = subst (λ (x : ℕ). (x ≤ clock_time_of (m Clock)) × NotAboveAny x (parts_of seats).time) (ap (λ (u : Knowledge). u.grace) is)
      (k.grace.views v.number) in
      let fits : (max (m Grace) time ≤ clock_time_of (m Clock)) × NotAboveAny (max (m Grace) time) (parts_of seats).time =
      let own_le =
      mine.0 in let shared_le =
      k.grace.shared.0 in let le : time ≤ v.grace =
      may in (
        omega arith,
        λ s. max_not_above (m Grace) time ((parts_of seats).time s) (k.grace.shared.1 s)
            (lower_not_above v.grace time ((parts_of seats).time s) may (mine.1 s)),
      ) in (
        w,
        settle starts allows c start (put m Grace (max (m Grace) time)) h seats v.number v w is (record unchanged { grace = Some g })
            (refl, refl, refl, refl, refl, refl, refl, refl, refl, refl, refl)
            (shared_rises k v.number g (up seats (m Grace) is) (known_below m h seats k is) (max (m Grace) time) fits),
        ((refl, (λ t i a b. (a, b))), (refl, refl, refl, refl, refl, refl)),
      )

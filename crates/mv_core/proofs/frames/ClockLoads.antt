-- A step that finds the whole history takes its seat's `seen` to it: the frame of each load of CLOCK that does so.
use Rattle.std.proofs.Common.{◌≡◌, ◌+◌, ◌≤◌, ℕ, List, [], length, refl, sym, ap, ◌∙◌, append-nil, length-append, arith, Some}
use Rattle.mv_core.proofs.Terms.{Entry, State, Writes, Config, Clock, Memory, Past, ViewParts}
use Rattle.mv_core.proofs.FactTerms.{History, Facts}
use Rattle.mv_core.proofs.frames.FrameLaw.{set_at_all, unchanged, changed}
use Rattle.mv_core.proofs.logs.SeenDeaths.{sees_on}
use Rattle.mv_core.proofs.history.LongerSeen.{sees_more}

module _ {starts : State → Type 0} {allows : List ℕ → State → Writes → Type 0} {c : Config} {start : State} {m : Memory} {h : List Entry} {f : ViewParts}
    (k : Facts starts allows c start m h f) (n : ℕ) where
  abbrev p : Past
  p = record (f.past n) { seen = h }

  abbrev t : ViewParts
  t = changed f n (record unchanged { past = Some p })

  history_after : History starts allows c start (m Clock) h t.past
  history_after = sees_more starts allows c start (m Clock) h f.past n (f.past n) refl k.history h ([], sym (append-nil h)) (k.history.seats n).seen

  -- a section's time was seen
  seen_after : (s u : ℕ) → f.time s ≡ Some u → u ≤ c.base + length (t.past s).seen
  seen_after s =
      set_at_all (λ s (q : Past). (u : ℕ) → f.time s ≡ Some u → u ≤ c.base + length q.seen) f.past n p
      (λ u e.
      let front = (k.history.seats n).seen in
      let long : length h ≡ length (f.past n).seen + length front.0 = ap length front.1 ∙ length-append (f.past n).seen front.0 in
      let le = k.phases_and_scan.seen n u e in
      omega arith)
      (λ s ne. k.phases_and_scan.seen s) s

  pub whole_seen : Facts starts allows c start m h t
  whole_seen =
      let deaths = sees_on c f.past f.ring n p (k.history.seats n).seen k.deaths_seen in
      assumption (history_after, deaths, seen_after, k)

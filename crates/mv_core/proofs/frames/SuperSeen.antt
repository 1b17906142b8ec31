-- A seat that sees more of the history changes nothing else: the frame of all facts.
use Rattle.std.proofs.Common.{◌≡◌, ℕ, ◌+◌, ◌≤◌, List, length, Some}
use Rattle.mv_core.proofs.Terms.{Entry, State, Writes, Config, Clock, Memory, Past, ViewParts, set_at}
use Rattle.mv_core.proofs.FactTerms.{BeginsWith, History, Facts}
use Rattle.mv_core.proofs.frames.FrameLaw.{unchanged, changed}
use Rattle.mv_core.proofs.logs.SeenDeaths.{sees_on}

pub more_seen : (starts : State → Type 0) (allows : List ℕ → State → Writes → Type 0) (c : Config) (start : State) (m : Memory) (h : List Entry) (f : ViewParts)
    → Facts starts allows c start m h f → (n : ℕ) (p : Past) → History starts allows c start (m Clock) h (set_at f.past n p)
    → ((s t : ℕ) → f.time s ≡ Some t → t ≤ c.base + length (set_at f.past n p s).seen) → BeginsWith p.seen (f.past n).seen
    → Facts starts allows c start m h (changed f n (record unchanged { past = Some p }))
more_seen starts allows c start m h f k n p history seen more =
    let deaths = sees_on c f.past f.ring n p more k.deaths_seen in
    assumption (history, deaths, seen, k)

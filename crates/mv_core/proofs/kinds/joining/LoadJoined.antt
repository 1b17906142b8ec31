-- load CLOCK after a join: the word found is loaded, the whole history is seen, and it is told of the joined seats.
use Rattle.std.proofs.Common.{◌≡◌, ℕ, List, refl, sym, ap, Some}
use Rattle.mv_core.proofs.Terms.{Entry, State, Writes, Config, Clock, Knowledge}
use Rattle.mv_core.proofs.FactTerms.{IsWord, RunsOn, Loads, IsKept}
use Rattle.mv_core.specs.EnterSteps.{IsWhole}
use Rattle.mv_core.specs.SeatSteps.{AreJoined, joined_loaded}
use Rattle.mv_core.proofs.frames.FrameLaw.{unchanged, settle}
use Rattle.mv_core.proofs.kinds.joining.JoinedPasts.{are_joined}
use Rattle.mv_core.proofs.kinds.naming.LostClock.{lost_clocks, lost_facts, lost_whole}

module _ (starts : State → Type 0) (allows : List ℕ → State → Writes → Type 0) (c : Config) (start : State) (v : Knowledge) where
  pub joined_loads : Loads starts allows c start v Clock
      (λ n w. ((((h : List Entry) × IsWhole c v n h × AreJoined c v h × (w ≡ joined_loaded c v n h)) × IsWord c n) × RunsOn v w) × IsKept v w)
  joined_loads m h seats k is own begins wide =
      let n = v.number in
      let w : Knowledge = joined_loaded c v (m Clock) h in (
        w,
        settle starts allows c start m h seats n v w is
            (record unchanged { past = Some (record (seats n).past { seen = h }); clocks = Some (lost_clocks (seats n).clocks (m Clock)) }) (
              ap (λ (u : Knowledge). record u.past { seen = h }) (sym is),
              refl,
              refl,
              refl,
              ap (λ (u : Knowledge). lost_clocks u.clocks (m Clock)) (sym is),
              refl,
              refl,
              refl,
              refl,
              refl,
              refl,
            )
            (lost_facts v seats k is),
        (
          (((h, lost_whole v seats k is, are_joined v seats k is own, refl), k.loaded_words.clock_is), (λ t i a b. (a, b))),
          (refl, refl, refl, refl, refl, refl),
        ),
      )

-- A watermark rises: what keeps all facts where one seat's watermark becomes a greater one that no section is below.
use Rattle.std.proofs.Common.{ℕ, ◌≤◌, max, List, le_refl, le_trans, inl, inr, ⊎_elim, arith, Option, Some, None}
use Rattle.mv_core.proofs.Terms.{Entry, State, Writes, maker_of, Config, Clock, Grace, Master, clock_time_of, Memory, put, NotAbove, NotAboveAny, ViewParts}
use Rattle.mv_core.proofs.FactTerms.{FreedIsOld, WriteBacks, PositionsAndGrace, Facts}
use Rattle.mv_core.proofs.frames.KeptRecords.{same_back}
use Rattle.mv_core.proofs.frames.FrameLaw.{set_at_all, unchanged, changed}

-- the greater of two times that a section isn't below is such a time
pub max_not_above : (a b : ℕ) (t : Option ℕ) → NotAbove a t → NotAbove b t → NotAbove (max a b) t
max_not_above a b None x y = tt
max_not_above a b (Some u) x y = let l : a ≤ u = x in let r : b ≤ u = y in omega arith

-- and so is a lower one
pub lower_not_above : (a b : ℕ) (t : Option ℕ) → b ≤ a → NotAbove a t → NotAbove b t
lower_not_above a b None le x = tt
lower_not_above a b (Some u) le x = let l : a ≤ u = x in omega arith

module _ {starts : State → Type 0} {allows : List ℕ → State → Writes → Type 0} {c : Config} {start : State} {m : Memory} {h : List Entry} {f : ViewParts}
    (k : Facts starts allows c start m h f) (n g : ℕ) (up : f.grace n ≤ g) (below : (g ≤ clock_time_of (m Clock)) × NotAboveAny g f.time) where
  abbrev t : ViewParts
  t = changed f n (record unchanged { grace = Some g })

  -- no watermark falls
  rises : (s : ℕ) → f.grace s ≤ t.grace s
  rises = set_at_all (λ s x. f.grace s ≤ x) f.grace n g up (λ s ne. le_refl (f.grace s))

  written_back : WriteBacks c h (λ o w. m (Master o w)) t.section t.time t.clocks t.grace t.back t.ring
  written_back s b e =
      let old = k.write_back s b e in
      let is = old.2 in
      (old.0, old.1, same_back is is.note is.helped is.nothing is.lives is.old (le_trans is.known (rises s)) is.last is.uncut is.words)

  positions : PositionsAndGrace c t.grace t.ring
  positions = record {
    live = λ s j x st lives. le_trans (k.positions_and_grace.live s j x st lives) (rises s);
    free = λ s j lt e. le_trans (k.positions_and_grace.free s j lt e) (rises s);
    built = λ s j b e. le_trans (k.positions_and_grace.built s j b e) (rises s);
    freeing = λ s j p first e. le_trans (k.positions_and_grace.freeing s j p first e) (rises s);
    commit = k.positions_and_grace.commit;
    dead = k.positions_and_grace.dead;
    aborted = k.positions_and_grace.aborted;
  }

  freed : FreedIsOld c (m Clock) h t.grace t.ring
  freed = record {
    writes = λ u o e at w. ⊎_elim inl (λ old. let up = rises (maker_of e) in inr (omega arith)) (k.freed_is_old.writes u o e at w);
    named = k.freed_is_old.named;
  }

  pub watermark_rises : Facts starts allows c start m h t
  watermark_rises =
      let views = set_at_all (λ s x. (x ≤ clock_time_of (m Clock)) × NotAboveAny x f.time) f.grace n g below (λ s ne. k.grace.views s) in
      assumption (views, freed, written_back, positions, k)

  -- and the shared watermark too
  pub shared_rises : (x : ℕ) → (x ≤ clock_time_of (m Clock)) × NotAboveAny x f.time → Facts starts allows c start (put m Grace x) h t
  shared_rises x fits =
      let w = watermark_rises in
      assumption (fits, w)

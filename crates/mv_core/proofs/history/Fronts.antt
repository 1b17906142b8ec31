-- Histories that begin with another: what was seen begins what is seen later.
use Rattle.std.proofs.Common.{◌≡◌, ℕ, zero, suc, ◌+◌, ◌-◌, ◌≤◌, List, [], ◌∷◌, ◌++◌, length, take, ap, ◌∙◌, arith, append_assoc, length-append}
use Rattle.std.specs.Prelude.{All, slice_get}
use Rattle.std.proofs.lemmas.List.Elements.{All-nil, All-cons, All-head, All-tail}
use Rattle.std.proofs.Math.Seq.{take-append-le}
use Rattle.mv_core.proofs.Terms.{Entry, latest, latest_at}
use Rattle.mv_core.specs.HistoryFacts.{BeginsWith}
use Rattle.mv_core.proofs.history.Latest.{latest_at-end, latest_at-latest}

-- a history that begins with one that begins with another begins with that
pub begins_by : (a b d : List Entry) → BeginsWith a b → BeginsWith b d → BeginsWith a d
begins_by a b d p q = (q.0 ++ p.0, p.1 ∙ ap (λ l. l ++ p.0) q.1 ∙ append_assoc d q.0 p.0)

-- what holds of each of a list holds of each of its front
pub All-front : {X : Type 0} (P : X → Type 0) (xs ys : List X) → All P (xs ++ ys) → All P xs
All-front P [] ys all = All-nil P
All-front P (x ∷ xs) ys all = All-cons P x xs (All-head P x (xs ++ ys) all) (All-front P xs ys (All-tail P x (xs ++ ys) all))

-- and is no shorter
pub begins_long : (a b : List Entry) → BeginsWith a b → length b ≤ length a
begins_long a b p = let e = ap length p.1 in let f = length-append b p.0 in omega arith

-- an entry after the front is one of the rest
pub get_after : (front rest : List Entry) (i : ℕ) → length front ≤ i → slice_get (front ++ rest) i ≡ slice_get rest (i - length front)
get_after [] rest i le = ap (slice_get rest) (let e : i ≡ i - 0 = omega arith in e)
get_after (x ∷ front) rest zero le = absurd (omega arith)
get_after (x ∷ front) rest (suc i) le =
    get_after front rest i (omega arith)
    ∙ ap (slice_get rest) (let e : i - length front ≡ suc i - length (x ∷ front) = omega arith in e)

module _ (base : ℕ) (h seen : List Entry) (o : ℕ) (front : BeginsWith h seen) where
  -- up to a time that was seen the last write stays
  pub latest_at-more : (t : ℕ) → t ≤ base + length seen → latest_at base h o t ≡ latest_at base seen o t
  latest_at-more t le = ap (λ l. latest base l o) (ap (take (t - base)) front.1 ∙ take-append-le (t - base) seen front.0 (omega arith))

  -- the last write of all isn't earlier
  pub latest-more : latest base seen o ≤ latest base h o
  latest-more =
      let t : ℕ = base + length seen in
      let all = latest_at-end base seen o t (omega arith) in
      let same = latest_at-more t (omega arith) in
      let less = latest_at-latest base h o t in
      omega arith

-- The history after a step, from what its seat has seen then: as before where it has seen no more, and with one entry more where it has seen that.
use Rattle.std.proofs.Common.{◌≡◌, ◌≢◌, ◌⊎◌, ℕ, ◌+◌, ◌-◌, ◌<◌, ◌≤◌, ◌^◌, max, leb, Bool, true, false, if◌then◌else◌, List, [], ◌∷◌, ◌++◌, length, take, sym}
use Rattle.std.proofs.Common.{refl, ap, ◌∙◌, subst, ⊎_elim, arith, append-nil, append_assoc, length-append, leb-true, leb-false}
use Rattle.std.proofs.Math.Seq.{take-append_seam}
use Rattle.mv_core.proofs.Terms.{dite, ℕ_discrete, Entry, State, Writes, Config, Clock, Memory, Knowledge, Past, parts_of, set_at}
use Rattle.mv_core.specs.HistoryFacts.{BeginsWith}
use Rattle.mv_core.specs.EnterSteps.{IsWhole}
use Rattle.mv_core.specs.Moves.{seen_to, seen_at}
use Rattle.mv_core.specs.Rule.{Facts}
use Rattle.mv_core.proofs.frames.FrameLaw.{set_at_here, set_at_else}
use Rattle.mv_core.proofs.history.Fronts.{begins_by, begins_long}
use Rattle.mv_core.proofs.history.LongerSeen.{begins_both}

-- two beginnings of one list that are as long are one
pub same_front : (a b r s : List Entry) → a ++ r ≡ b ++ s → length a ≡ length b → a ≡ b
same_front a b r s e long =
    sym (take-append_seam a r) ∙ ap (take (length a)) e ∙ ap (λ n. take n (b ++ s)) long ∙ take-append_seam b s

-- what begins a list and is as long is the list
pub whole_front : (h front : List Entry) → BeginsWith h front → length h ≡ length front → h ≡ front
whole_front h front b long = same_front h front [] b.0 (append-nil h ∙ b.1) long

module _ {starts : State → Type 0} {allows : List ℕ → State → Writes → Type 0} {c : Config} {start : State} {m after : Memory}
    {h longer : List Entry} (seats : ℕ → Knowledge) (v w : Knowledge)
    (is : seats v.number ≡ v) (k : Facts starts allows c start m h (parts_of seats))
    (l : Facts starts allows c start after longer (parts_of (set_at seats v.number w))) where
  past_here : (set_at seats v.number w v.number).past ≡ w.past
  past_here = ap (λ (u : Knowledge). u.past) (set_at_here seats v.number w)

  past_else : (s : ℕ) → s ≢ v.number → (set_at seats v.number w s).past ≡ (seats s).past
  past_else s ne = ap (λ (u : Knowledge). u.past) (set_at_else seats v.number w s ne)

  -- before and after, the seat has seen a part of the history, and so has each other seat
  saw : BeginsWith h v.past.seen
  saw = subst (λ (u : Knowledge). BeginsWith h u.past.seen) is (k.history.seats v.number).seen

  sees : BeginsWith longer w.past.seen
  sees = subst (λ (p : Past). BeginsWith longer p.seen) past_here (l.history.seats v.number).seen

  others_see : (s : ℕ) → s ≢ v.number → BeginsWith longer (seats s).past.seen
  others_see s ne = subst (λ (p : Past). BeginsWith longer p.seen) (past_else s ne) (l.history.seats s).seen

  -- the history before begins that of after, and is it where the seat has seen no more
  grows : BeginsWith w.past.seen v.past.seen → BeginsWith longer h
  grows more =
      ⊎_elim
      (λ none. (longer, ap (λ (x : List Entry). x ++ longer) (sym none)))
      (λ all. dite (ℕ_discrete all.0 v.number)
      (λ e. subst (BeginsWith longer) (sym (ap (λ (u : Knowledge). u.past.seen) (ap seats e ∙ is)) ∙ all.1)
      (begins_by longer w.past.seen v.past.seen sees more))
      (λ ne. subst (BeginsWith longer) all.1 (others_see all.0 ne)))
      k.history.whole

  pub stays : w.past ≡ v.past → longer ≡ h
  stays same =
      begins_both h longer
      (⊎_elim
      (λ none. (h, ap (λ (x : List Entry). x ++ h) (sym none)))
      (λ all. dite (ℕ_discrete all.0 v.number)
      (λ e. subst (BeginsWith h)
      (sym (ap (λ (p : Past). p.seen) (ap (λ (i : ℕ). (set_at seats v.number w i).past) e ∙ past_here ∙ same)) ∙ all.1) saw)
      (λ ne. subst (BeginsWith h) (sym (ap (λ (p : Past). p.seen) (past_else all.0 ne)) ∙ all.1) (k.history.seats all.0).seen))
      l.history.whole)
      (grows ([], ap (λ (p : Past). p.seen) same ∙ sym (append-nil v.past.seen)))

  -- where the seat has seen one entry more than the whole history that was there, that is the history
  module _ (front : List Entry) (e : Entry) (whole : IsWhole c v (m Clock) front) (seen : w.past.seen ≡ front ++ e ∷ []) where
    as_long : length h ≡ length front
    as_long = let a = k.history.long in let b = whole.1 in omega arith

    one_more : length (front ++ e ∷ []) ≡ length front + 1
    one_more = length-append front (e ∷ [])

    sees_new : BeginsWith longer (front ++ e ∷ [])
    sees_new = subst (BeginsWith longer) seen sees

    -- no part of the history before is that of after
    no_less : BeginsWith h longer → ⊥
    no_less p = let a = begins_long h longer p in let b = begins_long longer (front ++ e ∷ []) sees_new in let n = one_more in let s = as_long in omega arith

    pub was : front ≡ h
    was =
        ⊎_elim
        (λ none. whole_front front h (subst (BeginsWith front) (sym none) (front, refl)) (sym as_long))
        (λ all. dite (ℕ_discrete all.0 v.number)
        (λ same.
        let old : v.past.seen ≡ h = sym (ap (λ (u : Knowledge). u.past.seen) (ap seats same ∙ is)) ∙ all.1 in
        whole_front front h (subst (BeginsWith front) old whole.0) (sym as_long))
        (λ ne.
        let a = subst (BeginsWith longer) all.1 (others_see all.0 ne) in
        same_front front h (e ∷ sees_new.0) a.0 (joined ∙ a.1) (sym as_long)))
        k.history.whole
      where
        joined : front ++ e ∷ sees_new.0 ≡ longer
        joined = sym (sees_new.1 ∙ append_assoc front (e ∷ []) sees_new.0)

    pub longer_is : longer ≡ h ++ e ∷ []
    longer_is =
        ⊎_elim
        (λ none. let a = begins_long longer (front ++ e ∷ []) sees_new in let z = ap length none in let n = one_more in absurd (omega arith))
        (λ all. dite (ℕ_discrete all.0 v.number)
        (λ same. sym all.1 ∙ ap (λ (p : Past). p.seen) (ap (λ (i : ℕ). (set_at seats v.number w i).past) same ∙ past_here) ∙ seen
        ∙ ap (λ (x : List Entry). x ++ e ∷ []) was)
        (λ ne. absurd (no_less (subst (BeginsWith h) (sym (ap (λ (p : Past). p.seen) (past_else all.0 ne)) ∙ all.1) (k.history.seats all.0).seen))))
        l.history.whole

-- what a seat has seen begins the history
pub sees_now : {starts : State → Type 0} {allows : List ℕ → State → Writes → Type 0} {c : Config} {start : State} {m : Memory}
    {h : List Entry} (seats : ℕ → Knowledge) (v w : Knowledge)
    → Facts starts allows c start m h (parts_of (set_at seats v.number w)) → BeginsWith h w.past.seen
sees_now {h = h} seats v w l = subst (λ (u : Knowledge). BeginsWith h u.past.seen) (set_at_here seats v.number w) (l.history.seats v.number).seen

-- a load of CLOCK that has seen the whole history has seen this one
pub whole_is : {starts : State → Type 0} {allows : List ℕ → State → Writes → Type 0} {c : Config} {start : State} {m : Memory}
    {h : List Entry} (seats : ℕ → Knowledge) (v w : Knowledge) (front : List Entry)
    → Facts starts allows c start m h (parts_of (set_at seats v.number w)) → IsWhole c v (m Clock) front → w.past.seen ≡ front → front ≡ h
whole_is {c = c} {m = m} {h = h} seats v w front l whole seen =
    let sees : BeginsWith h front = subst (BeginsWith h) seen (sees_now seats v w l) in
    sym (whole_front h front sees (let a = l.history.long in let b = whole.1 in omega arith))

module _ (c : Config) (v : Knowledge) (h seen : List Entry) (front : BeginsWith h seen) (more : BeginsWith seen v.past.seen) (found : ℕ)
    (least : (length seen ≡ length v.past.seen) ⊎ (c.base + length seen ≡ found)) where
  -- what was seen goes up to a time that was found
  pub seen_to_is : found ≤ c.base + length seen → seen ≡ seen_to c v found h
  seen_to_is le =
      let long : length seen ≡ max (length v.past.seen) (found - c.base) =
      let a = begins_long seen v.past.seen more in ⊎_elim (λ e. omega arith) (λ e. omega arith) least in
      sym (ap (λ n. take n h) (sym long) ∙ ap (take (length seen)) front.1 ∙ take-append_seam seen front.0)

  pub seen_at_is : (found < 2 ^ 63 → found ≤ c.base + length seen) → c.base + length h ≤ 35184372088831 → seen ≡ seen_at c v found h
  seen_at_is within in_time = go (leb 9223372036854775808 found) refl
    where
      go : (b : Bool) → leb 9223372036854775808 found ≡ b → seen ≡ (if b then v.past.seen else seen_to c v found h)
      go true big =
          let b = leb-true 9223372036854775808 found big in
          let l = begins_long h seen front in
          whole_front seen v.past.seen more (⊎_elim (λ e. e) (λ e. absurd (omega arith)) least)
      go false low = seen_to_is (within (leb-false 9223372036854775808 found low))

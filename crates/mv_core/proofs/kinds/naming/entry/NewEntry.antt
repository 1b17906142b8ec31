-- The history gets one more entry of a seat, which writes exactly what the seat holds, and all that it holds is committed at the
-- entry's time. What the exchanges of CLOCK for a commit and for a rest, at which nothing is held, have in common.
use Rattle.std.proofs.Common.{◌≡◌, ◌≢◌, ◌⊎◌, ℕ, ◌+◌, ◌-◌, ◌≤◌, Bool, true, false, List, [], ◌∷◌, ◌++◌, length, refl, sym, ap, ◌∙◌, subst, inl, inr, ⊎_elim}
use Rattle.mv_core.proofs.Terms.{Entry, State, Writes, maker_of, Config, Head, Memory, Ring, Version, WriteSetStatus, Held, Aborted, Committed, CommitNote}
use Rattle.mv_core.proofs.Terms.{Lives, Names, writes_to, latest, latest_at, ViewParts}
use Rattle.mv_core.specs.Rule.{Facts}
use Rattle.mv_core.proofs.logs.Written.{commit_within}
use Rattle.mv_core.proofs.logs.Links.{link_once, names_once, none_names_zero, gone_names_none, position_small}
use Rattle.mv_core.proofs.logs.Finding.{find_write}
use Rattle.mv_core.proofs.history.Longer.{new_time, latest-unwritten}
use Rattle.mv_core.proofs.kinds.naming.entry.CommittedLogs.{after}

-- the entry is by the seat, and writes what it holds and nothing else
pub record Makes (rings : ℕ → Ring) (n : ℕ) (e : Entry) : Type 0 where
  pub maker : maker_of e ≡ n
  pub written : (j : ℕ) (x : Version) → Lives rings n j x Held → writes_to x.object e ≡ true
  pub only : (o : ℕ) → writes_to o e ≡ true → (j : ℕ) × (x : Version) × Lives rings n j x Held × (x.object ≡ o)

-- a test passes or fails
pub bool_is : (b : Bool) → (b ≡ true) ⊎ (b ≡ false)
bool_is true = inl refl
bool_is false = inr refl

module _ {starts : State → Type 0} {allows : List ℕ → State → Writes → Type 0} {c : Config} {start : State} {m : Memory} {h : List Entry} {f : ViewParts}
    (k : Facts starts allows c start m h f) (n : ℕ) (e : Entry) where
  -- the history afterwards, and the logs
  abbrev pub later : List Entry
  later = h ++ e ∷ []

  abbrev pub rings : ℕ → Ring
  rings = after f.ring n (new_time c.base h e)

  -- a commit of before is of an earlier time
  pub old_time : (s j : ℕ) (x : Version) (note : CommitNote) → Lives f.ring s j x (Committed note) → note.time ≤ c.base + length h
  old_time s j x note lives = (commit_within c h f.ring k.write_sets s j x note lives).1

  -- a link names one version with one status
  abbrev pub one_named : (link : ℕ) (x y : Version) (st su : WriteSetStatus) → (a : Names f.ring link x st) → (b : Names f.ring link y su)
      → (a.seat ≡ b.seat) × (a.slot ≡ b.slot) × (x ≡ y) × (st ≡ su)
  one_named = names_once c h f.ring k.checked k.history.in_time k.positions

  not_held : (link : ℕ) (x y : Version) (note : CommitNote) → Names f.ring link x (Committed note) → ¬ (Names f.ring link y Held)
  not_held link x y note a b = let one : Committed note ≡ Held = (one_named link x y (Committed note) Held a b).3 in cc

  -- no previous link names a held version
  pub link_not_held : (s j : ℕ) (x y : Version) (st : WriteSetStatus) → Lives f.ring s j x st → ¬ (Names f.ring x.previous y Held)
  link_not_held s j x y Held lives names =
      ⊎_elim
      (λ a. not_held x.previous a.0 y a.1 a.2.names names)
      (λ b. none_names_zero f.ring x.previous b.0 y Held names)
      (k.held_link s j x lives)
  link_not_held s j x y (Aborted dead) lives names =
      ⊎_elim
      (λ zero_is. none_names_zero f.ring x.previous zero_is y Held names)
      (⊎_elim
      (λ gone. gone_names_none c h f.ring k.checked k.history.in_time k.positions x.previous gone y Held names)
      (λ a. not_held x.previous a.0 y a.1 a.2 names))
      (k.aborted_link s j x dead lives)
  link_not_held s j x y (Committed note) lives names =
      let links = k.commit_link s j x note lives in
      ⊎_elim
      (λ a.
      ⊎_elim
      (λ cut. none_names_zero f.ring x.previous (links.cut a.0 a.1 a.2 a.3 cut) y Held names)
      (λ uncut. not_held a.0 a.1 y a.2 a.3.names (subst (λ link. Names f.ring link y Held) (links.uncut a.0 a.1 a.2 a.3 uncut) names))
      (bool_is a.2.cut))
      (λ none.
      ⊎_elim
      (λ zero_is. none_names_zero f.ring x.previous zero_is y Held names)
      (λ gone. gone_names_none c h f.ring k.checked k.history.in_time k.positions x.previous gone y Held names)
      (links.none none))
      (find_write c h f.ring k.checked k.history.in_time k.positions x.object (latest_at c.base h x.object (note.time - 1)))

  module _ (makes : Makes f.ring n e) where
    -- what another seat holds isn't written
    pub other_unwritten : (s j : ℕ) (x : Version) → s ≢ n → Lives f.ring s j x Held → writes_to x.object e ≡ false
    other_unwritten s j x ne lives =
        ⊎_elim
        (λ w.
        let a = makes.only x.object w in
        let same = sym (k.head_is_top.held s j x lives) ∙ ap (λ o. m (Head o)) (sym a.3) ∙ k.head_is_top.held n a.0 a.1 a.2 in
        let one = link_once c h f.ring k.checked k.history.in_time k.positions s n x.position a.1.position
        (position_small c h f.ring k.checked k.history.in_time k.positions s j x Held lives)
        (position_small c h f.ring k.checked k.history.in_time k.positions n a.0 a.1 Held a.2) same in
        absurd (ne one.0))
        (λ no_write. no_write)
        (bool_is (writes_to x.object e))

    pub other_latest : (s j : ℕ) (x : Version) → s ≢ n → Lives f.ring s j x Held → latest c.base later x.object ≡ latest c.base h x.object
    other_latest s j x ne lives = latest-unwritten c.base h e x.object (other_unwritten s j x ne lives)

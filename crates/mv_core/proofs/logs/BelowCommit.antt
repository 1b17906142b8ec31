-- What the previous link of a committed version names: the version of the object's write before, which wasn't cut. Under a commit
-- that its section has named, and that has something below it, there is one.
use Rattle.std.proofs.Common.{◌≡◌, ◌≢◌, ℕ, ◌-◌, ◌<◌, false, List, sym, ap, ◌∙◌, subst, ⊎_elim, arith, Some}
use Rattle.mv_core.proofs.Terms.{Entry, Change, State, Writes, Config, Memory, Version, Committed, CommitNote, index_of, Lives, Names, latest_at}
use Rattle.mv_core.proofs.Terms.{IsNextWrite, ViewParts}
use Rattle.mv_core.specs.Rule.{Facts}
use Rattle.mv_core.proofs.history.Latest.{next_write-of, next_write-once}
use Rattle.mv_core.proofs.logs.Written.{set_writes}
use Rattle.mv_core.proofs.logs.Links.{note_once, names_once, none_names_zero, gone_names_none}
use Rattle.mv_core.proofs.logs.Finding.{find_write}
use Rattle.mv_core.proofs.kinds.walking.Landing.{not_above}
use Rattle.mv_core.proofs.logs.Versions.{write_once}
use Rattle.mv_core.proofs.kinds.naming.entry.NewEntry.{bool_is}

module _ {starts : State → Type 0} {allows : List ℕ → State → Writes → Type 0} {c : Config} {start : State} {m : Memory} {h : List Entry} {f : ViewParts}
    (k : Facts starts allows c start m h f) where
  module _ (s j : ℕ) (x : Version) (note : CommitNote) (lives : Lives f.ring s j x (Committed note)) where
    abbrev before : ℕ
    before = latest_at c.base h x.object (note.time - 1)

    -- the commit is the next write after that
    pub next_after : IsNextWrite c.base h x.object before note.time
    next_after =
        let p = k.write_sets.commit s j x note lives in next_write-of c.base h x.object note.time (Change p.commit) p.entry (set_writes c h f.ring s x note p)

    -- a commit that the link names is of that write
    pub link_below : (y : Version) (other : CommitNote) → Names f.ring x.previous y (Committed other)
        → (y.object ≡ x.object) × (other.time ≡ before) × (other.cut ≡ false)
    link_below y other names =
        let links = k.commit_link s j x note lives in
        let some : x.previous ≢ 0 = λ zero_is. none_names_zero f.ring x.previous zero_is y (Committed other) names in
        ⊎_elim
        (λ a.
        ⊎_elim
        (λ cut. absurd (some (links.cut a.0 a.1 a.2 a.3 cut)))
        (λ uncut.
        let there : Names f.ring x.previous a.1 (Committed a.2) =
        subst (λ (l : ℕ). Names f.ring l a.1 (Committed a.2)) (sym (links.uncut a.0 a.1 a.2 a.3 uncut)) a.3.names in
        let one = names_once c h f.ring k.checked k.history.in_time k.positions x.previous y a.1 (Committed other) (Committed a.2) names there in
        let same = note_once other a.2 one.3 in
        (ap (λ (z : Version). z.object) one.2 ∙ a.3.object_is, ap (λ (d : CommitNote). d.time) same ∙ a.3.time_is, ap (λ (d : CommitNote). d.cut) same ∙ uncut))
        (bool_is a.2.cut))
        (λ none. absurd
        (⊎_elim some (λ gone. gone_names_none c h f.ring k.checked k.history.in_time k.positions x.previous gone y (Committed other) names)
        (links.none none)))
        (find_write c h f.ring k.checked k.history.in_time k.positions x.object before)

    -- where a section's time is below that of the commit, the link is 0 or names one
    pub below_there : (u t : ℕ) → f.time u ≡ Some t → t < note.time → x.previous ≢ 0
        → (y : Version) × (other : CommitNote) × Names f.ring x.previous y (Committed other)
    below_there u t timed late some =
        let links = k.commit_link s j x note lives in
        ⊎_elim
        (λ a.
        ⊎_elim
        (λ cut. absurd (some (links.cut a.0 a.1 a.2 a.3 cut)))
        (λ uncut. (a.1, a.2, subst (λ (l : ℕ). Names f.ring l a.1 (Committed a.2)) (sym (links.uncut a.0 a.1 a.2 a.3 uncut)) a.3.names))
        (bool_is a.2.cut))
        (λ none.
        ⊎_elim
        (λ zero_is. absurd (some zero_is))
        (λ gone.
        ⊎_elim
        (λ old. let le = not_above note.time u t f.time old timed in absurd (omega arith))
        (λ ground. absurd (some ground.0))
        (k.chain_foot s j x note lives (gone_names_none c h f.ring k.checked k.history.in_time k.positions x.previous gone)))
        (links.none none))
        (find_write c h f.ring k.checked k.history.in_time k.positions x.object before)

  -- two commits above one version are one
  pub above_once : (s i r j : ℕ) (x y z : Version) (a b o : CommitNote) → Lives f.ring s i x (Committed a) → Lives f.ring r j y (Committed b)
      → Names f.ring x.previous z (Committed o) → Names f.ring y.previous z (Committed o) → (s ≡ r) × (i ≡ j)
  above_once s i r j x y z a b o lx ly nx ny =
      let p = link_below s i x a lx z o nx in
      let q = link_below r j y b ly z o ny in
      let object : x.object ≡ y.object = sym p.0 ∙ q.0 in
      let first : IsNextWrite c.base h y.object o.time a.time =
      subst (λ (u : ℕ). IsNextWrite c.base h u o.time a.time) object
      (subst (λ (t : ℕ). IsNextWrite c.base h x.object t a.time) (sym p.1) (next_after s i x a lx)) in
      let second : IsNextWrite c.base h y.object o.time b.time = subst (λ (t : ℕ). IsNextWrite c.base h y.object t b.time) (sym q.1) (next_after r j y b ly) in
      let time = next_write-once c.base h y.object o.time a.time b.time first second in
      let one = write_once c start h f.ring k.checked k.history.in_time k.history.legal k.positions k.write_sets s r i j x y a b lx ly object time in
      (one.0, sym (k.positions.live s i x (Committed a) lx).0 ∙ ap (λ (v : Version). index_of c v.position) one.1 ∙ (k.positions.live r j y (Committed b) ly).0)

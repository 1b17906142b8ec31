-- An uncut committed version that is its object's last write up to the time of its seat's section, where the seat's watermark has
-- reached it: no section reads the object's master, and the object's later writes hang from it. Shared by the steps of a
-- write-back.
use Rattle.std.proofs.Common.{◌≡◌, ◌≢◌, ℕ, ◌+◌, ◌-◌, ◌<◌, ◌≤◌, length, true, false, List, refl, sym, ap, ◌∙◌, subst, ⊎_elim, arith, Some}
use Rattle.mv_core.proofs.Terms.{dite, dec_le, Entry, State, Writes, maker_of, Config, link_of, Memory, Version, WriteSetStatus, Committed, CommitNote}
use Rattle.mv_core.proofs.Terms.{WriteBack}
use Rattle.mv_core.proofs.Terms.{OwnSection, Lives, Names, IsVersion, NoneUncut, writes_to, latest, latest_at, IsEntry, NotAboveAny, ViewParts, time_in}
use Rattle.mv_core.specs.Rule.{Facts}
use Rattle.mv_core.proofs.history.Latest.{latest_at-whole, latest_at-entry, latest_at-reaches}
use Rattle.mv_core.proofs.logs.Written.{version_writes, commit_within}
use Rattle.mv_core.proofs.logs.Versions.{write_once}
use Rattle.mv_core.proofs.kinds.walking.Landing.{not_above}
use Rattle.mv_core.proofs.frames.Watermarks.{lower_not_above}

-- the version in a slot of the seat n may be written back in the seat's section of this time
pub record IsLastWrite (c : Config) (h : List Entry) (f : ViewParts) (n slot t : ℕ) (x : Version) (note : CommitNote) : Type 0 where
  pub timed : f.time n ≡ Some t
  pub lives : Lives f.ring n slot x (Committed note)
  pub uncut : note.cut ≡ false
  pub known : note.time ≤ f.grace n
  pub last : latest_at c.base h x.object t ≡ note.time

module _ {starts : State → Type 0} {allows : List ℕ → State → Writes → Type 0} {c : Config} {start : State} {m : Memory} {h : List Entry} {f : ViewParts}
    (k : Facts starts allows c start m h f)
    (n slot t : ℕ) (x : Version) (note : CommitNote) (last : IsLastWrite c h f n slot t x note) where
  -- its time isn't above any section's
  pub is_old : NotAboveAny note.time f.time
  is_old s = lower_not_above (f.grace n) note.time (f.time s) last.known ((k.grace.views n).1 s)

  abbrev low : (c.base < note.time) × (note.time ≤ c.base + length h)
  low = commit_within c h f.ring k.write_sets n slot x note last.lives

  -- it is an entry that isn't after the last write up to any later time
  reached : (u : ℕ) → note.time ≤ u → note.time ≤ latest_at c.base h x.object u
  reached u le = let w = version_writes c h f.ring k.write_sets n slot x note last.lives in latest_at-reaches c.base h x.object note.time u w.0 w.1 w.2 le

  -- a write of the object up to the section's time isn't later
  not_later : (u : ℕ) (e : Entry) → IsEntry c.base h u e → writes_to x.object e ≡ true → u ≤ t → u ≤ note.time
  not_later u e there writes le = let r = latest_at-reaches c.base h x.object u t e there writes le in let is = last.last in omega arith

  abbrev here : (u : ℕ) → note.time ≡ u → IsVersion f.ring x.object u (link_of n x.position) x note
  here u e = record { names = record { seat = n; slot = slot; lives = last.lives; is = refl }; object_is = refl; time_is = e }

  not_cut : note.cut ≡ true → ⊥
  not_cut e = let both : true ≡ false = sym e ∙ last.uncut in cc

  -- the last write of the object up to any section's time has a live version that wasn't cut
  pub some_uncut : (s u : ℕ) → f.time s ≡ Some u → NoneUncut f.ring x.object (latest_at c.base h x.object u) → ⊥
  some_uncut s u timed none =
      let a : ℕ = latest_at c.base h x.object u in
      let old = not_above note.time s u f.time is_old timed in
      let up = reached u old in
      let l = low in
      let e = latest_at-entry c.base h x.object u (omega arith) in
      dite (dec_le a t)
      (λ le.
      let high = not_later a e.0 e.1 e.2 le in
      let same : note.time ≡ a = omega arith in
      not_cut (none (link_of n x.position) x note (here a same)))
      (λ late.
      ⊎_elim
      (λ v.
      let cut = none v.0 v.1 v.2 v.3 in
      let names = v.3.names in
      let le = not_above v.2.time n t f.time (k.cut_is_old names.seat names.slot v.1 v.2 names.lives cut) last.timed in
      let is = v.3.time_is in
      omega arith)
      (λ freed.
      let le = not_above (f.grace (maker_of e.0)) n t f.time (k.grace.views (maker_of e.0)).1 last.timed in
      omega arith)
      (k.freed_is_old.writes a x.object e.0 e.1 e.2))

  -- and so has its last write of all
  pub some_top : NoneUncut f.ring x.object (latest c.base h x.object) → ⊥
  some_top none =
      let p = k.present_master x.object none in
      let at = latest_at-whole c.base h x.object t (not_above (latest c.base h x.object) n t f.time p.1 last.timed) in
      some_uncut n t last.timed (subst (NoneUncut f.ring x.object) (sym at) none)

  -- a version of the object at the foot of its chain isn't later than any section
  pub foot_is_old : (s j : ℕ) (y : Version) (o : CommitNote) → Lives f.ring s j y (Committed o) → y.object ≡ x.object
      → ((z : Version) (st : WriteSetStatus) → ¬ (Names f.ring y.previous z st)) → NotAboveAny o.time f.time
  foot_is_old s j y o lives same nothing =
      ⊎_elim (λ a. a)
      (λ g.
      let b : ℕ = latest_at c.base h x.object (o.time - 1) in
      let old : b ≤ t = not_above b n t f.time (subst (λ (p : ℕ). NotAboveAny (latest_at c.base h p (o.time - 1)) f.time) same g.2) last.timed in
      dite (dec_le o.time note.time)
      (λ le q. lower_not_above note.time o.time (f.time q) le (is_old q))
      (λ gt.
      let up = reached (o.time - 1) (omega arith) in
      let l = low in
      let e = latest_at-entry c.base h x.object (o.time - 1) (omega arith) in
      let high = not_later b e.0 e.1 e.2 old in
      let is : note.time ≡ b = omega arith in
      let v : IsVersion f.ring y.object (latest_at c.base h y.object (o.time - 1)) (link_of n x.position) x note =
      subst (λ (p : ℕ). IsVersion f.ring p (latest_at c.base h p (o.time - 1)) (link_of n x.position) x note) (sym same) (here b is) in
      let link = (k.commit_link s j y o lives).uncut (link_of n x.position) x note v last.uncut in
      absurd (nothing x (Committed note) (record { seat = n; slot = slot; lives = last.lives; is = link }))))
      (k.chain_foot s j y o lives nothing)

  -- no other seat writes the object back
  pub none_else : (s : ℕ) (b : WriteBack) → f.back s ≡ Some b → ((i : OwnSection) → f.section s ≡ Some i → f.time s ≡ Some (time_in i)) → s ≢ n
      → b.object ≢ x.object
  none_else s b e timed ne same =
      let r = k.write_back s b e in
      let w = r.2 in
      let u : ℕ = time_in r.0 in
      let object : w.version.object ≡ x.object = w.object_is ∙ same in
      let old = not_above note.time s u f.time is_old (timed r.0 r.1) in
      let up = reached u old in
      let their = w.last in
      let at : latest_at c.base h x.object u ≡ w.note.time = ap (λ (p : ℕ). latest_at c.base h p u) (sym same) ∙ their in
      let mine = not_above w.note.time n t f.time w.old last.timed in
      let wrote = version_writes c h f.ring k.write_sets s _ w.version w.note w.lives in
      let high = not_later w.note.time wrote.0 wrote.1 (ap (λ (p : ℕ). writes_to p wrote.0) (sym object) ∙ wrote.2) mine in
      let is : w.note.time ≡ note.time = omega arith in
      ne (write_once c start h f.ring k.checked k.history.in_time k.history.legal k.positions k.write_sets s n _ slot w.version x w.note note w.lives
      last.lives object is).0

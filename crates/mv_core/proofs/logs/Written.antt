-- The live version of a write, by its object and its time.
use Rattle.std.proofs.Common.{◌≡◌, ℕ, suc, ◌+◌, ◌-◌, ◌<◌, ◌≤◌, ◌||◌, eqb, Bool, true, false, List, [], ◌∷◌}
use Rattle.std.proofs.Common.{length, refl, sym, ap, ◌∙◌, subst, arith, eqb-true, Some}
use Rattle.std.specs.Prelude.{slice_get}
use Rattle.std.proofs.lemmas.Option.{slice_get_within, get_or_from_slice_get}
use Rattle.mv_core.proofs.Terms.{Entry, Change, Writes, touches, writes_of, Config, Ring, Version, Committed, CommitNote, Lives, writes_to, IsEntry}
use Rattle.mv_history.proofs.Writing.{touches_at}
use Rattle.mv_core.specs.SetFacts.{CommitOf, WriteSets}
use Rattle.mv_core.proofs.history.Latest.{entry-within}

-- there is one entry at a time
pub entry_once : (base : ℕ) (h : List Entry) (t : ℕ) (e f : Entry) → IsEntry base h t e → IsEntry base h t f → e ≡ f
entry_once base h t e f a b = let s : Some e ≡ Some f = sym a.1 ∙ b.1 in cc

write_go : (w : ℕ × List ℕ) (ws : Writes) (o : ℕ) (b : Bool) → eqb w.0 o ≡ b → (b || touches ws o) ≡ true
    → (touches ws o ≡ true → (i : ℕ) × (words : List ℕ) × (i < length ws) × (slice_get ws i ≡ Some (o, words)))
    → (i : ℕ) × (words : List ℕ) × (i < suc (length ws)) × (slice_get (w ∷ ws) i ≡ Some (o, words))
write_go w ws o true t e rest = (0, w.1, omega arith, ap (λ (p : ℕ). Some (p, w.1)) (eqb-true w.0 o t))
write_go w ws o false t e rest = let r = rest e in (suc r.0, r.1, omega (arith, r.2), r.3)

-- where an object is among those written
pub write_there : (ws : Writes) (o : ℕ) → touches ws o ≡ true → (i : ℕ) × (words : List ℕ) × (i < length ws) × (slice_get ws i ≡ Some (o, words))
write_there [] o e = absurd (cc)
write_there (w ∷ ws) o e = write_go w ws o (eqb w.0 o) refl e (write_there ws o)

-- an object at a place among the writes is written
pub write_touches : (ws : Writes) (i o : ℕ) (words : List ℕ) → slice_get ws i ≡ Some (o, words) → touches ws o ≡ true
write_touches ws i o words at =
    touches_at ws i o (o, words) (slice_get_within ws i (o, words) at) (ap (λ (p : ℕ × List ℕ). p.0) (get_or_from_slice_get ws i (o, words) (o, words) at))

-- the commit of a write set writes the object of each of its versions
pub set_writes : (c : Config) (h : List Entry) (rings : ℕ → Ring) (s : ℕ) (x : Version) (note : CommitNote) (k : CommitOf c h rings s x note)
    → writes_to x.object (Change k.commit) ≡ true
set_writes c h rings s x note k = write_touches k.commit.writes (x.position - x.first) x.object x.words k.write

module _ (c : Config) (h : List Entry) (rings : ℕ → Ring) (k : WriteSets c h rings) where
  -- a committed version's commit is an entry that writes its object
  pub version_writes : (s j : ℕ) (x : Version) (note : CommitNote) → Lives rings s j x (Committed note)
      → (e : Entry) × IsEntry c.base h note.time e × (writes_to x.object e ≡ true)
  version_writes s j x note lives =
      let r = k.commit s j x note lives in
      (_, r.entry, set_writes c h rings s x note r)

  -- its time is after base, and not after the clock's
  pub commit_within : (s j : ℕ) (x : Version) (note : CommitNote) → Lives rings s j x (Committed note) → (c.base < note.time) × (note.time ≤ c.base + length h)
  commit_within s j x note lives = let r = version_writes s j x note lives in entry-within c.base h x.object note.time r.0 r.1

  -- where a version of a commit is live, so is that of each object that the commit writes
  pub version_of_write : (s j o : ℕ) (x : Version) (note : CommitNote) (e : Entry) → Lives rings s j x (Committed note) → IsEntry c.base h note.time e
      → writes_to o e ≡ true
      → (l : ℕ) × (y : Version) × (other : CommitNote) × Lives rings s l y (Committed other) × (y.object ≡ o) × (other.time ≡ note.time)
  version_of_write s j o x note e lives at w =
      let r = k.commit s j x note lives in
      let same : e ≡ _ = entry_once c.base h note.time e _ at r.entry in
      let i = write_there r.commit.writes o (ap (writes_to o) (sym same) ∙ w) in
      let a = r.all i.0 i.2 in
      let q = k.commit s _ a.0 a.1 a.2 in
      let at_time : IsEntry c.base h note.time (Change q.commit) = subst (λ (t : ℕ). IsEntry c.base h t (Change q.commit)) a.5 q.entry in
      let one : Change q.commit ≡ Change r.commit = entry_once c.base h note.time (Change q.commit) (Change r.commit) at_time r.entry in
      let same_writes : q.commit.writes ≡ r.commit.writes = ap writes_of one in
      let place : a.0.position - a.0.first ≡ i.0 = (let p = a.3 in let f = a.4 in omega arith) in
      let write : slice_get r.commit.writes i.0 ≡ Some (a.0.object, a.0.words) =
      sym (ap (λ (ws : Writes). slice_get ws i.0) same_writes) ∙ sym (ap (slice_get q.commit.writes) place) ∙ q.write in
      let d : ℕ × List ℕ = (o, i.1) in
      let found : (a.0.object, a.0.words) ≡ d =
      sym (get_or_from_slice_get r.commit.writes i.0 (a.0.object, a.0.words) d write) ∙ get_or_from_slice_get r.commit.writes i.0 d d i.3 in
      let object : a.0.object ≡ o = ap (λ (p : ℕ × List ℕ). p.0) found in
      (_, a.0, a.1, a.2, object, a.5)

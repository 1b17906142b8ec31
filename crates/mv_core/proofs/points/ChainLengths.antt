-- A chain has at most as many versions as the domain has slots: no slot stands in it twice.
use Rattle.std.proofs.Common.{◌≡◌, ℕ, suc, ◌+◌, ◌-◌, ◌*◌, ◌/◌, ◌%◌, ◌<◌, ◌≤◌, ◌||◌, eqb, true, false, List}
use Rattle.std.proofs.Common.{[], ◌∷◌, length, sym, refl, ap, ◌∙◌, subst, ⊎_elim, arith, ne_eqb, eqb-true, mul-le-mul_right}
use Rattle.std.specs.List.{AllByRecursion, IsDistinct, list_any}
use Rattle.std.proofs.lemmas.Map.Steps.{length-le_from_distinct_below}
use Rattle.std.proofs.lemmas.Nat.{div-mul-add, mod-mul-add}
use Rattle.mv_core.proofs.Terms.{State, Writes, Entry, Config, Head, Memory, WriteSetStatus, Held, Committed, CommitNote, Knowledge, Lives, slot_at, latest}
use Rattle.mv_core.proofs.Terms.{latest_at, ViewParts, parts_of}
use Rattle.mv_core.proofs.FactTerms.{Facts, SlotVersion, HangFrom, prev_of, AreWritesFrom, AreLatest, IsChain}
use Rattle.mv_core.proofs.history.Latest.{latest_at-le}
use Rattle.mv_core.proofs.logs.Links.{live_once, note_once, lives_within}
use Rattle.mv_core.proofs.kinds.naming.entry.NewEntry.{bool_is}
use Rattle.mv_core.proofs.logs.Written.{commit_within}

-- the number of a slot among all slots
code_of : Config → SlotVersion → ℕ
code_of c p = p.seat * c.slots + p.slot

abbrev codes : Config → List SlotVersion → List ℕ
codes c [] = []
codes c (p ∷ ps) = code_of c p ∷ codes c ps

length_codes : (c : Config) (ps : List SlotVersion) → length (codes c ps) ≡ length ps
length_codes c [] = refl
length_codes c (p ∷ ps) = ap suc (length_codes c ps)

module _ {starts : State → Type 0} {allows : List ℕ → State → Writes → Type 0} {c : Config} {start : State} {m : Memory} {h : List Entry}
    (seats : ℕ → Knowledge)
    (k : Facts starts allows c start m h (parts_of seats)) where
  abbrev f : ViewParts
  f = parts_of seats

  abbrev LivesAt : SlotVersion → Type 0
  LivesAt p = Lives f.ring p.seat p.slot p.version p.status

  -- versions in one slot have one status
  same_status : (p q : SlotVersion) → LivesAt p → LivesAt q → code_of c p ≡ code_of c q → p.status ≡ q.status
  unfolding code_of
  same_status p q a b e =
      let x = (lives_within c h f.ring k.checked k.history.in_time k.positions p.seat p.slot p.version p.status a).1 in
      let y = (lives_within c h f.ring k.checked k.history.in_time k.positions q.seat q.slot q.version q.status b).1 in
      let seat : p.seat ≡ q.seat = sym (div-mul-add p.seat c.slots p.slot x) ∙ ap (λ n. n / c.slots) e ∙ div-mul-add q.seat c.slots q.slot y in
      let slot : p.slot ≡ q.slot = sym (mod-mul-add p.seat c.slots p.slot x) ∙ ap (λ n. n % c.slots) e ∙ mod-mul-add q.seat c.slots q.slot y in
      let there : Lives f.ring q.seat q.slot p.version p.status =
      subst (λ (i : ℕ). Lives f.ring q.seat i p.version p.status) slot (subst (λ (s : ℕ). Lives f.ring s p.slot p.version p.status) seat a) in
      (live_once (slot_at (f.ring q.seat) q.slot) p.version q.version p.status q.status there b).1

  code_within : (p : SlotVersion) → LivesAt p → code_of c p < c.seats * c.slots
  unfolding code_of
  code_within p lives =
      let w = lives_within c h f.ring k.checked k.history.in_time k.positions p.seat p.slot p.version p.status lives in
      let low = w.0 in
      let slot = w.1 in
      let rows : suc p.seat * c.slots ≤ c.seats * c.slots = mul-le-mul_right c.slots (let le : suc p.seat ≤ c.seats = omega arith in le) in
      let row : suc p.seat * c.slots ≡ p.seat * c.slots + c.slots = grind arith in
      omega arith

  codes_within : (ps : List SlotVersion) (link : ℕ) → HangFrom m f.ring link ps → (q : ℕ) → list_any (eqb q) (codes c ps) ≡ true → q < c.seats * c.slots
  codes_within [] link hang q e = absurd cc
  codes_within (p ∷ ps) link hang q e =
      ⊎_elim
      (λ yes. let same = eqb-true q (code_of c p) yes in let w = code_within p hang.0.1 in subst (λ (n : ℕ). n < c.seats * c.slots) (sym same) w)
      (λ no. codes_within ps (prev_of m f.ring p) hang.1 q (ap (λ b. b || list_any (eqb q) (codes c ps)) (sym no) ∙ e))
      (bool_is (eqb q (code_of c p)))

  -- a version's slot isn't that of another status
  apart : (o : ℕ) (p : SlotVersion) → LivesAt p → (ps : List SlotVersion) (time link : ℕ) → HangFrom m f.ring link ps → AreWritesFrom c h o time ps
      → ((note : CommitNote) → note.time ≤ time → p.status ≡ Committed note → ⊥)
      → AllByRecursion (λ y. eqb (code_of c p) y ≡ false) (codes c ps)
  apart o p lives [] time link hang writes other = tt
  apart o p lives (q ∷ qs) time link hang writes other =
      let note : CommitNote = writes.1.0 in
      let committed = writes.1.1 in
      let at = writes.1.3 in
      let there : Lives f.ring q.seat q.slot q.version (Committed note) = subst (λ (st : WriteSetStatus). Lives f.ring q.seat q.slot q.version st) committed
      hang.0.1 in
      let low = (commit_within c h f.ring k.write_sets q.seat q.slot q.version note there).0 in
      let down = latest_at-le c.base h o (time - 1) (omega arith) in (
        ne_eqb (code_of c p) (code_of c q) (λ e. other note (omega arith) (same_status p q lives hang.0.1 e ∙ committed)),
        apart o p lives qs (latest_at c.base h o (time - 1)) (prev_of m f.ring q) hang.1 writes.1.4 (λ u le e. other u (omega arith) e),
      )

  distinct : (o : ℕ) (ps : List SlotVersion) (time link : ℕ) → HangFrom m f.ring link ps → AreWritesFrom c h o time ps → IsDistinct eqb (codes c ps)
  unfolding IsDistinct
  distinct o [] time link hang writes = tt
  distinct o (p ∷ ps) time link hang writes =
      let note : CommitNote = writes.1.0 in
      let committed = writes.1.1 in
      let at = writes.1.3 in
      let there : Lives f.ring p.seat p.slot p.version (Committed note) = subst (λ (st : WriteSetStatus). Lives f.ring p.seat p.slot p.version st) committed
      hang.0.1 in
      let low = (commit_within c h f.ring k.write_sets p.seat p.slot p.version note there).0 in
      let down = latest_at-le c.base h o (time - 1) (omega arith) in (
        apart o p hang.0.1 ps (latest_at c.base h o (time - 1)) (prev_of m f.ring p) hang.1 writes.1.4
            (λ u le e. let same = ap (λ (n : CommitNote). n.time) (note_once note u (sym committed ∙ e)) in omega arith),
        distinct o ps (latest_at c.base h o (time - 1)) (prev_of m f.ring p) hang.1 writes.1.4,
      )

  short_from : (ps : List SlotVersion) (link : ℕ) → HangFrom m f.ring link ps → IsDistinct eqb (codes c ps) → length ps ≤ c.seats * c.slots
  short_from ps link hang d =
      subst (λ (n : ℕ). n ≤ c.seats * c.slots) (length_codes c ps)
      (length-le_from_distinct_below (codes c ps) (c.seats * c.slots) d (codes_within ps link hang))

  distinct_held : (o : ℕ) (p : SlotVersion) (ps : List SlotVersion) (link : ℕ) → HangFrom m f.ring link (p ∷ ps) → p.status ≡ Held
      → AreWritesFrom c h o (latest c.base h o) ps → IsDistinct eqb (codes c (p ∷ ps))
  unfolding IsDistinct
  distinct_held o p ps link hang held writes = (
    apart o p hang.0.1 ps (latest c.base h o) (prev_of m f.ring p) hang.1 writes (λ note le e. let no : Held ≡ Committed note = sym held ∙ e in absurd cc),
    distinct o ps (latest c.base h o) (prev_of m f.ring p) hang.1 writes,
  )

  pub chain_short : (o : ℕ) (ps : List SlotVersion) → IsChain m f.ring o ps → AreLatest c h o ps → length ps ≤ c.seats * c.slots
  chain_short o ps hang shape =
      ⊎_elim
      (λ writes. short_from ps (m (Head o)) hang (distinct o ps (latest c.base h o) (m (Head o)) hang writes))
      (λ top.
      let hang_top : HangFrom m f.ring (m (Head o)) (top.0 ∷ top.1) = subst (λ (qs : List SlotVersion). HangFrom m f.ring (m (Head o)) qs) top.2 hang in
      subst (λ (qs : List SlotVersion). length qs ≤ c.seats * c.slots) (sym top.2)
      (short_from (top.0 ∷ top.1) (m (Head o)) hang_top (distinct_held o top.0 top.1 (m (Head o)) hang_top top.4 top.5)))
      shape

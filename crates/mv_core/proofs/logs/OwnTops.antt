-- A version of the own log on top of a chain: what the view has of it, that no other one of its object is as late, and that a
-- lost exchange of a lock found none.
use Rattle.std.proofs.Common.{◌≡◌, ◌≢◌, ℕ, ◌+◌, ◌-◌, ◌<◌, ◌≤◌, true, refl, sym, ap, ◌∙◌, subst, ⊎_elim, inl, inr, eq-eqb, arith, List, length, take}
use Rattle.std.proofs.Math.Seq.{take-append_seam}
use Rattle.mv_core.proofs.Terms.{dite, ℕ_discrete, Entry, Change, State, Writes, Config, Head, link_of, link_seat_of, Memory, Ring, Live, Build}
use Rattle.mv_core.proofs.Terms.{Version, WriteSetStatus, Held, Committed, CommitNote, Knowledge, OwnSection, slot_at, Lives, Names, IsVersion, last_that}
use Rattle.mv_core.proofs.Terms.{writes_to}
use Rattle.mv_core.proofs.Terms.{latest, is_by, last_own, IsUnnamed, parts_of}
use Rattle.mv_core.proofs.FactTerms.{BeginsWith, Facts}
use Rattle.mv_core.specs.WalkSteps.{slot_named, IsOwnTop, IsOwnLink, IsLastOwn, IsLastSeen}
use Rattle.mv_core.specs.LockSteps.{MayLock}
use Rattle.mv_core.proofs.logs.Finding.{find_holder}
use Rattle.mv_core.proofs.history.Latest.{last_that-reaches, last_that-take-mono, last_that-take-all, latest-reaches}
use Rattle.mv_core.proofs.logs.Links.{live_once, note_once, names_place, position_once}
use Rattle.mv_core.proofs.kinds.locking.lock_head.Lockable.{late_top}
use Rattle.mv_core.proofs.history.SectionWords.{section_is}
use Rattle.mv_core.proofs.logs.Versions.{write_once}
use Rattle.mv_core.proofs.kinds.walking.Walks.{lives_named}
use Rattle.mv_core.proofs.logs.Written.{version_writes}

-- the last write of what was seen isn't later than that of the whole history
latest-seen : (base : ℕ) (h seen : List Entry) (o : ℕ) → BeginsWith h seen → latest base seen o ≤ latest base h o
latest-seen base h seen o begins =
    let front : last_that (writes_to o) (take (length seen) h) ≡ last_that (writes_to o) seen =
    ap (last_that (writes_to o)) (ap (take (length seen)) begins.1 ∙ take-append_seam seen begins.0) in
    let less = last_that-take-mono (writes_to o) h (length seen) (length seen + length h) (omega arith) in
    let all = last_that-take-all (writes_to o) h (length seen + length h) (omega arith) in
    omega arith

module _ {starts : State → Type 0} {allows : List ℕ → State → Writes → Type 0} {c : Config} {start : State} {m : Memory} {h : List Entry}
    (seats : ℕ → Knowledge)
    (k : Facts starts allows c start m h (parts_of seats)) (v : Knowledge) (is : seats v.number ≡ v) where
  abbrev rings : ℕ → Ring
  rings s = (seats s).ring

  -- what an own link names is in the own view
  own_slot : (link : ℕ) (x : Version) (st : WriteSetStatus) → link_seat_of link ≡ v.number → Names rings link x st
      → slot_at v.ring (slot_named c link) ≡ Live x st
  own_slot link x st seat names =
      ap (λ (u : Knowledge). slot_at u.ring (slot_named c link)) (sym is) ∙ ap (λ (s : ℕ). slot_at (rings s) (slot_named c link)) (sym seat)
      ∙ lives_named seats k link x st names

  -- what HEAD tells of the own log
  pub own_top : (object : ℕ) → IsOwnTop c v object (m (Head object))
  own_top object some seat =
      ⊎_elim
      (λ a.
      let names : Names rings (m (Head object)) a.2 Held =
      record { seat = a.0; slot = a.1; lives = a.3; is = ap (λ (o : ℕ). m (Head o)) (sym a.4) ∙ k.head_is_top.held a.0 a.1 a.2 a.3 } in
      (a.2, Held, own_slot (m (Head object)) a.2 Held seat names, a.4, inl refl))
      (λ none.
      ⊎_elim
      (λ top. (top.0, Committed top.1, own_slot (m (Head object)) top.0 (Committed top.1) seat top.2.names, top.2.object_is, inr (top.1, refl, top.3)))
      (λ z. absurd (some z.0))
      (k.head_is_top.top object none))
      (find_holder c h rings k.checked k.history.in_time k.positions object)

  -- its link is of its position
  link_of_named : (link : ℕ) (x y : Version) (st su : WriteSetStatus) → link_seat_of link ≡ v.number → Names rings link x st
      → slot_at v.ring (slot_named c link) ≡ Live y su → link ≡ link_of v.number y.position
  link_of_named link x y st su seat names there =
      let of_seat = names_place c h rings k.checked k.history.in_time k.positions link x st names in
      let same = live_once (slot_at v.ring (slot_named c link)) x y st su (own_slot link x st seat names) there in
      names.is ∙ (λ q. link_of ((sym of_seat.0 ∙ seat) q) (same.0 q).position)

  pub own_top_link : (object : ℕ) → IsOwnLink c v (m (Head object))
  own_top_link object some seat y su there =
      ⊎_elim
      (λ a.
      let names : Names rings (m (Head object)) a.2 Held =
      record { seat = a.0; slot = a.1; lives = a.3; is = ap (λ (o : ℕ). m (Head o)) (sym a.4) ∙ k.head_is_top.held a.0 a.1 a.2 a.3 } in
      link_of_named (m (Head object)) a.2 y Held su seat names there)
      (λ none. ⊎_elim (λ top. link_of_named (m (Head object)) top.0 y (Committed top.1) su seat top.2.names there) (λ z. absurd (some z.0))
      (k.head_is_top.top object none))
      (find_holder c h rings k.checked k.history.in_time k.positions object)

  in_log : (j : ℕ) (y : Version) (st : WriteSetStatus) → slot_at v.ring j ≡ Live y st → Lives rings v.number j y st
  in_log j y st there = ap (λ (u : Knowledge). slot_at u.ring j) is ∙ there

  -- the version that HEAD names, where it is committed, is of the object's latest write
  own_top_version : (object : ℕ) → m (Head object) ≢ 0 → link_seat_of (m (Head object)) ≡ v.number → (x : Version) (note : CommitNote)
      → slot_at v.ring (slot_named c (m (Head object))) ≡ Live x (Committed note)
      → IsVersion rings object (latest c.base h object) (m (Head object)) x note
  own_top_version object some seat x note here =
      let head : ℕ = m (Head object) in
      ⊎_elim
      (λ a.
      let names : Names rings head a.2 Held =
      record { seat = a.0; slot = a.1; lives = a.3; is = ap (λ (o : ℕ). m (Head o)) (sym a.4) ∙ k.head_is_top.held a.0 a.1 a.2 a.3 } in
      let clash : Live x (Committed note) ≡ Live a.2 Held = sym here ∙ own_slot head a.2 Held seat names in
      absurd (cc))
      (λ none.
      ⊎_elim
      (λ top.
      let one = live_once (slot_at v.ring (slot_named c head)) top.0 x (Committed top.1) (Committed note)
      (own_slot head top.0 (Committed top.1) seat top.2.names) here in
      let same = note_once top.1 note one.1 in
      subst (λ (t : Version × CommitNote). IsVersion rings object (latest c.base h object) head t.0 t.1) (λ q. (one.0 q, same q)) top.2)
      (λ z. absurd (some z.0))
      (k.head_is_top.top object none))
      (find_holder c h rings k.checked k.history.in_time k.positions object)

  -- which no other version is of
  pub own_top_last : (object : ℕ) → IsLastOwn c v object (m (Head object))
  own_top_last object some seat x note here j y other there object_is apart =
      let head : ℕ = m (Head object) in
      let top = own_top_version object some seat x note here in
      let on_time = top.time_is in
      let lives = in_log j y (Committed other) there in
      let w = version_writes c h rings k.write_sets v.number j y other lives in
      let reach = latest-reaches c.base h object other.time w.0 w.1 (subst (λ (o : ℕ). writes_to o w.0 ≡ true) object_is w.2) in
      dite (ℕ_discrete other.time note.time)
      (λ e.
      let names = top.names in
      let one = write_once c start h rings k.checked k.history.in_time k.history.legal k.positions k.write_sets v.number names.seat j names.slot y x other
      note lives names.lives (object_is ∙ sym top.object_is) e in
      let place = position_once c h rings k.checked k.history.in_time k.positions v.number j (slot_named c head) y x (Committed other) (Committed note) lives
      (in_log (slot_named c head) x (Committed note) here) (ap (λ (z : Version). z.position) one.1) in
      absurd (apart place.0))
      (λ ne. let r : other.time < note.time = omega arith in r)

  -- and which is no earlier than any write of the object that was seen
  pub own_top_seen : (object : ℕ) → IsLastSeen c v object (m (Head object))
  own_top_seen object some seat x note here =
      let on_time = (own_top_version object some seat x note here).time_is in
      let seen = subst (λ (u : Knowledge). BeginsWith h u.past.seen) is (k.history.seats v.number).seen in
      let le = latest-seen c.base h v.past.seen object seen in
      omega arith

  -- a commit of a seat isn't after its last one
  pub own_commit_last : (s j : ℕ) (x : Version) (note : CommitNote) → slot_at (rings s) j ≡ Live x (Committed note) → note.time ≤ last_own c.base h s
  own_commit_last s j x note lives =
      let o = k.write_sets.commit s j x note lives in
      let low = o.entry.0 in
      let reached = last_that-reaches (is_by s) h (note.time - (c.base + 1)) (Change o.commit) o.entry.1 (eq-eqb o.commit.seat s o.seat) in
      omega arith

  -- the top that a lost exchange found is in another log
  pub lost_other : (write_max object previous position : ℕ) (words : List ℕ) (b : Build) (inside : OwnSection)
      → MayLock c write_max v object previous position words b inside → m (Head object) ≢ previous → m (Head object) ≢ 0
      → link_seat_of (m (Head object)) ≢ v.number
  lost_other write_max object previous position words b inside may lost some seat =
      ⊎_elim
      (λ a.
      let names : Names rings (m (Head object)) a.2 Held =
      record { seat = a.0; slot = a.1; lives = a.3; is = ap (λ (o : ℕ). m (Head o)) (sym a.4) ∙ k.head_is_top.held a.0 a.1 a.2 a.3 } in
      may.unheld (slot_named c (m (Head object))) a.2 (own_slot (m (Head object)) a.2 Held seat names) a.4)
      (λ none.
      ⊎_elim
      (λ top.
      let names = top.2.names in
      let there : slot_at (rings v.number) (slot_named c (m (Head object))) ≡ Live top.0 (Committed top.1) =
      ap (λ (s : ℕ). slot_at (rings s) (slot_named c (m (Head object)))) (sym seat) ∙ lives_named seats k (m (Head object)) top.0 (Committed top.1) names in
      let section = section_is seats v inside k is may.walking.phase in
      let early = k.open_section.own v.number inside section (subst IsUnnamed (sym may.walking.open_is) tt) in
      let made_by = own_commit_last v.number (slot_named c (m (Head object))) top.0 top.1 there in
      let late = late_top seats k v is inside may.walking object previous may.stands lost top.0 top.1 names in
      absurd (omega arith))
      (λ z. absurd (some z.0))
      (k.head_is_top.top object none))
      (find_holder c h rings k.checked k.history.in_time k.positions object)

-- A lost exchange of a cut: the version written back is its object's last write up to the section's time and wasn't cut, so HEAD
-- isn't 0, and names no other version of the own log.
use Rattle.std.proofs.Common.{◌≡◌, ◌≢◌, ℕ, ◌≤◌, false, List, refl, sym, ap, ◌∙◌, subst, ⊎_elim, arith, Some}
use Rattle.mv_core.proofs.Terms.{Entry, State, Writes, Config, Head, Master, link_of, link_seat_of, Memory, Ring, Version, WriteSetStatus, Held, Committed}
use Rattle.mv_core.proofs.Terms.{Knowledge}
use Rattle.mv_core.proofs.Terms.{OwnSection, WriteBack, index_of, Lives, Names, IsVersion, latest, latest_at, section_of, time_of, time_in, IsUnnamed, parts_of}
use Rattle.mv_core.proofs.FactTerms.{IsWrittenBack, Facts}
use Rattle.mv_core.specs.ReclaimSteps.{IsOfOther}
use Rattle.mv_core.proofs.kinds.walking.EmptyHeads.{time_of_section, none_uncut}
use Rattle.mv_core.proofs.logs.Finding.{find_holder}
use Rattle.mv_core.proofs.logs.LastWrites.{IsLastWrite, some_top}
use Rattle.mv_core.proofs.history.Latest.{latest_at-whole}
use Rattle.mv_core.proofs.logs.Links.{names_place}
use Rattle.mv_core.proofs.logs.OwnTops.{own_commit_last}
use Rattle.mv_core.proofs.logs.Versions.{version_once}

module _ {starts : State → Type 0} {allows : List ℕ → State → Writes → Type 0} {c : Config} {start : State} {m : Memory} {h : List Entry}
    (seats : ℕ → Knowledge)
    (k : Facts starts allows c start m h (parts_of seats)) (v : Knowledge) (is : seats v.number ≡ v)
    (b : WriteBack) (inside : OwnSection) (in_section : section_of (seats v.number).phase ≡ Some inside)
    (w : IsWrittenBack c h (λ o i. m (Master o i)) (λ s. time_of (seats s).phase) (λ s. (seats s).ring) v.number (seats v.number).clocks
    (seats v.number).grace b inside) (untried : b.tried ≡ false) where
  abbrev rings : ℕ → Ring
  rings s = (seats s).ring

  last_write : IsLastWrite c h (parts_of seats) v.number (index_of c b.position) (time_in inside) w.version w.note
  last_write = record {
    timed = time_of_section (seats v.number).phase inside in_section;
    lives = w.lives;
    uncut = w.uncut untried;
    known = w.known;
    last = ap (λ (o : ℕ). latest_at c.base h o (time_in inside)) w.object_is ∙ w.last;
  }

  -- HEAD isn't 0
  not_empty : m (Head b.object) ≢ 0
  not_empty none =
      some_top k v.number (index_of c b.position) (time_in inside) w.version w.note last_write
      (none_uncut seats k w.version.object (ap (λ (o : ℕ). m (Head o)) w.object_is ∙ none))

  own_seat : (x : Version) (st : WriteSetStatus) (names : Names rings (m (Head b.object)) x st) → link_seat_of (m (Head b.object)) ≡ v.number
      → names.seat ≡ v.number
  own_seat x st names own = sym (names_place c h rings k.checked k.history.in_time k.positions (m (Head b.object)) x st names).0 ∙ own

  -- where HEAD names a version of the own log, that is the one that is written back
  own_is_it : link_seat_of (m (Head b.object)) ≡ v.number → m (Head b.object) ≡ link_of v.number b.position
  own_is_it own =
      let head : ℕ = m (Head b.object) in
      ⊎_elim
      (λ a.
      let names : Names rings head a.2 Held =
      record { seat = a.0; slot = a.1; lives = a.3; is = ap (λ (o : ℕ). m (Head o)) (sym a.4) ∙ k.head_is_top.held a.0 a.1 a.2 a.3 } in
      absurd (w.nothing a.1 a.2 (subst (λ (s : ℕ). Lives rings s a.1 a.2 Held) (own_seat a.2 Held names own) a.3)))
      (λ none.
      ⊎_elim
      (λ top.
      let names = top.2.names in
      let lives = subst (λ (s : ℕ). Lives rings s names.slot top.0 (Committed top.1)) (own_seat top.0 (Committed top.1) names own) names.lives in
      let made = own_commit_last seats k v is v.number names.slot top.0 top.1 lives in
      let early = k.open_section.own v.number inside in_section (subst IsUnnamed (sym w.mode) tt) in
      let on_time = top.2.time_is in
      let le : latest c.base h b.object ≤ time_in inside = omega arith in
      let last : w.note.time ≡ latest c.base h b.object = sym w.last ∙ latest_at-whole c.base h b.object (time_in inside) le in
      let mine : IsVersion rings b.object (latest c.base h b.object) (link_of v.number w.version.position) w.version w.note =
      record { names = record { seat = v.number; slot = index_of c b.position; lives = w.lives; is = refl }; object_is = w.object_is; time_is = last } in
      (version_once c start h rings k.checked k.history.in_time k.history.legal k.positions k.write_sets b.object (latest c.base h b.object) head
      (link_of v.number w.version.position) top.0 w.version top.1 w.note top.2 mine).0
      ∙ ap (link_of v.number) w.position_is)
      (λ z. absurd (not_empty z.0))
      (k.head_is_top.top b.object none))
      (find_holder c h rings k.checked k.history.in_time k.positions b.object)

  pub lost_other : m (Head b.object) ≢ link_of v.number b.position → IsOfOther v (m (Head b.object))
  lost_other lost = (not_empty, λ own. lost (own_is_it own))

-- The points that look at no chain, and that of frees.
use Rattle.std.proofs.Common.{◌≡◌, ℕ, ◌+◌, ◌*◌, ◌≤◌, List, Some, sym, ap, ◌∙◌, subst, arith}
use Rattle.mv_core.proofs.Terms.{dite, dec_lt, ℕ_discrete, State, Writes, Entry, Config, Clock, Master, Stamp, Memory, Knowledge, OwnSection, WriteBack}
use Rattle.mv_core.proofs.Terms.{latest_at, ViewParts, parts_of, section_of, time_in}
use Rattle.mv_core.proofs.FactTerms.{IsWrittenBack, Facts}
use Rattle.mv_core.specs.Points.{HistoryPoint, WriteSetsPoint, FreesPoint, MarksPoint, PositionsBoundedPoint, EarlierAreStamped, OneWritesBack}
use Rattle.mv_core.proofs.history.CommitWords.{clock_is}
use Rattle.mv_core.proofs.history.EntryMakers.{entries_named}
use Rattle.mv_core.proofs.points.SetsWhole.{sets_are_whole}
use Rattle.mv_core.proofs.points.SetsFreed.{frees_hold, first_free}
use Rattle.mv_core.proofs.frames.ClocksLoaded.{clock_small, unstamped_is_named}
use Rattle.mv_core.proofs.kinds.walking.EmptyHeads.{time_of_section}
use Rattle.mv_core.proofs.history.Latest.{latest_at-same}
use Rattle.mv_core.proofs.kinds.walking.Landing.{not_above}
use Rattle.mv_core.proofs.logs.Versions.{write_once}

module _ (starts : State → Type 0) (allows : List ℕ → State → Writes → Type 0) where
  pub history_law : HistoryPoint starts allows
  history_law key s r = (
    r.facts.history,
    record { first = r.facts.freed_is_old.named; word = λ t k x note lives. clock_is r.facts t k x note lives },
    record { views = r.seated.apart; joined = r.seated.gone; notes = r.seated.once },
    entries_named key.config key.start.value.items s.views r.seats r.history r.seated r.facts.history.seats,
    record {
      views = λ id v at unspent. ap (λ (w : Knowledge). w.past) (r.seated.there id v at unspent).0;
      notes = λ id v n at unspent has. (r.seated.noted id v n at unspent has).past;
    },
  )

  pub write_sets_law : WriteSetsPoint starts allows
  write_sets_law key s r = record {
    words = r.facts.slot_words;
    stamps = r.facts.stamps;
    sets = r.facts.write_sets;
    whole = sets_are_whole r.seats r.facts;
    helped = r.facts.helped_words;
  }

  pub frees_law : FreesPoint starts allows
  frees_law key s r = (
    frees_hold r.seats r.facts,
    λ n position x st may at. first_free r.seats r.facts n (r.seated.own n).0 position x st may at,
  )

  pub marks_law : MarksPoint starts allows
  marks_law key s r = record { marks = r.facts.marks; stamped = r.facts.stamped_past_help }

  pub positions_bounded_law : PositionsBoundedPoint starts allows
  positions_bounded_law key s r n =
      let long = r.facts.history.long in
      subst (λ u. (r.seats n).ring.next ≤ key.config.slots * (u + 1)) (omega arith) (r.facts.positions.bound n)

  module _ (c : Config) (start : State) (m : Memory) (h : List Entry) (f : ViewParts) (k : Facts starts allows c start m h f) where
    pub earlier_are_stamped : EarlierAreStamped c m f
    earlier_are_stamped s i x note lives before =
        dite (ℕ_discrete _ note.time) (λ e. e)
        (λ ne. let u = unstamped_is_named c (m Clock) (λ t l. m (Stamp t l)) h f.ring k.checked (clock_small k) k.stamps k.positions s i x note lives ne in
        let e = u.1 in absurd (omega arith))

  module _ (c : Config) (start : State) (m : Memory) (h : List Entry) (seats : ℕ → Knowledge) (k : Facts starts allows c start m h (parts_of seats)) where
    -- of two that write back one object, the version of the one whose section isn't later is that of the other
    same_version : (s t : ℕ) (a b : WriteBack) (i j : OwnSection) → section_of (seats s).phase ≡ Some i → section_of (seats t).phase ≡ Some j
        → time_in i ≤ time_in j
        → (p : IsWrittenBack c h (λ o w. m (Master o w)) (parts_of seats).time (parts_of seats).ring s (seats s).clocks (seats s).grace a i)
        → (q : IsWrittenBack c h (λ o w. m (Master o w)) (parts_of seats).time (parts_of seats).ring t (seats t).clocks (seats t).grace b j)
        → a.object ≡ b.object → s ≡ t
    same_version s t a b i j in_i in_j le p q same =
        let old = not_above q.note.time s (time_in i) (parts_of seats).time q.old (time_of_section (seats s).phase i in_i) in
        let last : latest_at c.base h b.object (time_in j) ≡ q.note.time = q.last in
        let one : latest_at c.base h b.object (time_in i) ≡ latest_at c.base h b.object (time_in j) =
        latest_at-same c.base h b.object (time_in i) (time_in j) le (omega arith) in
        let time : p.note.time ≡ q.note.time = sym p.last ∙ ap (λ o. latest_at c.base h o (time_in i)) same ∙ one ∙ q.last in
        (write_once c start h (parts_of seats).ring k.checked k.history.in_time k.history.legal k.positions k.write_sets s t _ _ p.version q.version p.note
        q.note p.lives q.lives (p.object_is ∙ same ∙ sym q.object_is) time).0

    pub one_writes_back : OneWritesBack (parts_of seats)
    one_writes_back s t a b at bt same =
        let p = k.write_back s a at in
        let q = k.write_back t b bt in
        dite (dec_lt (time_in q.0) (time_in p.0))
        (λ lt. sym (same_version t s b a q.0 p.0 q.1 p.1 (omega arith) q.2 p.2 (sym same)))
        (λ ge. same_version s t a b p.0 q.0 p.1 q.1 (omega arith) p.2 q.2 same)

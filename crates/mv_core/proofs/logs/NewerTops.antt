-- Another seat's version on top of a chain is newer than each of the object that the own log has as committed.
use Rattle.std.proofs.Common.{◌≡◌, ◌≢◌, ◌⊎◌, ℕ, ◌<◌, true, List, refl, sym, ap, ◌∙◌, subst, ⊎_elim, inl, inr, arith}
use Rattle.mv_core.proofs.Terms.{dite, ℕ_discrete, Entry, State, Writes, Config, Clock, Head, link_of, link_seat_of, Memory, Ring, Live, Version}
use Rattle.mv_core.proofs.Terms.{WriteSetStatus}
use Rattle.mv_core.proofs.Terms.{Held, Committed, CommitNote, Knowledge, slot_at, Lives, Names, writes_to, latest, parts_of}
use Rattle.mv_core.proofs.FactTerms.{History, Facts}
use Rattle.mv_core.specs.Chains.{IsLater}
use Rattle.mv_core.specs.Tops.{any_start, any_commit, StateWith, NamesNewer, IsNewer}
use Rattle.mv_core.proofs.logs.Finding.{find_holder}
use Rattle.mv_core.proofs.history.Latest.{latest-reaches}
use Rattle.mv_core.proofs.logs.Links.{names_place}
use Rattle.mv_core.proofs.logs.Versions.{write_once}
use Rattle.mv_core.proofs.kinds.walking.Walks.{lives_named}
use Rattle.mv_core.proofs.logs.Written.{version_writes}

module _ {starts : State → Type 0} {allows : List ℕ → State → Writes → Type 0} {c : Config} {start : State} {m : Memory} {h : List Entry}
    (seats : ℕ → Knowledge)
    (k : Facts starts allows c start m h (parts_of seats)) (v : Knowledge) (is : seats v.number ≡ v) (begins : v.start ≡ start) where
  abbrev rings : ℕ → Ring
  rings s = (seats s).ring

  -- the facts say the same for a client with no rules
  unruled : Facts any_start any_commit c start m h (parts_of seats)
  unruled =
      let all = k.history in
      let history : History any_start any_commit c start (m Clock) h (λ s. (seats s).past) =
      record {
        opening = tt;
        sized = all.sized;
        words = all.words;
        legal = all.legal;
        allowed = λ front back d is. tt;
        long = all.long;
        in_time = all.in_time;
        whole = all.whole;
        seats = all.seats;
        makers = all.makers;
        none_yet = all.none_yet;
        last = all.last;
      } in
      assumption (history, k)

  state : StateWith c v
  state = record {
    memory = m;
    history = h;
    seats = seats;
    own = is;
    facts = subst (λ (s : State). Facts any_start any_commit c s m h (parts_of seats)) (sym begins) unruled;
  }

  module _ (object : ℕ) (other : link_seat_of (m (Head object)) ≢ v.number) where
    abbrev head : ℕ
    head = m (Head object)

    -- what HEAD names there is newer, if it is held or has the last commit
    names_newer : (x : Version) (st : WriteSetStatus) → Names rings head x st → x.object ≡ object
        → ((st ≡ Held) ⊎ ((note : CommitNote) × (st ≡ Committed note) × (note.time ≡ latest c.base h object)))
        → ((j : ℕ) (y : Version) (own : CommitNote) → slot_at v.ring j ≡ Live y (Committed own) → y.object ≡ object → IsLater own.time st)
        → NamesNewer c v object head
    unfolding state
    names_newer x st names object_is last newer =
        let of_seat = names_place c h rings k.checked k.history.in_time k.positions head x st names in
        record {
          state = state;
          head = refl;
          version = x;
          status = st;
          lives = lives_named seats k head x st names;
          link_is = names.is ∙ ap (λ (s : ℕ). link_of s x.position) (sym of_seat.0);
          object_is = object_is;
          last = last;
          newer = newer;
        }

    -- an own commit of the object is before its last one, which is another seat's
    own_before : (x : Version) (note : CommitNote) → Names rings head x (Committed note) → x.object ≡ object → note.time ≡ latest c.base h object
        → (j : ℕ) (y : Version) (own : CommitNote) → slot_at v.ring j ≡ Live y (Committed own) → y.object ≡ object → own.time < note.time
    own_before x note names object_is on_time j y own there own_is =
        let lives : Lives rings v.number j y (Committed own) = ap (λ (u : Knowledge). slot_at u.ring j) is ∙ there in
        let w = version_writes c h rings k.write_sets v.number j y own lives in
        let reach = latest-reaches c.base h object own.time w.0 w.1 (subst (λ (o : ℕ). writes_to o w.0 ≡ true) own_is w.2) in
        dite (ℕ_discrete own.time note.time)
        (λ e.
        let one = write_once c start h rings k.checked k.history.in_time k.history.legal k.positions k.write_sets v.number names.seat j names.slot y x own
        note lives names.lives (own_is ∙ sym object_is) e in
        let of_seat = names_place c h rings k.checked k.history.in_time k.positions head x (Committed note) names in
        absurd (other (of_seat.0 ∙ sym one.0)))
        (λ ne. let r : own.time < note.time = omega arith in r)

    pub top_newer : head ≢ 0 → NamesNewer c v object head
    top_newer some =
        ⊎_elim
        (λ a.
        let names : Names rings head a.2 Held =
        record { seat = a.0; slot = a.1; lives = a.3; is = ap (λ (o : ℕ). m (Head o)) (sym a.4) ∙ k.head_is_top.held a.0 a.1 a.2 a.3 } in
        names_newer a.2 Held names a.4 (inl refl) (λ j y own there own_is. tt))
        (λ none.
        ⊎_elim
        (λ top.
        let names = top.2.names in
        let last = inr (top.1, refl, top.2.time_is) in
        names_newer top.0 (Committed top.1) names top.2.object_is last (own_before top.0 top.1 names top.2.object_is top.2.time_is))
        (λ z. absurd (some z.0))
        (k.head_is_top.top object none))
        (find_holder c h rings k.checked k.history.in_time k.positions object)

  pub newer_top : (object : ℕ) → IsNewer c v object (m (Head object))
  newer_top object some other = top_newer object other some

-- load DATA: the word found is that of the section's time.
use Rattle.std.proofs.Common.{◌≡◌, ℕ, ◌≤◌, List, length, slice_index, sym, refl, ap, ◌∙◌, subst, ⊎_elim, arith}
use Rattle.mv_core.proofs.Terms.{State, Writes, Config, Clock, Master, Mark, Data, Memory, link_seat_of, Entry, Knowledge, Inside, OwnSection, Stand, Version}
use Rattle.mv_core.proofs.Terms.{WriteSetStatus, Committed, CommitNote, Names, Lives, words_of, latest_at, time_in, parts_of}
use Rattle.mv_core.proofs.FactTerms.{MarkedAs, IsRightFor, MayStandAt, RunsOn, Facts, Loads, IsKept}
use Rattle.mv_core.specs.WalkSteps.{slot_named, MayLoadData, data_loaded, words_read, word_read}
use Rattle.mv_core.proofs.frames.FrameLaw.{unread}
use Rattle.mv_core.proofs.history.SectionWords.{section_words}
use Rattle.mv_core.proofs.history.Latest.{latest_at-low}
use Rattle.mv_core.proofs.history.WordsAt.{words_of-latest, version-words}
use Rattle.mv_core.proofs.kinds.walking.Walks.{lives_named, words_named, standing_of}

module _ {starts : State → Type 0} {allows : List ℕ → State → Writes → Type 0} {c : Config} {start : State} {m : Memory} {h : List Entry}
    (seats : ℕ → Knowledge)
    (k : Facts starts allows c start m h (parts_of seats)) where
  -- a section's time is one that a clock word holds
  pub time_small : (v : Knowledge) (inside : OwnSection) → seats v.number ≡ v → v.phase ≡ Inside inside → time_in inside ≤ 35184372088831
  time_small v inside is phase =
      let marked = subst (MarkedAs (m Clock) (m (Mark v.number))) (ap (λ (u : Knowledge). u.phase) is ∙ phase) (k.marks v.number) in
      let long = k.history.long in
      let top = k.history.in_time in
      let late = marked.2 in
      omega arith

  -- a live commit that is the last write of its object up to a time has the words of that time
  pub words_right : (t s i : ℕ) (x : Version) (note : CommitNote) → Lives (λ s. (seats s).ring) s i x (Committed note) → note.time ≤ t
      → IsRightFor c h t x note → words_of c start h t x.object ≡ x.words
  words_right t s i x note lives le right =
      let last : note.time ≡ latest_at c.base h x.object t = ⊎_elim (λ late. absurd (omega arith)) (λ e. e) right in
      let low = latest_at-low c.base h x.object t in
      let co = k.write_sets.commit s i x note lives in
      words_of-latest c start h t x.object (omega arith)
      ∙ ap (λ u. words_of c start h u x.object) (sym last)
      ∙ version-words c start h k.history.legal (λ s. (seats s).ring) s x note co

module _ (starts : State → Type 0) (allows : List ℕ → State → Writes → Type 0) (c : Config) (start : State) (v : Knowledge) where
  pub data_loads : (link word : ℕ) (stand : Stand) (inside : OwnSection) → MayLoadData v link word stand inside
      → Loads starts allows c start v (Data (link_seat_of link) (slot_named c link) word)
      (λ n w. (((w ≡ data_loaded c v stand word n) × (n ≡ word_read c v inside stand.object word) × (length (words_read c v inside stand.object) ≡ 6))
      × RunsOn v w) × IsKept v w)
  data_loads link word stand inside may m h seats k is own begins small =
      let place = Data (link_seat_of link) (slot_named c link) word in
      let w : Knowledge = data_loaded c v stand word (m place) in
      let t = time_in inside in
      let r = standing_of seats v k is inside may.phase stand may.stands in
      let x : Version = r.version in
      let names : Names (λ s. (seats s).ring) link x r.status = subst (λ (l : ℕ). Names (λ s. (seats s).ring) l x r.status) may.link_is r.names in
      let top = time_small seats k v inside is may.phase in
      let le = may.time_is in
      let by = r.stamp may.found may.stamp_is (omega arith) in
      let note : CommitNote = by.0 in
      let lives : Lives (λ s. (seats s).ring) (link_seat_of link) (slot_named c link) x (Committed note) =
      subst (λ (st : WriteSetStatus). Lives (λ s. (seats s).ring) (link_seat_of link) (slot_named c link) x st) by.1
      (lives_named seats k link x r.status names) in
      let right : IsRightFor c h t x note = subst (MayStandAt c start h (λ o i. m (Master o i)) (λ s. (seats s).ring) t x) by.1 r.may in
      let time_is = by.2 in
      let words = words_right seats k t (link_seat_of link) (slot_named c link) x note lives (omega arith) right in
      let holds = words_named seats k link x r.status names in
      let read : x.words ≡ words_read c v inside stand.object =
      sym words ∙ ap (λ (o : ℕ). words_of c start h t o) r.object_is ∙ section_words seats v inside k is may.phase stand.object
      ∙ ap (λ (s : State). words_of c s v.past.seen t stand.object) (sym begins) in
      let found : m place ≡ word_read c v inside stand.object word = holds.words word may.in_range ∙ ap (λ (l : List ℕ). slice_index l word) read in (
        w,
        unread starts allows c start m h seats v.number v w is (refl, refl, refl, refl, refl, refl, refl, refl, refl, refl, refl) k,
        (((refl, found, ap length (sym read) ∙ holds.wide), (λ t f a b. (a, b))), (refl, refl, refl, refl, refl, refl)),
      )

-- The stamp of a commit that is still unset becomes the commit's time: the frame of a won exchange of a stamp, over all facts.
use Rattle.std.proofs.Common.{◌≡◌, ℕ, ◌<◌, ◌==◌, ◌&&◌, Bool, true, false, cond, List, sym}
use Rattle.std.proofs.Common.{refl, ap, ap₂, ◌∙◌, subst, ⊎_elim, inl, inr, eq-eqb, eqb-true, arith, Some}
use Rattle.mv_core.proofs.Terms.{dite, ℕ_discrete, Entry, State, Writes, Config, Clock, Stamp, Super, Memory, put, clock_time_of, clock_seat_of}
use Rattle.mv_core.proofs.Terms.{clock_slot_of, unset_of, Slot, Free, Built, Live, Freeing, Version, WriteSetStatus, Held, Aborted, Committed, CommitNote}
use Rattle.mv_core.proofs.Terms.{FoundStamp, slot_at, index_of, Lives, ViewParts}
use Rattle.mv_core.proofs.FactTerms.{IsStored, StampedAs, stamp_of, Stamps, IsHeldOrAborted, BelowIsStamped, UnstampedIsUnfinished, WasClock, IsDone}
use Rattle.mv_core.proofs.FactTerms.{HelpedWords, IsFound, NamedCommit, WalkerFalls, Facts}
use Rattle.mv_core.proofs.frames.KeptRecords.{same_named}
use Rattle.mv_core.proofs.frames.ClocksLoaded.{clock_small, unstamped_is_named, past_help}
use Rattle.mv_core.proofs.logs.Written.{commit_within}
use Rattle.mv_core.proofs.kinds.helping.stamp.Stampable.{IsStampable}

module _ {starts : State → Type 0} {allows : List ℕ → State → Writes → Type 0} {c : Config} {start : State} {m : Memory} {h : List Entry} {f : ViewParts}
    (k : Facts starts allows c start m h f)
    (word unset : ℕ) (is : IsStampable c (m Clock) (λ s i. m (Stamp s i)) f.ring word unset)
    (won : m (Stamp (clock_seat_of word) (clock_slot_of word)) ≡ unset) where
  abbrev s0 : ℕ
  s0 = clock_seat_of word

  abbrev k0 : ℕ
  k0 = clock_slot_of word

  abbrev t0 : ℕ
  t0 = clock_time_of word

  abbrev stamp : ℕ → ℕ → ℕ
  stamp s i = m (Stamp s i)

  -- the stamps afterwards
  abbrev pub after : ℕ → ℕ → ℕ
  after s i = put m (Stamp s0 k0) t0 (Stamp s i)

  pub after_here : (s i : ℕ) → s ≡ s0 → i ≡ k0 → after s i ≡ t0
  after_here s i e g = ap (λ y. cond y t0 (stamp s i)) (ap₂ (λ (y z : Bool). y && z) (eq-eqb s0 s (sym e)) (eq-eqb k0 i (sym g)))

  after_else : (s i : ℕ) → ¬ ((s ≡ s0) × (i ≡ k0)) → after s i ≡ stamp s i
  after_else s i other = go (s0 == s) (k0 == i) refl refl
    where
      go : (x y : Bool) → (s0 == s) ≡ x → (k0 == i) ≡ y → cond (x && y) t0 (stamp s i) ≡ stamp s i
      go true true e g = absurd (other (sym (eqb-true s0 s e), sym (eqb-true k0 i g)))
      go true false e g = refl
      go false y e g = refl

  here? : (s i : ℕ) → Dec ((s ≡ s0) × (i ≡ k0))
  here? s i = dite (ℕ_discrete s s0) (λ e. dite (ℕ_discrete i k0) (λ g. yes (e, g)) (λ ne. no (λ y. ne y.1))) (λ ne. no (λ y. ne y.0))

  small_word : (w : ℕ) → WasClock c (m Clock) w → clock_time_of w < 9223372036854775808
  small_word w was = let now = clock_small k in let past = was.past in omega arith

  small_time : (s j : ℕ) (x : Version) (note : CommitNote) → Lives f.ring s j x (Committed note) → note.time < 9223372036854775808
  small_time s j x note lives = let t = (commit_within c h f.ring k.write_sets s j x note lives).1 in let low = k.history.in_time in omega arith

  -- the version that the word names is still there
  record It : Type 0 where
    version : Version
    note : CommitNote
    lives : Lives f.ring s0 k0 version (Committed note)
    position_is : version.position ≡ is.found.position
    first_is : version.first ≡ is.found.position
    time_is : note.time ≡ t0

  it : It
  it = go (slot_at (f.ring s0) k0) refl
    where
      go : (slot : Slot) → slot_at (f.ring s0) k0 ≡ slot → It
      go (Live x st) e =
          dite (ℕ_discrete x.position is.found.position)
          (λ at. let l = is.found.live x st e at
          in record { version = x; note = l.1.0; lives = e ∙ ap (Live x) l.1.1; position_is = at; first_is = l.0; time_is = l.1.2 })
          (λ ne. absurd (is.found.gone (λ y other g at. let same : Live x st ≡ Live y other = sym e ∙ g in let one : x ≡ y =
          cc in ne (ap (λ (z : Version). z.position) one ∙ at)) won))
      go Free e = absurd (is.found.gone (λ y other g at. let same : Free ≡ Live y other = sym e ∙ g in absurd (cc)) won)
      go (Built b) e = absurd (is.found.gone (λ y other g at. let same : Built b ≡ Live y other = sym e ∙ g in absurd (cc)) won)
      go (Freeing p q) e = absurd (is.found.gone (λ y other g at. let same : Freeing p q ≡ Live y other = sym e ∙ g in absurd (cc)) won)

  unset_is : unset ≡ unset_of is.found.position
  unset_is = is.found.unset_is

  -- every version whose set has that stamp is of that commit
  same_set : (s j : ℕ) (y : Version) (st : WriteSetStatus) → Lives f.ring s j y st → s ≡ s0 → index_of c y.first ≡ k0 → y.first ≡ is.found.position
  same_set s j y st lives e g =
      let first = k.write_sets.first s j y st lives in
      let there : Lives f.ring s0 k0 first.version first.status =
      subst (λ (p : ℕ × ℕ). Lives f.ring p.0 p.1 first.version first.status) (λ i. (e i, g i)) first.lives in
      let same : Live first.version first.status ≡ Live it.version (Committed it.note) = sym there ∙ it.lives in
      let one : first.version ≡ it.version = cc in
      sym first.position_is ∙ ap (λ (z : Version). z.position) one ∙ it.position_is

  -- a commit with that stamp has that time
  same_time : (s j : ℕ) (y : Version) (note : CommitNote) → Lives f.ring s j y (Committed note) → s ≡ s0 → index_of c y.first ≡ k0 → note.time ≡ t0
  same_time s j y note lives e g =
      let unset' : stamp_of c stamp s y ≡ unset_of is.found.position = (λ i. stamp (e i) (g i)) ∙ won ∙ unset_is in
      let mine : stamp_of c stamp s0 it.version ≡ unset_of is.found.position =
      ap (λ p. stamp s0 (index_of c p)) it.first_is ∙ ap (stamp s0) is.found.slot_is ∙ won ∙ unset_is in
      let a = unstamped_is_named c (m Clock) stamp h f.ring k.checked (clock_small k) k.stamps k.positions s j y note lives
      (λ (made : stamp_of c stamp s y ≡ note.time). let low = small_time s j y note lives in omega arith) in
      let b = unstamped_is_named c (m Clock) stamp h f.ring k.checked
      (clock_small k) k.stamps k.positions s0 k0 it.version it.note it.lives
      (λ (made : stamp_of c stamp s0 it.version ≡ it.note.time). let low = small_time s0 k0 it.version it.note it.lives in omega arith) in
      sym a.1 ∙ b.1 ∙ it.time_is

  -- it isn't held or aborted
  not_else : (s j : ℕ) (y : Version) (st : WriteSetStatus) → Lives f.ring s j y st → s ≡ s0 → index_of c y.first ≡ k0 → ¬ (IsHeldOrAborted st)
  not_else s j y st lives e g fate =
      k.write_sets.apart s0 j k0 y it.version st it.note (subst (λ (u : ℕ). Lives f.ring u j y st) e lives) fate it.lives
      (same_set s j y st lives e g ∙ sym it.first_is)

  -- a commit that is stamped stays so
  still : (s j : ℕ) (y : Version) (note : CommitNote) → Lives f.ring s j y (Committed note) → stamp_of c stamp s y ≡ note.time
      → stamp_of c after s y ≡ note.time
  still s j y note lives made =
      dite (here? s (index_of c y.first))
      (λ e. after_here s (index_of c y.first) e.0 e.1 ∙ sym (same_time s j y note lives e.0 e.1))
      (λ ne. after_else s (index_of c y.first) ne ∙ made)

  stamped_after : (s j : ℕ) (y : Version) (st : WriteSetStatus) → Lives f.ring s j y st
      → StampedAs (m Clock) s (index_of c y.first) (stamp_of c after s y) y.first st
  stamped_after s j y st lives =
      dite (here? s (index_of c y.first))
      (λ e. go st lives (not_else s j y st lives e.0 e.1) (λ note l. after_here s (index_of c y.first) e.0 e.1 ∙ sym (same_time s j y note l e.0 e.1)))
      (λ ne. subst (λ (n : ℕ). StampedAs (m Clock) s (index_of c y.first) n y.first st) (sym (after_else s (index_of c y.first) ne))
      (k.stamps.live s j y st lives))
    where
      go : (st : WriteSetStatus) → Lives f.ring s j y st → ¬ (IsHeldOrAborted st)
          → ((note : CommitNote) → Lives f.ring s j y (Committed note) → stamp_of c after s y ≡ note.time)
          → StampedAs (m Clock) s (index_of c y.first) (stamp_of c after s y) y.first st
      go Held l out made = absurd (out tt)
      go (Aborted dead) l out made = absurd (out tt)
      go (Committed note) l out made = inl (made note l)

  stamps_after : Stamps c (m Clock) after f.ring
  stamps_after = record {
    live = stamped_after;
    built = λ s j b at.
        dite (here? s j)
        (λ e.
        let there : slot_at (f.ring s0) k0 ≡ Built b = subst (λ (p : ℕ × ℕ). slot_at (f.ring p.0) p.1 ≡ Built b) (λ i. (e.0 i, e.1 i)) at in
        let same : Built b ≡ Live it.version (Committed it.note) = sym there ∙ it.lives in absurd (cc))
        (λ ne. subst (IsStored b.stamp) (sym (after_else s j ne)) (k.stamps.built s j b at));
  }

  done_after : (w : ℕ) → WasClock c (m Clock) w → IsDone (m Clock) stamp w → IsDone (m Clock) after w
  done_after w was =
      ⊎_elim inl
      (⊎_elim (λ none. inr (inl none))
      (λ (made : stamp (clock_seat_of w) (clock_slot_of w) ≡ clock_time_of w).
      dite (here? (clock_seat_of w) (clock_slot_of w))
      (λ e. let u : stamp (clock_seat_of w) (clock_slot_of w) ≡ unset = (λ i. stamp (e.0 i) (e.1 i)) ∙ won in let v = unset_is in let low =
      small_word w was in absurd (omega arith))
      (λ ne. inr (inr (after_else (clock_seat_of w) (clock_slot_of w) ne ∙ made)))))

  helped_after : HelpedWords (m Clock) after f.clocks
  helped_after s w has = done_after w (k.loaded_words.helped s w has) (k.helped_words s w has)

  falls_after : WalkerFalls c after f.walk f.ring
  falls_after = record {
    stamped = λ s stand x st at passed names.
        let r = k.walker_falls.stamped s stand x st at passed names in
        (r.0, r.1, still names.seat names.slot x r.0 (subst (Lives f.ring names.seat names.slot x) r.1 names.lives) r.2, r.3);
    found = k.walker_falls.found;
  }

  found_after : (s : ℕ) (g : FoundStamp) → (f.clocks s).found ≡ Some g → g.checked ≡ true → IsFound c after f.ring g
  found_after s g at was_checked =
      let r = k.found_stamp.checked s g at was_checked in record {
        position = r.position;
        unset_is = r.unset_is;
        slot_is = r.slot_is;
        used = r.used;
        live = r.live;
        gone = λ none e.
            dite (here? (clock_seat_of g.word) (clock_slot_of g.word))
            (λ here. let now = after_here (clock_seat_of g.word) (clock_slot_of g.word) here.0 here.1 in let low = small_word word is.was in let u =
            r.unset_is in omega arith)
            (λ ne. r.gone none (sym (after_else (clock_seat_of g.word) (clock_slot_of g.word) ne) ∙ e));
      }

  -- the word is done
  pub done_now : IsDone (m Clock) after word
  done_now = inr (inr (after_here s0 k0 refl refl))

  pub stamp_stored : Facts starts allows c start (put m (Stamp s0 k0) t0) h f
  stamp_stored =
      let past = past_help c (m Clock) after h f.ring k.checked (clock_small k) stamps_after k.positions f.section f.clocks
      k.loaded_words helped_after in
      let stamped : (s j : ℕ) (x : Version) (note : CommitNote) → Lives f.ring s j x (Committed note) → (t l : ℕ) (y : Version) (other : CommitNote)
      → Lives f.ring t l y (Committed other) → other.time ≡ m (Super s j) → stamp_of c after t y ≡ other.time =
      λ s j x note lives t l y other there e. still t l y other there (k.successors.stamped s j x note lives t l y other there e) in
      let below : BelowIsStamped c after f.ring =
      λ s j x st lives fate y note under. still under.seat under.slot y note under.lives (k.below_is_stamped s j x st lives fate y note under) in
      let unfinished : UnstampedIsUnfinished c after f.section f.ring =
      λ s j x note lives ne. k.unstamped_is_unfinished s j x note lives (λ made. ne (still s j x note lives made)) in
      let named : NamedCommit c h after f.section f.ring = λ s inside n at mode.
      let r = k.named_commit s inside n at mode in
      let place : stamp_of c after s r.version ≡ after s (index_of c n.first) = ap (λ p. after s (index_of c p)) r.first_is in
      let before : stamp_of c stamp s r.version ≡ stamp s (index_of c n.first) = ap (λ p. stamp s (index_of c p)) r.first_is in
      same_named r r.note r.last r.nothing r.lives r.time_is
      (λ was_made. sym place ∙ still s (index_of c n.first) r.version r.note r.lives (before ∙ r.stamped was_made ∙ sym r.time_is) ∙ r.time_is) in
      assumption (stamps_after, helped_after, past, stamped, below, falls_after, found_after, unfinished, named, k)

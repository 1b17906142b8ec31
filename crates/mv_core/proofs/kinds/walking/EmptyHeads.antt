-- Where HEAD of an object is 0, SUPER of each live version of it that wasn't cut isn't 0.
use Rattle.std.proofs.Common.{◌≡◌, ◌≢◌, ℕ, ◌+◌, ◌≤◌, ◌==◌, Bool, true, false, List, [], ◌∷◌, ◌++◌, length, Some}
use Rattle.std.proofs.Common.{slice_index_or, sym, refl, ap, ◌∙◌, subst, ⊎_elim, arith, eqb-true, if◌then◌else◌}
use Rattle.std.specs.Prelude.{Contains}
use Rattle.std.proofs.lemmas.List.Elements.{Contains-append_cases}
use Rattle.mv_core.proofs.Terms.{dite, ℕ_discrete, Entry, Change, State, Writes, Config, Head, Super, Memory, link_of, Version, Committed, CommitNote}
use Rattle.mv_core.proofs.Terms.{Knowledge, Phase, Outside, Lowered, Marked, Inside, OwnSection, EmptyHead, Lives, NoneHolds, NoneUncut, latest, parts_of}
use Rattle.mv_core.proofs.Terms.{section_of, time_of, time_in, set_at}
use Rattle.mv_core.proofs.FactTerms.{SucceededHasSuper, Facts}
use Rattle.mv_core.specs.WalkSteps.{empty_too}
use Rattle.mv_core.proofs.frames.FrameLaw.{set_at_all}
use Rattle.mv_core.proofs.history.Latest.{entry-within, latest-reaches, next_write, next_write-le}
use Rattle.mv_core.proofs.logs.Written.{set_writes}
use Rattle.mv_core.proofs.logs.Links.{link_some, names_some}
use Rattle.mv_core.proofs.logs.Finding.{find_holder}
use Rattle.mv_core.proofs.kinds.walking.Landing.{not_above}

-- a seat in a section has that section's time
pub time_of_section : (p : Phase) (s : OwnSection) → section_of p ≡ Some s → time_of p ≡ Some (time_in s)
time_of_section Outside s e = absurd cc
time_of_section (Lowered low) s e = absurd cc
time_of_section (Marked low) s e = absurd cc
time_of_section (Inside i) s e = let same : i ≡ s = cc in ap (λ (x : OwnSection). Some (time_in x)) same

the_one : (a b : EmptyHead) → Contains (a ∷ []) b → b ≡ a
the_one a b has = let place : has.0 ≡ 0 = (let lt = has.1 in omega arith) in sym (ap (λ i. slice_index_or (a ∷ []) i b) (sym place) ∙ has.2)

module _ {starts : State → Type 0} {allows : List ℕ → State → Writes → Type 0} {c : Config} {start : State} {m : Memory} {h : List Entry}
    (seats : ℕ → Knowledge)
    (k : Facts starts allows c start m h (parts_of seats)) (o : ℕ) (empty_is : m (Head o) ≡ 0) where
  none_holds : NoneHolds (λ s. (seats s).ring) o
  none_holds =
      ⊎_elim
      (λ a. absurd (link_some a.0 a.2.position (sym (ap (λ p. m (Head p)) (sym a.4) ∙ k.head_is_top.held a.0 a.1 a.2 a.3) ∙ empty_is)))
      (λ none. none)
      (find_holder c h (λ s. (seats s).ring) k.checked k.history.in_time k.positions o)

  pub none_uncut : NoneUncut (λ s. (seats s).ring) o (latest c.base h o)
  none_uncut =
      ⊎_elim
      (λ a. absurd (names_some (λ s. (seats s).ring) (m (Head o)) a.0 (Committed a.1) a.2.names empty_is))
      (λ b. b.1)
      (k.head_is_top.top o none_holds)

  -- the object's last write isn't above any section's time, so the next write of a version isn't that of a commit that is unfinished
  pub has_super : (s i : ℕ) (x : Version) (note : CommitNote) → Lives (λ s. (seats s).ring) s i x (Committed note) → x.object ≡ o → note.cut ≡ false
      → m (Super s i) ≢ 0
  has_super s i x note lives object_is uncut none =
      let old = (k.present_master o none_uncut).1 in
      let co = k.write_sets.commit s i x note lives in
      let within = entry-within c.base h x.object note.time (Change co.commit) co.entry in
      let reach = latest-reaches c.base h x.object note.time (Change co.commit) co.entry (set_writes c h (λ s. (seats s).ring) s x note co) in
      dite (ℕ_discrete note.time (latest c.base h o))
      (λ last.
      let cut : note.cut ≡ true =
      none_uncut (link_of s x.position) x note
      (record { names = record { seat = s; slot = i; lives = lives; is = refl }; object_is = object_is; time_is = last }) in
      absurd cc)
      (λ ne.
      let same : latest c.base h x.object ≡ latest c.base h o = ap (latest c.base h) object_is in
      let n = next_write c.base h x.object note.time (omega arith) (omega arith) in
      let le = next_write-le c.base h x.object note.time n.0 n.1 in
      let u = k.successors.unfinished s i x note lives uncut none n.0 n.1 in
      let named = k.named_commit u.seat u.inside u.naming u.in_section u.mode in
      let late = named.later in
      let is = u.time_is in
      let time = not_above (latest c.base h o) u.seat (time_in u.inside) (λ s. time_of (seats s).phase) old
      (time_of_section (seats u.seat).phase u.inside u.in_section) in
      absurd (omega arith))

module _ {starts : State → Type 0} {allows : List ℕ → State → Writes → Type 0} {c : Config} {start : State} {m : Memory} {h : List Entry}
    (seats : ℕ → Knowledge)
    (k : Facts starts allows c start m h (parts_of seats)) (n o time : ℕ) (past : time ≤ c.base + length h) where
  Succeeded : ℕ → List EmptyHead → Type 0
  Succeeded s empty =
      (e : EmptyHead) → Contains empty e
      → (e.time ≤ c.base + length h)
      × ((i : ℕ) (x : Version) (note : CommitNote) → Lives (λ s. (seats s).ring) s i x (Committed note) → x.object ≡ e.object → note.time ≤ e.time
      → note.cut ≡ false → m (Super s i) ≢ 0)

  succeeds : (b : Bool) → (m (Head o) == 0) ≡ b → Succeeded n (if b then (seats n).empty ++ record { object = o; time = time } ∷ [] else (seats n).empty)
  unfolding Succeeded
  succeeds false is e has = k.succeeded_has_super n e has
  succeeds true is e has =
      ⊎_elim
      (λ old. k.succeeded_has_super n e old)
      (λ new.
      let one = the_one (record { object = o; time = time }) e new in (
        subst (λ (y : EmptyHead). y.time ≤ c.base + length h) (sym one) past,
        λ i x note lives object_is le uncut. has_super seats k o (eqb-true (m (Head o)) 0 is) n i x note lives
            (object_is ∙ ap (λ (y : EmptyHead). y.object) one) uncut,
      ))
      (Contains-append_cases (seats n).empty (record { object = o; time = time } ∷ []) e has)

  -- load HEAD keeps an empty HEAD in mind
  pub succeeded_after : SucceededHasSuper c h (λ s i. m (Super s i)) (set_at (λ s. (seats s).empty) n (empty_too (seats n).empty o time (m (Head o))))
      (λ s. (seats s).ring)
  unfolding Succeeded
  succeeded_after =
      set_at_all (λ s empty. Succeeded s empty) (λ s. (seats s).empty) n (empty_too (seats n).empty o time (m (Head o))) (succeeds (m (Head o) == 0) refl)
      (λ s ne. k.succeeded_has_super s)

-- What an open section holds, as the next commit of the history: it is legal and allowed there, and its versions are the commit's write set.
use Rattle.std.proofs.Common.{◌≡◌, ◌≢◌, ℕ, suc, ◌+◌, ◌-◌, ◌<◌, ◌≤◌, true, not, ◌&&◌, List, [], ◌∷◌, ◌++◌, length, take, drop, refl, sym, ap, ◌∙◌, subst, ⊎_elim}
use Rattle.std.proofs.Common.{arith, eq-eqb, take-append-drop, length-drop, Option, Some}
use Rattle.std.specs.Prelude.{slice_get, slice_index_or}
use Rattle.std.proofs.lemmas.List.{get_or-drop}
use Rattle.std.proofs.lemmas.List.Elements.{All-from_get_or}
use Rattle.std.proofs.lemmas.Option.{slice_get_within, get_or_from_slice_get, slice_get-get_or}
use Rattle.mv_history.specs.declared.Commit.{Commit}
use Rattle.mv_core.proofs.Terms.{Entry, Rest, Change, State, Writes, touches, maker_of, writes_of, state_after, state_at, commits_of, Config, Head, First, Prev}
use Rattle.mv_core.proofs.Terms.{Data, Memory, Live, Version, Held, Aborted, Committed, OwnSection, Open, slot_at, index_of, held_count, own_of, Lives, is_by}
use Rattle.mv_core.proofs.Terms.{latest, writes_to, IsEntry, time_in, IsUnnamed, ViewParts}
use Rattle.mv_history.specs.Legal.{IsWords, AreWithin, AreWrites, AreApart, NoneWrites, NoneBy, IsNext, IsLegal, IsAllowed, are_distinct}
use Rattle.mv_history.specs.Drift.{IsFit}
use Rattle.mv_history.proofs.Drifting.{allowed_after}
use Rattle.mv_history.proofs.Histories.{IsLegal-push, IsAllowed-push}
use Rattle.mv_core.proofs.FactTerms.{HoldsVersion, HoldsSlot, Facts}
use Rattle.mv_core.proofs.history.Latest.{last_that-reaches, latest-reaches}
use Rattle.mv_core.proofs.logs.Links.{live_once, link_once, position_small}
use Rattle.mv_core.proofs.logs.Written.{write_there}
use Rattle.mv_core.proofs.logs.HeldSet.{HeldSet, held_set, own_length, own_at, own_write, own_touches, own_held}
use Rattle.mv_core.proofs.history.Longer.{new_time, entry-new}
use Rattle.mv_core.proofs.kinds.naming.entry.CommittedLogs as logs
use Rattle.mv_core.proofs.kinds.naming.entry.CommittedLogs.{new_note}
use Rattle.mv_core.proofs.kinds.naming.entry.NewEntry.{Makes, bool_is}
use Rattle.mv_core.proofs.kinds.naming.entry.NewWalks.{section_old}
use Rattle.mv_core.proofs.kinds.naming.entry.NewSets.{NewSet}

-- writes of which no two are of one object are distinct
once_distinct : (ws : Writes) → ((i j o : ℕ) (a b : List ℕ) → slice_get ws i ≡ Some (o, a) → slice_get ws j ≡ Some (o, b) → i ≡ j) → are_distinct ws ≡ true
once_distinct [] once = refl
once_distinct (w ∷ ws) once =
    let rest = once_distinct ws (λ i j o a b p q. let same : suc i ≡ suc j = once (suc i) (suc j) o a b p q in omega arith) in
    ⊎_elim
    (λ there.
    let r = write_there ws w.0 there in
    let same : 0 ≡ suc r.0 = once 0 (suc r.0) w.0 w.1 r.1 refl r.3 in absurd (omega arith))
    (λ none. (λ i. not (none i) && rest i))
    (bool_is (touches ws w.0))

module _ {starts : State → Type 0} {allows : List ℕ → State → Writes → Type 0} {c : Config} {start : State} {m : Memory} {h : List Entry} {f : ViewParts}
    (k : Facts starts allows c start m h f)
    (n : ℕ) (inside : OwnSection) (section_is : f.section n ≡ Some inside) (timed : f.time n ≡ Some (time_in inside)) (open_is : inside.mode ≡ Open)
    (some : 0 < held_count (f.ring n)) where
  pub set_is : HeldSet c f.ring n
  set_is = held_set c h f.section f.ring n inside k.checked k.positions k.write_sets k.open_section section_is open_is some

  abbrev ws : Writes
  ws = own_of c (f.ring n)

  -- the place of a held version's position
  place_is : (j : ℕ) (x : Version) → Lives f.ring n j x Held → index_of c x.position ≡ j
  place_is j x lives = (k.positions.live n j x Held lives).0

  one_object : (j l : ℕ) (x y : Version) → Lives f.ring n j x Held → Lives f.ring n l y Held → x.object ≡ y.object → x.position ≡ y.position
  one_object j l x y a b same =
      let small = position_small c h f.ring k.checked k.history.in_time k.positions in
      (link_once c h f.ring k.checked k.history.in_time k.positions n n x.position y.position (small n j x Held a) (small n l y Held b)
      (sym (k.head_is_top.held n j x a) ∙ ap (λ o. m (Head o)) same ∙ k.head_is_top.held n l y b)).1

  -- where an object stands among the writes, its held version does
  held_at : (i o : ℕ) (words : List ℕ) → slice_get ws i ≡ Some (o, words)
      → (x : Version) × Lives f.ring n (index_of c (set_is.first + i)) x Held × (x.position ≡ set_is.first + i) × (x.object ≡ o) × (x.words ≡ words)
  held_at i o words at =
      let a = own_at c f.ring n set_is i (let l = own_length c f.ring n set_is in let lt = slice_get_within ws i (o, words) at in omega arith) in
      let same : ◌≡◌ {A = Option (ℕ × List ℕ)} (Some (a.0.object, a.0.words)) (Some (o, words)) = sym a.4 ∙ at in
      let pair : ◌≡◌ {A = ℕ × List ℕ} (a.0.object, a.0.words) (o, words) = cc in
      (a.0, a.1, a.2, ap (λ p. p.0) pair, ap (λ p. p.1) pair)

  distinct : are_distinct ws ≡ true
  distinct =
      once_distinct ws (λ i j o a b p q.
      let x = held_at i o a p in
      let y = held_at j o b q in
      let same = one_object (index_of c (set_is.first + i)) (index_of c (set_is.first + j)) x.0 y.0 x.1 y.1 (x.3 ∙ sym y.3) in
      let px = x.2 in
      let py = y.2 in
      omega arith)

  within : AreWithin ws (length start)
  within o w =
      let a = own_held c f.ring n set_is o w in
      let r = k.lock_freshness n a.0 a.1 a.2 in
      subst (λ (p : ℕ). p < length start) a.3 (subst (λ (l : ℕ). a.1.object < l) (sym k.history.sized) r.3)

  words : AreWrites ws
  words =
      All-from_get_or (λ w. IsWords w.1) ws (0, []) (λ i lt.
      let a = own_at c f.ring n set_is i (let l = own_length c f.ring n set_is in omega arith) in
      let j : ℕ = index_of c (set_is.first + i) in
      let holds : HoldsVersion (m (First n j)) (m (Prev n j)) (λ w. m (Data n j w)) a.0 =
      subst (HoldsSlot (m (First n j)) (m (Prev n j)) (λ w. m (Data n j w))) a.1 (k.slot_words n j) in
      subst (λ (w : ℕ × List ℕ). IsWords w.1) (sym (get_or_from_slice_get ws i (a.0.object, a.0.words) (0, []) a.4)) holds.wide)

  abbrev snapshot : ℕ
  snapshot = time_in inside - c.base

  past : snapshot ≤ length h
  past = let old = section_old k n (Rest n) n (time_in inside) timed in omega arith

  -- an entry after the snapshot
  after_entry : (i : ℕ) → i < length (drop snapshot h) → IsEntry c.base h (c.base + (snapshot + i) + 1) (slice_index_or (drop snapshot h) i (Rest 0))
  after_entry i lt =
      let wide = length-drop snapshot h in
      let at = slice_get-get_or h (snapshot + i) (Rest 0) (omega arith) ∙ ap Some (sym (get_or-drop snapshot h i (Rest 0))) in
      let place : snapshot + i ≡ c.base + (snapshot + i) + 1 - (c.base + 1) = omega arith in
      (omega arith, subst (λ (p : ℕ). slice_get h p ≡ Some (slice_index_or (drop snapshot h) i (Rest 0))) place at)

  unwritten : NoneWrites ws (drop snapshot h)
  unwritten =
      All-from_get_or (λ x. AreApart ws (writes_of x)) (drop snapshot h) (Rest 0) (λ i lt o w.
      let x : Entry = slice_index_or (drop snapshot h) i (Rest 0) in
      let a = own_held c f.ring n set_is o w in
      let r = k.lock_freshness n a.0 a.1 a.2 in
      let now : time_in inside ≡ r.0 = (let same : Some (time_in inside) ≡ Some r.0 = sym timed ∙ r.1 in cc) in
      let fresh : latest c.base h o ≤ r.0 = subst (λ (p : ℕ). latest c.base h p ≤ r.0) a.3 r.2 in
      ⊎_elim
      (λ written. let reach = latest-reaches c.base h o (c.base + (snapshot + i) + 1) x (after_entry i lt) written in absurd (omega arith))
      (λ none. none)
      (bool_is (writes_to o x)))

  in_order : NoneBy n (drop snapshot h)
  in_order =
      All-from_get_or (λ x. maker_of x ≢ n) (drop snapshot h) (Rest 0) (λ i lt mine.
      let x : Entry = slice_index_or (drop snapshot h) i (Rest 0) in
      let own = k.open_section.own n inside section_is (subst IsUnnamed (sym open_is) tt) in
      let place : c.base + (snapshot + i) + 1 - (c.base + 1) ≡ snapshot + i = omega arith in
      let there : slice_get h (snapshot + i) ≡ Some x = subst (λ (p : ℕ). slice_get h p ≡ Some x) place (after_entry i lt).1 in
      let reach = last_that-reaches (is_by n) h (snapshot + i) x there (eq-eqb (maker_of x) n mine) in
      omega arith)

  module _ (number : ℕ) (number_is : number ≡ length (commits_of n h) + 1) (tag : List ℕ) where
    abbrev pub commit : Commit
    commit = record { seat = n; number = number; snapshot = snapshot; tag = tag; writes = ws }

    pub is_next : IsNext (length start) h commit
    is_next = record {
      some = (let l = own_length c f.ring n set_is in let lt = set_is.some in omega arith);
      distinct = distinct;
      within = within;
      words = words;
      past = past;
      unwritten = unwritten;
      in_order = in_order;
      number = number_is;
    }

    pub legal_after : IsLegal (length start) (h ++ Change commit ∷ [])
    legal_after = IsLegal-push (length start) h commit k.history.legal is_next

    pub allowed_too : IsFit allows (state_at start h snapshot) tag ws → IsAllowed allows start (h ++ Change commit ∷ [])
    allowed_too fit =
        let whole = sym (take-append-drop snapshot h) in
        let allowed =
        allowed_after allows (length start) start (take snapshot h) (drop snapshot h) tag ws fit (subst (IsLegal (length start)) whole k.history.legal)
        (subst (IsAllowed allows start) whole k.history.allowed) unwritten in
        IsAllowed-push allows start h commit k.history.allowed (subst (λ l. allows tag (state_after start l) ws) (sym whole) allowed)

    pub makes : Makes f.ring n (Change commit)
    makes = record { maker = refl; written = λ j x lives. own_touches c f.ring n set_is j x lives (place_is j x lives); only = own_held c f.ring n set_is }

    pub new_set : NewSet k n (Change commit)
    new_set = record {
      commit = λ j x lives.
          let first_is = (set_is.all j x lives).0 in record {
            commit = commit;
            entry = entry-new c.base h (Change commit);
            seat = refl;
            after_first = k.write_sets.after_first n j x Held lives;
            write = subst (λ (p : ℕ). slice_get ws (x.position - p) ≡ Some (x.object, x.words)) (sym first_is)
                (own_write c f.ring n set_is j x lives (place_is j x lives));
            all = λ i lt.
                let t : ℕ = new_time c.base h (Change commit) in
                let a = own_at c f.ring n set_is i (let l = own_length c f.ring n set_is in omega arith) in
                let from : set_is.first + i ≡ x.first + i = omega arith in (
                  a.0,
                  new_note t a.0,
                  subst (λ (p : ℕ). Lives (logs.after f.ring n t) n (index_of c p) a.0 (Committed (new_note t a.0))) from
                      (logs.now_committed f.ring n t (index_of c (set_is.first + i)) a.0 a.1),
                  a.2 ∙ from,
                  a.3 ∙ sym first_is,
                  refl,
                );
          };
      one_set = λ j l x y a b. k.open_section.one_set n j l x y a b;
      none_aborted = λ j l x y dead a b same.
          let p = k.positions.live n l y (Aborted dead) b in
          let late = k.write_sets.after_first n l y (Aborted dead) b in
          let w = k.open_section.whole n j x inside a section_is open_is y.position (omega arith) p.1 in
          let there : slot_at (f.ring n) l ≡ Live w.version w.status = ap (slot_at (f.ring n)) (sym p.0) ∙ w.lives in
          let one = live_once (slot_at (f.ring n) l) y w.version (Aborted dead) w.status b there in
          let other : Aborted dead ≡ Held = one.1 ∙ w.known in cc;
    }

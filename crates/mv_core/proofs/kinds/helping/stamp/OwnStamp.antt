-- A section that has named a commit notes that its own exchange of the stamp was made, over all facts, where the commit is stamped.
use Rattle.std.proofs.Common.{◌≡◌, ◌≢◌, ℕ, ◌≤◌, true, false, List, sym, refl, ap, ◌∙◌, subst, Option, Some}
use Rattle.std.specs.Prelude.{Contains}
use Rattle.mv_core.proofs.Terms.{dite, ℕ_discrete, Entry, State, Writes, Config, Clock, Mark, Master, Stamp, Super, Memory, Version, Committed}
use Rattle.mv_core.proofs.Terms.{CommitNote, Outside, Inside, OwnSection, Mode, Open, Named, Naming, Scan, index_of, Lives, last_own, IsNextWrite}
use Rattle.mv_core.proofs.Terms.{time_in, IsUnnamed, ViewParts}
use Rattle.mv_core.specs.declared.view.WalkStage.TheVariants.{Nowhere}
use Rattle.mv_core.proofs.FactTerms.{IsNaming, UnstampedIsUnfinished, MarkedAs, Marks, IsPastHelp, WasClock, LoadedWords, NamedIs, NamedCommit}
use Rattle.mv_core.proofs.FactTerms.{OpenSection, SuccessorFlag, WriteBacks, Facts}
use Rattle.mv_core.proofs.frames.FrameLaw.{set_at_here, set_at_else, set_at_all, unchanged, changed}
use Rattle.mv_core.proofs.frames.ClocksLoaded.{clock_small, past_help}

module _ {starts : State → Type 0} {allows : List ℕ → State → Writes → Type 0} {c : Config} {start : State} {m : Memory} {h : List Entry} {f : ViewParts}
    (k : Facts starts allows c start m h f)
    (n : ℕ) (inside : OwnSection) (naming : Naming) (phase_is : f.phase n ≡ Inside inside) (section_is : f.section n ≡ Some inside)
    (mode_is : inside.mode ≡ Named naming) (made : m (Stamp n (index_of c naming.first)) ≡ naming.time) where
  abbrev stamp : ℕ → ℕ → ℕ
  stamp s i = m (Stamp s i)

  abbrev naming' : Naming
  naming' = record naming { stamped = true }

  abbrev inside' : OwnSection
  inside' = record inside { mode = Named naming' }

  abbrev t : ViewParts
  t = changed f n (record unchanged { phase = Some (Inside inside'); section = Some (Some inside') })

  -- what holds of the section that names the commit holds after the step of it as it is then
  sections : (P : ℕ → Option OwnSection → Type 0) → P n (Some inside') → ((s : ℕ) → s ≢ n → P s (f.section s)) → (s : ℕ) → P s (t.section s)
  sections P = set_at_all P f.section n (Some inside')

  -- the sections that are as they seem, afterwards
  same_section : {i : OwnSection} → Some inside' ≡ Some i → inside' ≡ i
  same_section {i = i} e = let whole : Some inside' ≡ Some i = e in cc

  same_naming : {i : OwnSection} {d : Naming} → Some inside' ≡ Some i → i.mode ≡ Named d → naming' ≡ d
  same_naming {i = i} {d = d} e mode = let one : Named naming' ≡ Named d = ap (λ (j : OwnSection). j.mode) (same_section e) ∙ mode in cc

  -- no other mode was there
  only_named : {i : OwnSection} {d : Mode} → f.section n ≡ Some i → i.mode ≡ d → Named naming ≡ d
  only_named {i = i} {d = d} at mode = let one : Some inside ≡ Some i = sym section_is ∙ at in let same : inside ≡ i =
      cc in sym mode_is ∙ ap (λ (j : OwnSection). j.mode) same ∙ mode

  named : NamedIs c h stamp f.ring n inside naming
  named = k.named_commit n inside naming section_is mode_is

  marks_after : Marks (m Clock) (λ s. m (Mark s)) t.phase
  marks_after =
      set_at_all (λ s p. MarkedAs (m Clock) (m (Mark s)) p) f.phase n (Inside inside')
      (let old : MarkedAs (m Clock) (m (Mark n)) (Inside inside) = subst (MarkedAs (m Clock) (m (Mark n))) phase_is (k.marks n) in old)
      (λ s ne. k.marks s)

  words_after : LoadedWords c (m Clock) t.section f.clocks
  words_after =
      let inside = sections (λ s o. (i : OwnSection) → o ≡ Some i → WasClock c (m Clock) i.word)
      (λ i e. subst (λ (j : OwnSection). WasClock c (m Clock) j.word) (same_section e) (k.loaded_words.inside n inside section_is))
      (λ s ne. k.loaded_words.inside s) in
      assumption (inside, k.loaded_words)

  -- the seat of an unfinished commit is still in the section that named it
  naming_after : (time : ℕ) → IsNaming f.section time (λ _. Unit {0}) → IsNaming t.section time (λ _. Unit {0})
  naming_after time r =
      dite (ℕ_discrete r.seat n)
      (λ e.
      let at : f.section n ≡ Some r.inside = subst (λ (s : ℕ). f.section s ≡ Some r.inside) e r.in_section in
      let one : Named naming ≡ Named r.naming = only_named at r.mode in
      let same : naming ≡ r.naming = cc in
      record {
        seat = n;
        inside = inside';
        naming = naming';
        in_section = set_at_here f.section n (Some inside');
        mode = refl;
        time_is = ap (λ (d : Naming). d.time) same ∙ r.time_is;
        known = tt;
      })
      (λ ne. record {
        seat = r.seat;
        inside = r.inside;
        naming = r.naming;
        in_section = set_at_else f.section n (Some inside') r.seat ne ∙ r.in_section;
        mode = r.mode;
        time_is = r.time_is;
        known = tt;
      })

  -- no commit of this seat is unstamped
  unfinished_after : UnstampedIsUnfinished c stamp t.section f.ring
  unfinished_after s j x note lives ne =
      let r = k.unstamped_is_unfinished s j x note lives ne in
      dite (ℕ_discrete s n)
      (λ e.
      let at : f.section n ≡ Some r.0 = subst (λ (u : ℕ). f.section u ≡ Some r.0) e r.2 in
      let one : Named naming ≡ Named r.1 = only_named at r.3 in
      let same : naming ≡ r.1 = cc in
      let here : Lives f.ring n j x (Committed note) = subst (λ (u : ℕ). Lives f.ring u j x (Committed note)) e lives in
      let time : note.time ≡ naming.time = sym r.4 ∙ ap (λ (d : Naming). d.time) (sym same) in
      let first : x.first ≡ naming.first = k.write_sets.once n j (index_of c naming.first) x named.version note named.note here named.lives
      (time ∙ sym named.time_is) ∙ named.first_is in
      absurd (ne ((λ i. stamp (e i) (index_of c (first i))) ∙ made ∙ sym time)))
      (λ other. (r.0, r.1, set_at_else f.section n (Some inside') s other ∙ r.2, r.3, r.4, r.5))

  named_after : NamedCommit c h stamp t.section f.ring
  named_after =
      sections (λ s o. (i : OwnSection) (d : Naming) → o ≡ Some i → i.mode ≡ Named d → NamedIs c h stamp f.ring s i d)
      (λ i d e mode.
      let new : NamedIs c h stamp f.ring n inside' naming' = record {
        later = named.later;
        last = named.last;
        nothing = named.nothing;
        version = named.version;
        note = named.note;
        lives = named.lives;
        position_is = named.position_is;
        first_is = named.first_is;
        time_is = named.time_is;
        stamped = λ _. made;
      } in
      subst (λ (p : OwnSection × Naming). NamedIs c h stamp f.ring n p.0 p.1) (λ z. (same_section e z, same_naming e mode z)) new)
      (λ s ne. k.named_commit s)

  open_after : OpenSection c h t.section f.ring
  open_after = record {
    own = sections (λ s o. (i : OwnSection) → o ≡ Some i → IsUnnamed i.mode → last_own c.base h s ≤ time_in i)
        (λ i e free. let none : IsUnnamed (Named naming') = subst (λ (j : OwnSection). IsUnnamed j.mode) (sym (same_section e)) free in absurd none)
        (λ s ne. k.open_section.own s);
    held = λ s j x lives.
        let r = k.open_section.held s j x lives in
        dite (ℕ_discrete s n)
        (λ e.
        let at : f.section n ≡ Some r.0 = subst (λ (u : ℕ). f.section u ≡ Some r.0) e r.1 in
        let none : IsUnnamed (Named naming) = subst IsUnnamed (sym (only_named at refl)) r.2 in absurd none)
        (λ other. (r.0, set_at_else f.section n (Some inside') s other ∙ r.1, r.2));
    one_set = k.open_section.one_set;
    whole = λ s j x i lives at mode.
        dite (ℕ_discrete s n)
        (λ e.
        let here : Some inside' ≡ Some i = sym (set_at_here f.section n (Some inside')) ∙ subst (λ (u : ℕ). t.section u ≡ Some i) e at in
        let none : Named naming' ≡ Open = ap (λ (j : OwnSection). j.mode) (same_section here) ∙ mode in absurd (cc))
        (λ other. k.open_section.whole s j x i lives (sym (set_at_else f.section n (Some inside') s other) ∙ at) mode);
  }

  flag_after : SuccessorFlag (λ s j. m (Super s j)) t.section f.ring
  flag_after s j i d x note at mode lives time =
      dite (ℕ_discrete s n)
      (λ e.
      let here : Some inside' ≡ Some i = sym (set_at_here f.section n (Some inside')) ∙ subst (λ (u : ℕ). t.section u ≡ Some i) e at in
      let one : naming' ≡ d = same_naming here mode in
      let time_is : naming.time ≡ d.time = ap (λ (y : Naming). y.time) one in
      let old = k.successor_flag s j inside naming x note (ap f.section e ∙ section_is) mode_is lives (time ∙ sym time_is) in
      (old.0, λ y other below. let r = old.1 y other below in ((λ l. r.0 l ∙ time_is), r.1)))
      (λ other. k.successor_flag s j i d x note (sym (set_at_else f.section n (Some inside') s other) ∙ at) mode lives time)

  backs_after : WriteBacks c h (λ o w. m (Master o w)) t.section f.time f.clocks f.grace f.back f.ring
  backs_after s b at =
      let r = k.write_back s b at in
      dite (ℕ_discrete s n)
      (λ e.
      let here : f.section n ≡ Some r.0 = subst (λ (u : ℕ). f.section u ≡ Some r.0) e r.1 in
      let none : Named naming ≡ Open = only_named here r.2.mode in absurd (cc))
      (λ other. (r.0, set_at_else f.section n (Some inside') s other ∙ r.1, r.2))

  scanning_after : (s : ℕ) (running : Scan) → f.scan s ≡ Some running → t.phase s ≡ Outside
  scanning_after =
      set_at_all (λ s p. (running : Scan) → f.scan s ≡ Some running → p ≡ Outside) f.phase n (Inside inside')
      (λ running e. let out : Inside inside ≡ Outside = sym phase_is ∙ k.phases_and_scan.scanning n running e in absurd (cc))
      (λ s ne. k.phases_and_scan.scanning s)

  knows_after : (s : ℕ) (i : OwnSection) → t.section s ≡ Some i → f.walk s ≢ Nowhere → IsPastHelp (f.clocks s) i
  knows_after =
      sections (λ s o. (i : OwnSection) → o ≡ Some i → f.walk s ≢ Nowhere → IsPastHelp (f.clocks s) i)
      (λ i e walks. subst (λ (j : OwnSection). IsPastHelp (f.clocks n) j) (same_section e) (let old : Contains (f.clocks n).helped inside.word =
      k.walker_knowledge.helped n inside section_is walks in old))
      (λ s ne. k.walker_knowledge.helped s)

  pub own_stamped : Facts starts allows c start m h t
  own_stamped =
      let past = past_help c (m Clock) stamp h f.ring k.checked (clock_small k) k.stamps k.positions t.section f.clocks words_after
      k.helped_words in
      let unfinished : (s j : ℕ) (x : Version) (note : CommitNote) → Lives f.ring s j x (Committed note) → note.cut ≡ false → m (Super s j) ≡ 0
      → (next : ℕ) → IsNextWrite c.base h x.object note.time next → IsNaming t.section next (λ _. Unit {0}) =
      λ s j x note lives uncut none next is_next. naming_after next (k.successors.unfinished s j x note lives uncut none next is_next) in
      assumption (marks_after, knows_after, unfinished_after, named_after, open_after, flag_after, words_after, backs_after, scanning_after, k)

-- compare_exchange HEAD (cut), won: the version was on top of its object's chain and alone is cut, and the master has the present state.
use Rattle.std.proofs.Common.{◌≡◌, ◌≢◌, ◌⊎◌, ℕ, ◌+◌, ◌-◌, ◌<◌, ◌≤◌, true, false, List}
use Rattle.std.proofs.Common.{length, refl, sym, ap, ◌∙◌, subst, inl, inr, ⊎_elim, arith, slice_index, Some}
use Rattle.mv_core.proofs.Terms.{dite, ℕ_discrete, Entry, State, Writes, Config, Head, Master, First, Stamp, Prev, Super, Data, link_of, Memory, put}
use Rattle.mv_core.proofs.Terms.{Ring, Slot, Live, Version, WriteSetStatus, Held, Committed, CommitNote, WriteBack, slot_at, put_slot, index_of, Lives, Names}
use Rattle.mv_core.proofs.Terms.{NoneHolds, NoneUncut, IsTop, writes_to, latest, latest_at, words_of, AreThe, NotAboveAny, ViewParts, set_at}
use Rattle.mv_core.proofs.FactTerms.{HoldsSlot, SlotWords, HeadIsTop, HeldLink, LinksBelow, CommitLink, PresentMaster, CutIsOld, WriteBacks, Facts}
use Rattle.mv_core.proofs.frames.KeptRecords.{same_back}
use Rattle.mv_core.proofs.frames.FrameLaw.{unchanged, changed}
use Rattle.mv_core.proofs.history.Latest.{latest-le, latest_at-end, latest-reaches, latest_at-le}
use Rattle.mv_core.proofs.logs.Links.{live_once, note_once, link_some, names_once, position_once}
use Rattle.mv_core.proofs.logs.Slots.{Matches, match_weaker, match_put, slots_after, at_here, lives_back, lives_else, live_within, here_or_else}
use Rattle.mv_core.proofs.frames.Matching.{LivesOn, AlikeOrCut, on_place, gone_forth, uncut_back}
use Rattle.mv_core.proofs.frames.Matching.{none_uncut_forth, none_holds_back, version_back, version_forth, committed_back, committed_forth}
use Rattle.mv_core.proofs.logs.Versions.{write_once}
use Rattle.mv_core.proofs.logs.Written.{version_writes, commit_within}
use Rattle.mv_core.proofs.history.WordsAt.{words_of-same, version-words}
use Rattle.mv_core.proofs.kinds.locking.lock_head.LockWon.{put_head}
use Rattle.mv_core.proofs.kinds.reclaiming.cut_head.Cuts.{SameDeath, SameNotes, Cuts, cuts_self, same_death_facts, flags_match}
use Rattle.mv_core.proofs.frames.MatchedSets as set
use Rattle.mv_core.proofs.frames.MatchedFacts.{alike_or_cut_facts}
use Rattle.mv_core.proofs.frames.InPlace.{in_place_put, in_place_facts}

module _ {starts : State → Type 0} {allows : List ℕ → State → Writes → Type 0} {c : Config} {start : State} {m : Memory} {h : List Entry} {f : ViewParts}
    (k : Facts starts allows c start m h f)
    (n slot : ℕ) (x : Version) (note : CommitNote) (lives : Lives f.ring n slot x (Committed note)) (won : m (Head x.object) ≡ link_of n x.position)
    (old : NotAboveAny note.time f.time) (words : (i : ℕ) → i < 6 → m (Master x.object i) ≡ slice_index x.words i)
    (tried : (b : WriteBack) → f.back n ≡ Some b → b.tried ≡ true) where
  abbrev new : CommitNote
  new = record note { cut = true }

  abbrev cut_ring : Ring
  cut_ring = put_slot (f.ring n) slot (Live x (Committed new))

  abbrev rings : ℕ → Ring
  rings = set_at f.ring n cut_ring

  abbrev head : ℕ → ℕ
  head o = put m (Head x.object) 0 (Head o)

  abbrev master : ℕ → ℕ → ℕ
  master o i = m (Master o i)

  abbrev last : ℕ
  last = latest c.base h x.object

  within : slot < length (f.ring n).slots
  within = live_within (f.ring n) slot x (Committed note) lives

  matches : Matches Cuts f.ring rings
  matches = match_put Cuts cuts_self f.ring n slot (Live x (Committed new)) cut_ring refl within refl x (Committed note) x (Committed new) lives refl
      ((((refl, refl, λ _. refl), refl), refl), λ e. let held : Committed note ≡ Held = e in absurd (cc))

  or_cut : Matches AlikeOrCut f.ring rings
  or_cut = match_weaker Cuts AlikeOrCut f.ring rings (λ y st z su a. (a.0.0.0, a.1)) matches

  on : Matches LivesOn f.ring rings
  on = match_weaker Cuts LivesOn f.ring rings (λ y st z su a. a.0.0.0) matches

  all_slots : (P : ℕ → ℕ → Slot → Type 0) → P n slot (Live x (Committed new)) → ((s j : ℕ) → ¬ ((s ≡ n) × (j ≡ slot)) → P s j (slot_at (f.ring s) j))
      → (s j : ℕ) → P s j (slot_at (rings s) j)
  all_slots = slots_after f.ring n slot (Live x (Committed new)) cut_ring refl within

  abbrev mine : Names f.ring (link_of n x.position) x (Committed note)
  mine = record { seat = n; slot = slot; lives = lives; is = refl }

  -- a committed version afterwards is the one that was cut, or it is as it was
  committed_was : (s j : ℕ) (y : Version) (o : CommitNote) → Lives rings s j y (Committed o)
      → ((s ≡ n) × (j ≡ slot) × (y ≡ x) × (o ≡ new)) ⊎ Lives f.ring s j y (Committed o)
  committed_was s j y o there =
      ⊎_elim
      (λ a. let one = live_once (Live x (Committed new)) x y (Committed new) (Committed o) refl a.2 in inl (a.0, a.1, sym one.0, sym (note_once new o one.1)))
      (λ b. inr b.1)
      (lives_back f.ring n slot (Live x (Committed new)) cut_ring refl within s j y (Committed o) there)

  -- a version of another object is as it was
  other_still : (s j : ℕ) (y : Version) (st : WriteSetStatus) → Lives f.ring s j y st → y.object ≢ x.object → Lives rings s j y st
  other_still s j y st there ne =
      ⊎_elim
      (λ at.
      let here : Lives f.ring n slot y st = subst (λ (p : ℕ × ℕ). Lives f.ring p.0 p.1 y st) (λ i. (at.0 i, at.1 i)) there in
      let one = live_once (slot_at (f.ring n) slot) x y (Committed note) st lives here in
      absurd (ne (ap (λ (v : Version). v.object) (sym one.0))))
      (λ apart. lives_else f.ring n slot (Live x (Committed new)) cut_ring refl within s j y st apart there)
      (here_or_else s n j slot)

  -- no seat holds the object
  none_holds : NoneHolds f.ring x.object
  none_holds s j y there same =
      let other : Names f.ring (link_of n x.position) y Held =
      record { seat = s; slot = j; lives = there; is = sym won ∙ ap (λ (o : ℕ). m (Head o)) (sym same) ∙ k.head_is_top.held s j y there } in
      let one = names_once c h f.ring k.checked k.history.in_time k.positions (link_of n x.position) x y (Committed note) Held mine other in
      let clash : Committed note ≡ Held = one.3 in cc

  -- it is the object's last write
  is_last : note.time ≡ last
  is_last =
      ⊎_elim
      (λ a.
      let names : Names f.ring (link_of n x.position) a.0 (Committed a.1) = subst (λ (l : ℕ). Names f.ring l a.0 (Committed a.1)) won a.2.names in
      let one = names_once c h f.ring k.checked k.history.in_time k.positions (link_of n x.position) x a.0 (Committed note) (Committed a.1) mine names in
      ap (λ (o : CommitNote). o.time) (note_once note a.1 one.3) ∙ a.2.time_is)
      (λ z. absurd (link_some n x.position (sym won ∙ z.0)))
      (k.head_is_top.top x.object none_holds)

  cut_here : Lives rings n slot x (Committed new)
  cut_here = at_here f.ring n slot (Live x (Committed new)) cut_ring refl within

  -- the version of that write is cut now
  none_uncut : NoneUncut rings x.object last
  none_uncut link y o v =
      ⊎_elim
      (λ a. ap (λ (q : CommitNote). q.cut) a.3)
      (λ was.
      let one = write_once c start h f.ring k.checked k.history.in_time k.history.legal k.positions k.write_sets v.names.seat n v.names.slot slot y x o note was
      lives v.object_is (v.time_is ∙ sym is_last) in
      let at : Lives f.ring n v.names.slot y (Committed o) = subst (λ (s : ℕ). Lives f.ring s v.names.slot y (Committed o)) one.0 was in
      let place = position_once c h f.ring k.checked k.history.in_time k.positions n v.names.slot slot y x (Committed o) (Committed note) at lives
      (ap (λ (z : Version). z.position) one.1) in
      let here : Lives rings n slot y (Committed o) = subst (λ (p : ℕ × ℕ). Lives rings p.0 p.1 y (Committed o)) (λ i. (one.0 i, place.0 i)) v.names.lives in
      let same = live_once (slot_at (rings n) slot) x y (Committed new) (Committed o) cut_here here in
      ap (λ (q : CommitNote). q.cut) (sym (note_once new o same.1)))
      (committed_was v.names.seat v.names.slot y o v.names.lives)

  -- the top of another object is as it was
  top_still : (o t link : ℕ) → o ≢ x.object → IsTop f.ring o t link → IsTop rings o t link
  top_still o t link ne =
      ⊎_elim
      (λ a.
      let v = a.2 in
      inl (
        a.0,
        a.1,
        record {
          names = record {
            seat = v.names.seat;
            slot = v.names.slot;
            lives = other_still v.names.seat v.names.slot a.0 (Committed a.1) v.names.lives (λ e. ne (sym v.object_is ∙ e));
            is = v.names.is;
          };
          object_is = v.object_is;
          time_is = v.time_is;
        },
        a.3,
      ))
      (λ z. inr (z.0, none_uncut_forth f.ring rings on o t z.1))

  held_was : (s j : ℕ) (y : Version) → Lives rings s j y Held → Lives f.ring s j y Held
  held_was = all_slots (λ s j z. (y : Version) → z ≡ Live y Held → Lives f.ring s j y Held) (λ y e. absurd (cc)) (λ s j other y e. e)

  heads : HeadIsTop c h head rings
  heads = record {
    held = λ s j y there.
        let was = held_was s j y there in
        put_head m x.object 0 (λ o w. o ≡ y.object → w ≡ link_of s y.position)
        (λ e. absurd (none_holds s j y was (sym e)))
        (λ o ne e. ap (λ (p : ℕ). m (Head p)) e ∙ k.head_is_top.held s j y was)
        y.object refl;
    top = put_head m x.object 0 (λ o w. NoneHolds rings o → IsTop rings o (latest c.base h o) w)
        (λ none. inr (refl, none_uncut))
        (λ o ne none. top_still o (latest c.base h o) (m (Head o)) ne (k.head_is_top.top o (none_holds_back f.ring rings or_cut o none)));
  }

  links : HeldLink c h rings
  links s j y there =
      let was = held_was s j y there in
      top_still y.object (latest c.base h y.object) y.previous (none_holds s j y was) (k.held_link s j y was)

  -- no later write of the object lies above it
  none_above : (s j : ℕ) (y : Version) (o : CommitNote) → Lives f.ring s j y (Committed o) → y.object ≡ x.object
      → latest_at c.base h y.object (o.time - 1) ≡ note.time → ⊥
  none_above s j y o there same at =
      let w = version_writes c h f.ring k.write_sets s j y o there in
      let top : o.time ≤ last = latest-reaches c.base h x.object o.time w.0 w.1 (ap (λ (p : ℕ). writes_to p w.0) (sym same) ∙ w.2) in
      let low = (commit_within c h f.ring k.write_sets s j y o there).0 in
      let below = latest_at-le c.base h y.object (o.time - 1) (omega arith) in
      let is = is_last in
      omega arith

  commit_links : CommitLink c h rings
  commit_links s j y o there =
      let b = committed_back f.ring rings on s j y o there in
      let r = subst (λ (t : ℕ). LinksBelow f.ring y (latest_at c.base h y.object (t - 1))) (sym b.2) (k.commit_link s j y b.0 b.1) in
      let t : ℕ = latest_at c.base h y.object (o.time - 1) in record {
        uncut = λ link z q v uncut. let w = version_back f.ring rings on y.object t link z q v in r.uncut link z w.0 w.1 (uncut_back w.0 q w.2 uncut);
        cut = λ link z q v cut.
            ⊎_elim
            (λ a.
            let at : t ≡ note.time = sym v.time_is ∙ ap (λ (p : CommitNote). p.time) a.3 in
            let same : y.object ≡ x.object = sym v.object_is ∙ ap (λ (p : Version). p.object) a.2 in
            absurd (none_above s j y b.0 b.1 same (subst (λ (u : ℕ). latest_at c.base h y.object (u - 1) ≡ note.time) b.2 at)))
            (λ was. r.cut link z q
            (record { names = record { seat = v.names.seat; slot = v.names.slot; lives = was; is = v.names.is }; object_is = v.object_is; time_is = v.time_is })
            cut)
            (committed_was v.names.seat v.names.slot z q v.names.lives);
        none = λ none.
            ⊎_elim (λ a. inl a) (λ g. inr (gone_forth LivesOn on_place f.ring rings on y.previous g))
            (r.none (λ link z q v. let w = version_forth f.ring rings on y.object t link z q v in none link z w.0 w.1));
      }

  -- the master has the present state
  is_present : AreThe (master x.object) (words_of c start h (c.base + length h) x.object)
  is_present i lt =
      let co = k.write_sets.commit n slot x note lives in
      let ended : latest_at c.base h x.object (c.base + length h) ≡ last = latest_at-end c.base h x.object (c.base + length h) (omega arith) in
      let is = is_last in
      let same : words_of c start h (c.base + length h) x.object ≡ x.words =
      words_of-same c start h note.time (c.base + length h) x.object (let le = latest-le c.base h x.object in omega arith) (omega arith) ∙
      version-words c start h k.history.legal f.ring n x note co in
      words i lt ∙ ap (λ (l : List ℕ). slice_index l i) (sym same)

  masters : PresentMaster c start h master f.time rings
  masters o none =
      dite (ℕ_discrete o x.object)
      (λ e. subst (λ (p : ℕ). AreThe (master p) (words_of c start h (c.base + length h) p) × NotAboveAny (latest c.base h p) f.time) (sym e)
      (is_present, subst (λ (t : ℕ). NotAboveAny t f.time) is_last old))
      (λ ne. k.present_master o (λ link y q v. none link y q (record {
        names = record {
          seat = v.names.seat;
          slot = v.names.slot;
          lives = other_still v.names.seat v.names.slot y (Committed q) v.names.lives (λ e. ne (sym v.object_is ∙ e));
          is = v.names.is;
        };
        object_is = v.object_is;
        time_is = v.time_is;
      })))

  cut_old : CutIsOld f.time rings
  cut_old s j y o there cut =
      ⊎_elim
      (λ a. subst (λ (q : CommitNote). NotAboveAny q.time f.time) (sym a.3) old)
      (λ was. k.cut_is_old s j y o was cut)
      (committed_was s j y o there)

  backs : WriteBacks c h master f.section f.time f.clocks f.grace f.back rings
  backs s b e =
      let r = k.write_back s b e in
      let w = r.2 in
      let i : ℕ = index_of c b.position in
      let q = committed_forth f.ring rings on s i w.version w.note w.lives in
      let uncut : b.tried ≡ false → q.0.cut ≡ false = λ untried.
      ⊎_elim
      (λ a. let all = tried b (ap f.back (sym a.0) ∙ e) in let clash : true ≡ false = sym all ∙ untried in absurd (cc))
      (λ was.
      let one = live_once (slot_at (f.ring s) i) w.version w.version (Committed w.note) (Committed q.0) w.lives was in
      ap (λ (p : CommitNote). p.cut) (sym (note_once w.note q.0 one.1)) ∙ w.uncut untried)
      (committed_was s i w.version q.0 q.1) in
      let old = subst (λ (t : ℕ). NotAboveAny t f.time) (sym q.2) w.old in
      let known = subst (λ (t : ℕ). t ≤ f.grace s) (sym q.2) w.known in
      let nothing = set.nothing_match c h f.ring rings on s w.nothing in
      (r.0, r.1, same_back w q.0 w.helped nothing q.1 old known (w.last ∙ sym q.2) uncut w.words)

  words_after : SlotWords (λ s j. m (First s j)) (λ s j. m (Prev s j)) (λ s j i. m (Data s j i)) rings
  words_after = all_slots (λ s j z. HoldsSlot (m (First s j)) (m (Prev s j)) (λ i. m (Data s j i)) z)
      (subst (HoldsSlot (m (First n slot)) (m (Prev n slot)) (λ i. m (Data n slot i))) lives (k.slot_words n slot))
      (λ s j other. k.slot_words s j)

  -- all facts after the exchange
  pub cut_facts : Facts starts allows c start (put m (Head x.object) 0) h (changed f n (record unchanged { ring = Some cut_ring }))
  cut_facts =
      let stays = in_place_put f.ring n slot cut_ring x x (Committed note) (Committed new) lives refl in
      let same_death = match_weaker Cuts SameDeath f.ring rings (λ y st z su a. a.0.0) matches in
      let same_notes = match_weaker Cuts SameNotes f.ring rings (λ y st z su a. a.0) matches in
      let in_place = in_place_facts k rings on stays in
      let or_cut_kept = alike_or_cut_facts k rings (λ s j. m (Stamp s j)) (λ s j y st l. refl) (λ s j p used apart. apart) or_cut in
      let same_death_kept = same_death_facts k rings same_death in
      let flags = flags_match k rings (λ s j. m (Super s j)) (λ s j y st l. refl) same_notes in
      assumption (words_after, heads, links, commit_links, masters, cut_old, backs, in_place, or_cut_kept, same_death_kept, flags, k)

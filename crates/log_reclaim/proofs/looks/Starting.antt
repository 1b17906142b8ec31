-- A write-back starts: what its steps ask is so, and what they leave where HEAD names the version, and where it doesn't.
use Rattle.std.proofs.Common.{◌≡◌, ◌≢◌, ℕ, ◌-◌, ◌<◌, ◌≤◌, ◌^◌, Bool, false, cond, List, length, refl, sym, ap}
use Rattle.std.proofs.Common.{◌∙◌, subst, ⊎_elim, inl, arith, Option, Some, None, Result, Err, Ok, slice_get}
use Rattle.std.proofs.Math.Logic.{∥∥₁_elim}
use Rattle.std.proofs.Math.Bridge.{le_prop}
use Rattle.std.proofs.lemmas.Bool.{ne_eqb}
use mathlib.Core.Logic.{dite}
use native.Mathlib.Decide.{ℕ_discrete}
use Rattle.mv_history.specs.State.{State, Writes}
use Rattle.mv_layout.specs.declared.Config.{Config}
use Rattle.mv_layout.specs.Words.{link_of, link_seat_of, link_position_of}
use Rattle.mv_layout.proofs.Unpacking.{link_seat_back, link_position_back}
use Rattle.seat_log.specs.mv_core.declared.ring.Slot.TheVariants.{Live}
use Rattle.seat_log.specs.mv_core.declared.ring.WriteSetStatus.TheVariants.{Held, Committed}
use Rattle.seat_log.specs.mv_core.declared.ring.CommitNote.{CommitNote}
use Rattle.seat_log.specs.mv_core.declared.ring.Version.{Version}
use Rattle.seat_log.specs.mv_core.declared.view.Knowledge.{Knowledge}
use Rattle.seat_log.specs.mv_core.declared.view.OwnSection.{OwnSection}
use Rattle.seat_log.specs.mv_core.declared.view.WalkStage.TheVariants.{At, Master}
use Rattle.seat_log.specs.mv_core.declared.view.Stand.{Stand}
use Rattle.seat_log.specs.mv_core.declared.view.Passed.TheVariants.{Nothing}
use Rattle.seat_log.specs.mv_core.Rings.{slot_at, index_of}
use Rattle.seat_log.specs.mv_core.Times.{latest}
use Rattle.seat_log.specs.mv_core.EnterSteps.{mark_cleared}
use Rattle.seat_log.specs.mv_core.Tops.{IsNewer}
use Rattle.seat_log.specs.mv_core.WalkSteps.{slot_named, IsLinkOf, IsOwnTop, IsOwnLink, IsLastOwn, IsLastSeen, IsWalking, MayLoadHead, stand_at, head_loaded}
use Rattle.seat_log.specs.mv_core.Known.{Known}
use Rattle.seat_log.proofs.mv_core_lemmas.history.Latest.{latest_at-latest}
use Rattle.seat_log.proofs.mv_core_lemmas.logs.Links.{link_some, live_once, note_once}
use Rattle.seat_log.specs.reader_marks.declared.scanning.Watermark.{Watermark}
use Rattle.seat_log.specs.reader_marks.Sections.{Begins, IsOpen, inside_of, section_in}
use Rattle.seat_log.specs.declared.version.Note.{Note}
use Rattle.seat_log.specs.Notes.{Noted, IsNoteAt, IsLog}
use Rattle.seat_log.specs.Stands.{version_of, Stands}
use Rattle.seat_log.proofs.Places.{get_within}
use Rattle.seat_log.proofs.PlainSteps.{stands_entered}
use Rattle.seat_log.proofs.Retired.{committed_at}
use Rattle.seat_log.proofs.NotedSlots.{noted_in}
use Rattle.log_reclaim.specs.declared.writing_back.StartedWriteBack.{StartedWriteBack}
use Rattle.log_reclaim.specs.declared.writing_back.NoBack.{NoBack}
use Rattle.log_reclaim.specs.declared.writing_back.NoBack.TheVariants.{Young, Gone, Above}
use Rattle.log_reclaim.specs.Backs.{IsCommitted, IsWriting, HasLooked, LeavesAt, HasLater, StartsSo}

-- the note of a place is one
note_once_at : (l : Noted) (i j : ℕ) (x n : Note) → IsNoteAt l i x → IsNoteAt l j n → i ≡ j → x ≡ n
note_once_at l i j x n a b e = let one : Some x ≡ Some n = sym a ∙ ap (slice_get l.live) e ∙ b in cc

-- the note that is as far from the oldest as the position is that of the version
pub same_note : (l : Noted) (position : ℕ) (oldest x n : Note) → IsLog l → IsCommitted l position n → IsNoteAt l 0 oldest
    → IsNoteAt l (position - oldest.position) x → x ≡ n
same_note l position oldest x n log live first there =
    let low = live.from in
    let base = log.notes.position 0 oldest first in
    note_once_at l (position - oldest.position) (position - l.freed) x n there live.at (omega arith)

-- its position is that one, and in range
pub place_is : (l : Noted) (position : ℕ) (n : Note) → IsLog l → IsCommitted l position n → (n.position ≡ position) × (position < 2 ^ 57)
place_is l position n log live =
    let low = live.from in
    let at = log.notes.position (position - l.freed) n live.at in
    let within = get_within l.live (position - l.freed) n live.at in
    let small = log.positions in
    (omega arith, omega arith)

-- the place of a version is as far from the oldest as its position
pub some_live : (l : Noted) (position : ℕ) (n : Note) → IsCommitted l position n → 0 < length l.live
some_live l position n live = let within = get_within l.live (position - l.freed) n live.at in omega arith

pub place_from : (l : Noted) (position : ℕ) (n : Note) → IsLog l → IsCommitted l position n → (oldest : Note) → IsNoteAt l 0 oldest
    → (oldest.position ≤ position) × (position - oldest.position < length l.live) × (length l.live ≤ 4096)
place_from l position n log live oldest first =
    let low = live.from in
    let within = get_within l.live (position - l.freed) n live.at in
    let base = log.notes.position 0 oldest first in
    let room = log.room in
    let slots = log.slots in
    (omega arith, omega arith, omega arith)

pub place_small : (place live : ℕ) → place < live → live ≤ 4096 → place < 4294967296
place_small place live within few = omega arith

-- the seat's number is small
pub seat_small : (c : Config) (v e w : Knowledge) (l : Noted) (time object link seat : ℕ) (inside : OwnSection) → Stands c v l → Begins c v e time
    → w ≡ head_loaded c e inside object link → seat ≡ w.number → seat < 64
seat_small c v e w l time object link seat inside k b head is =
    let first = ap (λ (u : Knowledge). u.number) b.rest in
    let then : w.number ≡ e.number = ap (λ (u : Knowledge). u.number) head in
    let own = k.seat in
    let small = k.log.seat in
    omega arith

-- a walk at a link that isn't 0
abbrev stands_on : ℕ → ℕ → Stand
stands_on object link = record { object = object; link = link; first = None; stamp = None; passed = Nothing; late = false }

stands_at : (object link : ℕ) → link ≢ 0 → stand_at object link Nothing false ≡ At (stands_on object link)
stands_at object link some = ap (λ (b : Bool). cond b (Master object) (At (stands_on object link))) (ne_eqb link 0 some)

-- where there can be no time of death there is none
none_of : (o : Option ℕ) → ((d : ℕ) → o ≢ Some d) → o ≡ None
none_of None none = refl
none_of (Some d) none = absurd (none d refl)

-- the section has begun, in which HEAD is loaded
module _ (c : Config) (v e : Knowledge) (l : Noted) (position : ℕ) (x n : Note) (time : ℕ) (k : Stands c v l) (live : IsCommitted l position n)
    (same : x ≡ n) (b : Begins c v e time) where
  number_is : e.number ≡ v.number
  number_is = ap (λ (u : Knowledge). u.number) b.rest

  section_is : section_in e ≡ b.inside
  section_is = ap inside_of b.phase

  stands : Stands c e l
  stands = stands_entered c v e l time b k

  place : n.position ≡ position
  place = (place_is l position n k.log live).0

  small : position < 2 ^ 57
  small = (place_is l position n k.log live).1

  pub may_look : MayLoadHead e (section_in e)
  may_look = subst (IsWalking e) (sym section_is) (record { phase = b.phase; open_is = b.open_is; helped = b.past_help; no_back = b.no_back })

  pub object_within : (starts : State → Type 0) (allows : List ℕ → State → Writes → Type 0) → ∥ Known starts allows v ∥₁
      → length v.start ≡ c.objects
      → x.object < c.objects
  object_within starts allows known objects =
      let a = committed_at c v l (position - l.freed) n k live.at live.committed in
      let range : n.object < length v.start = ∥∥₁_elim known le_prop (λ s. (s.commits (index_of c n.position) (version_of n) a.0 a.1).in_range) in
      let object_is : x.object ≡ n.object = ap (λ (z : Note). z.object) same in
      omega arith

  -- HEAD was loaded
  module _ (w : Knowledge) (link : ℕ) (view : w ≡ head_loaded c e (section_in e) x.object link) (link_is : IsLinkOf c link) (own : IsOwnTop c e x.object link)
      (newer : IsNewer c e x.object link) where
    looked_is : w ≡ head_loaded c e b.inside n.object link
    looked_is = view ∙ (λ q. head_loaded c e (section_is q) (same q).object link)

    looks : HasLooked c v w n.object link
    looks = record {
      entered = e;
      time = time;
      begins = b;
      looked = looked_is;
      link_is = link_is;
      newer = subst (λ (z : Note). IsNewer c e z.object link) same newer;
    }

    pub open_still : IsOpen w
    open_still = subst IsOpen (sym looked_is) (record { inside = b.inside; phase = b.phase; open_is = b.open_is; nothing = b.nothing })

    -- the link of the version, as the number of the seat then gives it
    pub link_there : (seat word : ℕ) → seat ≡ w.number → word ≡ link_of seat position → word ≡ link_of v.number position
    link_there seat word seat_is is = is ∙ ap (λ (s : ℕ). link_of s position) (seat_is ∙ ap (λ (u : Knowledge). u.number) looked_is ∙ number_is)

    -- it names the version, whose chain then wasn't cut
    module _ (top : link ≡ link_of v.number position) where
      uncut : (committed_at c e l (position - l.freed) n stands live.at live.committed).0.cut ≡ false
      uncut =
          let a = committed_at c e l (position - l.freed) n stands live.at live.committed in
          let some : link ≢ 0 = λ z. link_some v.number position (sym top ∙ z) in
          let there = own some (ap link_seat_of top ∙ link_seat_back v.number position small ∙ sym number_is) in
          let named : link_position_of link ≡ n.position = ap link_position_of top ∙ link_position_back v.number position small ∙ sym place in
          let one =
          live_once (slot_at e.ring (index_of c n.position)) there.0 (version_of n) there.1 (Committed a.0)
          (ap (λ (p : ℕ). slot_at e.ring (index_of c p)) (sym named) ∙ there.2) a.1 in
          ⊎_elim
          (λ held. let clash : Held ≡ Committed a.0 = sym held ∙ one.1 in absurd (cc))
          (λ made. ap (λ (o : CommitNote). o.cut) (note_once a.0 made.0 (sym one.1 ∙ made.1)) ∙ made.2)
          there.4

      -- and it had no time of death, since no later write of its object was seen
      no_death : (starts : State → Type 0) (allows : List ℕ → State → Writes → Type 0) → ∥ Known starts allows e ∥₁ → v.base ≡ c.base
          → IsLastSeen c e x.object link → (committed_at c e l (position - l.freed) n stands live.at live.committed).0.dead ≡ None
      no_death starts allows known base last =
          let a = committed_at c e l (position - l.freed) n stands live.at live.committed in
          let some : link ≢ 0 = λ z. link_some v.number position (sym top ∙ z) in
          let mine : link_seat_of link ≡ e.number = ap link_seat_of top ∙ link_seat_back v.number position small ∙ sym number_is in
          let named : link_position_of link ≡ n.position = ap link_position_of top ∙ link_position_back v.number position small ∙ sym place in
          let seen = last some mine (version_of n) a.0 (ap (λ (p : ℕ). slot_at e.ring (index_of c p)) named ∙ a.1) in
          let object_is : n.object ≡ x.object = ap (λ (z : Note). z.object) (sym same) in
          let base_is : e.base ≡ c.base = ap (λ (u : Knowledge). u.base) b.rest ∙ base in
          let latest_is : latest e.base e.past.seen n.object ≡ latest c.base e.past.seen x.object = (λ q. latest (base_is q) e.past.seen (object_is q)) in
          none_of a.0.dead
          (λ d is.
          let next = λ (r : Known starts allows e). (r.commits (index_of c n.position) (version_of n) a.0 a.1).superseded d uncut is in
          let later : a.0.time < d = ∥∥₁_elim known le_prop (λ r. (next r).later) in
          let reached : d ≤ latest e.base e.past.seen n.object =
          ∥∥₁_elim known le_prop (λ r. let written = (next r).written in let le = latest_at-latest e.base e.past.seen n.object d in omega arith) in
          omega arith)

      writing : n.time ≤ v.grace → x.object < c.objects → (committed_at c e l (position - l.freed) n stands live.at live.committed).0.dead ≡ None
          → IsWriting c w (record { object = x.object; position = position; words = x.words; stored = 0 })
      writing known in_range alive =
          let a = committed_at c e l (position - l.freed) n stands live.at live.committed in
          let some : link ≢ 0 = λ z. link_some v.number position (sym top ∙ z) in
          let grace : e.grace ≡ v.grace = ap (λ (u : Knowledge). u.grace) b.rest in
          let on_time = a.2 in
          let early : a.0.time ≤ e.grace = omega arith in
          let at = place in
          let low = small in
          let object_is : x.object ≡ n.object = ap (λ (z : Note). z.object) same in
          subst (λ (t : Knowledge × StartedWriteBack). IsWriting c t.0 t.1)
          (sym (λ q. (looked_is q, record { object = (same q).object; position = sym place q; words = (same q).words; stored = 0 })))
          (record {
            inside = b.inside;
            phase = b.phase;
            open_is = b.open_is;
            past_help = b.past_help;
            nothing = b.nothing;
            version = version_of n;
            note = a.0;
            own = a.1;
            position_is = refl;
            object_is = refl;
            words_is = refl;
            no_death = alive;
            uncut = uncut;
            known = early;
            in_range = omega arith;
            small = omega arith;
            few = omega arith;
            goes =
                inl (
                  refl,
                  b.no_back,
                  (stands_on n.object link, stands_at n.object link some, refl, top ∙ (λ q. link_of (sym number_is q) (sym place q))),
                  uncut,
                  early,
                );
          })

      pub started : (mark : Watermark) (before after : ℕ) → x.time ≤ mark.time → mark.time ≤ v.grace → x.object < c.objects
          → (starts : State → Type 0) (allows : List ℕ → State → Writes → Type 0) → ∥ Known starts allows e ∥₁ → v.base ≡ c.base
          → IsLastSeen c e x.object link
          → StartsSo c v w l n mark before after (Ok (record { object = x.object; position = position; words = x.words; stored = 0 }))
      started mark before after early known in_range starts allows knows base last =
          let time_is : x.time ≡ n.time = ap (λ (z : Note). z.time) same in
          let le : n.time ≤ v.grace = omega arith in
          let low : n.time ≤ mark.time = omega arith in (
            low,
            subst (HasLooked c v w n.object) (top ∙ ap (link_of v.number) (sym place)) looks,
            writing le in_range (no_death starts allows knows base last),
            (λ q. record { object = (same q).object; position = sym place q; words = (same q).words; stored = 0 }),
          )

    -- it names another one, or is 0, and the section was left
    module _ (y : Knowledge) (left : y ≡ mark_cleared c w) (other : link ≢ link_of v.number position) (own_link : IsOwnLink c e link)
        (last : IsLastOwn c e x.object link) where
      not_this : link ≢ link_of v.number n.position
      not_this z = other (z ∙ ap (link_of v.number) place)

      leaves : LeavesAt c v y n link
      leaves = record { other = not_this; inside = w; looked = looks; left = left }

      -- where it names an own one, that is a later commit of the object
      has_later : link ≢ 0 → link_seat_of link ≡ v.number → HasLater l n
      has_later some seat =
          let a = committed_at c e l (position - l.freed) n stands live.at live.committed in
          let mine : link_seat_of link ≡ e.number = seat ∙ sym number_is in
          let there = own some mine in
          ⊎_elim
          (λ held. absurd (b.nothing (slot_named c link) there.0 (there.2 ∙ ap (Live there.0) held)))
          (λ made.
          let top = there.2 ∙ ap (Live there.0) made.1 in
          let r = noted_in c e l stands (slot_named c link) there.0 (Committed made.0) top in
          let object_is : n.object ≡ x.object = ap (λ (z : Note). z.object) (sym same) in
          let apart : index_of c n.position ≢ slot_named c link =
          λ z.
          not_this (own_link some mine (version_of n) (Committed a.0) (ap (slot_at e.ring) (sym z) ∙ a.1) ∙ ap (λ (s : ℕ). link_of s n.position)
          number_is) in
          let less = last some mine there.0 made.0 top (index_of c n.position) (version_of n) a.0 a.1 object_is apart in
          let time_is = r.as_noted.2 in
          let own_time = a.2 in
          record {
            index = r.index;
            other = r.note;
            at = r.at;
            object_is = ap (λ (z : Version). z.object) (sym r.version_is) ∙ there.3 ∙ sym object_is;
            later = omega arith;
          })
          there.4

      pub not_started : (mark : Watermark) (before after : ℕ) (r : NoBack) → x.time ≤ mark.time → (link ≡ 0 → r ≡ Gone)
          → (link ≢ 0 → r ≡ Above (link_seat_of link)) → StartsSo c v y l n mark before after (Err r)
      not_started mark before after r early gone above =
          let time_is : x.time ≡ n.time = ap (λ (z : Note). z.time) same in
          let low : n.time ≤ mark.time = omega arith in
          dite (ℕ_discrete link 0)
          (λ z. subst (λ (s : NoBack). StartsSo c v y l n mark before after (Err s)) (sym (gone z)) (low, subst (LeavesAt c v y n) z leaves))
          (λ some.
          subst (λ (s : NoBack). StartsSo c v y l n mark before after (Err s)) (sym (above some))
          (low, link, leaves, record { some = some; seat_is = refl; in_range = (link_is some).1; own = has_later some }))

-- a write-back that started, or found another link, isn't too young
pub ok_young : {A : Type 0} (back : StartedWriteBack) → ◌≡◌ {A = Result StartedWriteBack NoBack} (Ok back) (Err Young) → A
ok_young back e = absurd (cc)

pub top_young : {A : Type 0} (link : ℕ) (r : NoBack) → (link ≡ 0 → r ≡ Gone) → (link ≢ 0 → r ≡ Above (link_seat_of link))
    → ◌≡◌ {A = Result StartedWriteBack NoBack} (Err r) (Err Young) → A
top_young link r gone above e =
    let young : r ≡ Young = cc in
    dite (ℕ_discrete link 0) (λ z. let clash : Gone ≡ Young = sym (gone z) ∙ young in absurd (cc))
    (λ some. let clash : Above (link_seat_of link) ≡ Young = sym (above some) ∙ young in absurd (cc))

-- compare_exchange HEAD (cut), won and lost: it ends the writing of words, and is tried once.
use Rattle.std.proofs.Common.{◌≡◌, ◌≢◌, ℕ, ◌-◌, ◌<◌, true, false, List, refl, sym, ap, ◌∙◌, subst, slice_index, Option, Some, None}
use Rattle.mv_core.proofs.Terms.{Entry, State, Writes, Config, Head, Master, link_of, Memory, put, Ring, Live, Version, Committed, CommitNote, Knowledge}
use Rattle.mv_core.proofs.Terms.{OwnSection}
use Rattle.mv_core.proofs.Terms.{WriteBack, slot_at, index_of, put_slot, is_held, held_count, Lives, ViewParts, parts_of, set_at, NotAboveAny}
use Rattle.mv_core.specs.declared.view.WalkStage.TheVariants.{Nowhere}
use Rattle.mv_core.specs.WalkSteps.{IsLinkOf}
use Rattle.mv_core.proofs.FactTerms.{IsWrittenBack, WriteBacks, RunsOn, Facts, Swaps, IsKept}
use Rattle.mv_core.specs.ReclaimSteps.{MayCutHead, head_cut, cut_lost, CutTold, IsOfOther}
use Rattle.mv_core.specs.Tops.{NamesNewer}
use Rattle.mv_core.proofs.frames.FrameLaw.{set_at_here, set_at_all, unchanged, changed, settle}
use Rattle.mv_core.proofs.logs.Links.{live_once, note_once}
use Rattle.mv_core.proofs.logs.Slots.{live_within}
use Rattle.mv_core.proofs.logs.NewerTops.{newer_top}
use Rattle.mv_core.proofs.logs.Counts.{held_same}
use Rattle.mv_core.proofs.kinds.walking.EmptyHeads.{time_of_section}
use Rattle.mv_core.proofs.kinds.walking.WalkOn.{head_link}
use Rattle.mv_core.proofs.kinds.reclaiming.cut_head.CutWon.{cut_facts}
use Rattle.mv_core.proofs.kinds.reclaiming.cut_head.LostCut.{lost_other}

module _ {starts : State → Type 0} {allows : List ℕ → State → Writes → Type 0} {c : Config} {start : State} {m : Memory} {h : List Entry} {f : ViewParts}
    (k : Facts starts allows c start m h f)
    (n : ℕ) (b : WriteBack) (at : f.back n ≡ Some b) where
  abbrev pub tried : WriteBack
  tried = record b { tried = true }

  abbrev BackIs : ℕ → Option WriteBack → Type 0
  BackIs s u = (d : WriteBack) → u ≡ Some d → (i : OwnSection) × (f.section s ≡ Some i) × IsWrittenBack c h
      (λ o i. m (Master o i)) f.time f.ring s (f.clocks s) (f.grace s) d i

  own_tried : (i : OwnSection) × (f.section n ≡ Some i) × IsWrittenBack c h (λ o i. m (Master o i)) f.time f.ring n (f.clocks n) (f.grace n) tried i
  own_tried =
      let r = k.write_back n b at in
      let w = r.2 in (
        r.0,
        r.1,
        record {
          mode = w.mode;
          helped = w.helped;
          nothing = w.nothing;
          version = w.version;
          note = w.note;
          lives = w.lives;
          position_is = w.position_is;
          object_is = w.object_is;
          old = w.old;
          known = w.known;
          last = w.last;
          some_stored = w.some_stored;
          uncut = λ (e : true ≡ false). absurd (cc);
          words = λ (e : true ≡ false). absurd (cc);
        },
      )

  backs : WriteBacks c h (λ o i. m (Master o i)) f.section f.time f.clocks f.grace (set_at f.back n (Some tried)) f.ring
  backs =
      set_at_all BackIs f.back n (Some tried)
      (λ d e. let same : tried ≡ d = cc in subst (λ (u : WriteBack). (i : OwnSection) × (f.section n ≡ Some i) × IsWrittenBack c h
      (λ o i. m (Master o i)) f.time f.ring n (f.clocks n) (f.grace n) u i) same own_tried)
      (λ s ne. k.write_back s)

  -- all facts once the exchange was tried
  pub tried_facts : Facts starts allows c start m h (changed f n (record unchanged { back = Some (Some tried) }))
  tried_facts =
      let outside = set_at_all (λ s d. f.time s ≡ None → (f.walk s ≡ Nowhere) × (d ≡ None)) f.back n (Some tried)
      (λ none. let clash : Some b ≡ None = sym at ∙ (k.phases_and_scan.outside n none).1 in absurd (cc))
      (λ s ne. k.phases_and_scan.outside s) in
      assumption (backs, outside, k)

module _ (starts : State → Type 0) (allows : List ℕ → State → Writes → Type 0) (c : Config) (start : State) (v : Knowledge) (object position : ℕ) (x : Version)
    (note : CommitNote) (may : MayCutHead c v object position x note) where
  abbrev back : WriteBack
  back = record { object = object; position = position; stored = 6; tried = false }

  abbrev slot : ℕ
  slot = index_of c position

  module _ (m : Memory) (h : List Entry) (seats : ℕ → Knowledge) (k : Facts starts allows c start m h (parts_of seats)) (is : seats v.number ≡ v) where
    abbrev n : ℕ
    n = v.number

    abbrev f : ViewParts
    f = parts_of seats

    at : f.back n ≡ Some back
    at = ap (λ (u : Knowledge). u.back) is ∙ may.back

    lives : Lives f.ring n slot x (Committed note)
    lives = ap (λ (u : Knowledge). slot_at u.ring slot) is ∙ may.own

    abbrev more : ViewParts
    more = changed f n (record unchanged { back = Some (Some (tried k n back at)) })

    -- what is written back is that version
    written : (i : OwnSection) × (f.section n ≡ Some i) × (w : IsWrittenBack c h (λ o i. m (Master o i)) f.time f.ring n (f.clocks n) (f.grace n) back i)
        × (w.version ≡ x) × (w.note ≡ note)
    written =
        let r = k.write_back n back at in
        let one = live_once (slot_at (f.ring n) slot) r.2.version x (Committed r.2.note) (Committed note) r.2.lives lives in
        (r.0, r.1, r.2, one.0, note_once r.2.note note one.1)

    pub cut_stored : m (Head object) ≡ link_of n position
        → Facts starts allows c start (put m (Head object) 0) h (parts_of (set_at seats n (head_cut c v object position x note)))
    cut_stored won =
        let r = written in
        let w = r.2 in
        let place : x.position ≡ position = ap (λ (y : Version). y.position) (sym r.3) ∙ w.position_is in
        let object_is : x.object ≡ object = ap (λ (y : Version). y.object) (sym r.3) ∙ w.object_is in
        let all = cut_facts (tried_facts k n back at) n slot x note lives
        (ap (λ (o : ℕ). m (Head o)) object_is ∙ won ∙ ap (link_of n) (sym place))
        (subst (λ (o : CommitNote). NotAboveAny o.time f.time) r.4 w.old)
        (λ i lt. ap (λ (o : ℕ). m (Master o i)) object_is ∙ w.words refl i lt ∙ ap (λ (y : Version). slice_index y.words i) r.3)
        (λ b e. let same : Some (tried k n back at) ≡ Some b =
        sym (set_at_here f.back n (Some (tried k n back at))) ∙ e in let one : tried k n back at ≡ b =
        cc in ap (λ (d : WriteBack). d.tried) (sym one)) in
        let ring : (seats n).ring ≡ v.ring = ap (λ (y : Knowledge). y.ring) is in
        settle starts allows c start (put m (Head object) 0) h seats n v (head_cut c v object position x note) is
        (record unchanged
        { back = Some (Some (tried k n back at)); ring = Some (put_slot (seats n).ring slot (Live x (Committed (record note { cut = true })))) }) (
          refl,
          refl,
          refl,
          refl,
          refl,
          refl,
          refl,
          ap (λ (r : Ring). put_slot r slot (Live x (Committed (record note { cut = true })))) (sym ring),
          refl,
          refl,
          refl,
        )
        (subst (λ (o : ℕ). Facts starts allows c start (put m (Head o) 0) h
        (changed more n (record unchanged { ring = Some (put_slot (seats n).ring slot (Live x (Committed (record note { cut = true })))) }))) object_is all)

    pub lost_stored : Facts starts allows c start m h (parts_of (set_at seats n (cut_lost c v object position (m (Head object)))))
    lost_stored =
        settle starts allows c start m h seats n v (cut_lost c v object position (m (Head object))) is
        (record unchanged { back = Some (Some (tried k n back at)) })
        (refl, refl, refl, refl, refl, refl, refl, refl, refl, refl, refl)
        (tried_facts k n back at)

    found_link : IsLinkOf c (m (Head object))
    found_link = let r = written in head_link k n (f.clocks n) r.0 (time_of_section (seats n).phase r.0 r.1) r.2.helped object

    found_other : m (Head object) ≢ link_of n position → IsOfOther v (m (Head object))
    found_other = let r = written in lost_other seats k v is back r.0 r.1 r.2 refl

  -- what the pass has at run time stays
  cut_runs : RunsOn v (head_cut c v object position x note)
  cut_runs time first a begun =
      let cut = Live x (Committed (record note { cut = true })) in
      let held : held_count (put_slot v.ring slot cut) ≡ held_count v.ring =
      held_same v.ring slot cut (live_within v.ring slot x (Committed note) may.own) (sym (ap is_held may.own)) in
      (a, λ i e mode some_held. begun i e mode (subst (λ (y : ℕ). 0 < y) held some_held) ∙ ap (λ (y : ℕ). v.ring.next - y) (sym held))

  cut_swaps_from : Swaps starts allows c start v (Head object) (link_of v.number position) 0 (λ found w. ((CutTold c v object position x note found w
      × (found ≢ link_of v.number position → IsLinkOf c found) × (found ≢ link_of v.number position → IsOfOther v found)
      × (found ≢ link_of v.number position → NamesNewer c v object found)) × RunsOn v w) × IsKept v w)
  cut_swaps_from = (
    (λ m h seats k is own begins won. (
      head_cut c v object position x note,
      h,
      cut_stored m h seats k is won,
      (
        ((((λ _. refl), (λ ne. absurd (ne refl))), (λ ne. absurd (ne refl)), (λ ne. absurd (ne refl)), (λ ne. absurd (ne refl))), cut_runs),
        (refl, refl, refl, refl, refl, refl),
      ),
    )),
    (λ m h seats k is own begins lost wide. (
      cut_lost c v object position (m (Head object)),
      lost_stored m h seats k is,
      (
        (
          (
            ((λ e. absurd (lost e)), (λ _. refl)),
            (λ _. found_link m h seats k is),
            found_other m h seats k is,
            (λ ne. let o = found_other m h seats k is ne in newer_top seats k v is begins object o.0 o.1),
          ),
          (λ t i a b. (a, b)),
        ),
        (refl, refl, refl, refl, refl, refl),
      ),
    )),
  )

  pub cut_swaps : (link : ℕ) → link ≡ link_of v.number position
      → Swaps starts allows c start v (Head object) link 0 (λ found w. ((CutTold c v object position x note found w
      × (found ≢ link_of v.number position → IsLinkOf c found) × (found ≢ link_of v.number position → IsOfOther v found)
      × (found ≢ link_of v.number position → NamesNewer c v object found)) × RunsOn v w) × IsKept v w)
  cut_swaps link e = subst (λ (g : ℕ). Swaps starts allows c start v (Head object) g 0
      (λ found w. ((CutTold c v object position x note found w × (found ≢ link_of v.number position → IsLinkOf c found) ×
      (found ≢ link_of v.number position → IsOfOther v found)
      × (found ≢ link_of v.number position → NamesNewer c v object found)) × RunsOn v w) × IsKept v w)) (sym e) cut_swaps_from

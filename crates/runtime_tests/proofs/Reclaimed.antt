-- Where rounds, tidies and the parts of a write-back leave a client.
use Rattle.std.proofs.Common.{◌≡◌, ℕ, ◌<◌, [], ◌∷◌, refl, sym, ap, ◌∙◌, subst, arith, Some, None, Err}
use Rattle.std.specs.Prelude.{slice_index}
use Rattle.mv_history.specs.declared.Step.{Step}
use Rattle.mv_history.specs.declared.StepKind.TheVariants.{ClearMark, StoreMaster}
use Rattle.mv_layout.specs.declared.Config.{Config}
use Rattle.mv_layout.specs.declared.SharedWord.TheVariants.{Mark, Master}
use Rattle.mv_layout.specs.Places.{place_of}
use Rattle.mv_core.specs.declared.view.Knowledge.{Knowledge}
use Rattle.mv_core.specs.EnterSteps.{mark_cleared}
use Rattle.reader_marks.specs.declared.scanning.Watermark.{Watermark}
use Rattle.seat_log.specs.declared.version.Note.{Note}
use Rattle.seat_log.specs.Notes.{Noted, IsNoteAt}
use Rattle.seat_log.specs.Stands.{Stands}
use Rattle.log_reclaim.specs.declared.writing_back.StartedWriteBack.{StartedWriteBack}
use Rattle.log_reclaim.specs.declared.writing_back.NoBack.{NoBack}
use Rattle.log_reclaim.specs.declared.writing_back.NoBack.TheVariants.{Young, Gone, Above}
use Rattle.log_reclaim.specs.Backs.{IsCommitted, IsWriting, HasLooked, LeavesAt, StartsSo, StoresWord}
use Rattle.log_reclaim.proofs.looks.OneNote.{note_of, note_is, position_is, place_is}
use Rattle.log_reclaim.proofs.Reclaiming.{reclaims_may}
use Rattle.log_reclaim.proofs.looks.Visits.{looked_rest, looked_stands, left_steps, left_makes, left_stands}
use Rattle.seat_log.proofs.PlainSteps.{stands_left, one_leaves}
use Rattle.runtime_tests.specs.Clients.{IsOutside, IsWritingBack}

-- a committed version of the log may be written back
pub may_start : (c : Config) (v : Knowledge) (l : Noted) (index : ℕ) (n : Note) → Stands c v l → IsNoteAt l index n → 0 < n.time
    → IsCommitted l n.position (note_of l n.position)
may_start c v l index n k at committed =
    subst (IsCommitted l n.position) (sym (note_is c v l k index n at))
    (record {
      from = (let p = position_is c v l k index n at in omega arith);
      at = subst (λ i. IsNoteAt l i n) (sym (place_is c v l k index n at)) at;
      committed = committed;
    })

-- a write-back has started
pub back_started : (c : Config) (v w : Knowledge) (l : Noted) (object link : ℕ) (back : StartedWriteBack) → IsOutside c v l → HasLooked c v w object link
    → IsWriting c w back → IsWritingBack c w l
back_started c v w l object link back o looked is = record {
  opened = record { inside = is.inside; phase = is.phase; open_is = is.open_is; nothing = is.nothing };
  between = record {
    no_scan = ap (λ (u : Knowledge). u.scan) (looked_rest c v w object link looked) ∙ o.may.no_scan;
    stands = looked_stands c v w object link looked l o.stands;
    unbuilt = o.unbuilt;
  };
}

-- its section was left at once
back_refused : (c : Config) (v w : Knowledge) (l : Noted) (n : Note) (link : ℕ) → IsOutside c v l → LeavesAt c v w n link → IsOutside c w l
back_refused c v w l n link o a = record {
  may = reclaims_may v w (left_steps c v a.inside n.object link a.looked w a.left) (left_makes c v a.inside n.object link a.looked w a.left o.may).reclaims;
  stands = left_stands c v a.inside n.object link a.looked w a.left l o.stands;
  unbuilt = o.unbuilt;
}

-- none has started
pub back_not_started : (c : Config) (v w : Knowledge) (l : Noted) (n : Note) (mark : Watermark) (before after : ℕ) (cause : NoBack) → IsOutside c v l
    → StartsSo c v w l n mark before after (Err cause) → IsOutside c w l
back_not_started c v w l n mark before after Young o s = subst (λ (u : Knowledge). IsOutside c u l) (sym s.1) o
back_not_started c v w l n mark before after Gone o s = back_refused c v w l n 0 o s.1
back_not_started c v w l n mark before after (Above seat) o s = back_refused c v w l n s.1 o s.2

-- a word of it was stored
pub back_stored : (c : Config) (v w : Knowledge) (l : Noted) (b d : StartedWriteBack) → IsWritingBack c v l → IsWriting c w d → StoresWord c v w b d
    → IsWritingBack c w l
back_stored c v w l b d k is stores =
    let s : Step = record { kind = StoreMaster; word = place_of c (Master b.object b.stored); found = None; stored = Some (slice_index b.words b.stored) } in
    let view = stores.view in
    let e = k.between in
    record {
      opened = record { inside = is.inside; phase = is.phase; open_is = is.open_is; nothing = is.nothing };
      between = record {
        no_scan = ap (λ (u : Knowledge). u.scan) view ∙ e.no_scan;
        stands = stands_left c v w l e.stands (ap (λ (u : Knowledge). u.number) view) (ap (λ (u : Knowledge). u.ring) view)
            (ap (λ (u : Knowledge). u.past.mine) view)
            (ap (λ (u : Knowledge). u.past.rests) view) (s ∷ []) (ap (λ (u : Knowledge). u.trail) view) (one_leaves s (refl, refl));
        unbuilt = e.unbuilt;
      };
    }

-- it was given up, and its section left
pub back_given_up : (c : Config) (v w : Knowledge) (l : Noted) → IsWritingBack c v l → w ≡ mark_cleared c v → IsOutside c w l
back_given_up c v w l k is =
    let s : Step = record { kind = ClearMark; word = place_of c (Mark v.number); found = None; stored = Some 0 } in
    let e = k.between in
    record {
      may = record { outside = ap (λ (u : Knowledge). u.phase) is; no_scan = ap (λ (u : Knowledge). u.scan) is ∙ e.no_scan };
      stands = stands_left c v w l e.stands (ap (λ (u : Knowledge). u.number) is) (ap (λ (u : Knowledge). u.ring) is) (ap (λ (u : Knowledge). u.past.mine) is)
          (ap (λ (u : Knowledge). u.past.rests) is) (s ∷ []) (ap (λ (u : Knowledge). u.trail) is) (one_leaves s (refl, refl));
      unbuilt = e.unbuilt;
    }

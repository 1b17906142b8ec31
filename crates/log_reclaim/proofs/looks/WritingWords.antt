-- A word of a version is written back: what the step asks is so, and the write-back is under way after it.
use Rattle.std.proofs.Common.{◌≡◌, ℕ, ◌+◌, ◌<◌, refl, sym, ap, ◌∙◌, subst, ⊎_elim, inr, arith}
use Rattle.std.specs.Prelude.{slice_index}
use Rattle.mv_layout.specs.declared.Config.{Config}
use Rattle.mv_layout.specs.Words.{link_position_of}
use Rattle.mv_layout.proofs.Unpacking.{link_position_back}
use Rattle.seat_log.specs.mv_core.declared.ring.Slot.TheVariants.{Live}
use Rattle.seat_log.specs.mv_core.declared.ring.Version.{Version}
use Rattle.seat_log.specs.mv_core.declared.ring.WriteSetStatus.TheVariants.{Committed}
use Rattle.seat_log.specs.mv_core.declared.ring.CommitNote.{CommitNote}
use Rattle.seat_log.specs.mv_core.declared.view.Knowledge.{Knowledge}
use Rattle.seat_log.specs.mv_core.declared.view.OwnSection.{OwnSection}
use Rattle.seat_log.specs.mv_core.Rings.{slot_at, index_of}
use Rattle.seat_log.specs.mv_core.ReclaimSteps.{MayStoreMaster, master_stored}
use Rattle.seat_log.specs.reader_marks.Sections.{inside_of}
use Rattle.seat_log.specs.Builds.{version_in, note_in}
use Rattle.log_reclaim.specs.declared.writing_back.StartedWriteBack.{StartedWriteBack}
use Rattle.log_reclaim.specs.Backs.{IsWriting, StoresWord}
use Rattle.log_reclaim.proofs.looks.Picks.{position_of, back_in}

module _ (c : Config) (v : Knowledge) (b : StartedWriteBack) (k : IsWriting c v b) where
  -- the position that the view gives is that of the write-back
  pub position_is : position_of v.back v.walk ≡ b.position
  position_is =
      ⊎_elim
      (λ a. let stand = a.2 in (λ q. position_of (a.1 q) (stand.1 q)) ∙ ap link_position_of stand.3 ∙ link_position_back v.number b.position k.small)
      (λ a. ap (λ o. position_of o v.walk) a.1)
      k.goes

  -- and so is all that it gives
  pub back_is : back_in c v ≡ (b.position, k.version, k.note, k.inside)
  back_is =
      let slot : slot_at v.ring (index_of c (position_of v.back v.walk)) ≡ Live k.version (Committed k.note) =
      ap (λ p. slot_at v.ring (index_of c p)) position_is ∙ k.own in
      let section = ap inside_of k.phase in
      (λ q. (position_is q, version_in (slot q), note_in (slot q), section q))

  -- the next word may be stored
  pub may_store : (value : ℕ) → value ≡ slice_index b.words b.stored → b.stored < 6
      → MayStoreMaster c v b.object b.stored value (back_in c v).0 (back_in c v).1 (back_in c v).2 (back_in c v).3
  may_store value is left =
      subst (λ (t : ℕ × Version × CommitNote × OwnSection). MayStoreMaster c v b.object b.stored value t.0 t.1 t.2 t.3) (sym back_is)
      (record {
        phase = k.phase;
        open_is = k.open_is;
        past_help = k.past_help;
        nothing = k.nothing;
        own = k.own;
        position_is = k.position_is;
        object_is = k.object_is;
        goes = k.goes;
        in_range = left;
        value_is = is ∙ ap (λ ws. slice_index ws b.stored) (sym k.words_is);
      })

  module _ (w : Knowledge) (d : StartedWriteBack) (value : ℕ) (is : value ≡ slice_index b.words b.stored) (left : b.stored < 6)
      (view : w ≡ master_stored c v b.object b.stored value (back_in c v).0) (more : d ≡ record b { stored = b.stored + 1 }) where
    -- the view after it
    pub stores_word : StoresWord c v w b d
    stores_word = record { view = view ∙ (λ q. master_stored c v b.object b.stored (is q) (position_is q)); back = more }

    -- the write-back goes on
    pub writing_on : IsWriting c w d
    writing_on =
        let next : StartedWriteBack = record b { stored = b.stored + 1 } in
        subst (λ (t : Knowledge × StartedWriteBack). IsWriting c t.0 t.1) (sym (λ q. (stores_word.view q, more q)))
        (record {
          inside = k.inside;
          phase = k.phase;
          open_is = k.open_is;
          past_help = k.past_help;
          nothing = k.nothing;
          version = k.version;
          note = k.note;
          own = k.own;
          position_is = k.position_is;
          object_is = k.object_is;
          words_is = k.words_is;
          no_death = k.no_death;
          uncut = k.uncut;
          known = k.known;
          in_range = k.in_range;
          small = k.small;
          few = omega arith;
          goes = inr (omega arith, refl);
        })

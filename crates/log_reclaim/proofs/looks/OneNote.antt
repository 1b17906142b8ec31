-- The note of one version, as looking at it finds it: a version without a time of death is committed, and its calls are of that note.
use Rattle.std.proofs.Common.{◌≡◌, ℕ, ◌+◌, ◌-◌, ◌<◌, nat_le, Bool, false, List, [], refl, sym, ap, ◌∙◌, subst, arith, Some, slice_get}
use Rattle.std.proofs.Math.Logic.{∥∥₁_elim}
use Rattle.std.specs.Prelude.{unwrap_or}
use Rattle.mv_history.specs.State.{State, Writes}
use Rattle.mv_layout.specs.declared.Config.{Config}
use Rattle.seat_log.specs.mv_core.declared.ring.Slot.TheVariants.{Live}
use Rattle.seat_log.specs.mv_core.declared.ring.WriteSetStatus.{WriteSetStatus}
use Rattle.seat_log.specs.mv_core.declared.ring.WriteSetStatus.TheVariants.{Held, Aborted, Committed}
use Rattle.seat_log.specs.mv_core.declared.view.Knowledge.{Knowledge}
use Rattle.seat_log.specs.mv_core.declared.view.Phase.TheVariants.{Outside}
use Rattle.seat_log.specs.mv_core.Rings.{slot_at, index_of}
use Rattle.seat_log.specs.mv_core.EnterSteps.{MayLoadLow}
use Rattle.seat_log.specs.mv_core.Known.{Known}
use Rattle.seat_log.specs.reader_marks.declared.scanning.Watermark.{Watermark}
use Rattle.seat_log.specs.reader_marks.Scans.{IsKnown}
use Rattle.seat_log.specs.declared.version.Note.{Note}
use Rattle.seat_log.specs.Notes.{Noted, held_from, IsNoteAt}
use Rattle.seat_log.specs.Stands.{version_of, IsAsNoted, Stands}
use Rattle.log_reclaim.specs.declared.settling.WriteBackSeen.{WriteBackSeen}
use Rattle.log_reclaim.specs.Tries.{IsUntimed, LoadsSuper, TriesOne}
use Rattle.log_reclaim.proofs.Reclaiming.{reclaims_may}

-- a note, where a log has none
abbrev no_note : Note
no_note = record { position = 0; first = 0; object = 0; previous = 0; words = []; time = 0; dead = 0 }

-- the note of a position
abbrev pub note_of : Noted → ℕ → Note
note_of l position = unwrap_or (slice_get l.live (position - l.freed)) no_note

nothing_once : IsProp ⊥
nothing_once = λ a b. absurd a

module _ (c : Config) (v : Knowledge) (l : Noted) (k : Stands c v l) (index : ℕ) (n : Note) (at : IsNoteAt l index n) where
  pub position_is : n.position ≡ l.freed + index
  position_is = k.log.notes.position index n at

  pub place_is : n.position - l.freed ≡ index
  place_is = let p = position_is in omega arith

  -- the note of its position is this one
  pub note_is : note_of l n.position ≡ n
  note_is = ap (λ i. unwrap_or (slice_get l.live i) no_note) place_is ∙ ap (λ o. unwrap_or o no_note) at

  -- it is the one note there
  pub one_note : (other : Note) → IsNoteAt l index other → other ≡ n
  one_note other is = let e : Some other ≡ Some n = sym is ∙ at in cc

  -- the call of a load of SUPER is of this note
  pub loads_is : (u : Knowledge) (m : Noted) (found : Bool) → LoadsSuper c v u l m (note_of l n.position) found → LoadsSuper c v u l m n found
  loads_is u m found loads = subst (λ (x : Note). LoadsSuper c v u l m x found) note_is loads

  -- where it found 0 the log is the same
  pub log_same : (u : Knowledge) (m : Noted) → LoadsSuper c v u l m n false → m ≡ l
  log_same u m loads = (loads.none refl).1

  -- and the next call is of this note too
  pub note_same : (m : Noted) → m ≡ l → note_of m n.position ≡ n
  note_same m same = ap (λ z. note_of z n.position) same ∙ note_is

  pub tries_is : (u w : Knowledge) (m z : Noted) (mark : Watermark) (tried : WriteBackSeen) → m ≡ l → TriesOne c u w m z (note_of m n.position) mark tried
      → TriesOne c u w l z n mark tried
  tries_is u w m z mark tried same t =
      subst (λ (y : Noted). TriesOne c u w y z n mark tried) same (subst (λ (x : Note). TriesOne c u w m z x mark tried) (note_same m same) t)

  -- what that call needs of the view
  pub may_try : (u : Knowledge) (m : Noted) (found : Bool) → LoadsSuper c v u l m n found → MayLoadLow u
  may_try u m found loads = reclaims_may v u _ loads.makes.reclaims

  pub knows_still : (u : Knowledge) (m : Noted) (found : Bool) (mark : Watermark) → LoadsSuper c v u l m n found → IsKnown v mark → IsKnown u mark
  knows_still u m found mark loads is = let same = loads.grace in omega arith

  module _ (starts : State → Type 0) (allows : List ℕ → State → Writes → Type 0) (known : ∥ Known starts allows v ∥₁) (out : v.phase ≡ Outside) where
    -- outside a section a version without a time of death is committed
    pub committed : n.dead ≡ 0 → 0 < n.time
    committed none = let h = k.live index n at in go h.status h.lives h.as_noted
      where
        go : (st : WriteSetStatus) → slot_at v.ring (index_of c (l.freed + index)) ≡ Live (version_of n) st → IsAsNoted (nat_le (held_from l) index) n st
            → 0 < n.time
        go Held lives a = absurd (∥∥₁_elim known nothing_once (λ f. f.idle out (index_of c (l.freed + index)) (version_of n) lives))
        go (Aborted dead) lives a = let some = a.2 in absurd (omega arith)
        go (Committed note) lives a = a.1

    pub untimed : n.dead ≡ 0 → IsUntimed l n.position n
    untimed none = record {
      from = (let p = position_is in omega arith);
      at = subst (λ i. IsNoteAt l i n) (sym place_is) at;
      committed = committed none;
      untimed = none;
    }

    pub untimed_same : (m : Noted) → m ≡ l → n.dead ≡ 0 → IsUntimed m n.position (note_of m n.position)
    untimed_same m same none =
        subst (λ (z : Noted). IsUntimed z n.position (note_of z n.position)) (sym same) (subst (IsUntimed l n.position) (sym note_is) (untimed none))

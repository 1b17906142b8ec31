-- A round looks at one version of the log after another.
use Rattle.std.proofs.Common.{◌≡◌, ◌≢◌, ◌⊎◌, ℕ, ◌+◌, ◌<◌, ◌≤◌, max, Bool, true, List, [], ◌++◌, length, refl, sym, ap, ◌∙◌, subst}
use Rattle.std.proofs.Common.{inl, inr, ⊎_elim, arith, Contains}
use Rattle.std.proofs.lemmas.List.Elements.{All-append, All-nil}
use mathlib.Core.Logic.{dite}
use native.Mathlib.Decide.{ℕ_discrete}
use Rattle.mv_history.specs.State.{State, Writes}
use Rattle.mv_history.specs.declared.Step.{Step}
use Rattle.mv_layout.specs.declared.Config.{Config}
use Rattle.seat_log.specs.mv_core.declared.view.Knowledge.{Knowledge}
use Rattle.seat_log.specs.mv_core.Known.{Known}
use Rattle.seat_log.specs.reader_marks.declared.scanning.Watermark.{Watermark}
use Rattle.seat_log.specs.declared.version.Note.{Note}
use Rattle.seat_log.specs.Notes.{Noted, IsNoteAt}
use Rattle.seat_log.specs.Stands.{Stands}
use Rattle.log_reclaim.specs.declared.settling.HeadHolders.{HeadHolders}
use Rattle.log_reclaim.specs.Parts.{IsOtherKind, IsPlainKind, DiesFrom, super_load, TimesDeath}
use Rattle.log_reclaim.specs.Untimed.{StaysUntimed, DatedSo}
use Rattle.log_reclaim.specs.Tries.{MaySettle}
use Rattle.log_reclaim.specs.Sweeps.{found_at, IsTableOf, Settles, SettlesOne}
use Rattle.log_reclaim.proofs.Composed.{dies_then}
use Rattle.log_reclaim.proofs.Idle.{still_of}
use Rattle.log_reclaim.proofs.Reclaiming.{reclaims_none, reclaims_on, reclaims_may, reclaims_base, reclaims_more}
use Rattle.log_reclaim.proofs.Untimed.{untimed_on, untimed_then, dated_on, dated_then}

-- a death that comes from none but the steps after it comes from where the first did
dated_both : (c : Config) (w : Knowledge) (made : List Step) (top : ℕ) (back : Bool) (old was n : Note) → n.position ≡ was.position
    → DatedSo c w made top back old was → DatedSo c w made top back was n → DatedSo c w made top back old n
dated_both c w made top back old was n place a b =
    ⊎_elim
    (λ same. subst
    (λ (x : ℕ × ℕ). (x.1 ≡ old.dead) ⊎ (((x.1 ≤ w.base + length w.past.seen) × Contains made (super_load c w.number (record n { position = x.0 }) x.1))
    ⊎ ((back ≡ true) × (x.1 ≤ top + 1) × TimesDeath made x.1))) (λ i. (sym place i, sym same i)) a)
    inr b

-- before the first
pub settles_first : (starts : State → Type 0) (allows : List ℕ → State → Writes → Type 0) (c : Config) (v : Knowledge) (l : Noted) (mark : Watermark)
    (clock : ℕ)
    (back : Bool) (found : HeadHolders) → ∥ Known starts allows v ∥₁ → MaySettle v l mark clock → IsTableOf l found
    → Settles c v v l l [] mark clock back found clock 0
settles_first starts allows c v l mark clock back found known may table = record {
  reclaims = reclaims_none v may.outside (still_of starts allows v known may.outside.outside);
  rests = refl;
  kinds = All-nil (λ s. IsOtherKind s.kind);
  plain = λ off. All-nil (λ s. IsPlainKind s.kind);
  log = refl;
  long = refl;
  notes = λ i n at. (n, at, record { same = refl; once = λ e. refl }, inl refl);
  left = λ i n at le. at;
  untimed = λ i n at lt. absurd (omega arith);
  table = table;
  from = (let e : clock ≤ clock = omega arith in e);
  within = may.seen;
}

-- what has been looked at so far, and one version more
module _ (c : Config) (v u w : Knowledge) (l m p : Noted) (made more : List Step) (mark : Watermark) (clock : ℕ) (back : Bool) (old found : HeadHolders)
    (top one index : ℕ) (may : MaySettle v l mark clock) (k : Stands c w p) (s : Settles c v u l m made mark clock back old top index)
    (o : SettlesOne c u w m p more mark clock back old found index one) where
  low_seen : mark.low ≤ u.base + length u.past.seen
  low_seen =
      let same = reclaims_base v u made s.reclaims in
      let longer = reclaims_more v u made s.reclaims in
      let below = may.below in
      let all = may.seen in
      omega arith

  -- the notes that were looked at before
  note_else : (i : ℕ) (n : Note) → IsNoteAt p i n → i ≢ index → (a : Note) × IsNoteAt l i a × DiesFrom a n × DatedSo c w (made ++ more) (max top one) back a n
  note_else i n at ne =
      let b = s.notes i n (o.others i n at ne) in
      (b.0, b.1, b.2, dated_on c u w made more o.reclaims top (max top one) back b.0 n (omega arith) b.3)

  -- and this one
  note_here : (n : Note) → IsNoteAt p index n → (a : Note) × IsNoteAt l index a × DiesFrom a n × DatedSo c w (made ++ more) (max top one) back a n
  note_here n at =
      let t = o.this n at in
      let b = s.notes index t.0 t.1 in (
        b.0,
        b.1,
        dies_then b.0 t.0 n b.2 t.2,
        dated_both c w (made ++ more) (max top one) back b.0 t.0 n (ap (λ (x : Note). x.position) t.2.same)
            (dated_on c u w made more o.reclaims top (max top one) back b.0 t.0 (omega arith) b.3)
            (dated_then c w made more one (max top one) back t.0 n (omega arith) t.3),
      )

  notes_now : (i : ℕ) (n : Note) → IsNoteAt p i n → (a : Note) × IsNoteAt l i a × DiesFrom a n × DatedSo c w (made ++ more) (max top one) back a n
  notes_now i n at =
      dite (ℕ_discrete i index)
      (λ e. subst (λ j. (a : Note) × IsNoteAt l j a × DiesFrom a n × DatedSo c w (made ++ more) (max top one) back a n) (sym e)
      (note_here n (subst (λ j. IsNoteAt p j n) e at)))
      (λ ne. note_else i n at ne)

  untimed_now : (i : ℕ) (n : Note) → IsNoteAt p i n → i < index + 1 → n.dead ≡ 0 → StaysUntimed c w (made ++ more) mark clock back n (found_at found n.position)
  untimed_now i n at lt none =
      dite (ℕ_discrete i index)
      (λ e. untimed_then c w made more mark clock n back (found_at found n.position) (o.untimed n (subst (λ j. IsNoteAt p j n) e at) none))
      (λ ne.
      let before = s.untimed i n (o.others i n at ne) (omega arith) none in
      let place : n.position ≡ m.freed + i = k.log.notes.position i n at ∙ ap (λ f. f + i) (ap (λ (x : Noted). x.freed) o.log) in
      let same : found_at old n.position ≡ found_at found n.position = ap (found_at old) place ∙ sym (o.kept i ne) ∙ ap (found_at found) (sym place) in
      subst (StaysUntimed c w (made ++ more) mark clock back n) same
      (untimed_on c u w made more o.reclaims mark clock n back (found_at old n.position) low_seen before))

  top_seen : max top one ≤ w.base + length w.past.seen
  top_seen =
      let same = reclaims_base u w more o.reclaims in
      let longer = reclaims_more u w more o.reclaims in
      let first = s.within in
      let then = o.within in
      omega arith

  pub settles_next : Settles c v w l p (made ++ more) mark clock back found (max top one) (index + 1)
  settles_next = record {
    reclaims = reclaims_on v u w made more s.reclaims o.reclaims;
    rests = o.rests ∙ s.rests;
    kinds = All-append (λ t. IsOtherKind t.kind) made more s.kinds o.kinds;
    plain = λ off. All-append (λ t. IsPlainKind t.kind) made more (s.plain off) (o.plain off);
    log = o.log ∙ ap (λ (x : Noted). record x { live = p.live; back = p.back }) s.log;
    long = o.long ∙ s.long;
    notes = notes_now;
    left = λ i n at le. s.left i n (o.others i n at (λ e. omega arith)) (omega arith);
    untimed = untimed_now;
    table = (o.table.0 ∙ ap (λ (x : Noted). x.freed) s.log, o.table.1);
    from = (let le = s.from in omega arith);
    within = top_seen;
  }

-- the next version may be looked at
pub settles_may : (c : Config) (v w : Knowledge) (l p : Noted) (made : List Step) (mark : Watermark) (clock : ℕ) (back : Bool) (found : HeadHolders)
    (top done : ℕ)
    → MaySettle v l mark clock → Settles c v w l p made mark clock back found top done → MaySettle w p mark clock
settles_may c v w l p made mark clock back found top done may s = record {
  outside = reclaims_may v w made s.reclaims;
  known = (let grace = s.reclaims.grace in let was = may.known in omega arith);
  low = may.low;
  below = may.below;
  seen = (let same = reclaims_base v w made s.reclaims in let longer = reclaims_more v w made s.reclaims in let was = may.seen in omega arith);
  early = λ i n at. let b = s.notes i n at in let was = may.early i b.0 b.1 in let time : n.time ≡ b.0.time = ap (λ (x : Note). x.time) b.2.same in omega arith;
}

-- and the table is the log's
pub settles_table : (c : Config) (v w : Knowledge) (l p : Noted) (made : List Step) (mark : Watermark) (clock : ℕ) (back : Bool) (found : HeadHolders)
    (top done : ℕ)
    → Settles c v w l p made mark clock back found top done → IsTableOf p found
settles_table c v w l p made mark clock back found top done s = (s.table.0 ∙ sym (ap (λ (x : Noted). x.freed) s.log), s.table.1)

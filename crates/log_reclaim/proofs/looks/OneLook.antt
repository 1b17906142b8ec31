-- What looking at one version of the log leaves, by what a load of SUPER and a try to write it back leave.
use Rattle.std.proofs.Common.{◌≡◌, ◌≢◌, ◌⊎◌, ℕ, ◌+◌, ◌-◌, ◌<◌, ◌≤◌, Bool, true, false, List, [], ◌∷◌}
use Rattle.std.proofs.Common.{All, length, refl, sym, ap, ◌∙◌, subst, inl, inr, ⊎_elim, arith, Option, Some, None, Contains}
use Rattle.std.proofs.Math.Logic.{∥∥₁_elim}
use Rattle.std.proofs.Math.Bridge.{le_prop}
use Rattle.std.proofs.lemmas.List.Elements.{All-nil, All-cons, Contains-append_right}
use mathlib.Core.Logic.{dite}
use native.Mathlib.Decide.{dec_lt}
use Rattle.mv_history.specs.State.{State, Writes}
use Rattle.mv_history.specs.declared.Step.{Step}
use Rattle.mv_layout.specs.declared.Config.{Config}
use Rattle.seat_log.specs.mv_core.declared.view.Knowledge.{Knowledge}
use Rattle.seat_log.specs.mv_core.Times.{latest, latest_at}
use Rattle.seat_log.specs.mv_core.Known.{Known}
use Rattle.seat_log.proofs.mv_core_lemmas.history.Latest.{latest_at-mono, latest_at-latest}
use Rattle.seat_log.proofs.mv_core_lemmas.history.Fronts.{latest_at-more}
use Rattle.seat_log.specs.reader_marks.declared.scanning.Watermark.{Watermark}
use Rattle.seat_log.specs.declared.version.Note.{Note}
use Rattle.seat_log.specs.Notes.{Noted, IsNoteAt, retired}
use Rattle.seat_log.specs.Stands.{Stands}
use Rattle.seat_log.proofs.Places.{length-at_place, at_before, get_within}
use Rattle.seat_log.proofs.Retired.{committed_at}
use Rattle.log_reclaim.specs.declared.settling.HeadHolders.{HeadHolders}
use Rattle.log_reclaim.specs.declared.settling.WriteBackSeen.{WriteBackSeen}
use Rattle.log_reclaim.specs.Backs.{HasLater}
use Rattle.log_reclaim.specs.Parts.{IsPlainKind, IsPlain, super_load, super_step, FindsOther}
use Rattle.log_reclaim.specs.Untimed.{TriedSo, StaysUntimed, DatedSo}
use Rattle.log_reclaim.specs.Tries.{MaySettle, Makes, LoadsSuper, TriesOne}
use Rattle.log_reclaim.specs.Sweeps.{found_at, found_set, IsTableOf, SettlesOne}
use Rattle.log_reclaim.proofs.Idle.{still_of}
use Rattle.log_reclaim.proofs.Reclaiming.{makes_none, makes_on, reclaims_number, reclaims_base, reclaims_more}
use Rattle.log_reclaim.proofs.Untimed.{times_then, untimed_on}
use Rattle.log_reclaim.proofs.looks.OneNote.{position_is, place_is, one_note, committed}
use Rattle.log_reclaim.proofs.looks.FoundSeats.{table_set, found_here, found_else}

-- one step of such a kind
one_plain : (s : Step) → IsPlainKind s.kind → All (λ (t : Step). IsPlainKind t.kind) (s ∷ [])
one_plain s is = All-cons (λ (t : Step). IsPlainKind t.kind) s [] is (All-nil (λ (t : Step). IsPlainKind t.kind))

module _ (starts : State → Type 0) (allows : List ℕ → State → Writes → Type 0) (c : Config) (v : Knowledge) (l : Noted) (mark : Watermark) (clock : ℕ)
    (known : ∥ Known starts allows v ∥₁) (base : v.base ≡ c.base) (k : Stands c v l) (may : MaySettle v l mark clock) (index : ℕ) (n : Note)
    (at : IsNoteAt l index n) where
  -- a version with a time of death was left alone
  pub settles_timed : (back : Bool) (found : HeadHolders) → IsTableOf l found → n.dead ≢ 0 → SettlesOne c v v l l [] mark clock back found found index 0
  settles_timed back found table timed =
      let makes = makes_none v may.outside (still_of starts allows v known may.outside.outside) in record {
        reclaims = makes.reclaims;
        rests = refl;
        kinds = makes.kinds;
        plain = λ off. All-nil (λ s. IsPlainKind s.kind);
        log = refl;
        long = refl;
        others = λ i m is ne. is;
        this = λ m is. (m, is, record { same = refl; once = λ e. refl }, inl refl);
        untimed = λ m is none. absurd (timed (ap (λ (x : Note). x.dead) (sym (one_note c v l k index n at m is)) ∙ none));
        table = table;
        kept = λ i ne. refl;
        within = omega arith;
      }

  -- it is noted as dead now
  module _ (w : Knowledge) (m : Noted) (made : List Step) (back : Bool) (old found : HeadHolders) (dead backs top : ℕ) (some_time : 0 < dead)
      (log : m ≡ record (retired l n.position dead) { back = backs }) (makes : Makes v w made) (plain : IsPlain back made)
      (within : top ≤ w.base + length w.past.seen)
      (table : IsTableOf l found) (kept : (i : ℕ) → i ≢ index → found_at found (l.freed + i) ≡ found_at old (l.freed + i)) where
    before : (i : ℕ) (x : Note) → IsNoteAt m i x
        → (y : Note) × IsNoteAt l i y × (((i ≡ n.position - l.freed) × (x ≡ record y { dead = dead })) ⊎ ((i ≢ n.position - l.freed) × (x ≡ y)))
    before i x is = at_before (λ (y : Note). record y { dead = dead }) (n.position - l.freed) i l.live x (subst (λ (z : Noted). IsNoteAt z i x) log is)

    here : (x : Note) → IsNoteAt m index x → x ≡ record n { dead = dead }
    here x is =
        let b = before index x is in
        ⊎_elim (λ e. e.1 ∙ ap (λ (y : Note). record y { dead = dead }) (one_note c v l k index n at b.0 b.1))
        (λ e. absurd (e.0 (sym (place_is c v l k index n at)))) b.2

    pub settles_retired : n.dead ≡ 0 → DatedSo c w made top back n (record n { dead = dead }) → SettlesOne c v w l m made mark clock back old found index top
    settles_retired none dated = record {
      reclaims = makes.reclaims;
      rests = makes.rests;
      kinds = makes.kinds;
      plain = plain;
      log = subst (λ (z : Noted). z ≡ record l { live = z.live; back = z.back }) (sym log) refl;
      long = ap (λ (z : Noted). length z.live) log ∙ length-at_place (λ (y : Note). record y { dead = dead }) (n.position - l.freed) l.live;
      others = λ i x is ne.
          let b = before i x is in
          ⊎_elim (λ e. absurd (ne (e.0 ∙ place_is c v l k index n at))) (λ e. subst (IsNoteAt l i) (sym e.1) b.1) b.2;
      this = λ x is.
          let e = sym (here x is) in (
            n,
            at,
            record { same = subst (λ (y : Note). y ≡ record n { dead = y.dead }) e refl; once = λ some. absurd (omega arith) },
            subst (DatedSo c w made top back n) e dated,
          );
      untimed = λ x is alive. let d : x.dead ≡ dead = ap (λ (y : Note). y.dead) (here x is) in absurd (omega arith);
      table = table;
      kept = kept;
      within = within;
    }

  -- it is left without one, for a reason
  pub settles_kept : (w : Knowledge) (made : List Step) (back : Bool) (old found : HeadHolders) (top : ℕ) → Makes v w made → IsPlain back made
      → top ≤ w.base + length w.past.seen
      → IsTableOf l found → ((i : ℕ) → i ≢ index → found_at found (l.freed + i) ≡ found_at old (l.freed + i))
      → StaysUntimed c w made mark clock back n (found_at found n.position) → SettlesOne c v w l l made mark clock back old found index top
  settles_kept w made back old found top makes plain within table kept why = record {
    reclaims = makes.reclaims;
    rests = makes.rests;
    kinds = makes.kinds;
    plain = plain;
    log = refl;
    long = refl;
    others = λ i m is ne. is;
    this = λ m is. (m, is, record { same = refl; once = λ e. refl }, inl refl);
    untimed =
        λ m is none. subst (λ (x : Note). StaysUntimed c w made mark clock back x (found_at found x.position)) (sym (one_note c v l k index n at m is)) why;
    table = table;
    kept = kept;
    within = within;
  }

  -- SUPER told a time of death
  pub settles_found : (u : Knowledge) (m : Noted) (back : Bool) (found : HeadHolders) → IsTableOf l found → n.dead ≡ 0 → LoadsSuper c v u l m n true
      → (made : List Step) × SettlesOne c v u l m made mark clock back found found index 0
  settles_found u m back found table none loads =
      let f = loads.some refl in
      let one : Step = super_load c v.number n loads.time in (
        one ∷ [],
        settles_retired u m (one ∷ []) back found found loads.time l.back 0 f.0 f.1 loads.makes (λ off. one_plain one tt)
            (omega arith) table (λ i ne. refl) none
            (inr (inl (f.2, (0, omega arith, ap (λ own. super_load c own n loads.time) (sym (reclaims_number v u (one ∷ []) loads.makes.reclaims)))))),
      )

  -- SUPER was 0
  module _ (u : Knowledge) (loads : LoadsSuper c v u l l n false) (none : n.dead ≡ 0) where
    abbrev load : Step
    load = super_load c v.number n loads.time

    -- the load found 0
    load_is : load ≡ super_step c u.number n
    load_is =
        ap (super_load c v.number n) (loads.none refl).0
        ∙ ap (λ own. super_step c own n) (sym (reclaims_number v u (load ∷ []) loads.makes.reclaims))

    loaded : StaysUntimed c u (load ∷ []) mark clock false n None
    loaded =
        let f = loads.none refl in
        let mark_known = may.known in
        let low = may.low in
        let up = latest_at-mono u.base u.past.seen n.object mark.low v.grace (omega arith) in
        let unwritten = f.2 in record {
          committed = committed c v l k index n at starts allows known may.outside.outside none;
          super = (0, omega arith, load_is);
          unwritten = omega arith;
          tried = λ e. absurd (cc);
        }

    pub settles_unbacked : (m : Noted) (back : Bool) (found : HeadHolders) → IsTableOf l found → back ≡ false → m ≡ l
        → (made : List Step) × SettlesOne c v u l m made mark clock back found found index 0
    settles_unbacked m back found table off log =
        let l0 = loaded in (
          load ∷ [],
          subst (λ (z : Noted). SettlesOne c v u l z (load ∷ []) mark clock back found found index 0) (sym log)
              (settles_kept u (load ∷ []) back found found 0 loads.makes (λ off. one_plain load tt) (omega arith) table (λ i ne. refl)
              (record {
                committed = l0.committed;
                super = l0.super;
                unwritten = l0.unwritten;
                tried = λ e. let f : true ≡ false = sym e
                    ∙ off in absurd (cc);
              })),
        )

    -- and a write-back was tried
    module _ (w : Knowledge) (m : Noted) (tried : WriteBackSeen) (t : TriesOne c u w l m n mark tried) where
      abbrev made : List Step
      made = load ∷ t.made

      makes : Makes v w made
      makes = makes_on v u w (load ∷ []) t.made loads.makes t.makes

      seen : mark.low ≤ u.base + length u.past.seen
      seen =
          let r = loads.makes.reclaims in
          let same = reclaims_base v u (load ∷ []) r in
          let more = reclaims_more v u (load ∷ []) r in
          let below = may.below in
          let all = may.seen in
          omega arith

      still : StaysUntimed c w made mark clock false n None
      still = untimed_on c u w (load ∷ []) t.made t.makes.reclaims mark clock n false None seen loaded

      -- the log has a later commit of the object, which was seen
      later : HasLater l n → (mark.low < clock) × (n.time < latest w.base w.past.seen n.object)
      later h =
          let o = h.other in
          let a = committed_at c v l h.index o k h.at (let lt = h.later in omega arith) in
          let time = a.2 in
          let r = makes.reclaims in
          let same = reclaims_base v w made r in
          let early = may.early h.index o h.at in
          let all = may.seen in
          let after = h.later in
          let written : o.time ≤ latest_at v.base v.past.seen n.object o.time =
          subst (λ (x : ℕ). o.time ≤ latest_at v.base v.past.seen x o.time) h.object_is
          (∥∥₁_elim known le_prop
          (λ f. let wr = (f.commits _ _ a.0 a.1).written in subst (λ (x : ℕ). x ≤ latest_at v.base v.past.seen o.object x) time (omega arith))) in
          let kept = latest_at-more v.base w.past.seen v.past.seen n.object r.seen o.time (omega arith) in
          let last = latest_at-latest v.base w.past.seen n.object o.time in
          let none_low : latest_at v.base w.past.seen n.object mark.low ≤ n.time =
          subst (λ (b : ℕ). latest_at b w.past.seen n.object mark.low ≤ n.time) same still.unwritten in (
            dite (dec_lt mark.low clock) (λ lt. lt)
                (λ ge. let up = latest_at-mono v.base w.past.seen n.object o.time mark.low (omega arith) in absurd (omega arith)),
            subst (λ (b : ℕ). n.time < latest b w.past.seen n.object) (sym same) (omega arith),
          )

      why_none : (mark.time < n.time) ⊎ HasLater l n → TriedSo c w made mark clock n None
      why_none d =
          ⊎_elim (λ young. let low = may.low in let early = may.early index n at in (omega arith, inl young))
          (λ h. let both = later h in (both.0, inr both.1)) d

      why_some : (seat : ℕ) → FindsOther c w t.made n seat → TriedSo c w made mark clock n (Some seat)
      why_some seat f =
          let number : w.number ≡ u.number = reclaims_number u w t.made t.makes.reclaims in
          let step : load ≡ super_step c w.number n = load_is ∙ ap (λ own. super_step c own n) (sym number) in
          record {
            not_own = f.not_own;
            in_range = f.in_range;
            before = [];
            after = t.made;
            made_is = ap (λ s. s ∷ t.made) step;
            step = f.step;
            later = f.there;
            finds = f.finds;
          }

      tried_untimed : (above : Option ℕ) → TriedSo c w made mark clock n above → StaysUntimed c w made mark clock true n above
      tried_untimed above why = record { committed = still.committed; super = still.super; unwritten = still.unwritten; tried = λ e. why }

      module _ (found : HeadHolders) (table : IsTableOf l found) where
        abbrev then : HeadHolders
        then = found_set found index tried.above

        fits : index < 4096
        fits = let within = get_within l.live index n at in let room = k.log.room in let few = k.log.slots in omega arith

        kept_else : (i : ℕ) → i ≢ index → found_at then (l.freed + i) ≡ found_at found (l.freed + i)
        kept_else = found_else l found index tried.above table

        here_is : found_at then n.position ≡ tried.above
        here_is = ap (found_at then) (position_is c v l k index n at) ∙ found_here l found index tried.above table fits

        one : Type 0
        one = SettlesOne c v w l m made mark clock true found then index tried.clock

        kept_for : (above : Option ℕ) → tried.above ≡ above → m ≡ l → TriedSo c w made mark clock n above → one
        unfolding one
        kept_for above is log why =
            subst (λ (z : Noted). SettlesOne c v w l z made mark clock true found then index tried.clock) (sym log)
            (settles_kept w made true found then tried.clock makes (λ off. absurd cc) t.within (table_set l found index tried.above table) kept_else
            (subst (StaysUntimed c w made mark clock true n) (sym (here_is ∙ is)) (tried_untimed above why)))

        -- a time that the write-back's own load of SUPER found is found by these steps
        loaded_then : (dead : ℕ) → Contains t.made (super_load c u.number n dead) → Contains made (super_load c w.number n dead)
        loaded_then dead there =
            Contains-append_right (load ∷ []) t.made (super_load c w.number n dead)
            (subst (λ own. Contains t.made (super_load c own n dead)) (sym (reclaims_number u w t.made t.makes.reclaims)) there)

        pub settles_tried : SettlesOne c v w l m made mark clock true found then index tried.clock
        unfolding one
        settles_tried =
            ⊎_elim
            (λ d. ⊎_elim
            (λ s.
            settles_retired w m made true found then d.0 l.back tried.clock d.1 s.0 makes (λ off. absurd cc) t.within
            (table_set l found index tried.above table) kept_else none (inr (inl (s.1, loaded_then d.0 s.2))))
            (λ s.
            settles_retired w m made true found then d.0 (l.back + 1) tried.clock d.1 s.0 makes (λ off. absurd cc) t.within
            (table_set l found index tried.above table) kept_else none (inr (inr (refl, s.1, times_then (load ∷ []) t.made d.0 s.2))))
            d.3)
            (λ d. ⊎_elim (λ s. kept_for None s.0 d.0 (why_none s.1)) (λ s. kept_for (Some s.0) s.1 d.0 (why_some s.0 s.2)) d.1)
            t.fate

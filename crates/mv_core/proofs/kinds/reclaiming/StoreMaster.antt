-- store MASTER: a word of the version that is written back. No section reads the object's master meanwhile, and no other seat writes it back.
use Rattle.std.proofs.Common.{◌≡◌, ◌≢◌, ℕ, ◌+◌, ◌<◌, ◌≤◌, false, List, refl, sym, ap, ◌∙◌, subst, ⊎_elim, inl, inr, arith, slice_index, Option, Some, None}
use Rattle.mv_core.proofs.Terms.{dite, ℕ_discrete, Entry, State, Writes, Config, Master, link_of, Memory, put, Version, WriteSetStatus, Held, Aborted}
use Rattle.mv_core.proofs.Terms.{Committed, CommitNote, Knowledge, OwnSection, Open, WalkStage, WriteBack, slot_at, index_of, HoldsNothing, Lives, Names}
use Rattle.mv_core.proofs.Terms.{NoneUncut, latest, latest_at, ViewParts, parts_of, set_at, time_in}
use Rattle.mv_core.specs.declared.view.WalkStage.TheVariants as walk
use Rattle.mv_core.proofs.FactTerms.{IsPastHelp, PresentMaster, ChainFoot, MasterServes, IsRightFor, MayStandAt, StandsRight, WalkerPlace}
use Rattle.mv_core.proofs.FactTerms.{IsWrittenBack, WriteBacks, RunsOn, Facts, Stores, IsKept}
use Rattle.mv_core.specs.ReclaimSteps.{GoesToWord, MayStoreMaster, master_stored}
use Rattle.mv_core.proofs.frames.KeptRecords.{same_back}
use Rattle.mv_core.proofs.frames.FrameLaw.{set_at_all, unchanged, changed, settle}
use Rattle.mv_core.proofs.logs.Links.{live_once, note_once, names_once}
use Rattle.mv_core.proofs.logs.SlotWords.{slot_word_here, slot_word_else}
use Rattle.mv_core.proofs.history.SectionWords.{section_is, time_is}
use Rattle.mv_core.proofs.kinds.walking.Landing.{not_above}
use Rattle.mv_core.proofs.kinds.walking.EmptyHeads.{time_of_section}
use Rattle.mv_core.proofs.logs.LastWrites.{IsLastWrite, is_old, some_uncut, some_top, foot_is_old, none_else}

module _ {starts : State → Type 0} {allows : List ℕ → State → Writes → Type 0} {c : Config} {start : State} {m : Memory} {h : List Entry} {f : ViewParts}
    (k : Facts starts allows c start m h f)
    (n slot : ℕ) (inside : OwnSection) (x : Version) (note : CommitNote) (last : IsLastWrite c h f n slot (time_in inside) x note) (w : ℕ) (range : w < 6) where
  abbrev master : ℕ → ℕ → ℕ
  master o i = m (Master o i)

  -- the masters afterwards
  abbrev later : ℕ → ℕ → ℕ
  later o i = put m (Master x.object w) (slice_index x.words w) (Master o i)

  -- another object's master, and the other words of this one, are as they were
  else_same : (o i : ℕ) → o ≢ x.object → later o i ≡ master o i
  else_same o i ne = slot_word_else x.object w o i (slice_index x.words w) (master o i) (λ p. ne p.0)

  word_same : (i : ℕ) → i ≢ w → later x.object i ≡ master x.object i
  word_same i ne = slot_word_else x.object w x.object i (slice_index x.words w) (master x.object i) (λ p. ne p.1)

  word_here : later x.object w ≡ slice_index x.words w
  word_here = slot_word_here x.object w (slice_index x.words w) (master x.object w)

  serves : (s t o : ℕ) → f.time s ≡ Some t → MasterServes c start h master f.ring t o → MasterServes c start h later f.ring t o
  serves s t o timed a =
      dite (ℕ_discrete o x.object)
      (λ e. absurd (some_uncut k n slot (time_in inside) x note last s t timed
      (subst (λ (p : ℕ). MasterServes c start h master f.ring t p) e a).1))
      (λ ne. ((λ i lt. else_same o i ne ∙ a.0 i lt), a.1))

  status : (s t : ℕ) → f.time s ≡ Some t → (y : Version) (st : WriteSetStatus) → MayStandAt c start h master f.ring t y st
      → MayStandAt c start h later f.ring t y st
  status s t timed y Held may = tt
  status s t timed y (Committed o) may = may
  status s t timed y (Aborted dead) may = ⊎_elim (λ a. inl (a.0, serves s t y.object timed a.1)) (λ b. inr b) may

  stands : (s t : ℕ) → f.time s ≡ Some t → (y : WalkStage) → StandsRight c start h master f.ring t y → StandsRight c start h later f.ring t y
  stands s t timed walk.Nowhere right = tt
  stands s t timed (walk.Master o) right = serves s t o timed right
  stands s t timed (walk.At stand) right = (right.0, right.1, right.2, right.3, status s t timed right.0 right.1 right.4)

  present_after : PresentMaster c start h later f.time f.ring
  present_after o none =
      dite (ℕ_discrete o x.object)
      (λ e. absurd (some_top k n slot (time_in inside) x note last
      (subst (λ (p : ℕ). NoneUncut f.ring p (latest c.base h p)) e none)))
      (λ ne. let p = k.present_master o none in ((λ i lt. else_same o i ne ∙ p.0 i lt), p.1))

  foot_after : ChainFoot c start h later f.time f.ring
  foot_after s j y o lives nothing =
      dite (ℕ_discrete y.object x.object)
      (λ e. inl (foot_is_old k n slot (time_in inside) x note last s j y o lives e nothing))
      (λ ne. ⊎_elim (λ a. inl a) (λ g. inr (g.0, (λ i lt. else_same y.object i ne ∙ g.1 i lt), g.2)) (k.chain_foot s j y o lives nothing))

  module _ (position : ℕ) (slot_is : slot ≡ index_of c position) (position_is : x.position ≡ position) (here : f.section n ≡ Some inside)
      (open_is : inside.mode ≡ Open) (past : IsPastHelp (f.clocks n) inside) (nothing : HoldsNothing (f.ring n))
      (stored : (i : ℕ) → i < w → m (Master x.object i) ≡ slice_index x.words i)
      (timed : (s : ℕ) (i : OwnSection) → f.section s ≡ Some i → f.time s ≡ Some (time_in i)) where
    abbrev new : WriteBack
    new = record { object = x.object; position = position; stored = w + 1; tried = false }

    abbrev backs : ℕ → Option WriteBack
    backs = set_at f.back n (Some new)

    words_stored : (i : ℕ) → i < w + 1 → later x.object i ≡ slice_index x.words i
    words_stored i lt =
        dite (ℕ_discrete i w)
        (λ e. subst (λ (p : ℕ). later x.object p ≡ slice_index x.words p) (sym e) word_here)
        (λ ne. word_same i ne ∙ stored i (omega arith))

    own_back : IsWrittenBack c h later f.time f.ring n (f.clocks n) (f.grace n) new inside
    own_back = record {
      mode = open_is;
      helped = past;
      nothing = nothing;
      version = x;
      note = note;
      lives = subst (λ (i : ℕ). Lives f.ring n i x (Committed note)) slot_is last.lives;
      position_is = position_is;
      object_is = refl;
      old = is_old k n slot (time_in inside) x note last;
      known = last.known;
      last = last.last;
      some_stored = (omega arith, omega arith);
      uncut = λ _. last.uncut;
      words = λ _. words_stored;
    }

    abbrev BackIs : ℕ → Option WriteBack → Type 0
    BackIs s u = (b : WriteBack) → u ≡ Some b → (i : OwnSection) × (f.section s ≡ Some i) × IsWrittenBack c h later f.time f.ring s (f.clocks s) (f.grace s) b i

    backs_after : WriteBacks c h later f.section f.time f.clocks f.grace backs f.ring
    backs_after =
        set_at_all BackIs f.back n (Some new)
        (λ b e. let same : new ≡ b =
        cc in (inside, here, subst (λ (d : WriteBack). IsWrittenBack c h later f.time f.ring n (f.clocks n) (f.grace n) d inside) same own_back))
        (λ s ne b e.
        let r = k.write_back s b e in
        let is = r.2 in
        let other = none_else k n slot (time_in inside) x note last s b e (timed s) ne in (
          r.0,
          r.1,
          same_back is is.note is.helped is.nothing is.lives is.old is.known is.last is.uncut
              (λ untried i lt. else_same b.object i other ∙ is.words untried i lt),
        ))

    -- all facts after the store
    pub master_facts : Facts starts allows c start (put m (Master x.object w) (slice_index x.words w)) h
        (changed f n (record unchanged { back = Some (Some new) }))
    master_facts =
        let places : WalkerPlace c start h later f.time f.walk f.ring = λ s t at. stands s t at (f.walk s) (k.walker_place s t at) in
        let outside = set_at_all (λ s b. f.time s ≡ None → (f.walk s ≡ walk.Nowhere) × (b ≡ None)) f.back n (Some new)
        (λ none. let clash : Some (time_in inside) ≡ None = sym last.timed ∙ none in absurd (cc))
        (λ s ne. k.phases_and_scan.outside s) in
        assumption (present_after, foot_after, places, backs_after, outside, k)

module _ {starts : State → Type 0} {allows : List ℕ → State → Writes → Type 0} {c : Config} {start : State} {m : Memory} {h : List Entry}
    (seats : ℕ → Knowledge)
    (k : Facts starts allows c start m h (parts_of seats))
    (v : Knowledge) (is : seats v.number ≡ v) (object w value position : ℕ) (x : Version) (note : CommitNote) (inside : OwnSection)
    (may : MayStoreMaster c v object w value position x note inside) where
  abbrev n : ℕ
  n = v.number

  abbrev f : ViewParts
  f = parts_of seats

  timed : f.time n ≡ Some (time_in inside)
  timed = time_is seats v inside k is may.phase

  lives : Lives f.ring n (index_of c position) x (Committed note)
  lives = ap (λ (u : Knowledge). slot_at u.ring (index_of c position)) is ∙ may.own

  abbrev Words : Type 0
  Words = (i : ℕ) → i < w → m (Master x.object i) ≡ slice_index x.words i

  -- the version that a new write-back begins at is right for the walk
  begins : GoesToWord v object w position x note → IsLastWrite c h f n (index_of c position) (time_in inside) x note × Words
  begins =
      ⊎_elim
      (λ a.
      let stand = a.2.0 in
      let at : f.walk n ≡ walk.At stand = ap (λ (u : Knowledge). u.walk) is ∙ a.2.1 in
      let r : StandsRight c start h (λ o i. m (Master o i)) f.ring (time_in inside) (walk.At stand) =
      subst (StandsRight c start h (λ o i. m (Master o i)) f.ring (time_in inside)) at (k.walker_place n (time_in inside) timed) in
      let mine : Names f.ring stand.link x (Committed note) =
      record { seat = n; slot = index_of c position; lives = lives; is = a.2.3 ∙ ap (link_of n) (sym may.position_is) } in
      let one = names_once c h f.ring k.checked k.history.in_time k.positions stand.link r.0 x r.1 (Committed note) r.2 mine in
      let right : IsRightFor c h (time_in inside) x note =
      subst (λ (y : Version). MayStandAt c start h (λ o i. m (Master o i)) f.ring (time_in inside) y (Committed note)) one.2
      (subst (MayStandAt c start h (λ o i. m (Master o i)) f.ring (time_in inside) r.0) one.3 r.4) in
      let known : note.time ≤ f.grace n = subst (λ (u : Knowledge). note.time ≤ u.grace) (sym is) a.4 in
      let below = not_above (f.grace n) n (time_in inside) f.time (k.grace.views n).1 timed in
      let zero = a.0 in (
        record { timed = timed; lives = lives; uncut = a.3; known = known; last = ⊎_elim (λ late. absurd (omega arith)) (λ e. sym e) right },
        λ i lt. absurd (omega arith),
      ))
      (λ b.
      let r = k.write_back n (record { object = object; position = position; stored = w; tried = false }) (ap (λ (u : Knowledge). u.back) is ∙ b.1) in
      let own = r.2 in
      let same : Some inside ≡ Some r.0 = sym (section_is seats v inside k is may.phase) ∙ r.1 in
      let section : inside ≡ r.0 = cc in
      let one = live_once (slot_at (f.ring n) (index_of c position)) own.version x (Committed own.note) (Committed note) own.lives lives in
      let noted : own.note ≡ note = note_once own.note note one.1 in
      let at : latest_at c.base h x.object (time_in inside) ≡ note.time =
      (λ i. latest_at c.base h (may.object_is i) (time_in (section i))) ∙ own.last ∙ ap (λ (o : CommitNote). o.time) noted in (
        record {
          timed = timed;
          lives = lives;
          uncut = ap (λ (o : CommitNote). o.cut) (sym noted) ∙ own.uncut refl;
          known = subst (λ (o : CommitNote). o.time ≤ f.grace n) noted own.known;
          last = at;
        },
        λ i lt. (λ j. m (Master (may.object_is j) i)) ∙ own.words refl i lt ∙ (λ j. slice_index (one.0 j).words i),
      ))

  pub master_stored_facts : Facts starts allows c start (put m (Master object w) value) h
      (parts_of (set_at seats v.number (master_stored c v object w value position)))
  master_stored_facts =
      let b = begins may.goes in
      let all = master_facts k n (index_of c position) inside x note b.0 w may.in_range position refl may.position_is
      (section_is seats v inside k is may.phase) may.open_is
      (subst (λ (u : Knowledge). IsPastHelp u.clocks inside) (sym is) may.past_help) (subst (λ (u : Knowledge). HoldsNothing u.ring) (sym is) may.nothing) b.1
      (λ s i e. time_of_section (seats s).phase i e) in
      settle starts allows c start (put m (Master object w) value) h seats v.number v (master_stored c v object w value position) is
      (record unchanged { back = Some (master_stored c v object w value position).back }) (refl, refl, refl, refl, refl, refl, refl, refl, refl, refl, refl)
      (subst (λ (o : ℕ). Facts starts allows c start (put m (Master o w) value) h
      (changed f n (record unchanged { back = Some (Some (record { object = o; position = position; stored = w + 1; tried = false })) }))) may.object_is
      (subst (λ (y : ℕ). Facts starts allows c start (put m (Master x.object w) y) h
      (changed f n (record unchanged { back = Some (Some (record { object = x.object; position = position; stored = w + 1; tried = false })) })))
      (sym may.value_is) all))

module _ (starts : State → Type 0) (allows : List ℕ → State → Writes → Type 0) (c : Config) (start : State) (v : Knowledge) (object w value position : ℕ)
    (x : Version) (note : CommitNote) (inside : OwnSection) where
  pub master_stores : MayStoreMaster c v object w value position x note inside
      → Stores starts allows c start v (Master object w) value (λ u. ((u ≡ master_stored c v object w value position) × RunsOn v u) × IsKept v u)
  master_stores may m h seats k is own begins = (
    master_stored c v object w value position,
    h,
    master_stored_facts seats k v is object w value position x note inside may,
    ((refl, (λ t i a b. (a, b))), (refl, refl, refl, refl, refl, refl)),
  )

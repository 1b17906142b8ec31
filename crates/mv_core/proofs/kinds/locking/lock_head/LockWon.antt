-- A won exchange of a lock, over all facts: one version more is live, which is held and on top of its object's chain, and no walk stands at it.
use Rattle.std.proofs.Common.{◌≡◌, ◌≢◌, ◌⊎◌, ℕ, ◌+◌, ◌<◌, ◌≤◌, cond, List, length, refl, sym}
use Rattle.std.proofs.Common.{ap, ◌∙◌, subst, ⊎_elim, inl, inr, le_trans, eq-eqb, ne_eqb, arith, Option, Some, None}
use Rattle.mv_core.proofs.Terms.{dite, ℕ_discrete, Entry, State, Writes, Config, Clock, Head, Master, Stamp, Super, link_of, clock_time_of}
use Rattle.mv_core.proofs.Terms.{clock_seat_of, clock_slot_of, Memory, put, Ring, Build, Version, WriteSetStatus, Held, Aborted, Committed, CommitNote}
use Rattle.mv_core.proofs.Terms.{Knowledge}
use Rattle.mv_core.proofs.Terms.{OwnSection, Open, Named, Naming, WalkStage, Stand, slot_at, index_of, HoldsNothing, Lives, Names, IsGone, NoneHolds, IsTop}
use Rattle.mv_core.proofs.Terms.{Live, latest, section_of, time_of, time_in, IsUnnamed, parts_of, set_at}
use Rattle.mv_core.specs.declared.view.WalkStage.TheVariants as walk
use Rattle.mv_core.proofs.FactTerms.{stamp_of, IsHeldOrAborted, Successors, BelowIsStamped, UnstampedIsUnfinished, Positions, LockFreshness}
use Rattle.mv_core.proofs.FactTerms.{FoundStamps, OpenSection, HeadIsTop, HeldLink, AbortedLink, MayStandAt, StandsRight, IsBeforeDeath, WalkerPlace}
use Rattle.mv_core.proofs.FactTerms.{WalkerBeforeDeath, WalkerKnowledge, WalkerFalls, WalkerLate, Deaths, DeathSeen, DeathAfterWrite, CutIsOld, Facts}
use Rattle.mv_core.specs.LockSteps.{MayLock, head_locked}
use Rattle.mv_core.proofs.frames.FrameLaw.{set_at_else, unchanged, settle}
use Rattle.mv_core.proofs.frames.CommittedKept.{KeepsCommitted, names_was, names_still, top_still, gone_still, link_kept, freed_kept, master_kept}
use Rattle.mv_core.proofs.frames.CommittedKept.{foot_kept, serves_kept, named_kept, back_kept, past_help_kept, flag_kept, super_kept, is_named_kept}
use Rattle.mv_core.proofs.logs.Links.{names_once}
use Rattle.mv_core.proofs.kinds.locking.lock_head.Lockable.{none_holds, is_top, is_fresh, below_stamped}
use Rattle.mv_core.proofs.kinds.locking.lock_head.LockedLog as log
use Rattle.mv_core.proofs.kinds.locking.lock_head.LockedPositions as log_places
use Rattle.mv_core.proofs.logs.SeenDeaths.{none_noted}
use Rattle.mv_core.proofs.history.SectionWords.{section_is, time_is}

-- the heads after a store into one
pub put_head : (m : Memory) (a n : ℕ) (P : ℕ → ℕ → Type 0) → P a n → ((b : ℕ) → b ≢ a → P b (m (Head b))) → (b : ℕ) → P b (put m (Head a) n (Head b))
put_head m a n P here rest b =
    dite (ℕ_discrete b a)
    (λ e. subst (λ (t : ℕ). P t (put m (Head a) n (Head t))) (sym e) (subst (P a) (sym (ap (λ t. cond t n (m (Head a))) (eq-eqb a a refl))) here))
    (λ ne. subst (P b) (sym (ap (λ t. cond t n (m (Head b))) (ne_eqb a b (λ e. ne (sym e))))) (rest b ne))

module _ {starts : State → Type 0} {allows : List ℕ → State → Writes → Type 0} {c : Config} {start : State} {m : Memory} {h : List Entry}
    (seats : ℕ → Knowledge)
    (k : Facts starts allows c start m h (parts_of seats))
    (v : Knowledge) (is : seats v.number ≡ v) (own : v.number < c.seats) (write_max object previous position : ℕ) (words : List ℕ) (b : Build)
    (inside : OwnSection)
    (may : MayLock c write_max v object previous position words b inside)
    (won : m (Head object) ≡ previous) where
  abbrev rings : ℕ → Ring
  rings s = (seats s).ring

  abbrev n : ℕ
  n = v.number

  abbrev slot : ℕ
  slot = index_of c position

  abbrev x : Version
  x = log.x seats k v is own write_max object previous position words b inside may

  abbrev later : ℕ → Ring
  later = log.later seats k v is own write_max object previous position words b inside may

  abbrev section : ℕ → Option OwnSection
  section s = section_of (seats s).phase

  abbrev time : ℕ → Option ℕ
  time s = time_of (seats s).phase

  abbrev stamp : ℕ → ℕ → ℕ
  stamp s j = m (Stamp s j)

  abbrev super : ℕ → ℕ → ℕ
  super s j = m (Super s j)

  abbrev master : ℕ → ℕ → ℕ
  master o w = m (Master o w)

  kept : KeepsCommitted rings later
  kept = log.kept seats k v is own write_max object previous position words b inside may

  each_live : (P : ℕ → ℕ → Version → WriteSetStatus → Type 0) → P n slot x Held
      → ((s j : ℕ) (y : Version) (st : WriteSetStatus) → Lives rings s j y st → P s j y st)
      → (s j : ℕ) (y : Version) (st : WriteSetStatus) → Lives later s j y st → P s j y st
  each_live = log.each_live seats k v is own write_max object previous position words b inside may

  lives_still : (s j : ℕ) (y : Version) (st : WriteSetStatus) → Lives rings s j y st → Lives later s j y st
  lives_still = log.lives_still seats k v is own write_max object previous position words b inside may

  lives_new : Lives later n slot x Held
  lives_new = log.lives_new seats k v is own write_max object previous position words b inside may

  positions : Positions c h later
  positions = log_places.positions_after seats k v is own write_max object previous position words b inside may

  section_here : section n ≡ Some inside
  section_here = section_is seats v inside k is may.walking.phase

  time_here : time n ≡ Some (time_in inside)
  time_here = time_is seats v inside k is may.walking.phase

  holds_none : NoneHolds rings object
  holds_none = none_holds seats k v is inside may.walking object previous may.stands won

  -- a section that named its commit is of another seat
  other_named : (s : ℕ) (i : OwnSection) (naming : Naming) → section s ≡ Some i → i.mode ≡ Named naming → s ≢ n
  other_named s i naming at mode e =
      let one : Some inside ≡ Some i = sym section_here ∙ ap section (sym e) ∙ at in
      let same : inside ≡ i = cc in
      let clash : Open ≡ Named naming = sym may.walking.open_is ∙ ap (λ (j : OwnSection). j.mode) same ∙ mode in cc

  ring_else : (s : ℕ) → s ≢ n → later s ≡ rings s
  ring_else s ne = set_at_else rings n (log.ring_now seats k v is own write_max object previous position words b inside may) s ne

  nothing_else : (s : ℕ) → s ≢ n → HoldsNothing (rings s) → HoldsNothing (later s)
  nothing_else s ne = subst HoldsNothing (sym (ring_else s ne))

  -- a link that named a version names the same one
  abbrev still_names : (link : ℕ) (y : Version) (st : WriteSetStatus) → Names rings link y st → Names later link y st
  still_names link y st a = record { seat = a.seat; slot = a.slot; lives = lives_still a.seat a.slot y st a.lives; is = a.is }

  named_same : (link : ℕ) (z y : Version) (su st : WriteSetStatus) → Names rings link z su → Names later link y st → Names rings link y st
  named_same link z y su st a d =
      let r = names_once c h later k.checked k.history.in_time positions link z y su st (still_names link z su a) d in
      subst (λ (p : Version × WriteSetStatus). Names rings link p.0 p.1) (λ i. (r.2 i, r.3 i)) a

  -- the version that a walk stands at was there
  stand_was : (s : ℕ) (stand : Stand) → (seats s).walk ≡ walk.At stand → (y : Version) (st : WriteSetStatus) → Names later stand.link y st
      → Names rings stand.link y st
  stand_was s stand at y st names = by_time (time s) refl
    where
      by_time : (t : Option ℕ) → time s ≡ t → Names rings stand.link y st
      by_time None e = let none : walk.At stand ≡ walk.Nowhere = sym at ∙ (k.phases_and_scan.outside s e).0 in absurd (cc)
      by_time (Some t) e =
          let there = subst (StandsRight c start h master rings t) at (k.walker_place s t e) in
          named_same stand.link there.0 y there.1 st there.2 names

  stands_kept : (t : ℕ) (w : WalkStage) → StandsRight c start h master rings t w → StandsRight c start h master later t w
  stands_kept t walk.Nowhere right = tt
  stands_kept t (walk.Master o) right = serves_kept rings later kept c h start master time t o right
  stands_kept t (walk.At stand) right = (right.0, right.1, still_names stand.link right.0 right.1 right.2, right.3, at_status right.1 right.4)
    where
      at_status : (st : WriteSetStatus) → MayStandAt c start h master rings t right.0 st → MayStandAt c start h master later t right.0 st
      at_status Held may = tt
      at_status (Committed note) may = may
      at_status (Aborted dead) may =
          ⊎_elim
          (λ a. inl (a.0, serves_kept rings later kept c h start master time t right.0.object a.1))
          (λ a. inr (a.0, a.1, names_still rings later kept right.0.previous a.0 a.1 a.2, a.3, a.4))
          may

  before_death : WalkerBeforeDeath time (λ s. (seats s).walk) later
  before_death = record {
    here = λ s t stand y st timed at names. k.walker_before_death.here s t stand y st timed at (stand_was s stand at y st names);
    below = λ s t stand y z dead st timed at names under.
        each_live (λ q j u su. y.previous ≡ link_of q u.position → IsBeforeDeath t su) (λ _. tt)
        (λ q j u su lives is. k.walker_before_death.below s t stand y u dead su timed at (stand_was s stand at y (Aborted dead) names)
        (record { seat = q; slot = j; lives = lives; is = is }))
        under.seat under.slot z st under.lives under.is;
  }

  knowledge : WalkerKnowledge section time (λ s. (seats s).clocks) (λ s. (seats s).walk) later
  knowledge = record {
    helped = k.walker_knowledge.helped;
    first = λ s first stand y st at e names. k.walker_knowledge.first s first stand y st at e (stand_was s stand at y st names);
    stamp = λ s found stand y st at e low names. k.walker_knowledge.stamp s found stand y st at e low (stand_was s stand at y st names);
    unset = λ s t found stand y note timed at e high names. k.walker_knowledge.unset s t found stand y note timed at e high
        (stand_was s stand at y (Committed note) names);
  }

  falls : WalkerFalls c stamp (λ s. (seats s).walk) later
  falls = record {
    stamped = λ s stand y st at passed names.
        let old = stand_was s stand at y st names in
        let r = k.walker_falls.stamped s stand y st at passed old in
        let one = names_once c h later k.checked k.history.in_time positions stand.link y y st st (still_names stand.link y st old) names in
        (r.0, r.1, subst (λ (q : ℕ). stamp_of c stamp q y ≡ r.0.time) one.0 r.2, r.3);
    found = k.walker_falls.found;
  }

  found_after : FoundStamps c (m Clock) stamp (λ s. (seats s).clocks) later
  found_after = record {
    now = λ s g at e. is_named_kept rings later kept g.word g.unset (k.found_stamp.now s g at e);
    checked = λ s g at was.
        let r = k.found_stamp.checked s g at was in record {
          position = r.position;
          unset_is = r.unset_is;
          slot_is = r.slot_is;
          used = le_trans r.used (kept.grows (clock_seat_of g.word));
          live = λ y st lives.
              each_live (λ q j z su. q ≡ clock_seat_of g.word → j ≡ clock_slot_of g.word → z.position ≡ r.position → (z.first ≡ r.position) ×
              ((note : CommitNote) × (su ≡ Committed note) × (note.time ≡ clock_time_of g.word)))
              (λ seat _ e. let used : r.position < (rings n).next = subst (λ (q : ℕ). r.position < (rings q).next) (sym seat) r.used in let next =
              log.next_is seats k v is own write_max object previous position words b inside may in absurd (omega arith))
              (λ q j z su old seat slot_is e. r.live z su (subst (λ (p : ℕ × ℕ). Lives rings p.0 p.1 z su) (λ i. (seat i, slot_is i)) old) e)
              (clock_seat_of g.word) (clock_slot_of g.word) y st lives refl refl;
          gone = λ none. r.gone (λ y st lives. none y st (lives_still (clock_seat_of g.word) (clock_slot_of g.word) y st lives));
        };
  }

  open_after : OpenSection c h section later
  open_after = record {
    own = k.open_section.own;
    held = λ s j y lives. each_live (λ s j y st. st ≡ Held → (i : OwnSection) × (section s ≡ Some i) × IsUnnamed i.mode)
        (λ _. (inside, section_here, subst IsUnnamed (sym may.walking.open_is) tt))
        (λ s j y st lives e. k.open_section.held s j y (subst (Lives rings s j y) e lives)) s j y Held lives refl;
    one_set = λ s j l y z a d.
        let mine = each_live (λ t i u su. t ≡ n → su ≡ Held → u.first ≡ x.first) (λ _ _. refl)
        (λ t i u su lives at e. log.same_first seats k v is own write_max object previous position words b inside may i u
        (subst (λ (q : ℕ). Lives rings q i u Held) at (subst (Lives rings t i u) e lives))) in
        dite (ℕ_discrete s n)
        (λ e. mine s j y Held a e refl ∙ sym (mine s l z Held d e refl))
        (λ ne. k.open_section.one_set s j l y z (subst (λ (r : Ring). slot_at r j ≡ Live y Held) (ring_else s ne) a)
        (subst (λ (r : Ring). slot_at r l ≡ Live z Held) (ring_else s ne) d));
    whole = λ s j y i lives at mode.
        log.each_set seats k v is own write_max object previous position words b inside may (λ st. st ≡ Held) refl s j y lives
        (λ ne before. k.open_section.whole s j y i before at mode);
  }

  heads : HeadIsTop c h (λ o. put m (Head object) (link_of n position) (Head o)) later
  heads = record {
    held = each_held (λ s y. put m (Head object) (link_of n position) (Head y.object) ≡ link_of s y.position)
        (put_head m object (link_of n position) (λ o w. o ≡ object → w ≡ link_of n position) (λ _. refl) (λ o ne e. absurd (ne e)) object refl)
        (λ s j y lives. put_head m object (link_of n position) (λ o w. o ≡ y.object → w ≡ link_of s y.position)
        (λ e. absurd (holds_none s j y lives (sym e))) (λ o ne e. ap (λ (p : ℕ). m (Head p)) e ∙ k.head_is_top.held s j y lives) y.object refl);
    top = put_head m object (link_of n position) (λ o w. NoneHolds later o → IsTop later o (latest c.base h o) w)
        (λ none. absurd (none n slot x lives_new refl))
        (λ o ne none. top_still rings later kept o (latest c.base h o) (m (Head o))
        (k.head_is_top.top o (λ s j y lives. none s j y (lives_still s j y Held lives))));
  }
    where
      each_held : (P : ℕ → Version → Type 0) → P n x → ((s j : ℕ) (y : Version) → Lives rings s j y Held → P s y) → (s j : ℕ) (y : Version)
          → Lives later s j y Held → P s y
      each_held P here rest s j y lives = each_live (λ s j y st. st ≡ Held → P s y) (λ _. here)
          (λ s j y st lives e. rest s j y (subst (Lives rings s j y) e lives)) s j y Held lives refl

  links : HeldLink c h later
  links s j y lives =
      each_live (λ s j y st. st ≡ Held → IsTop later y.object (latest c.base h y.object) y.previous)
      (λ _. top_still rings later kept object (latest c.base h object) previous
      (is_top seats k v is inside may.walking object previous may.stands won))
      (λ s j y st lives e. top_still rings later kept y.object (latest c.base h y.object) y.previous (k.held_link s j y (subst (Lives rings s j y) e lives)))
      s j y Held lives refl

  aborted_after : AbortedLink later
  aborted_after s j y dead lives =
      each_live (λ s j y st. st ≡ Aborted dead → (y.previous ≡ 0) ⊎
      (IsGone later y.previous ⊎ ((z : Version) × (note : CommitNote) × Names later y.previous z (Committed note) × (z.object ≡ y.object))))
      (λ e. absurd (cc))
      (λ s j y st lives e.
      ⊎_elim inl
      (⊎_elim (λ g. inr (inl (gone_still rings later kept y.previous g))) (λ a. inr (inr (a.0, a.1, names_still rings later kept y.previous a.0 a.1 a.2, a.3))))
      (k.aborted_link s j y dead (subst (Lives rings s j y) e lives)))
      s j y (Aborted dead) lives refl

  below_after : BelowIsStamped c stamp later
  below_after s j y st lives fate z note under =
      each_live (λ s j y st. IsHeldOrAborted st → (under : Names rings y.previous z (Committed note)) → stamp_of c stamp under.seat z ≡ note.time)
      (λ _ under. below_stamped seats k v is inside may.walking object previous may.stands z note under)
      (λ s j y st lives fate. k.below_is_stamped s j y st lives fate z note)
      s j y st lives fate (names_was rings later kept y.previous z note under)

  fresh_after : LockFreshness c h time later
  fresh_after s j y lives =
      each_live (λ s j y st. st ≡ Held → (t : ℕ) × (time s ≡ Some t) × (latest c.base h y.object ≤ t) × (y.object < c.objects))
      (λ _. (time_in inside, time_here, is_fresh seats k v is inside may.walking object previous may.stands won, may.in_range))
      (λ s j y st lives e. k.lock_freshness s j y (subst (Lives rings s j y) e lives))
      s j y Held lives refl

  successors_after : Successors c h stamp super section later
  successors_after = record {
    held = each_live (λ s j y st. IsHeldOrAborted st → super s j ≡ 0)
        (λ _. log.super_new seats k v is own write_max object previous position words b inside may) k.successors.held;
    next = λ s j y note lives. k.successors.next s j y note (kept.was s j y note lives);
    stamped = λ s j y note lives t l z other there. k.successors.stamped s j y note (kept.was s j y note lives) t l z other (kept.was t l z other there);
    unfinished = λ s j y note lives. k.successors.unfinished s j y note (kept.was s j y note lives);
    built = λ s j d at. k.successors.built s j d (log.built_was seats k v is own write_max object previous position words b inside may s j d
        at).0;
  }

  pub lock_won : Facts starts allows c start (put m (Head object) (link_of v.number position)) h
      (parts_of (set_at seats v.number (head_locked c v object previous position words)))
  lock_won =
      let deaths : Deaths c h later = record {
        aborted = λ s j dead y lives. each_live (λ s j y st. st ≡ Aborted (Some dead) → dead ≤ c.base + length h + 1) (λ e. absurd (cc))
            (λ s j y st lives e. k.deaths.aborted s j dead y (subst (Lives rings s j y) e lives)) s j y (Aborted (Some dead)) lives refl;
        cut = λ s j dead y note lives. k.deaths.cut s j dead y note (kept.was s j y note lives);
        superseded = λ s j dead y note lives. k.deaths.superseded s j dead y note (kept.was s j y note lives);
      } in
      let seen = each_live (λ s j y st. DeathSeen (c.base + length (seats s).past.seen) st)
      (none_noted (c.base + length (seats n).past.seen) Held refl) k.deaths_seen in
      let places : WalkerPlace c start h master time (λ s. (seats s).walk) later = λ s t timed. stands_kept t (seats s).walk (k.walker_place s t timed) in
      let late : WalkerLate time (λ s. (seats s).walk) later =
      λ s t stand y note timed at e names. k.walker_late s t stand y note timed at e (stand_was s stand at y (Committed note) names) in
      let unfinished : UnstampedIsUnfinished c stamp section later = λ s j y note lives. k.unstamped_is_unfinished s j y note (kept.was s j y note lives) in
      let cut : CutIsOld time later = λ s j y note lives. k.cut_is_old s j y note (kept.was s j y note lives) in
      let death_after : DeathAfterWrite later = λ s j dead y note lives. k.death_after_write s j dead y note (kept.was s j y note lives) in
      let named = named_kept rings later kept c h stamp section (λ s i naming at mode. nothing_else s (other_named s i naming at mode)) k.named_commit in
      let backs = back_kept rings later kept c h master section time (λ s. (seats s).clocks) (λ s. (seats s).grace) (λ s. (seats s).back)
      (λ s w at. nothing_else s (λ e.
      let none : None ≡ Some w = sym may.walking.no_back ∙ ap (λ (u : Knowledge). u.back) (sym is) ∙ ap (λ (t : ℕ). (seats t).back) (sym e) ∙ at in cc))
      k.write_back in
      settle starts allows c start (put m (Head object) (link_of v.number position)) h seats v.number v (head_locked c v object previous position words) is
      (record unchanged { ring = Some (head_locked c v object previous position words).ring })
      (refl, refl, refl, refl, refl, refl, refl, refl, refl, refl, refl)
      (let words_after = log.words_after seats k v is own write_max object previous position words b inside may in
      let stamps_after = log.stamps_after seats k v is own write_max object previous position words b inside may in
      let sets_after = log.sets_after seats k v is own write_max object previous position words b inside may in
      let grace_after = log_places.grace_after seats k v is own write_max object previous position words b inside may in
      let past_help_still = past_help_kept rings later kept c stamp section (λ s. (seats s).clocks) k.stamped_past_help in
      let link_still = link_kept rings later kept c h k.commit_link in
      let master_still = master_kept rings later kept c h start master time k.present_master in
      let foot_still = foot_kept rings later kept c h start master time k.chain_foot in
      let flag_still = flag_kept rings later kept super section k.successor_flag in
      let super_still = super_kept rings later kept c h super (λ s. (seats s).empty) k.succeeded_has_super in
      let freed_still = freed_kept rings later kept c h (m Clock) (λ s. (seats s).grace) k.freed_is_old in
      assumption (
        positions,
        heads,
        links,
        aborted_after,
        below_after,
        fresh_after,
        successors_after,
        before_death,
        knowledge,
        falls,
        found_after,
        open_after,
        k,
      ))

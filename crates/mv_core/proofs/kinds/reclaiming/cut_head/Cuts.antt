-- What holds of deaths and of unfinished commits stays where each live version stays what it is to the other seats, but that it may be cut, and what its owner
-- noted of it stays.
use Rattle.std.proofs.Common.{◌≡◌, ℕ, ◌+◌, ◌/◌, ◌<◌, ◌≤◌, true, false, Bool, List, length, refl, sym, ap, ◌∙◌, subst, ⊎_elim, arith, Option, Some, None}
use Rattle.mv_core.proofs.Terms.{Entry, State, Writes, Config, Super, Memory, Ring, Version, WriteSetStatus, Held, Aborted, Committed, CommitNote, Past}
use Rattle.mv_core.proofs.Terms.{WalkStage}
use Rattle.mv_core.proofs.Terms.{Lives, Names, IsNextWrite, ViewParts}
use Rattle.mv_core.proofs.FactTerms.{IsBeforeDeath, WalkerBeforeDeath, Deaths, death_in, DeathsSeen, DeathAfterWrite, SuccessorFlag, Facts}
use Rattle.mv_core.proofs.history.Latest.{entry-within}
use Rattle.mv_core.proofs.logs.Links.{names_once, none_names_zero}
use Rattle.mv_core.proofs.kinds.walking.Landing.{top_lands}
use Rattle.mv_core.proofs.logs.SeenDeaths.{none_noted}
use Rattle.mv_core.proofs.logs.Slots.{Becomes, Matches, match_weaker}
use Rattle.mv_core.proofs.frames.Matching.{KeepsPlace, LivesOn, cut_in, on_self, on_place, was_dead, was_committed, uncut_back, names_back, aborted_back}

-- and the same death is noted
abbrev pub SameDeath : Becomes
SameDeath x st y su = LivesOn x st y su × (death_in su ≡ death_in st)

-- whether SUPER of the version below was stored
abbrev pub linked_in : WriteSetStatus → Bool
linked_in Held = false
linked_in (Aborted dead) = false
linked_in (Committed note) = note.linked

-- and all that was noted
abbrev pub SameNotes : Becomes
SameNotes x st y su = SameDeath x st y su × (linked_in su ≡ linked_in st)

-- and none is cut: the versions of a seat that aborts
abbrev pub Aborts : Becomes
Aborts x st y su = SameNotes x st y su × (cut_in su ≡ cut_in st)

-- and a held one is held still, but that a version may be cut
abbrev pub Cuts : Becomes
Cuts x st y su = SameNotes x st y su × (st ≡ Held → su ≡ Held)

-- and it isn't cut, if it wasn't: but for the words of a held one all stays
abbrev pub Steady : Becomes
Steady x st y su = Cuts x st y su × (cut_in su ≡ cut_in st)

pub death_self : (x : Version) (st : WriteSetStatus) → SameDeath x st x st
death_self x st = (on_self x st, refl)

pub aborts_self : (x : Version) (st : WriteSetStatus) → Aborts x st x st
aborts_self x st = ((death_self x st, refl), refl)

pub cuts_self : (x : Version) (st : WriteSetStatus) → Cuts x st x st
cuts_self x st = ((death_self x st, refl), λ held. held)

pub steady_self : (x : Version) (st : WriteSetStatus) → Steady x st x st
steady_self x st = (cuts_self x st, refl)

pub death_place : KeepsPlace SameDeath
death_place x st y su a = on_place x st y su a.0

-- the second note has the time and the death of the first one, and is that of a cut version if the first one is
pub record IsNoteOf (m n : CommitNote) : Type 0 where
  pub time : n.time ≡ m.time
  pub dead : n.dead ≡ m.dead
  pub cut : m.cut ≡ true → n.cut ≡ true

-- a time is before a death, by what is noted
death_before : (t : ℕ) (st : WriteSetStatus) → IsBeforeDeath t st → (dead : ℕ) → death_in st ≡ Some dead → t < dead
death_before t Held before dead e = absurd (cc)
death_before t (Aborted None) before dead e = absurd (cc)
death_before t (Aborted (Some d)) before dead e = let same : d ≡ dead = cc in subst (λ (u : ℕ). t < u) same before
death_before t (Committed m) before dead e = before dead e

is_before : (t : ℕ) (st : WriteSetStatus) → ((dead : ℕ) → death_in st ≡ Some dead → t < dead) → IsBeforeDeath t st
is_before t Held before = tt
is_before t (Aborted None) before = tt
is_before t (Aborted (Some d)) before = before d refl
is_before t (Committed m) before = before

still_before : (t : ℕ) (st su : WriteSetStatus) → death_in su ≡ death_in st → IsBeforeDeath t st → IsBeforeDeath t su
still_before t st su same before = is_before t su (λ dead e. death_before t st before dead (sym same ∙ e))

module _ (c : Config) (h : List Entry) (before after : ℕ → Ring) (k : Matches SameDeath before after) where
  pub this_dead : (s j t : ℕ) (y : Version) → Lives after s j y (Aborted (Some t)) → Lives before s j y (Aborted (Some t))
  this_dead s j t y lives =
      let b = k.back s j y (Aborted (Some t)) lives in
      let w = was_dead b.0 y b.1 t b.3.0 in
      let same : Some t ≡ w.0 = b.3.1 ∙ ap death_in w.1 in
      subst (λ (v : Version). Lives before s j v (Aborted (Some t))) (sym w.2) (subst (Lives before s j b.0) (w.1 ∙ ap Aborted (sym same)) b.2)

  pub this_committed : (s j : ℕ) (y : Version) (n : CommitNote) → Lives after s j y (Committed n)
      → (m : CommitNote) × Lives before s j y (Committed m) × IsNoteOf m n
  this_committed s j y n lives =
      let b = k.back s j y (Committed n) lives in
      let w = was_committed b.0 y b.1 n b.3.0 in
      let there = subst (λ (v : Version). Lives before s j v (Committed w.0)) (sym w.2) (subst (Lives before s j b.0) w.1 b.2) in
      (w.0, there, record { time = w.3; dead = b.3.1 ∙ ap death_in w.1; cut = w.4 })

  deaths_match : Deaths c h before → Deaths c h after
  deaths_match old = record {
    aborted = λ s j dead x lives. old.aborted s j dead x (this_dead s j dead x lives);
    cut = λ s j dead x n lives cut e.
        let b = this_committed s j x n lives in
        (elim b.0.cut as (λ (d : Bool). b.0.cut ≡ d → dead ≤ c.base + length h + 1) [
          | true ↦ λ was. old.cut s j dead x b.0 b.1 was (sym b.2.dead ∙ e)
          | false ↦ λ was.
              let next = old.superseded s j dead x b.0 b.1 was (sym b.2.dead ∙ e) in
              let le = (entry-within c.base h x.object dead next.entry next.there).1 in
              omega arith
        ]) refl;
    superseded = λ s j dead x n lives uncut e.
        let b = this_committed s j x n lives in
        subst (λ (t : ℕ). IsNextWrite c.base h x.object t dead) (sym b.2.time)
        (old.superseded s j dead x b.0 b.1 (uncut_back b.0 n b.2.cut uncut) (sym b.2.dead ∙ e));
  }

  deaths_seen_match : (past : ℕ → Past) → DeathsSeen c past before → DeathsSeen c past after
  deaths_seen_match past old s j x Held lives = none_noted (c.base + length (past s).seen) Held refl
  deaths_seen_match past old s j x (Aborted None) lives = none_noted (c.base + length (past s).seen) (Aborted None) refl
  deaths_seen_match past old s j x (Aborted (Some t)) lives = old s j x (Aborted (Some t)) (this_dead s j t x lives)
  deaths_seen_match past old s j x (Committed n) lives = λ dead e.
      let b = this_committed s j x n lives in
      let r = old s j x (Committed b.0) b.1 dead (sym b.2.dead ∙ e) in
      (r.0, λ uncut. r.1 (uncut_back b.0 n b.2.cut uncut))

  death_after_match : DeathAfterWrite before → DeathAfterWrite after
  death_after_match old s j dead x n lives e =
      let b = this_committed s j x n lives in subst (λ (t : ℕ). t < dead) (sym b.2.time) (old s j dead x b.0 b.1 (sym b.2.dead ∙ e))

  -- where the death of what a held version links to is after the times of the walks that stand there
  before_death_match : (time : ℕ → Option ℕ) (walk : ℕ → WalkStage)
      → ((s t : ℕ) (y z : Version) (st : WriteSetStatus) (q j : ℕ) → time s ≡ Some t → Lives before q j y Held → Names before y.previous z st
      → IsBeforeDeath t st)
      → WalkerBeforeDeath time walk before → WalkerBeforeDeath time walk after
  before_death_match time walk held old = record {
    here = λ s t stand y su e w names.
        let b = names_back SameDeath death_place before after k stand.link y su names in
        still_before t b.1 su b.3.1 (old.here s t stand b.0 b.1 e w b.2);
    below = λ s t stand y z dead su e w names below.
        let d = names_back SameDeath death_place before after k y.previous z su below in
        still_before t d.1 su d.3.1
        (⊎_elim
        (λ a. old.below s t stand y d.0 a.0 d.1 e w (record { seat = names.seat; slot = names.slot; lives = a.1; is = names.is }) d.2)
        (λ lives. held s t y d.0 d.1 names.seat names.slot e lives d.2)
        (aborted_back before after (match_weaker SameDeath LivesOn before after (λ x st u sv a. a.0) k) names.seat names.slot y dead names.lives));
  }

-- all facts on deaths
pub record SameDeathFacts (c : Config) (h : List Entry) (f : ViewParts) (rings : ℕ → Ring) : Type 0 where
  pub deaths : Deaths c h rings
  pub deaths_seen : DeathsSeen c f.past rings
  pub death_after : DeathAfterWrite rings
  pub before_death : WalkerBeforeDeath f.time f.walk rings
  pub dead : (s j t : ℕ) (x : Version) (n : CommitNote) → Lives rings s j x (Committed n) → n.dead ≡ Some t → c.base + x.position / c.slots < t
  pub aborted : (s j t : ℕ) (x : Version) → Lives rings s j x (Aborted (Some t)) → c.base + x.position / c.slots < t

module _ {starts : State → Type 0} {allows : List ℕ → State → Writes → Type 0} {c : Config} {start : State} {m : Memory} {h : List Entry} {f : ViewParts}
    (k : Facts starts allows c start m h f) (rings : ℕ → Ring) where
  -- what a held version links to is alive to all sections
  held_alive : (s t : ℕ) (y z : Version) (st : WriteSetStatus) (q j : ℕ) → f.time s ≡ Some t → Lives f.ring q j y Held → Names f.ring y.previous z st
      → IsBeforeDeath t st
  held_alive s t y z st q j timed lives under =
      ⊎_elim
      (λ zero. absurd (none_names_zero f.ring y.previous zero.0 z st under))
      (λ l.
      let one = names_once c h f.ring k.checked k.history.in_time k.positions y.previous l.version z (Committed l.note) st l.names under in
      subst (IsBeforeDeath t) one.3 l.alive)
      (top_lands k s t y.object y.previous timed (k.held_link q j y lives))

  pub same_death_facts : Matches SameDeath f.ring rings → SameDeathFacts c h f rings
  same_death_facts same = record {
    deaths = deaths_match c h f.ring rings same k.deaths;
    deaths_seen = deaths_seen_match c h f.ring rings same f.past k.deaths_seen;
    death_after = death_after_match c h f.ring rings same k.death_after_write;
    before_death = before_death_match c h f.ring rings same f.time f.walk held_alive k.walker_before_death;
    dead = λ s j t x n lives e. let b = this_committed c h f.ring rings same s j x n lives in k.positions_and_grace.dead s j t x b.0 b.1 (sym b.2.dead ∙ e);
    aborted = λ s j t x lives. k.positions_and_grace.aborted s j t x (this_dead c h f.ring rings same s j t x lives);
  }

  -- and the flags of commits that aren't finished, where these stay, and SUPER of each live version
  pub flags_match : (super : ℕ → ℕ → ℕ) → ((s j : ℕ) (x : Version) (st : WriteSetStatus) → Lives f.ring s j x st → super s j ≡ m (Super s j))
      → Matches SameNotes f.ring rings → SuccessorFlag super f.section rings
  flags_match super same notes s j inside naming x n in_section mode lives time =
      let b = linked_committed s j x n lives in
      let r = k.successor_flag s j inside naming x b.0 in_section mode b.1 (sym b.2.time ∙ time) in (
        λ zero_is. b.3 ∙ r.0 zero_is,
        λ y other below.
            let d = linked_committed below.seat below.slot y other below.lives in
            let word = same below.seat below.slot y (Committed d.0) d.1 in
            let q = r.1 y d.0 (record { seat = below.seat; slot = below.slot; lives = d.1; is = below.is }) in
            (λ linked. word ∙ q.0 (sym b.3 ∙ linked), λ unlinked. let z = q.1 (sym b.3 ∙ unlinked) in (word ∙ z.0, d.2.dead ∙ z.1)),
      )
    where
      linked_committed : (s j : ℕ) (y : Version) (n : CommitNote) → Lives rings s j y (Committed n)
          → (m : CommitNote) × Lives f.ring s j y (Committed m) × IsNoteOf m n × (n.linked ≡ m.linked)
      linked_committed s j y n lives =
          let b = notes.back s j y (Committed n) lives in
          let w = was_committed b.0 y b.1 n b.3.0.0 in
          let there = subst (λ (v : Version). Lives f.ring s j v (Committed w.0)) (sym w.2) (subst (Lives f.ring s j b.0) w.1 b.2) in
          (w.0, there, record { time = w.3; dead = b.3.0.1 ∙ ap death_in w.1; cut = w.4 }, b.3.1 ∙ ap linked_in w.1)

-- What a tidy leaves of a seat, and that nothing but the end of time holds a log in a domain of one seat.
use Rattle.std.proofs.Common.{◌≡◌, ℕ, ◌+◌, ◌*◌, ◌<◌, ◌≤◌, true, false, List, [], length, drop, refl, sym, ap, ◌∙◌, subst, ⊎_elim, arith, Some}
use Rattle.std.proofs.lemmas.Bool.{cases_lt}
use Rattle.std.proofs.lemmas.Option.{slice_get_within}
use Rattle.mv_history.specs.State.{State, Writes}
use Rattle.mv_history.specs.declared.Step.{Step}
use Rattle.mv_history.specs.declared.answers.Holder.{Holder}
use Rattle.mv_history.specs.declared.answers.Holder.TheVariants.{Mark, Above, Fresh, End}
use Rattle.mv_history.specs.Trail.{clock_exchanges}
use Rattle.mv_layout.specs.declared.Config.{Config}
use Rattle.object_lock.specs.mv_core.declared.view.Knowledge.{Knowledge}
use Rattle.object_lock.specs.mv_core.Known.{Known}
use Rattle.object_lock.specs.seat_log.Notes.{Noted}
use Rattle.object_lock.specs.seat_log.Stands.{Stands}
use Rattle.log_reclaim.specs.declared.rounds.Tidy.{Tidy}
use Rattle.log_reclaim.specs.Parts.{Reclaims, Shrinks}
use Rattle.log_reclaim.specs.Holders.{TidyHolds, HeldSo}
use Rattle.log_reclaim.specs.Rounds.{FreesFirst, SweptSo}
use Rattle.log_reclaim.specs.Tidies.{RestsOnce, RestsWhereDue, WritesBackSo}
use Rattle.log_reclaim.proofs.causes.EndCause.{time_in_range}
use Rattle.mvrlu.specs.Placed.{Placed, seat_from, IsIdle}
use Rattle.mvrlu.specs.Holding.{Tidies, TidiesAlone}
use Rattle.mvrlu.proofs.rooms.Left.{trail_is, idle_after, prepared, freed_is, spare_is, live_is, some_step, few_steps}

-- what a tidy has told of the views and logs before and after it
pub record HasTidied (c : Config) (v w : Knowledge) (l m : Noted) (t : Tidy) : Type 0 where
  pub made : List Step
  pub stands : Stands c w m
  pub live : t.live ≡ length m.live
  pub shrinks : Shrinks l m t.freed
  pub rests : RestsOnce v w
  pub reclaims : Reclaims v w made
  pub swept : SweptSo c w m made false
  pub held : HeldSo (TidyHolds c w m made) m t.held
  pub exchanges : length (clock_exchanges made) ≤ 1
  pub writes_back : WritesBackSo c w m made
  pub first : FreesFirst c l made true
  pub rests_due : RestsWhereDue c w l made
  pub trail : length w.trail ≤ length v.trail + (2 * (4 + c.seats + 20 * c.slots) + 8)
  pub fresh : (time : ℕ) → t.held ≡ Some (Fresh time) → v.base + length v.past.seen < time
  pub alone : c.seats ≡ 1 → v.base + length v.past.seen < 35184372088831 → m.live ≡ []

-- that, by the numbers that the seat's place has
pub has_tidied : (c d : Config) → c ≡ d → (v w : Knowledge) (l m : Noted) (t : Tidy) → Stands c w m → t.live ≡ length m.live → Shrinks l m t.freed
    → RestsOnce v w
    → (made : List Step) × Reclaims v w made × SweptSo c w m made false × HeldSo (TidyHolds c w m made) m t.held × (length (clock_exchanges made) ≤ 1)
    × WritesBackSo c w m made × FreesFirst c l made true × RestsWhereDue c w l made
    → length w.trail ≤ length v.trail + (2 * (4 + c.seats + 20 * c.slots) + 8)
    → ((time : ℕ) → t.held ≡ Some (Fresh time) → v.base + length v.past.seen < time)
    → (c.seats ≡ 1 → v.base + length v.past.seen < 35184372088831 → m.live ≡ []) → HasTidied d v w l m t
has_tidied c d is v w l m t stands live shrinks rests r trail fresh alone =
    subst (λ (e : Config). HasTidied e v w l m t) is (record {
      made = r.0;
      stands = stands;
      live = live;
      shrinks = shrinks;
      rests = rests;
      reclaims = r.1;
      swept = r.2;
      held = r.3;
      exchanges = r.4;
      writes_back = r.5;
      first = r.6;
      rests_due = r.7;
      trail = trail;
      fresh = fresh;
      alone = alone;
    })

module _ (starts : State → Type 0) (allows : List ℕ → State → Writes → Type 0) (p q : Placed) (t : Tidy) (config : q.config ≡ p.config)
    (table : q.table ≡ p.table) (idle : IsIdle starts allows p) (known : ∥ Known starts allows q.view ∥₁)
    (k : HasTidied q.config p.view q.view p.log q.log t) where
  built : q.log.built ≡ p.log.built
  built = ap (λ (l : Noted). l.built) k.shrinks.rest

  tidied_idle : IsIdle starts allows q
  tidied_idle = idle_after starts allows p q k.made config table idle k.reclaims known k.stands built

  steps_is : drop (length p.view.trail) q.view.trail ≡ k.made
  steps_is = trail_is starts allows p q k.made config table idle k.reclaims known k.stands

  -- what is said of the call's own steps, by those that it made
  by_steps : (So : List Step → Type 0) → So k.made → So (drop (length p.view.trail) q.view.trail)
  by_steps So so = subst So (sym steps_is) so

  pub tidies : Tidies p q t
  tidies = record {
    prepares = prepared starts allows p q k.made config table idle k.reclaims known k.stands;
    freed = freed_is starts allows p q k.made config table idle k.reclaims known k.stands t.freed k.shrinks;
    spare = spare_is starts allows p q k.made config table idle k.reclaims known k.stands t.freed k.shrinks;
    live = k.live;
    room = live_is starts allows p q k.made config table idle k.reclaims known k.stands t.live k.live;
    shrinks = k.shrinks;
    frees_first = by_steps (λ s. FreesFirst q.config p.log s true) k.first;
    writes_back = by_steps (λ s. WritesBackSo q.config q.view q.log s) k.writes_back;
    rests_due = by_steps (λ s. RestsWhereDue q.config q.view p.log s) k.rests_due;
    swept = by_steps (λ s. SweptSo q.config q.view q.log s false) k.swept;
    held = by_steps (λ s. HeldSo (TidyHolds q.config q.view q.log s) q.log t.held) k.held;
    fresh = k.fresh;
    rests = k.rests;
    exchanges = by_steps (λ s. length (clock_exchanges s) ≤ 1) k.exchanges;
    some = some_step starts allows p q k.made config table idle k.reclaims known k.stands true k.first;
    steps = few_steps starts allows p q k.made config table idle k.reclaims known k.stands (2 * (4 + q.config.seats + 20 * q.config.slots) + 8) k.trail;
  }

  module _ (one : q.config.seats ≡ 1) where
    -- another seat than the own isn't there
    no_other : (seat : ℕ) → (seat ≡ q.view.number → ⊥) → seat < q.config.seats → ⊥
    no_other seat other within =
        let own = tidied_idle.placed.range in
        let same : seat ≡ q.view.number = omega arith in
        other same

    empty : p.view.base + length p.view.past.seen < 35184372088831 → length q.log.live ≡ 0
    empty early = ap length (k.alone one early)

    ends : (holder : Holder) → t.held ≡ Some holder → 0 < length q.log.live → TidyHolds q.config q.view q.log k.made holder → holder ≡ End
    ends (Mark seat low) is some h = absurd (no_other seat h.0.not_own h.0.in_range)
    ends (Above object seat) is some h = absurd (no_other seat h.finds.not_own h.finds.in_range)
    ends (Fresh time) is some h =
        let late = k.fresh time is in
        let at = h.1.at in
        let after = at.0 in
        let within = slice_get_within q.view.past.seen _ _ at.1 in
        let last = time_in_range starts allows q.view known in
        absurd (⊎_elim (λ early. let none = empty early in omega arith) (λ worn. omega arith)
        (cases_lt (p.view.base + length p.view.past.seen) 35184372088831))
    ends End is some h = refl

    pub tidies_alone : TidiesAlone (seat_from p) t
    tidies_alone = record {
      empty = λ early. k.live ∙ empty early;
      ends = λ holder is. let h = subst (HeldSo (TidyHolds q.config q.view q.log k.made) q.log) is k.held in ends holder is h.0 h.1;
    }

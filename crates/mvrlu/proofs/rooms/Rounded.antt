-- What one round leaves of a seat.
use Rattle.std.proofs.Common.{◌≡◌, ℕ, ◌+◌, ◌*◌, ◌≤◌, true, false, List, [], length, drop, sym, subst}
use Rattle.mv_history.specs.State.{State, Writes}
use Rattle.mv_history.specs.declared.Step.{Step}
use Rattle.mv_history.specs.Trail.{clock_exchanges}
use Rattle.mv_layout.specs.declared.Config.{Config}
use Rattle.object_lock.specs.mv_core.declared.view.Knowledge.{Knowledge}
use Rattle.object_lock.specs.mv_core.Known.{Known}
use Rattle.object_lock.specs.seat_log.Notes.{Noted}
use Rattle.object_lock.specs.seat_log.Stands.{Stands}
use Rattle.log_reclaim.specs.declared.rounds.Tidy.{Tidy}
use Rattle.log_reclaim.specs.Parts.{Reclaims, Shrinks}
use Rattle.log_reclaim.specs.Holders.{RoundHolds, HeldSo}
use Rattle.log_reclaim.specs.Rounds.{FreesFirst, SweptSo}
use Rattle.mvrlu.specs.Placed.{Placed, IsIdle}
use Rattle.mvrlu.specs.Holding.{Rounds}
use Rattle.mvrlu.proofs.rooms.Left.{trail_is, prepared, freed_is, spare_is, some_step, few_steps}

-- what a round with write-backs has told of the views and logs before and after it
pub record HasRounded (c : Config) (v w : Knowledge) (l m : Noted) (t : Tidy) : Type 0 where
  pub made : List Step
  pub stands : Stands c w m
  pub live : t.live ≡ length m.live
  pub shrinks : Shrinks l m t.freed
  pub rests : w.past.rests ≡ v.past.rests
  pub reclaims : Reclaims v w made
  pub swept : SweptSo c w m made true
  pub held : HeldSo (RoundHolds c w m made true) m t.held
  pub exchanges : clock_exchanges made ≡ []
  pub first : FreesFirst c l made false
  pub trail : length w.trail ≤ length v.trail + (4 + c.seats + 20 * c.slots)

-- that, by the numbers that the seat's place has
pub has_rounded : (c d : Config) → c ≡ d → (v w : Knowledge) (l m : Noted) (t : Tidy) → Stands c w m → t.live ≡ length m.live → Shrinks l m t.freed
    → w.past.rests ≡ v.past.rests
    → (made : List Step) × Reclaims v w made × SweptSo c w m made true × HeldSo (RoundHolds c w m made true) m t.held × (clock_exchanges made ≡ [])
    × FreesFirst c l made false
    → length w.trail ≤ length v.trail + (4 + c.seats + 20 * c.slots) → HasRounded d v w l m t
has_rounded c d is v w l m t stands live shrinks rests r trail =
    subst (λ (e : Config). HasRounded e v w l m t) is (record {
      made = r.0;
      stands = stands;
      live = live;
      shrinks = shrinks;
      rests = rests;
      reclaims = r.1;
      swept = r.2;
      held = r.3;
      exchanges = r.4;
      first = r.5;
      trail = trail;
    })

module _ (starts : State → Type 0) (allows : List ℕ → State → Writes → Type 0) (p q : Placed) (t : Tidy) (config : q.config ≡ p.config)
    (table : q.table ≡ p.table) (idle : IsIdle starts allows p) (known : ∥ Known starts allows q.view ∥₁)
    (k : HasRounded q.config p.view q.view p.log q.log t) where
  steps_is : drop (length p.view.trail) q.view.trail ≡ k.made
  steps_is = trail_is starts allows p q k.made config table idle k.reclaims known k.stands

  -- what is said of the call's own steps, by those that it made
  by_steps : (So : List Step → Type 0) → So k.made → So (drop (length p.view.trail) q.view.trail)
  by_steps So so = subst So (sym steps_is) so

  pub rounds : Rounds p q t
  rounds = record {
    prepares = prepared starts allows p q k.made config table idle k.reclaims known k.stands;
    freed = freed_is starts allows p q k.made config table idle k.reclaims known k.stands t.freed k.shrinks;
    spare = spare_is starts allows p q k.made config table idle k.reclaims known k.stands t.freed k.shrinks;
    live = k.live;
    shrinks = k.shrinks;
    frees_first = by_steps (λ s. FreesFirst q.config p.log s false) k.first;
    swept = by_steps (λ s. SweptSo q.config q.view q.log s true) k.swept;
    held = by_steps (λ s. HeldSo (RoundHolds q.config q.view q.log s true) q.log t.held) k.held;
    exchanges = by_steps (λ s. clock_exchanges s ≡ []) k.exchanges;
    rests = k.rests;
    some = some_step starts allows p q k.made config table idle k.reclaims known k.stands false k.first;
    steps = few_steps starts allows p q k.made config table idle k.reclaims known k.stands (4 + q.config.seats + 20 * q.config.slots) k.trail;
  }

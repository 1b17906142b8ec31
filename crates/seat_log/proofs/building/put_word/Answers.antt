use Rattle.std.proofs.Common.{◌≡◌, ◌⊎◌, ℕ, ◌+◌, ◌-◌, List, slice_set, sym, ap, ◌∙◌, subst, ⊎_elim, arith, Option, Some}
use Rattle.reader_marks.specs.mv_core.declared.view.Knowledge.{Knowledge}
use Rattle.reader_marks.specs.mv_core.Passes.{view, config_of}
use Rattle.seat_log.specs.declared.version.Note.{Note}
use Rattle.seat_log.specs.Notes.{Noted, next_of, IsBuilt, IsHeld, with_word, at_place, built_word, built_word_noted, word_noted}
use Rattle.seat_log.specs.Stands.{Stands}
use Rattle.seat_log.specs.Builds.{ChangesLog}
use Rattle.seat_log.proofs.Noting.{built_next}
use Rattle.seat_log.proofs.Changes.{next_changes, word_changes}
use Rattle.seat_log.specs.contracts.log.Log.{the_view}
use Rattle.seat_log.proofs.Places.{at_set}
use Rattle.seat_log.proofs.Rebuilding.{stands_built_word}
use Rattle.seat_log.proofs.HeldWords.{may_word, stands_word}
use Rattle.seat_log.proofs.building.put_word.Goals as goal

pub returns-in-Some-clause-stands : goal.returns-in-Some-clause-stands
returns-in-Some-clause-stands g c =
    let at = c.if-position-log.true in
    let long = c.log.inside.live.ok.0 in
    let e = c.len.ensures in
    let next : next_of (the_view c.log.inside) ≡ next_of c.args.log.now = ap next_of c.log.view_is in
    let there : IsBuilt c.args.log.now c.args.position = ⊎_elim (λ b. b) (λ h. let low = h.1 in absurd (omega arith)) c.requires.there in
    subst (λ (o : Option Note). Stands (config_of c.args.shared.now) (view c.store_next.new.pass) (record (the_view c.log.inside) { built = o }))
    (ap (built_word c.args.word c.args.value) c.in-Some.is)
    (subst (λ (m : Noted). Stands (config_of c.args.shared.now) (view c.store_next.new.pass) (built_word_noted m c.args.word c.args.value)) (sym c.log.view_is)
    (stands_built_word (config_of c.args.shared.now) (view c.args.pass.now) (view c.store_next.new.pass) c.args.log.now there.0 c.args.position c.args.word
    c.args.value c.requires.stands there.1 there.2 c.requires.open c.store_next.ensures.view))

-- where nothing is built there, the version is held
held_at : (c : Noted) (position freed len : ℕ) → IsBuilt c position ⊎ IsHeld c position → ((n : Note) → c.built ≡ Some n → n.position ≡ next_of c)
    → next_of c ≡ freed + len → (position ≡ freed + len → ⊥) → IsHeld c position
held_at l position freed len there built next ne = ⊎_elim (λ b. absurd (ne (sym b.2 ∙ built b.0 b.1 ∙ next))) (λ h. h) there

pub store_data-requires : goal.store_data-requires
store_data-requires g c =
    let long = c.log.inside.live.ok.0 in
    let e = c.len.ensures in
    let next : next_of (the_view c.log.inside) ≡ next_of c.args.log.now = ap next_of c.log.view_is in
    let held : IsHeld c.args.log.now c.args.position =
    held_at c.args.log.now c.args.position c.log.inside.freed c.len.result c.requires.there
    (λ n b. (built_next c.args.log.now n b c.requires.stands.log).0) (omega arith) c.if-position-log.false in
    λ lives in_lives. (
      in_lives.0,
      (
        in_lives.1,
        (
          c.requires.of,
          (
            c.own_slot-slot.ensures,
            may_word (config_of c.args.shared.now) (view c.args.pass.now) c.args.log.now c.args.position c.args.word c.args.value c.requires.stands held
                c.requires.open c.requires.range,
          ),
        ),
      ),
    )

module _ (g : _) (c : goal.After-log-2-1 g) where
  held : IsHeld c.args.log.now c.args.position
  held =
      let long = c.log.inside.live.ok.0 in
      let e = c.len.ensures in
      let next : next_of (the_view c.log.inside) ≡ next_of c.args.log.now = ap next_of c.log.view_is in
      held_at c.args.log.now c.args.position c.log.inside.freed c.len.result c.requires.there
      (λ n b. (built_next c.args.log.now n b c.requires.stands.log).0) (omega arith) c.if-position-log.false

  items : slice_set c.log.inside.live.items (c.args.position - c.log.inside.freed) (with_word c.args.word c.args.value c.index_mut.result.now)
      ≡ at_place (with_word c.args.word c.args.value) (c.args.position - c.log.inside.freed) c.log.inside.live.items
  items =
      let few = c.log.invariant.1.held in
      let h : IsHeld (the_view c.log.inside) c.args.position = subst (λ (m : Noted). IsHeld m c.args.position) (sym c.log.view_is) held in
      let low = h.0 in
      let high = h.1 in
      ap (λ n. slice_set c.log.inside.live.items (c.args.position - c.log.inside.freed) (with_word c.args.word c.args.value n)) c.index_mut.ensures.value
      ∙ at_set (with_word c.args.word c.args.value) (c.args.position - c.log.inside.freed) c.log.inside.live.items c.index_mut.result.now (omega arith)

  stands : Stands (config_of c.args.shared.now) (view c.store_data.new.pass)
      (record (the_view c.log.inside) {
        live = slice_set c.log.inside.live.items (c.args.position - c.log.inside.freed)
            (with_word c.args.word c.args.value c.index_mut.result.now);
      })
  stands =
      subst (λ (ns : List Note). Stands (config_of c.args.shared.now) (view c.store_data.new.pass) (record (the_view c.log.inside) { live = ns })) (sym items)
      (subst (λ (m : Noted). Stands (config_of c.args.shared.now) (view c.store_data.new.pass) (word_noted m c.args.position c.args.word c.args.value))
      (sym c.log.view_is)
      (stands_word (config_of c.args.shared.now) (view c.args.pass.now) c.args.log.now c.args.position c.args.word c.args.value c.requires.stands held
      (view c.store_data.new.pass) c.store_data.ensures.view))

pub invariant_of-log-2 : goal.invariant_of-log-2
invariant_of-log-2 g c = (c.log.invariant.0, (stands g c).log)

pub returns-clause-stands : goal.returns-clause-stands
returns-clause-stands g c = stands g c

pub returns-clause-held : goal.returns-clause-held
returns-clause-held g c = λ h. (
  (λ i. record (the_view c.log.inside) { live = items g c i }) ∙ ap (λ (m : Noted). word_noted m c.args.position c.args.word c.args.value) c.log.view_is,
  c.store_data.ensures.view,
)

pub returns-in-Some-clause-rest : goal.returns-in-Some-clause-rest
returns-in-Some-clause-rest g c =
    subst (λ (w : Knowledge). ChangesLog (view c.args.pass.now) w) (sym c.store_next.ensures.view)
    (next_changes (config_of c.args.shared.now) (view c.args.pass.now) c.args.position (4 + c.args.word) c.args.value)

pub returns-clause-rest : goal.returns-clause-rest
returns-clause-rest g c =
    subst (λ (w : Knowledge). ChangesLog (view c.args.pass.now) w) (sym c.store_data.ensures.view)
    (word_changes (config_of c.args.shared.now) (view c.args.pass.now) c.args.position c.args.word c.args.value)

-- no version is built there and none is held: this does not happen
pub returns-in_default : goal.returns-in_default
returns-in_default g c =
    let at = c.if-position-log.true in
    let long = c.log.inside.live.ok.0 in
    let e = c.len.ensures in
    let next : next_of (the_view c.log.inside) ≡ next_of c.args.log.now = ap next_of c.log.view_is in
    let there : IsBuilt c.args.log.now c.args.position = ⊎_elim (λ b. b) (λ h. let low = h.1 in absurd (omega arith)) c.requires.there in
    let is = there.1 in
    let same = ap (λ (m : Noted). m.built) c.log.view_is in
    absurd (cc)

pub returns-in-Some-clause-built : goal.returns-in-Some-clause-built
returns-in-Some-clause-built g c = λ there. (
  (λ i. record (the_view c.log.inside) { built = sym (ap (built_word c.args.word c.args.value) c.in-Some.is) i })
      ∙ ap (λ (m : Noted). built_word_noted m c.args.word c.args.value) c.log.view_is,
  c.store_next.ensures.view,
)

pub returns-in-Some-clause-held : goal.returns-in-Some-clause-held
returns-in-Some-clause-held g c = λ held.
    let at = c.if-position-log.true in
    let long = c.log.inside.live.ok.0 in
    let e = c.len.ensures in
    let next : next_of (the_view c.log.inside) ≡ next_of c.args.log.now = ap next_of c.log.view_is in
    let low = held.1 in
    absurd (omega arith)

pub returns-in-Some-clause-same : goal.returns-in-Some-clause-same
returns-in-Some-clause-same g c = c.store_next.ensures.same

pub returns-in-Some-clause-step : goal.returns-in-Some-clause-step
returns-in-Some-clause-step g c = c.store_next.ensures.step

pub returns-clause-built : goal.returns-clause-built
returns-clause-built g c = λ b.
    let long = c.log.inside.live.ok.0 in
    let e = c.len.ensures in
    let next : next_of (the_view c.log.inside) ≡ next_of c.args.log.now = ap next_of c.log.view_is in
    let at : next_of c.args.log.now ≡ c.log.inside.freed + c.len.result = omega arith in
    absurd (c.if-position-log.false (sym b.2 ∙ (built_next c.args.log.now b.0 b.1 c.requires.stands.log).0 ∙ at))

pub returns-clause-same : goal.returns-clause-same
returns-clause-same g c = c.store_data.ensures.same

pub returns-clause-step : goal.returns-clause-step
returns-clause-step g c = c.store_data.ensures.step

use Rattle.std.proofs.Common.{◌≡◌, ◌-◌, List, length, slice_set, sym, ap, ◌∙◌, subst, arith}
use Rattle.reader_marks.specs.mv_core.declared.view.Knowledge.{Knowledge}
use Rattle.reader_marks.specs.mv_core.Passes.{view, config_of}
use Rattle.seat_log.specs.declared.version.Note.{Note}
use Rattle.seat_log.specs.Notes.{Noted, IsHeld, at_place, with_words, some_noted, words_noted}
use Rattle.seat_log.specs.Stands.{Stands}
use Rattle.seat_log.specs.Builds.{ChangesLog}
use Rattle.seat_log.specs.contracts.log.Log.{the_view}
use Rattle.seat_log.proofs.AllWords.{all_noted}
use Rattle.seat_log.proofs.Changes.{puts_change}
use Rattle.seat_log.proofs.Places.{at_set}
use Rattle.seat_log.proofs.writing.put_words.Goals as goal

module _ (g : _) (c : goal.After-log-1 g) where
  held : IsHeld (the_view c.log.inside) c.args.position
  held = subst (λ (m : Noted). IsHeld m c.args.position) (sym c.log.view_is) c.requires.held

  -- the note there has six words
  wide : length c.index_mut.result.now.words ≡ 6
  wide = c.set_words.ensures.wide.0

  six : length c.args.words ≡ 6
  six = c.set_words.ensures.wide.1

  items : slice_set c.log.inside.live.items (c.args.position - c.log.inside.freed) c.set_words.new.note
      ≡ at_place (with_words c.args.words) (c.args.position - c.log.inside.freed) c.log.inside.live.items
  items =
      let few = c.log.invariant.1.held in
      let low = held.0 in
      let high = held.1 in
      ap (λ n. slice_set c.log.inside.live.items (c.args.position - c.log.inside.freed) n)
      (c.set_words.ensures.words ∙ ap (with_words c.args.words) c.index_mut.ensures.value)
      ∙ at_set (with_words c.args.words) (c.args.position - c.log.inside.freed) c.log.inside.live.items c.index_mut.result.now (omega arith)

  stands : Stands (config_of c.args.shared.now) (view c.store_held.new.pass)
      (record (the_view c.log.inside) {
        live = slice_set c.log.inside.live.items (c.args.position - c.log.inside.freed) c.set_words.new.note;
      })
  stands =
      subst (λ (ns : List Note). Stands (config_of c.args.shared.now) (view c.store_held.new.pass) (record (the_view c.log.inside) { live = ns })) (sym items)
      (subst (Stands (config_of c.args.shared.now) (view c.store_held.new.pass))
      (all_noted (the_view c.log.inside) c.args.position c.args.words c.index_mut.result.now six
      (subst (λ (n : Note). length n.words ≡ 6) c.index_mut.ensures.value wide))
      (subst (λ (m : Noted). Stands (config_of c.args.shared.now) (view c.store_held.new.pass) (some_noted m c.args.position c.args.words 6))
      (sym c.log.view_is) c.store_held.ensures.stands))

pub invariant_of-log : goal.invariant_of-log
invariant_of-log g c = (c.log.invariant.0, (stands g c).log)

pub returns-clause-stands : goal.returns-clause-stands
returns-clause-stands g c = stands g c

pub returns-clause-log : goal.returns-clause-log
returns-clause-log g c =
    (λ i. record (the_view c.log.inside) { live = items g c i }) ∙ ap (λ (m : Noted). words_noted m c.args.position c.args.words) c.log.view_is

pub returns-clause-rest : goal.returns-clause-rest
returns-clause-rest g c =
    subst (λ (w : Knowledge). ChangesLog (view c.args.pass.now) w) (sym c.store_held.ensures.view)
    (puts_change (config_of c.args.shared.now) (view c.args.pass.now) c.args.position c.args.words 6)

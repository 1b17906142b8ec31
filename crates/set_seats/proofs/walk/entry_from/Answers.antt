use Rattle.std.proofs.Common.{sym, ◌∙◌}
use Rattle.set_model.specs.Catalogue.{map_of}
use Rattle.set_model.specs.CatalogueOf.{catalogue_of}
use Rattle.set_seats.proofs.SetEntries.{none_next, has_value, entry_next}
use Rattle.set_seats.proofs.walk.entry_from.Goals as goal

pub returns-in_default : goal.returns-in_default
returns-in_default g c = record {
  entry = none_next _ c.args.key (map_of c.args.name (catalogue_of (g.V.View.state c.args.view.now))) c.ask.ensures.reply c.in_default.not-Key;
  known = c.ask.ensures.known;
  as_before = c.ask.ensures.as_before;
}

pub unreachable-requires : goal.unreachable-requires
unreachable-requires g c =
    has_value (g.V.View.state c.args.view.now) c.args.name c.args.key c.in-Key.key (sym c.in-Key.is ∙ c.ask.ensures.reply) _
    (g.met.V.View.same_state _ _ c.ask.ensures.as_before) _ c.ask-2.ensures.reply c.in_default-ask.not-Value

pub returns-clause-entry : goal.returns-clause-entry
returns-clause-entry g c =
    entry_next (g.V.View.state c.args.view.now) c.args.name c.args.key c.in-Key.key (sym c.in-Key.is ∙ c.ask.ensures.reply) _
    (g.met.V.View.same_state _ _ c.ask.ensures.as_before) _ c.ask-2.ensures.reply c.in-Value.value c.in-Value.is

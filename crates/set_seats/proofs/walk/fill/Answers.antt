use Rattle.std.proofs.Common.{sym, ap, ◌∙◌, subst}
use Rattle.mv_history.specs.State.{State}
use Rattle.set_model.specs.Catalogue.{map_of}
use Rattle.set_model.specs.CatalogueOf.{catalogue_of}
use Rattle.set_seats.proofs.Filling.{IsFilled, filled_more, filled_all}
use Rattle.set_seats.specs.Walks.{entries_in}
use Rattle.set_seats.proofs.SetEntries.{rising}
use Rattle.set_seats.proofs.walk.fill.Goals as goal

pub loop-next-preserved : goal.loop-next-preserved
loop-next-preserved g c =
    let i = c.loop-next.invariant in
    let s = g.V.View.state c.args.view.now in
    let name = c.args.name in
    record {
      before = g.met.V.View.as_long_before _ _ _ i.before c.entry_after-next.ensures.as_before;
      known = c.entry_after-next.ensures.known ∙ i.known;
      filled = filled_more c.args.from (map_of name (catalogue_of s)) _ _ _ c.loop-next.count c.in-Some.entry _ (rising s name)
          (subst (λ n. IsFilled (entries_in s name c.args.from) c.args.entries.now c.loop-next.entries c.loop-next.count n) c.in-Some.is i.filled)
          (λ q. c.if-count-entries.false (q ∙ sym c.loop-next.auto.entries))
          (ap (λ (u : State). map_of name (catalogue_of u)) (g.met.V.View.same_state _ _ i.before)) c.entry_after-next.ensures.entry;
    }

pub returns-clause-written : goal.returns-clause-written
returns-clause-written g c =
    let s = g.V.View.state c.args.view.now in
    filled_all _ _ _ _
    (subst (λ n. IsFilled (entries_in s c.args.name c.args.from) c.args.entries.now c.loop-next.entries c.loop-next.count n) c.in_default.is
    c.loop-next.invariant.filled)

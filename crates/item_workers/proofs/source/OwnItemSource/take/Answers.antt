use Rattle.std.proofs.lemmas.List.Sums.{sum_by_more, sum_by_more_le}
use Rattle.std.proofs.lemmas.Option.{slice_get_read}
use Rattle.item_workers.proofs.Terms.{◌+◌, arith, refl, ap}
use Rattle.item_workers.proofs.source.OwnItemSource.take.Goals as goal

-- the next number is within those of all items
pub overflow_add-self-2 : goal.overflow_add-self-2
overflow_add-self-2 g c =
    let own = c.args.self.now in
    let at = c.in_ok-item.ensures.lookup in
    let width = g.W.Runner.width_of in
    let item = c.in_ok-item.item.now in
    omega (arith, c.requires.may.few, c.requires.number_is, c.width.ensures, sum_by_more_le width own.items.now own.next item at.3.0, ap width at.1)

-- the item is the next one
pub returns : goal.returns
returns g c =
    let own = c.args.self.now in
    let at = c.in_ok-item.ensures.lookup in
    let width = g.W.Runner.width_of in
    let item = c.in_ok-item.item.now in
    let there = slice_get_read own.items.now _ own.next item refl at.3.0 at.1 in
    record {
      may = record {
        may = c.requires.may;
        within = omega (arith, at.3.0);
        number_is = omega (arith, c.requires.number_is, c.width.ensures, sum_by_more width own.items.now own.next item at.3.0, ap width at.1);
      };
      taken = (
        item,
        there,
        rw at.1 (c.requires.may.each own.next item at.3.0),
        record { there = there; numbered = refl; items = refl; next = omega arith; after = ap (λ n. own.number + n) c.width.ensures },
        omega (arith, at.3.0),
      );
    }

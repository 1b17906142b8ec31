use Rattle.item_workers.proofs.Terms.{◌∙◌, arith, ap, length, AllZip, RanBy, keeps}
use Rattle.item_workers.proofs.Moving.{as_many_mapped, written_back}
use Rattle.item_workers.proofs.Serves.{each_served}
use Rattle.item_workers.proofs.threads.run_sources.Goals as goal

pub run_all-requires-after_bounds : goal.run_all-requires-after_bounds
run_all-requires-after_bounds g c κs within = rw c.deref_mut.ensures.value c.load.ensures.ready

-- the rows of the stores, the sources and the answers are empty, and there is room in them
pub unload-requires : goal.unload-requires
unload-requires g c =
    let ws = c.load.new.workers.items in
    let whole = c.load.new.workers.ok.0 in
    let len = c.run_all.auto.workers ∙ c.deref_mut.ensures.len ∙ whole in
    let back = ap length (written_back c.run_all.new.workers ws c.load.new.workers.len whole len) in
    let count = as_many_mapped (keeps g.W.Runner.kept_of) g.W.Runner.first ws c.args.stores.items c.load.ensures.kept in
    record {
      stores = (c.load.ensures.taken.0, rw c.load.ensures.capacity.0 (omega (arith, back, len, count, c.args.stores.ok)));
      sources = (c.load.ensures.taken.1, rw c.load.ensures.capacity.1 (omega (arith, back, len, count, c.requires.as_many, c.args.sources.ok)));
      answers = (
        c.in-Ok.ensures.answers.0,
        omega (arith, back, len, count, c.requires.as_many, ap length c.deref.ensures.value, c.in-Ok.ensures.answers.1),
      );
    }

pub returns-clause-served : goal.returns-clause-served
returns-clause-served g c =
    let ws = c.load.new.workers.items in
    let ns = c.run_all.new.workers in
    let ran : AllZip (RanBy g.W.Runner.kept_of g.W.Runner.seat_of g.W.Runner.link g.P.Source.gives g.P.Source.ended) ws ns =
    rw (← c.deref_mut.ensures.value) c.run_all.ensures in
    let whole = c.load.new.workers.ok.0 in
    let back = written_back ns ws c.load.new.workers.len whole (c.run_all.auto.workers ∙ c.deref_mut.ensures.len ∙ whole) in
    rw (c.unload.ensures.seats, c.unload.ensures.sources, c.unload.ensures.answers, back, ← c.load.ensures.kept, ← c.load.ensures.sources)
    (each_served g.W.Runner.kept_of g.W.Runner.seat_of g.W.Runner.link g.P.Source.gives g.P.Source.ended ws ns ran)

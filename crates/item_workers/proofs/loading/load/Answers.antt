use Rattle.item_workers.proofs.Terms.{◌∷◌, ◌∙◌, refl, sym, ap, arith, map, length, true-eqb, vec_len, nil_from_length, All-push, All-head, All-tail, IsReady}
use Rattle.item_workers.proofs.Terms.{keeps, source_of}
use Rattle.item_workers.proofs.Moving.{loaded, all_moved}
use Rattle.item_workers.proofs.loading.load.Goals as goal

pub new-requires : goal.new-requires
new-requires g c =
    let fit = rw c.take_first-store.ensures.items at c.loop-stores.invariant.fit in
    All-head g.W.Runner.fits c.take_first-store.result c.take_first-store.new.from.items fit

pub loop-stores-preserved : goal.loop-stores-preserved
loop-stores-preserved g c =
    let l = c.loop-stores in
    let store = c.take_first-store in
    let source = c.take_first-source in
    let pushed = c.push_reserved.ensures.items in
    let fit = rw store.ensures.items at l.invariant.fit in
    let may = rw source.ensures.items at l.invariant.may in
    let rooms = rw (c.take_first-memo.ensures.items, source.ensures.items) at l.invariant.rooms in
    let fewer = ap length store.ensures.items in
    record {
      kept = loaded (keeps g.W.Runner.kept_of) (map g.W.Runner.first) l.workers.items _ _ l.stores.items store.new.from.items _ store.result pushed
          (ap (λ k. k ∷ map g.W.Runner.first store.new.from.items) (sym c.new.ensures.kept)) store.ensures.items l.invariant.kept;
      sources = loaded source_of (λ sources. sources) l.workers.items _ _ l.sources.items source.new.from.items _ source.result pushed refl
          source.ensures.items l.invariant.sources;
      ready = rw pushed (All-push (IsReady g.W.Runner.ready g.P.Source.may g.P.Source.left) l.workers.items _ l.invariant.ready (record {
        ready_is = c.new.ensures.ready;
        may_is = All-head g.P.Source.may source.result source.new.from.items may;
        empty = rooms.0.0;
        room = rooms.0.1;
      }));
      as_many = omega (arith, fewer, ap length source.ensures.items, l.invariant.as_many);
      fit = All-tail g.W.Runner.fits store.result store.new.from.items fit;
      may = All-tail g.P.Source.may source.result source.new.from.items may;
      rooms = rooms.1;
      places = omega (arith, fewer, l.invariant.places, c.push_reserved.ensures.len, c.push_reserved.ensures.capacity);
      capacity = (store.ensures.capacity ∙ l.invariant.capacity.0, source.ensures.capacity ∙ l.invariant.capacity.1);
    }

-- all have moved
pub returns : goal.returns
returns g c =
    let l = c.loop-stores in
    let no_store = sym l.stores.ok.0 ∙ true-eqb (vec_len l.stores) 0 c.loop-stores-test.ensures in
    let no_source = l.invariant.as_many ∙ no_store in
    record {
      kept = all_moved (map g.W.Runner.first) _ _ l.stores.items refl no_store l.invariant.kept;
      sources = all_moved (λ sources. sources) _ _ l.sources.items refl no_source l.invariant.sources;
      ready = l.invariant.ready;
      taken = (nil_from_length l.stores.items no_store, nil_from_length l.sources.items no_source);
      capacity = l.invariant.capacity;
    }

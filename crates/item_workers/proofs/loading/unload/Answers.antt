use Rattle.item_workers.proofs.Terms.{◌++◌, ◌∷◌, ◌∙◌, map-append, [], arith, ap, length, map, refl, sym, true-eqb, vec_len, stands_at, source_of, answers_of}
use Rattle.item_workers.proofs.Moving.{unloaded, all_moved}
use Rattle.item_workers.proofs.loading.unload.Goals as goal

pub loop-workers-preserved : goal.loop-workers-preserved
loop-workers-preserved g c =
    let l = c.loop-workers in
    let taken = c.take_first-runner in
    let fewer = ap length taken.ensures.items in
    record {
      seats = unloaded (stands_at g.W.Runner.kept_of g.W.Runner.seat_of) (map g.W.Runner.seat_in) l.workers.items taken.new.from.items taken.result _ _ _
          taken.ensures.items
          (ap (map g.W.Runner.seat_in) c.push_reserved.ensures.items ∙ map-append g.W.Runner.seat_in l.stores.items _
          ∙ ap (λ s. map g.W.Runner.seat_in l.stores.items ++ s ∷ []) c.into_store.ensures) l.invariant.seats;
      sources = unloaded source_of (λ sources. sources) l.workers.items taken.new.from.items taken.result _ _ _ taken.ensures.items
          c.push_reserved-in-loop-workers.ensures.items l.invariant.sources;
      answers = unloaded answers_of (λ rows. rows) l.workers.items taken.new.from.items taken.result _ _ _ taken.ensures.items
          c.push_reserved-in-loop-workers-2.ensures.items l.invariant.answers;
      places = omega (arith, fewer, c.push_reserved.ensures.len, c.push_reserved.ensures.capacity, l.invariant.places);
      left = omega (arith, fewer, c.push_reserved-in-loop-workers.ensures.len, c.push_reserved-in-loop-workers.ensures.capacity, l.invariant.left);
      room = omega (arith, fewer, c.push_reserved-in-loop-workers-2.ensures.len, c.push_reserved-in-loop-workers-2.ensures.capacity, l.invariant.room);
    }

-- all have moved
pub returns : goal.returns
returns g c =
    let l = c.loop-workers in
    let none = sym l.workers.ok.0 ∙ true-eqb (vec_len l.workers) 0 c.loop-workers-test.ensures in
    record {
      seats = all_moved (map (stands_at g.W.Runner.kept_of g.W.Runner.seat_of)) _ _ l.workers.items refl none l.invariant.seats;
      sources = all_moved (map source_of) _ _ l.workers.items refl none l.invariant.sources;
      answers = all_moved (map answers_of) _ _ l.workers.items refl none l.invariant.answers;
    }

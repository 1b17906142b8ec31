use Rattle.std.proofs.lemmas.List.Elements.{All-push}
use Rattle.accounts.proofs.Terms.{[], length, length-append, ap, ◌∙◌, arith, Continues-Continues, total, ◌≡◌, ◌∷◌}
use Rattle.accounts.proofs.Sums.{reads_more}
use Rattle.accounts.proofs.repeating.read_sums.Goals as goal

pub loop-nth-preserved : goal.loop-nth-preserved
loop-nth-preserved g c =
    let before = c.loop-nth.invariant in
    let seat = g.S.Store.seat_of in
    let put = c.push_reserved.ensures.items in
    let same : c.sum-next.result.1.total ≡ total (seat c.args.store).start = c.sum-next.ensures.sum ∙ ap total before.continues.start in
    record {
      continues = Continues-Continues before.continues c.sum-next.ensures.continues;
      mine = c.sum-next.ensures.mine ∙ before.mine;
      many = omega (arith, before.many, ap length put, length-append c.loop-nth.read.items (c.sum-next.result.1 ∷ []));
      room = omega (arith, before.room, c.push_reserved.ensures.capacity);
      each = rw put (reads_more g.S.Store.took (seat c.args.store) _ _ _ _ before.each c.sum-next.ensures.read);
      same = rw put (All-push (λ sum. sum.total ≡ total (seat c.args.store).start) _ _ before.same same);
    }

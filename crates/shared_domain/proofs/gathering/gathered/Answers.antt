use Rattle.std.proofs.Common.{rules, ◌≡◌, ◌≢◌, ◌+◌, ◌≤◌, ℕ, List, [], ◌∷◌, length, length-append, All, AllPairs, ap, ◌∙◌, sym, subst, arith}
use Rattle.mvrlu.specs.declared.domain.Seat.{Seat}
use Rattle.std.proofs.lemmas.List.Elements.{All-push}
use Rattle.mvrlu.specs.declared.domain.Domain.{Domain}
use Rattle.mvrlu.specs.Meant.{seat_of, IsSeatOf}
use Rattle.mvrlu.proofs.whole.Joins.{all_front}
use Rattle.shared_domain.specs.Tags.{IsTagOf}
use Rattle.shared_domain.proofs.Apart.{above_next, above_more, apart_next}
use Rattle.shared_domain.proofs.gathering.gathered.Goals as goal

pub loop-place-preserved-in-Some-seat_in : goal.loop-place-preserved-in-Some-seat_in
loop-place-preserved-in-Some-seat_in g c =
    let i = c.loop-place.invariant in
    let row = c.loop-place.row.items in
    let rest = c.pop.new.self.items in
    let seat = c.in-Some-seat_in.seat in
    let long : length c.loop-place.places.items ≡ length rest + 1 = ap length c.in-Some.ensures.items ∙ length-append rest (c.in-Some.place ∷ []) in
    let above = subst (λ (n : ℕ). All (λ (s : Seat g.row.P.Denot g.P.Protocol). n ≤ (seat_of s).number) row) long i.above in
    let is : (seat_of seat).number ≡ length rest =
    (let told = c.in-Some-seat_in.ensures.number in let len = c.len.ensures in let ok = c.pop.new.self.ok.0 in omega arith) in
    let pushed = sym c.push_reserved.ensures.items in
    record {
      tags = (all_front (λ (tag : Domain g.row.P.Denot). IsTagOf c.args.domain.now tag) rest c.in-Some.place
          (subst (λ (tags : List (Domain g.row.P.Denot)). All (IsTagOf c.args.domain.now) tags) c.in-Some.ensures.items i.tags)).0;
      own = subst (λ (r : List (Seat g.row.P.Denot g.P.Protocol)). All (λ s. IsSeatOf c.args.domain.now s) r) pushed
          (All-push (λ (s : Seat g.row.P.Denot g.P.Protocol). IsSeatOf c.args.domain.now s) row seat i.own c.in-Some-seat_in.ensures.own);
      above = subst (λ (r : List (Seat g.row.P.Denot g.P.Protocol)). All (λ s. length rest ≤ (seat_of s).number) r) pushed
          (above_next row (length rest) above seat is);
      apart = subst (λ (r : List (Seat g.row.P.Denot g.P.Protocol)). AllPairs (λ s t. (seat_of s).number ≢ (seat_of t).number) r) pushed
          (apart_next row (length rest) above seat is i.apart);
      room = search rules;
    }

pub loop-place-preserved : goal.loop-place-preserved
loop-place-preserved g c =
    let i = c.loop-place.invariant in
    let row = c.loop-place.row.items in
    let rest = c.pop.new.self.items in
    let long : length c.loop-place.places.items ≡ length rest + 1 = ap length c.in-Some.ensures.items ∙ length-append rest (c.in-Some.place ∷ []) in
    let above = subst (λ (n : ℕ). All (λ (s : Seat g.row.P.Denot g.P.Protocol). n ≤ (seat_of s).number) row) long i.above in
    record {
      tags = (all_front (λ (tag : Domain g.row.P.Denot). IsTagOf c.args.domain.now tag) rest c.in-Some.place
          (subst (λ (tags : List (Domain g.row.P.Denot)). All (IsTagOf c.args.domain.now) tags) c.in-Some.ensures.items i.tags)).0;
      own = i.own;
      above = above_more row (length rest) above;
      apart = i.apart;
      room = search rules;
    }

-- What the seats of a new domain of a growing set are.
use Rattle.std.proofs.Common.{◌≡◌, ◌≤◌, List, map, replicate, Result, Ok, Err, IfOk}
use Rattle.std.proofs.Common.{ap, sym, subst, arith}
use Rattle.std.specs.List.{All}
use Rattle.mv_history.specs.Meaning as history
use Rattle.mv_layout.specs.declared.Config.{Config}
use Rattle.mvrlu.specs.Opened.{IsOpened}
use Rattle.mvrlu.specs.declared.domain.Domain.{Domain}
use Rattle.mvrlu.specs.declared.domain.Seat.{Seat}
use Rattle.mvrlu.proofs.AllSeats.{all_from_places}
use Rattle.set_model.specs.Objects.{no_words}
use Rattle.grow_seats.specs.Opening.{AreOpened, HasObjects, MayShare, Shares, TableRules, config_of}
use Rattle.grow_seats.specs.declared.opening.OpenGrown.{OpenGrown}
use Rattle.grow_seats.specs.declared.seat.GrowSeat.{GrowSeat}

-- new seats of a domain are of it, and may hold as much as its numbers say
pub new_may : {rules : _} (c : Config) (start : _) (d : Domain TableRules) (seats : List (Seat TableRules rules)) → IsOpened c start d seats → 64 ≤ c.write_max
    → All (MayShare d) seats
new_may c start d seats o le = all_from_places (MayShare d) seats (λ k s is. record {
  of = (ap (λ (r : history.Seat). r.home) (o.each k s is).0, ap (λ (r : history.Seat). r.start) (o.each k s is).0);
  room = omega (arith, le, ap (λ (r : history.Seat). r.write_max) (o.each k s is).0, ap (λ (n : Config). n.write_max) o.numbers);
})

-- the shares of all the seats of a domain that was just opened are what opening gives
pub are_opened : {V E : Type 0} (items : V → List GrowSeat) (o : OpenGrown) (c : Config) (d e : Domain TableRules) (own : List _) (r : Result V E)
    → HasObjects o → c ≡ config_of o → IsOpened c (replicate c.objects no_words) d own → e ≡ d
    → IfOk r (λ v. map (λ (s : GrowSeat). s.seat) (items v) ≡ own) → IfOk r (λ v. All (Shares e) (items v)) → IfOk r (λ v. AreOpened o (items v))
are_opened items o c d e own (Ok v) objects numbers opened same seats shared = record {
  domain = d;
  opened = subst (λ seats. IsOpened (config_of o) (replicate o.objects no_words) d seats) (sym seats)
      (subst (λ (x : Config). IsOpened x (replicate x.objects no_words) d own) numbers opened);
  shared = subst (λ x. All (Shares x) (items v)) same shared;
  objects = objects;
}
are_opened items o c d e own (Err x) objects numbers opened same seats shared = tt

use Rattle.domain_loan.proofs.Terms.{whole_of}
use Rattle.domain_loan.proofs.Seats.{all_back}
use Rattle.domain_loan.proofs.Whole.{have_met}
use Rattle.domain_loan.proofs.lending.meet_all.Goals as goal

-- all seats of the domain came back
pub meet-requires : goal.meet-requires
meet-requires g c =
    let on = c.requires.gone_on in
    record { all = all_back c.args.domain on.0 c.args.seats.items on.1 on.2 c.requires.all }

pub returns : goal.returns
returns g c = record {
  met = λ firsts new on.
      have_met c.args.domain g.P.Protocol.start g.P.Protocol.allowed firsts c.args.seats.items (whole_of c.meet.result) new on c.requires.all
      c.meet.ensures.law c.meet.ensures.numbered c.meet.ensures.tables c.meet.ensures.numbers c.meet.ensures.opening.0 c.meet.ensures.opening.1;
}

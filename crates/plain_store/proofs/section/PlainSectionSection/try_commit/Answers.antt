use Rattle.std.proofs.Common.{take, arith, sym, subst}
use Rattle.std.proofs.lemmas.List.{length-map}
use Rattle.mv_history.specs.declared.history.Entry.TheVariants.{Change}
use Rattle.mv_history.specs.CallLaws.{IsAsBefore-itself}
use Rattle.plain_store.specs.Meaning.{commits_in, section_of}
use Rattle.plain_store.specs.Laws.{plain_state}
use Rattle.mv_history.proofs.Drifting.{allowed_at_once}
use Rattle.plain_store.proofs.Seats.{commits_by}
use Rattle.plain_store.proofs.section.PlainSectionSection.try_commit.Goals as goal

pub add-requires-clause-allowed : goal.add-requires-clause-allowed
add-requires-clause-allowed g c =
    let s = c.args.self in
    subst (λ z. g.P.Protocol.allowed c.args.tag z (take s.held s.own)) (sym (plain_state s.store))
    (allowed_at_once g.P.Protocol.allowed _ c.args.tag (take s.held s.own) c.requires.fit)

pub returns-then-now-self : goal.returns-then-now-self
returns-then-now-self g c =
    let s = c.args.self in
    let count = length-map (commits_in s.store) (λ c. Change c) in
    record {
      done = tt;
      again = tt;
      end = (
        IsAsBefore-itself (section_of s),
        omega (arith, c.at-now.ensures, count, c.if-now-self.true),
        omega (arith, c.at-now.ensures, count, c.if-now-self.true),
      );
      at_most_one = omega arith;
      one_won = tt;
      one_lost = tt;
    }

pub returns-clause-done : goal.returns-clause-done
returns-clause-done g c =
    let s = c.args.self in
    let e = c.add.ensures in
    let count = length-map (commits_in s.store) (λ c. Change c) in
    rw (e.start, e.base, e.last, e.commits) (
      commits_by s.store.start.value.items (commits_in s.store) s.store.base s.store.last c.args.tag (take s.held s.own) _
          (omega (arith, c.at-now.ensures, count)),
      omega (arith, c.at-now.ensures, count),
    )

pub returns-clause-again : goal.returns-clause-again
returns-clause-again g c = tt

pub returns-clause-end : goal.returns-clause-end
returns-clause-end g c = tt

pub returns-clause-at_most_one : goal.returns-clause-at_most_one
returns-clause-at_most_one g c = omega arith

pub returns-clause-one_won : goal.returns-clause-one_won
returns-clause-one_won g c = λ told. absurd told

pub returns-clause-one_lost : goal.returns-clause-one_lost
returns-clause-one_lost g c = tt

use Rattle.std.proofs.Common.{◌≡◌, ℕ, sym, ap, ◌∙◌, subst, arith, refl}
use Rattle.mv_core.specs.SeatSteps.{made_one, newly_made}
use Rattle.mv_core.proofs.Terms.{Checked, Knowledge, view, config_of, start_of}
use Rattle.mv_core.proofs.kinds.opening.KnownPasses.{maker_stays, made_begins}
use Rattle.mv_core.proofs.kinds.opening.MakeSeat.{makes_one_more}
use Rattle.mv_core.proofs.shared.Shared.make_seat.Goals as goal

pub split_as-seat-requires : goal.split_as-seat-requires
split_as-seat-requires g c =
    let old = c.args.first.now in
    let of = c.requires.of in
    let made : (view old).made ≡ c.args.number = ap (λ (v : Knowledge). v.made) c.requires.maker in
    let range = c.requires.range in
    record {
      config = refl;
      of = (of.0, of.3, of.2, old.known);
      maker = (omega (arith, made, range.0), omega (arith, made, range.1));
    }

pub invariant_of-first : goal.invariant_of-first
invariant_of-first g c =
    let old = c.args.first.now in
    let r = maker_stays g.P.Protocol.start g.P.Protocol.allowed (config_of c.args.self.now) (view old) c.split_as-seat.new.seat.me.0
    c.split_as-seat.ensures.maker.1 in
    let runs = r.1 old.time old.first old.timed old.begun in
    record {
      numbered = old.numbered ∙ sym r.0;
      timed = runs.0;
      begun = runs.1;
      known = r.2 old.known;
      in_domain = r.3 old.domain old.in_domain;
      taken = c.split_as-seat.ensures.maker.2 ∙ old.taken;
    }

pub invariant_of-result : goal.invariant_of-result
invariant_of-result g c =
    let old = c.args.first.now in
    let checked : Checked (config_of c.args.self.now) = subst Checked (sym c.args.self.now.about) c.args.self.now.checked in
    let r = made_begins g.P.Protocol.start g.P.Protocol.allowed (config_of c.args.self.now) (view old) c.split_as-seat.result.me.0 checked
    c.split_as-seat.ensures.made.1 old.known in
    record {
      numbered = sym (r.0 ∙ ap (λ (v : Knowledge). v.made) c.requires.maker);
      timed = r.1;
      begun = r.2;
      known = r.3;
      in_domain = r.4 c.args.self.now.config;
      taken = c.split_as-seat.ensures.made.2;
    }

pub returns : goal.returns
returns g c =
    let s = c.args.self.now in
    let of = c.requires.of in
    let split = c.split_as-seat.ensures in
    let start = start_of s in
    let base_of : Knowledge → ℕ = λ v. v.base in
    record {
      of = (
        (split.maker.0 ∙ of.0, of.1, ap base_of split.maker.1 ∙ of.2, ap (λ (v : Knowledge). v.start) split.maker.1 ∙ of.3, of.4),
        (
          split.made.0 ∙ of.0,
          c.requires.range.1,
          ap base_of split.made.1,
          ap (λ (v : Knowledge). v.start) split.made.1 ∙ of.3,
          sym s.about,
        ),
      );
      maker = split.maker.1
          ∙ ap (λ (v : Knowledge). made_one (config_of s) v) c.requires.maker
          ∙ makes_one_more (config_of s) start c.args.number c.requires.range.0;
      made = split.made.1 ∙ ap (λ (v : Knowledge). newly_made (config_of s) v) c.requires.maker;
    }

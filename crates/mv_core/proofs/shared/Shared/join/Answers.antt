use Rattle.std.proofs.Common.{sym, ◌∙◌}
use Rattle.mv_core.specs.Passes.{view, config_of}
use Rattle.mv_core.proofs.kinds.joining.Join.{joined_stays}
use Rattle.mv_core.proofs.shared.Shared.join.Goals as goal

pub invariant_of-pass : goal.invariant_of-pass
invariant_of-pass g c =
    let old = c.args.pass.now in
    let r = joined_stays g.P.Protocol.start g.P.Protocol.allowed (config_of c.args.self.now) (view old) (view c.args.other) c.join_as.new.seat.me.0
    c.requires.may c.join_as.ensures.joined in
    let runs = r.1 old.time old.first old.timed old.begun in
    record {
      numbered = old.numbered ∙ sym r.0;
      timed = runs.0;
      begun = runs.1;
      known = r.2 old.known;
      in_domain = r.3 old.domain old.in_domain;
      taken = c.join_as.ensures.taken ∙ old.taken;
    }

pub returns-clause-view : goal.returns-clause-view
returns-clause-view g c = c.join_as.ensures.joined

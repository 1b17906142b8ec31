use Rattle.std.proofs.Common.{◌≡◌, sym, subst, false, Option, None}
use Rattle.mv_history.specs.declared.answers.Holder.{Holder}
use Rattle.seat_log.specs.mv_core.Passes.{view, config_of}
use Rattle.log_reclaim.specs.declared.rounds.RoundScan.{RoundScan}
use Rattle.log_reclaim.specs.Sweeps.{SweepsSo}
use Rattle.log_reclaim.specs.Rounds.{FreesFirst, IsHolder}
use Rattle.log_reclaim.proofs.FirstFrees.{freed_first}
use Rattle.log_reclaim.proofs.causes.RoundCauses.{round_scanned, round_emptied, round_plain, emptied_plain}
use Rattle.log_reclaim.proofs.Lengths.{live_few, round_bound}
use Rattle.log_reclaim.proofs.rounds.round.Goals.{in-Some, in-None}
use Rattle.log_reclaim.proofs.rounds.round.Goals as goal

-- what the round left, whatever it scanned
left : (g : _) (c : goal.After-live g) (scanned : Option RoundScan) → c.sweep-freed.result.1 ≡ scanned
    → SweepsSo (config_of c.args.shared.now) (view c.args.pass.now) (view c.sweep-freed.new.pass) c.args.log.now c.sweep-freed.new.log
    c.sweep-freed.ensures.sweeps.0 c.args.back c.sweep-freed.new.found c.sweep-freed.result.0 scanned
left g c scanned is =
    subst (λ (o : Option RoundScan). SweepsSo (config_of c.args.shared.now) (view c.args.pass.now) (view c.sweep-freed.new.pass) c.args.log.now
    c.sweep-freed.new.log c.sweep-freed.ensures.sweeps.0 c.args.back c.sweep-freed.new.found c.sweep-freed.result.0 o) is c.sweep-freed.ensures.sweeps.1

-- and what it freed first
frees : (g : _) (c : goal.After-live g) → FreesFirst (config_of c.args.shared.now) c.args.log.now c.sweep-freed.ensures.sweeps.0 false
frees g c =
    freed_first (config_of c.args.shared.now) c.args.log.now c.sweep-freed.ensures.sweeps.0 c.sweep-freed.result.1 c.sweep-freed.ensures.sweeps.2

pub returns-clause-plain : goal.returns-clause-plain
returns-clause-plain g c =
    let s = c.sweep-freed in
    elim c.match-scanned.branch [
      | in-Some w ↦
          round_plain (config_of c.args.shared.now) (view c.args.pass.now) (view s.new.pass) c.args.log.now s.new.log s.ensures.sweeps.0
          c.args.back w.in-Some.scanned s.new.found s.result.0 (left g c _ w.in-Some.is)
      | in-None w ↦
          emptied_plain (config_of c.args.shared.now) (view c.args.pass.now) (view s.new.pass) c.args.log.now s.new.log s.ensures.sweeps.0 c.args.back
          s.result.0 (left g c None w.in-None.is)
    ]

pub returns-clause-reclaims : goal.returns-clause-reclaims
returns-clause-reclaims g c =
    let s = c.sweep-freed in
    elim c.match-scanned.branch [
      | in-Some w ↦ let scanned = w.in-Some.scanned in
          let holds : IsHolder s.new.log scanned scanned c.args.back s.new.found c.match-scanned.held =
          subst (λ (o : Option Holder). IsHolder s.new.log scanned scanned c.args.back s.new.found o) (sym w.held-is) w.holder-held.ensures in
          let r = round_scanned _ _ (config_of c.args.shared.now) (view c.args.pass.now) (view s.new.pass) c.args.log.now s.new.log s.ensures.sweeps.0
          c.args.back scanned s.new.found s.result.0 (left g c _ w.in-Some.is) c.requires.stands s.ensures.stands c.args.pass.now.known s.new.pass.known
          c.match-scanned.held holds in
          (s.ensures.sweeps.0, r.0, r.1, r.2, r.3, frees g c)
      | in-None w ↦ let r =
          round_emptied (config_of c.args.shared.now) (view c.args.pass.now) (view s.new.pass) c.args.log.now s.new.log s.ensures.sweeps.0 c.args.back
          s.result.0 (left g c None w.in-None.is) c.match-scanned.held w.held-is in
          (s.ensures.sweeps.0, r.0, r.1, r.2, r.3, frees g c)
    ]

pub returns-clause-cost : goal.returns-clause-cost
returns-clause-cost g c =
    round_bound _ _ _ _ _ c.sweep-freed.ensures.cost (live_few (config_of c.args.shared.now) (view c.args.pass.now) c.args.log.now c.requires.stands)

pub returns-clause-trail : goal.returns-clause-trail
returns-clause-trail g c =
    round_bound _ _ _ _ _ c.sweep-freed.ensures.trail (live_few (config_of c.args.shared.now) (view c.args.pass.now) c.args.log.now c.requires.stands)

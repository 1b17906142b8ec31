use Rattle.std.proofs.Common.{[], refl, subst}
use Rattle.step_replay.specs.PlanTexts.{Refuses, planned}
use Rattle.script_files.proofs.plans.parse_only.Goals as goal

pub returns-in-Err-At-clause-parsed : goal.returns-in-Err-At-clause-parsed
returns-in-Err-At-clause-parsed c =
    let fault = subst (Refuses (planned c.args.bytes.now)) c.in-Err-At.field-0-is c.in-Err-At.ensures.exact in
    record { text = c.args.bytes.now; placed = refl; fault = fault; before = []; scripts = tt }

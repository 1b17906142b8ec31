use Rattle.std.proofs.Common.{◌≡◌, ◌∙◌, [], ◌∷◌, Ok, map, string_bytes, MatchResult, subst}
use Rattle.std.proofs.lemmas.List.{length-map}
use Rattle.std.proofs.lemmas.Result.{err_from_is_err_and}
use Rattle.step_replay.specs.replay_rules.Plans.{plan_of}
use Rattle.step_replay.specs.PlanTexts.{planned}
use Rattle.script_files.specs.Reading.{AreFirstTexts, text_of}
use Rattle.script_files.specs.Scripts.{NoScripts, plans}
use Rattle.script_files.proofs.Many.{only_one}
use Rattle.script_files.proofs.OneFile.{only_read, only_stops}
use Rattle.script_files.proofs.plans.read_plan.Goals as goal

pub returns-in_err-read_texts-clause-stop : goal.returns-in_err-read_texts-clause-stop
returns-in_err-read_texts-clause-stop g c =
    let p = err_from_is_err_and c.from_residual.result c.from_residual.ensures.1 in
    rw (p.1, p.2) (only_stops (g.F.Files.texts c.args.files.now) (map string_bytes c.args.names.now) (length-map c.args.names.now string_bytes ∙ c.requires.one)
    c.in_err-read_texts.field-0.0 _ _ _ c.in_err-read_texts.ensures.stop)

pub returns-clause-stop : goal.returns-clause-stop
returns-clause-stop g c =
    let t = g.F.Files.texts c.args.files.now in
    let names = map string_bytes c.args.names.now in
    let one = length-map c.args.names.now string_bytes ∙ c.requires.one in
    let text = c.index.result.now in
    let only = only_one text_of c.read_texts.new.texts.items text (c.in_ok-read_texts.ensures.all ∙ c.requires.one) c.index.ensures in
    let is = subst (AreFirstTexts t names) only c.in_ok-read_texts.ensures.texts in
    let parsed = subst
    (λ bytes. MatchResult c.parse_only.result (λ plan. planned bytes ≡ Ok (plan_of plan)) (λ stop. NoScripts stop plans (bytes ∷ [])))
    c.deref.ensures.value c.parse_only.ensures.parsed in
    only_read t names one text.items is c.parse_only.result _ _ parsed

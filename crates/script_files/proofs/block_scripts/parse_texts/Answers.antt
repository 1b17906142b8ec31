use Rattle.std.proofs.Common.{◌≡◌, ◌≤◌, List, length, map, subst, sum_by, Vec, Result, All, IfOk, arith}
use Rattle.std.specs.declared.alloc.Global.{Global}
use Rattle.block_parser.specs.BlockGrammar.{Refuses, parsed_blocks}
use Rattle.block_parser.specs.declared.faults.BlockFault.{BlockFault}
use Rattle.set_model.specs.declared.commands.Command.{Command}
use Rattle.script_files.specs.Reading.{list_of}
use Rattle.script_files.proofs.FileTexts.{all_ok, all_parse, answers_from_each, first_refused}
use Rattle.script_files.proofs.block_scripts.parse_texts.Goals as goal

pub returns-in-Ok-clause-parsed : goal.returns-in-Ok-clause-parsed
returns-in-Ok-clause-parsed g c =
    let results = c.in_ok-parsed.parsed.items in
    let long = c.in_ok-parsed.parsed.ok.0 in
    let len : length results ≡ length c.args.texts.now = omega (arith, long, c.in_ok-parsed.ensures.len) in
    let answers = answers_from_each parsed_blocks list_of Refuses c.args.texts.now results len
    (λ i d e lt. (c.in_ok-parsed.ensures.each i e lt).1.met.0 d) in
    all_parse parsed_blocks list_of Refuses c.args.texts.now results c.take_values.new.values.items answers c.in-Ok.ensures

pub returns-in-Ok-clause-short : goal.returns-in-Ok-clause-short
returns-in-Ok-clause-short g c =
    let long = c.in_ok-parsed.parsed.ok.0 in
    let P : Vec (List Command) Global → Type 0 = λ script. sum_by length script.items ≤ 65536 in
    let each : All {X = Result (Vec (List Command) Global) BlockFault} (λ result. IfOk result P) c.in_ok-parsed.parsed.items =
    λ k e lt. (c.in_ok-parsed.ensures.each k e (omega (arith, lt, long, c.in_ok-parsed.ensures.len))).1.met.1 in
    all_ok P c.take_values.new.values.items
    (subst (All {X = Result (Vec (List Command) Global) BlockFault} (λ result. IfOk result P)) c.in-Ok.ensures each)

pub returns-in-Err-At-clause-parsed : goal.returns-in-Err-At-clause-parsed
returns-in-Err-At-clause-parsed g c =
    let results = c.in_ok-parsed.parsed.items in
    let long = c.in_ok-parsed.parsed.ok.0 in
    let len : length results ≡ length c.args.texts.now = omega (arith, long, c.in_ok-parsed.ensures.len) in
    let answers = answers_from_each parsed_blocks list_of Refuses c.args.texts.now results len
    (λ i d e lt. (c.in_ok-parsed.ensures.each i e lt).1.met.0 d) in
    let before = c.take_values.new.values.items in
    let many = c.take_values.new.values.ok.0 in
    let place : c.len-in-Err-At.result ≡ length before = omega (arith, many, c.len-in-Err-At.ensures) in
    let stop = first_refused parsed_blocks list_of Refuses c.args.texts.now results before c.in-Err-At.field-0 c.in-Err-At.ensures.0
    answers c.in-Err-At.ensures.1 in
    let fault = subst (Refuses (parsed_blocks stop.1.0)) c.in-Err-At.field-0-is stop.1.2 in
    rw place (record { text = stop.1.0; placed = stop.1.1; fault = fault; before = map list_of before; scripts = stop.0 })

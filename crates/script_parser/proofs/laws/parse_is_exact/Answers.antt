use Rattle.script_parser.proofs.Scripts.{script-from_parsed, parsed-from_script, fault-from_parsed, parsed-from_fault}
use Rattle.script_parser.proofs.laws.parse_is_exact.Goals as goal

pub returns : goal.returns
returns c = record {
  script = λ text commands. (script-from_parsed text commands, parsed-from_script text commands);
  fault = λ text number kind. (fault-from_parsed text number kind, parsed-from_fault text number kind);
}

use Rattle.std.proofs.Common.{rules}
use Rattle.run_report.proofs.Texts.{set_told}
use Rattle.run_report.proofs.text.write_set.Goals as goal

pub returns-clause-text : goal.returns-clause-text
returns-clause-text c =
    set_told c.args.name _ _ _ _ _ _ _ _ c.keys-keys.ensures.keys c.values.ensures.values
    (search rules) c.in_ok-write_name.ensures c.in_ok-write_keys.ensures c.push_str.ensures.bytes

pub returns-then-is_empty-clause-lawful : goal.returns-then-is_empty-clause-lawful
returns-then-is_empty-clause-lawful c = c.keys-keys.ensures.lawful

pub returns-in_err-write_name-clause-lawful : goal.returns-in_err-write_name-clause-lawful
returns-in_err-write_name-clause-lawful c = c.keys-keys.ensures.lawful

pub returns-in_err-write_keys-clause-lawful : goal.returns-in_err-write_keys-clause-lawful
returns-in_err-write_keys-clause-lawful c = c.keys-keys.ensures.lawful

pub returns-clause-lawful : goal.returns-clause-lawful
returns-clause-lawful c = c.keys-keys.ensures.lawful

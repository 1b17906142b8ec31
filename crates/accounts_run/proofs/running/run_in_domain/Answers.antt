use Rattle.std.proofs.Common.{◌≡◌, length, sym, ap, ◌∙◌, arith}
use Rattle.mv_layout.specs.declared.Config.{Config}
use Rattle.mvrlu.specs.Meant.{whole_of}
use Rattle.accounts.specs.declared.rules.TheConstants.{ACCOUNTS}
use Rattle.domain_run.specs.Numbers.{numbers_for}
use Rattle.accounts_run.specs.Runs.{HasRoom}
use Rattle.accounts_run.proofs.Serving.{run_of, last_of}
use Rattle.domain_loan.proofs.Rows.{all_at, if_ok}
use Rattle.accounts_run.proofs.running.run_in_domain.Goals as goal

pub run-requires-clause-ready : goal.run-requires-clause-ready
run-requires-clause-ready g c κs within = λ home k t e.
    let two = ap (λ (n : Config). n.write_max) c.config_of-config.ensures.numbers in
    (omega (arith, two), all_at HasRoom c.args.tellers.items k t e c.requires.new)

pub returns-clause-run : goal.returns-clause-run
returns-clause-run g c =
    let numbers = c.config_of-config.ensures.numbers in
    let seats = ap (λ (n : Config). n.seats) numbers in
    let many = c.len.ensures in
    let long = c.args.tellers.ok.0 in
    let same : (c.config_of-config.result).seats ≡ length c.args.tellers.items = omega arith in
    if_ok c.run.result
    (λ done ran. run_of ran.0 c.config_of-config.result c.opening-start.result c.args.tellers.items done.1.items ran.1 (whole_of done.0) _
    c.opening-start.ensures.total ran.2 (numbers ∙ ap (λ n. numbers_for n ACCOUNTS 2) (sym seats ∙ same)))
    c.run.ensures.ran

pub returns-clause-last : goal.returns-clause-last
returns-clause-last g c =
    if_ok c.run.result
    (λ done ran. last_of ran.0 c.config_of-config.result c.opening-start.result c.args.tellers.items done.1.items ran.1 (whole_of done.0) _
    c.opening-start.ensures.total ran.2 _ c.opening-start.ensures.lawful.accounts)
    c.run.ensures.ran

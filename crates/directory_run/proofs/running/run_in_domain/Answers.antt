use Rattle.std.proofs.Common.{◌≡◌, length, sym, ap, ◌∙◌, arith}
use Rattle.std.proofs.lemmas.List.{length-map}
use Rattle.std.specs.Prelude.{vec_len}
use Rattle.directory.specs.declared.rules.TheConstants.{OBJECTS}
use Rattle.directory.specs.Layout.{link_of}
use Rattle.directory.specs.Ring.{IsDirectory}
use Rattle.domain_run.specs.Numbers.{numbers_for}
use Rattle.directory.proofs.Keeps.{move_keeps}
use Rattle.directory.proofs.Opens.{opened}
use Rattle.directory.proofs.Placed.{placed}
use Rattle.directory_run.specs.Runs.{AsksForUser}
use Rattle.directory_run.proofs.Serving.{each_served}
use Rattle.domain_loan.proofs.Rows.{all_at}
use Rattle.client_run.proofs.Told.{then_ok, kept_last}
use Rattle.directory_run.proofs.running.run_in_domain.Goals as goal

pub run_over-requires-clause-ready : goal.run_over-requires-clause-ready
run_over-requires-clause-ready g c κs within = λ home k t e. (omega arith, all_at AsksForUser c.args.clerks.items k t e c.requires.users)

pub returns-clause-each : goal.returns-clause-each
returns-clause-each g c =
    let long = c.args.clerks.ok.0 in
    let same : vec_len c.args.clerks ≡ length c.args.clerks.items = omega arith in
    let many : length c.opening-start.result ≡ OBJECTS = sym (length-map c.opening-start.result link_of) ∙ ap length c.opening-start.ensures in
    then_ok c.run_over.result c.run_over.ensures.ran (λ done ran.
    each_served c.opening-start.ensures ran.2 (λ k o e. all_at AsksForUser c.args.clerks.items k o e c.requires.users)
    (λ i. numbers_for (same i) (many i) 3))

pub returns-clause-directory : goal.returns-clause-directory
returns-clause-directory g c = then_ok c.run_over.result c.run_over.ensures.ran (λ done ran.
    kept_last ran.2 IsDirectory move_keeps (opened _ c.opening-start.ensures))

pub returns-clause-last : goal.returns-clause-last
returns-clause-last g c = then_ok c.run_over.result c.run_over.ensures.ran (λ done ran user is below.
    let d = kept_last ran.2 IsDirectory move_keeps (opened _ c.opening-start.ensures) in placed d user is below)

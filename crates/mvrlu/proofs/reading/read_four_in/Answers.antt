use Rattle.std.proofs.Common.{[], sym, ap, ◌∙◌, arith}
use Rattle.std.proofs.lemmas.List.{append-nil}
use Rattle.mv_history.specs.Fours.{four_from}
use Rattle.mvrlu.specs.Placed.{section_from}
use Rattle.mvrlu.specs.Standing.{stays_itself}
use Rattle.mvrlu.proofs.Trails.{few_made}
use Rattle.mvrlu.proofs.LockMeant.{below_words}
use Rattle.mvrlu.proofs.reading.read_four_in.Goals as goal

pub returns-in-None-clause-words : goal.returns-in-None-clause-words
returns-in-None-clause-words g c =
    c.read_four_below.ensures.words
    ∙ ap (four_from c.args.place) (below_words (section_from c.args.busy.now) c.args.object c.in-None.ensures.none)

pub returns-in-None-clause-fits : goal.returns-in-None-clause-fits
returns-in-None-clause-fits g c = c.read_four_below.ensures.fits

pub returns-in-None-clause-lawful : goal.returns-in-None-clause-lawful
returns-in-None-clause-lawful g c = c.read_four_below.ensures.lawful

pub returns-in-None-clause-stays : goal.returns-in-None-clause-stays
returns-in-None-clause-stays g c = c.read_four_below.ensures.stays

pub returns-in-None-clause-aborts : goal.returns-in-None-clause-aborts
returns-in-None-clause-aborts g c = c.read_four_below.ensures.aborts

pub returns-in-None-clause-bound : goal.returns-in-None-clause-bound
returns-in-None-clause-bound g c = c.read_four_below.ensures.bound

-- no step is made where the section holds the object
pub returns-in-Some-clause-fits : goal.returns-in-Some-clause-fits
returns-in-Some-clause-fits g c = c.requires.fits

pub returns-in-Some-clause-stays : goal.returns-in-Some-clause-stays
returns-in-Some-clause-stays g c = stays_itself (section_from c.args.busy.now)

pub returns-in-Some-clause-bound : goal.returns-in-Some-clause-bound
returns-in-Some-clause-bound g c =
    let t = c.args.busy.now.view.trail in few_made t t [] _ (sym (append-nil t)) (omega arith)

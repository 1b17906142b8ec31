use Rattle.mvrlu.specs.Meant.{section_of}
use Rattle.mvrlu.specs.Standing.{stays_long}
use Rattle.object_seats.proofs.vacant.find_vacant.Goals as goal

pub returns-in-None-clause-stays : goal.returns-in-None-clause-stays
returns-in-None-clause-stays c =
    stays_long (section_of c.args.session.now) (section_of c.first_vacant.new.session) (section_of c.first_vacant-in-None.new.session)
    c.first_vacant.ensures.stays c.first_vacant-in-None.ensures.stays

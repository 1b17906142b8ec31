use Rattle.mvrlu.specs.MetLaws.{one_trail}
use Rattle.mvrlu.proofs.domain.Domain.meet.Goals as goal

-- what was met is what the closing means
pub returns-clause-law : goal.returns-clause-law
returns-clause-law g c = c.begin_meeting-last.ensures.law

-- so it tells of each seat's trail
pub returns-clause-trails : goal.returns-clause-trails
returns-clause-trails g c = one_trail c.begin_meeting-last.result c.begin_meeting-last.ensures.numbered

pub returns-clause-short : goal.returns-clause-short
returns-clause-short g c = c.begin_meeting-last.ensures.short

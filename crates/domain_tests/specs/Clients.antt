-- What a client of a domain stands for.
use Rattle.mv_history.specs.Meaning.{Seat}
use Rattle.mvrlu.specs.Meant.{handled, section_of}
use Rattle.domain_tests.specs.declared.clients.Client.{Client}
use Rattle.domain_tests.specs.declared.clients.Client.TheVariants.{Outside, Inside}

-- its seat, outside a section or in one
abbrev pub seat_in : Client → Seat
seat_in (Outside handle) = handled handle
seat_in (Inside session) = (section_of session).seat

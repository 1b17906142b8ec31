-- For which domain a place was made.
use Rattle.std.specs.Prelude.{◌≡◌}
use Rattle.mvrlu.specs.Meant.{name_of, opening_of}
use Rattle.mvrlu.specs.declared.domain.Domain.{Domain}

-- the place that was made for that domain is one of this domain: it has its name, and its opening state
abbrev pub IsTagOf : {P : Type 0} → Domain P → Domain P → Type 0
IsTagOf d tag = (name_of tag ≡ name_of d) × (opening_of tag ≡ opening_of d)

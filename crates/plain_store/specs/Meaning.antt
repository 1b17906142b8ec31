-- What the plain store and its section mean.
use Rattle.std.specs.Prelude.{List, take}
use Rattle.plain_store.specs.declared.history.TheConstants.{WRITE_MAX}
use Rattle.mv_history.specs.declared.history.Commit.{Commit}
use Rattle.mv_history.specs.Meaning.{Seat, InSection}
use Rattle.plain_store.specs.Plain.{commits_of_history, plain_seat, plain_section}
use Rattle.plain_store.specs.declared.store.PlainStore.{PlainStore}
use Rattle.plain_store.specs.declared.section.PlainSection.{PlainSection}

-- the commits of a plain store
abbrev pub commits_in : {P : _} {rules : _} → PlainStore P rules → List Commit
commits_in s = commits_of_history s.history.value

-- the seat that a plain store is
abbrev pub seat_of : {P : _} {rules : _} → PlainStore P rules → Seat
seat_of s = plain_seat s.start.value.items (commits_in s) s.base s.last WRITE_MAX

-- the section that a plain section is
abbrev pub section_of : {P : _} {rules : _} → PlainSection P rules → InSection
section_of s =
    plain_section s.store.start.value.items (commits_in s.store) s.store.base s.store.last (take s.held s.own)

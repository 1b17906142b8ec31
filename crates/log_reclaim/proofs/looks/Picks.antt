-- What the steps of a write-back are given of a view: its section, and the version that is written back.
use Rattle.std.proofs.Common.{ℕ, Option, Some, None}
use Rattle.mv_layout.specs.declared.Config.{Config}
use Rattle.mv_layout.specs.Words.{link_position_of}
use Rattle.seat_log.specs.mv_core.declared.ring.Version.{Version}
use Rattle.seat_log.specs.mv_core.declared.ring.CommitNote.{CommitNote}
use Rattle.seat_log.specs.mv_core.declared.view.Knowledge.{Knowledge}
use Rattle.seat_log.specs.mv_core.declared.view.OwnSection.{OwnSection}
use Rattle.seat_log.specs.mv_core.declared.view.WalkStage.{WalkStage}
use Rattle.seat_log.specs.mv_core.declared.view.WalkStage.TheVariants.{At}
use Rattle.seat_log.specs.mv_core.declared.view.WriteBack.{WriteBack}
use Rattle.seat_log.specs.mv_core.Rings.{slot_at, index_of}
use Rattle.seat_log.specs.reader_marks.Sections.{section_in}
use Rattle.seat_log.specs.Builds.{version_in, note_in}

-- the version of a position, and what is noted of its commit
abbrev pub committed_in : Config → Knowledge → ℕ → Version × CommitNote
committed_in c v position =
    (version_in (slot_at v.ring (index_of c position)), note_in (slot_at v.ring (index_of c position)))

-- the position that is written back, or that the walk stands at
abbrev pub position_of : Option WriteBack → WalkStage → ℕ
position_of (Some back) walk = back.position
position_of None (At stand) = link_position_of stand.link
position_of None _ = 0

-- the version whose words are written back, by its position, with what is noted of its commit and the section
abbrev pub back_in : Config → Knowledge → ℕ × Version × CommitNote × OwnSection
back_in c v = (
  position_of v.back v.walk,
  version_in (slot_at v.ring (index_of c (position_of v.back v.walk))),
  note_in (slot_at v.ring (index_of c (position_of v.back v.walk))),
  section_in v,
)

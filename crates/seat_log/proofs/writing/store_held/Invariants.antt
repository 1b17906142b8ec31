use Rattle.std.proofs.Common.{◌≡◌, ◌+◌}
use Rattle.reader_marks.specs.mv_core.Passes.{view, IsOwnSlot, IsSame, config_of}
use Rattle.seat_log.specs.Stands.{Stands}
use Rattle.seat_log.specs.Builds.{version_at, words_put}
use Rattle.seat_log.specs.Notes.{some_noted}
use Rattle.seat_log.proofs.writing.store_held.Given as goal

abbrev pub invariant-loop-word : goal.invariant-loop-word
invariant-loop-word g l =
    IsSame l.initial.pass l.pass × (view l.pass ≡ words_put (config_of l.shared) (view l.initial.pass) l.position l.words l.word)
    × Stands (config_of l.shared) (view l.pass) (some_noted l.log l.position l.words l.word)
    × IsOwnSlot (config_of l.shared) l.pass l.position l.slot × (l.steps ≡ l.initial.steps + l.word)

abbrev pub ghost-store_data : goal.ghost-store_data
ghost-store_data g a = version_at (config_of a.self.now) (view a.pass.now) a.position

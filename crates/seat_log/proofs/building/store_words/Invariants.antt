use Rattle.std.proofs.Common.{◌≡◌, ◌+◌}
use Rattle.reader_marks.specs.mv_core.Passes.{view, IsOwnSlot, IsSame, config_of}
use Rattle.seat_log.specs.Builds.{words_stored, MayBuild}
use Rattle.seat_log.proofs.building.store_words.Given as goal

abbrev pub invariant-loop-word : goal.invariant-loop-word
invariant-loop-word g l =
    IsSame l.initial.pass l.pass × (view l.pass ≡ words_stored (config_of l.shared) (view l.initial.pass) l.position l.words l.word)
    × MayBuild (config_of l.shared) (view l.pass) l.position × IsOwnSlot (config_of l.shared) l.pass l.position l.slot × (l.steps ≡ l.initial.steps + l.word)

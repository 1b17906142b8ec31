use Rattle.std.proofs.Common.{◌≡◌, ◌+◌, length, ◌∙◌, ap, arith, length-append}
use Rattle.seat_log.specs.Notes.{Noted, held_from, built_list, held_noted}
use Rattle.seat_log.proofs.Places.{length-from_place}
use Rattle.runtime_tests.proofs.first_logs.committed_note.Goals as goal

pub retire-requires : goal.retire-requires
retire-requires c =
    let old : Noted = c.args.log.now in
    let l : Noted = c.note_held.new.log in
    let held : l ≡ held_noted old = c.note_held.ensures in
    let one : length (built_list old.built) ≡ 1 = ap (λ o. length (built_list o)) c.requires.built.1 in
    let live : length l.live ≡ length old.live + length (built_list old.built) =
    ap (λ (m : Noted). length m.live) held ∙ length-append old.live (built_list old.built) in
    let freed : l.freed ≡ old.freed = ap (λ (m : Noted). m.freed) held in
    let long : length c.note_commit.new.log.live ≡ length l.live =
    ap (λ (m : Noted). length m.live) c.note_commit.ensures ∙ length-from_place _ (held_from l) l.live in
    let start : c.note_commit.new.log.freed ≡ l.freed = ap (λ (m : Noted). m.freed) c.note_commit.ensures in
    let at = c.requires.position in
    let none : length old.live ≡ 0 = ap length c.requires.first in
    record { live = (omega arith, omega arith) }

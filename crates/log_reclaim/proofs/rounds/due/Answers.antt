use Rattle.std.proofs.Common.{sym, ◌∙◌, ⊎_elim, arith}
use Rattle.seat_log.proofs.Places.{get_within}
use Rattle.log_reclaim.proofs.Oldest.{one_more_dead, oldest_at, dead_before}
use Rattle.log_reclaim.proofs.rounds.due.Goals as goal

pub returns-then-version-note : goal.returns-then-version-note
returns-then-version-note c =
    dead_before c.args.log.now c.requires c.args.time c.loop-index.index c.note-version.result c.note-version.ensures
    (λ e. c.if-version-note.true (e ∙ sym (oldest_at c.args.log.now c.requires c.note.result c.note.ensures))) c.loop-index.invariant

pub returns-then-version-eq0 : goal.returns-then-version-eq0
returns-then-version-eq0 c = (
  c.loop-index.index,
  c.note-version.ensures,
  c.if-version-note.false ∙ oldest_at c.args.log.now c.requires c.note.result c.note.ensures,
  λ dead. let some = dead.0 in let low = dead.1 in ⊎_elim (λ none. omega arith) (λ late. let above = late.1 in omega arith) c.then-version-eq0.either,
)

pub loop-index-preserved : goal.loop-index-preserved
loop-index-preserved c =
    let alive = c.if-version-eq0.false in
    one_more_dead c.args.log.now c.args.time c.loop-index.index c.note-version.result c.note-version.ensures
    (c.if-version-note.false ∙ oldest_at c.args.log.now c.requires c.note.result c.note.ensures) (omega arith, c.if-version-time.false)
    c.loop-index.invariant

pub returns : goal.returns
returns c i n is first =
    let all = c.live-index-end.ensures in
    let lt = get_within c.args.log.now.live i n is in
    let end = c.loop-index-test.false in
    (c.loop-index.invariant i n is (omega arith)).1

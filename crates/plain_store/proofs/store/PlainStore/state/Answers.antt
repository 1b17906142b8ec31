use Rattle.std.proofs.Common.{[], arith, ap, ◌∙◌}
use Rattle.std.proofs.lemmas.List.{get_or_read}
use Rattle.mv_history.specs.Meaning.{words_at}
use Rattle.plain_store.specs.Meaning.{commits_in}
use Rattle.plain_store.proofs.Seats.{length-current}
use Rattle.plain_store.proofs.store.PlainStore.state.Goals as goal

pub index-requires : goal.index-requires
index-requires g c =
    let s = c.args.self.now in
    omega (arith, c.requires, s.words.ok.0, length-current s.start.value.items s.words.items (commits_in s) s.current)

pub returns : goal.returns
returns g c =
    let s = c.args.self.now in
    get_or_read s.words.items c.args.object c.index.result.now
    (omega (arith, c.requires, length-current s.start.value.items s.words.items (commits_in s) s.current)) c.index.ensures [] ∙ ap
    (λ w. words_at w c.args.object) s.current

use Rattle.std.proofs.Common.{◌∙◌, Some, map, string_bytes, ap, sym, arith}
use Rattle.std.proofs.lemmas.List.{length-map}
use Rattle.std.proofs.lemmas.Option.{slice_get_within}
use Rattle.std.proofs.lemmas.Slice.Eq.{bytes_eq-Decides}
use Rattle.script_files.proofs.Many.{named_at, none_up_to}
use Rattle.script_files.proofs.reading.first_place.Goals as goal

pub returns-then-eq : goal.returns-then-eq
returns-then-eq c =
    let x = c.index-names-place.result in
    let same = (bytes_eq-Decides (string_bytes x) c.args.name.now).0 (rw (← c.as_str.ensures.value) (sym c.if-eq.ensures)) in
    record {
      here = named_at c.args.names.now c.loop-place.place x c.loop-place-test.true c.index-names-place.is ∙ ap Some same;
      first = c.loop-place.invariant;
    }

pub loop-place-preserved : goal.loop-place-preserved
loop-place-preserved c =
    let x = c.index-names-place.result in
    none_up_to c.args.names.now c.loop-place.place x c.args.name.now c.loop-place-test.true c.index-names-place.is
    (rw (← c.as_str.ensures.value) (sym c.if-eq.ensures)) c.loop-place.invariant

pub unreachable-requires : goal.unreachable-requires
unreachable-requires c =
    let place = c.requires.stands.0 in
    let names = map string_bytes c.args.names.now in
    let within = slice_get_within names place c.args.name.now c.requires.stands.1 in
    c.loop-place.invariant place (omega (arith, within, length-map c.args.names.now string_bytes, c.loop-place-test.false)) c.requires.stands.1

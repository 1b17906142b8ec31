use Rattle.std.proofs.Common.{◌∙◌, Some, ap, map, refl, string_bytes, sym}
use Rattle.script_files.proofs.Failing.{failed_by}
use Rattle.script_files.proofs.FileTexts.{first_before}
use Rattle.script_files.proofs.Many.{named_at}
use Rattle.script_files.proofs.reading.copy_text.Goals as goal

pub first_place-requires-clause-stands : goal.first_place-requires-clause-stands
first_place-requires-clause-stands g c = (
  c.args.place,
  named_at c.args.names.now c.args.place c.index-names-place.result c.requires.place c.index-names-place.is
      ∙ ap Some (sym c.as_str-name.ensures.value),
)

pub returns-in-Err-clause-stop : goal.returns-in-Err-clause-stop
returns-in-Err-clause-stop g c =
    let names = map string_bytes c.args.names.now in
    let name = c.as_str-name.result.now in
    let at = named_at c.args.names.now c.args.place c.index-names-place.result c.requires.place c.index-names-place.is
    ∙ ap Some (sym c.as_str-name.ensures.value) in (
      first_before names c.first_place.result c.args.place name c.first_place.ensures at,
      (name, c.first_place.ensures, failed_by c.in-Err.field-0 name _ _ c.in-Err.ensures.told),
    )

pub returns-in-Ok-TooLong-clause-stop : goal.returns-in-Ok-TooLong-clause-stop
returns-in-Ok-TooLong-clause-stop g c =
    let x = c.index-names-place.result in
    let long = rw (c.in-Ok-TooLong.field-0-is, c.as_str-name.ensures.value) at c.in-Ok-TooLong.ensures.text in (
      refl,
      (string_bytes x, named_at c.args.names.now c.args.place x c.requires.place c.index-names-place.is, long),
    )

pub returns-in-Ok-Whole-clause-text : goal.returns-in-Ok-Whole-clause-text
returns-in-Ok-Whole-clause-text g c =
    let x = c.index-names-place.result in
    let whole = rw (c.in-Ok-Whole.field-0-is, c.as_str-name.ensures.value) at c.in-Ok-Whole.ensures.text in
    (string_bytes x, named_at c.args.names.now c.args.place x c.requires.place c.index-names-place.is, rw c.in-Ok-Whole.text-is whole)

use Rattle.std.proofs.Common.{◌≡◌, ◌∙◌, ◌≤◌, ℕ, [], ◌∷◌, length, map, slice_get, string_bytes, Some, Vec, arith, subst, sym}
use Rattle.std.specs.declared.alloc.Global.{Global}
use Rattle.std.proofs.lemmas.Grind.{common_steps}
use Rattle.std.proofs.lemmas.List.{length-map, map-append}
use Rattle.std.proofs.lemmas.List.Elements.{All-push}
use Rattle.std.proofs.lemmas.Result.{err_from_is_err_and}
use Rattle.script_files.specs.declared.stop.TheConstants.{MOST_BYTES}
use Rattle.script_files.specs.Reading.{text_of}
use Rattle.script_files.specs.Scripts.{NoText}
use Rattle.script_files.proofs.Failing.{none_from}
use Rattle.script_files.proofs.FileTexts.{no_text_from, texts_push}
use Rattle.script_files.proofs.reading.read_each.Goals as goal

pub loop-place-preserved : goal.loop-place-preserved
loop-place-preserved g c =
    let i = c.loop-place.invariant in
    let items = c.loop-place.texts.items in
    let names = c.args.names.now in
    let is = rw i.texts at c.in_ok-text.ensures.text in
    let count : c.loop-place.place ≡ length (map text_of items) = sym (length-map items text_of ∙ i.len) in
    let at = subst (λ (k : ℕ). slice_get (map string_bytes names) k ≡ Some is.0) count is.1 in
    let more = texts_push (g.F.Files.texts c.args.files.now) (map string_bytes names) (map text_of items) is.0 (text_of c.in_ok-text.text) at i.first is.2 in
    record {
      first = rw (c.in_ok-push.ensures.items, map-append text_of items (c.in_ok-text.text ∷ [])) more;
      len = rw c.in_ok-push.ensures.items (grind (arith, common_steps));
      short = rw c.in_ok-push.ensures.items
          (All-push (λ (text : Vec ℕ Global). length text.items ≤ MOST_BYTES) items c.in_ok-text.text i.short is.2.short);
      room = rw c.copy_text.auto.piece i.room;
      texts = c.copy_text.ensures.texts ∙ i.texts;
      steady = c.copy_text.ensures.still ∙ i.steady;
      none = none_from _ _ _ i.none c.in_ok-text.ensures.none;
    }

pub returns-in_err-text-clause-stop : goal.returns-in_err-text-clause-stop
returns-in_err-text-clause-stop g c =
    let p = err_from_is_err_and c.from_residual.result c.from_residual.ensures.1 in
    let failed = c.in_err-text.field-0.0 in
    let i = c.loop-place.invariant in
    let t = g.F.Files.texts c.args.files.now in
    let names = map string_bytes c.args.names.now in
    let faults = g.F.Files.faults c.args.files.now in
    let now = g.F.Files.faults c.copy_text.new.files in
    let stop = rw i.texts at c.in_err-text.ensures.stop in
    rw (p.1, p.2) (subst (λ (k : ℕ). NoText failed k t names faults now) (sym i.len)
    (no_text_from failed c.loop-place.place t names faults (g.F.Files.faults c.loop-place.files) now i.none stop))

pub returns-in_err-text-clause-steady : goal.returns-in_err-text-clause-steady
returns-in_err-text-clause-steady g c =
    let p = err_from_is_err_and c.from_residual.result c.from_residual.ensures.1 in
    let i = c.loop-place.invariant in
    let steady = rw (i.texts, i.steady) at c.in_err-text.ensures.steady in
    rw (p.1, p.2) steady

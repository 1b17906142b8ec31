use Rattle.std.proofs.Common.{◌≡◌, ◌∙◌, length, map, string_bytes, sym}
use Rattle.std.proofs.lemmas.List.{length-map}
use Rattle.std.proofs.lemmas.Result.{err_from_is_err_and}
use Rattle.block_parser.specs.BlockGrammar.{parsed_blocks}
use Rattle.script_files.specs.Reading.{list_of, text_of}
use Rattle.script_files.specs.Scripts.{Parses, blocks}
use Rattle.script_files.proofs.FileTexts.{all_scripts, no_scripts, no_text, zip_length}
use Rattle.script_files.proofs.block_scripts.read_block_scripts.Goals as goal

pub returns-in_err-scripts-clause-stop : goal.returns-in_err-scripts-clause-stop
returns-in_err-scripts-clause-stop g c =
    let p = err_from_is_err_and c.from_residual.result c.from_residual.ensures.1 in
    let stop = rw c.deref.ensures.value at c.in_err-scripts.ensures.parsed in
    rw (p.1, p.2) (no_scripts c.in_err-scripts.field-0.0 blocks (g.F.Files.texts c.args.files.now) (map string_bytes c.args.names.now)
    (map text_of c.read_texts-read.new.texts.items) (g.F.Files.faults c.args.files.now) (g.F.Files.faults c.read_texts-read.new.files)
    c.read_texts-read.ensures.texts stop)

pub returns-clause-stop : goal.returns-clause-stop
returns-clause-stop g c =
    let items = c.read_texts-read.new.texts.items in
    let names = c.args.names.now in
    let parsed = rw c.deref.ensures.value at c.in_ok-scripts.ensures.parsed in
    let len : length (map text_of items) ≡ length (map string_bytes names) =
    length-map items text_of ∙ c.in_ok-read.ensures.all ∙ sym (length-map names string_bytes) in
    all_scripts parsed_blocks (g.F.Files.texts c.args.files.now) (map string_bytes names) (map text_of items) (map list_of c.in_ok-scripts.scripts.items)
    len c.read_texts-read.ensures.texts parsed

pub returns-clause-len : goal.returns-clause-len
returns-clause-len g c =
    let items = c.read_texts-read.new.texts.items in
    let parsed = rw c.deref.ensures.value at c.in_ok-scripts.ensures.parsed in
    let same = zip_length (Parses parsed_blocks) (map text_of items) (map list_of c.in_ok-scripts.scripts.items) parsed in
    sym (length-map c.in_ok-scripts.scripts.items list_of) ∙ same ∙ length-map items text_of ∙ c.in_ok-read.ensures.all

pub returns-in_err-read-clause-stop : goal.returns-in_err-read-clause-stop
returns-in_err-read-clause-stop g c =
    let p = err_from_is_err_and c.from_residual-in_err-read.result c.from_residual-in_err-read.ensures.1 in
    let items = c.read_texts-read.new.texts.items in
    let parsed = rw c.deref.ensures.value at c.in_ok-scripts.ensures.parsed in
    rw (p.1, p.2) (no_text c.in_err-read.field-0.0 blocks (g.F.Files.texts c.args.files.now) (map string_bytes c.args.names.now) (map text_of items)
    (map list_of c.in_ok-scripts.scripts.items) (length items) (g.F.Files.faults c.args.files.now) (g.F.Files.faults c.read_texts-read.new.files)
    (length-map items text_of) c.read_texts-read.ensures.texts parsed c.in_err-read.ensures.stop)

use Rattle.script.proofs.FirstTold.{answers_tell, answers_first}
use Rattle.script.proofs.Lined.{answers_lined}
use Rattle.script.proofs.Spelled.{answers_found, answers_fits, answers_refuses}
use Rattle.script.proofs.reading.parse.Goals as goal

pub returns : goal.returns
returns c =
    let bytes = c.args.bytes.now in
    let text = c.read_text-read.ensures.text in
    let found = answers_found bytes _ text in
    record { text = text; found = found; fits = answers_fits bytes _ text; refused = answers_refuses bytes _ text; told = answers_tell bytes _ text; first = answers_first bytes _ text; lined = answers_lined bytes _ found c.read_text-read.ensures.lined }

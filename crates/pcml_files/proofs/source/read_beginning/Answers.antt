use Rattle.pcml_files.proofs.Reading.{first_read}
use Rattle.pcml_files.proofs.source.read_beginning.Goals as goal

pub returns-clause-read : goal.returns-clause-read
returns-clause-read g c = first_read g.R.Read.remaining c.args.reader c.take-beginning.result 16777217 _ _ c.take-beginning.ensures.inner c.take-beginning.ensures.limit c.new-bytes.ensures.items c.in_ok-read_to_end.ensures.bytes

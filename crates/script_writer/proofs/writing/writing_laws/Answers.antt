use Rattle.script_writer.proofs.PlainTrees.{spelled_by_canon, read_again, own_canon}
use Rattle.script_writer.proofs.writing.writing_laws.Goals as goal

pub returns : goal.returns
returns c = record { spelled = spelled_by_canon; again = read_again; own = own_canon }

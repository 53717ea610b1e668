use Rattle.protocol_values.proofs.Equality.{atoms, messages, bases}
use Rattle.protocol_values.proofs.equality_laws.Goals as goal

pub returns-clause-atoms : goal.returns-clause-atoms
returns-clause-atoms c = atoms

pub returns-clause-messages : goal.returns-clause-messages
returns-clause-messages c = messages

pub returns-clause-bases : goal.returns-clause-bases
returns-clause-bases c = bases

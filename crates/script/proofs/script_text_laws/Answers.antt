use Rattle.script.proofs.Spelled.{spells_only_one}
use Rattle.script.proofs.Wholes.{scripts_are_answered}
use Rattle.script.proofs.Declared.{declares_names}
use Rattle.script.proofs.script_text_laws.Goals as goal

pub returns : goal.returns
returns c = record { one = spells_only_one; faults = scripts_are_answered; names = declares_names }

use Rattle.std.proofs.Common.{map}
use Rattle.pcml_tool.proofs.run.seasons_law.Goals as goal

pub returns : goal.returns
returns c = λ ps named told r all free.
    all r.journal.items r.ends.items (map (λ v. v.items) r.outputs.items)
    (record { rows = free.journal.rows; run = free.journal.run.run; rest = free.journal.maximal; tells = free.ends })

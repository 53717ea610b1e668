use Rattle.pcml_cells.proofs.InHandles.{told}
use Rattle.pcml_cells.proofs.commits.pcml_wake.Goals as goal

pub returns : goal.returns
returns c = told c.args.pass.now.kept c.keep.new.self.kept c.in-Some.kept.value c.deref_mut.result.now c.wake-answer.new.kept c.wake-answer.result _ c.in-Some.ensures.some c.deref_mut.ensures.value c.keep.ensures c.wake-answer.ensures

use Rattle.pcml_cells.proofs.InHandles.{told}
use Rattle.pcml_cells.proofs.lives.pcml_start.Goals as goal

pub returns : goal.returns
returns c = told c.args.pass.now.kept c.keep.new.self.kept c.in-Some.kept.value c.deref_mut.result.now c.start-answer.new.kept c.start-answer.result _ c.in-Some.ensures.some c.deref_mut.ensures.value c.keep.ensures c.start-answer.ensures

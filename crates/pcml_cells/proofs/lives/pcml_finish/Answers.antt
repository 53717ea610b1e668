use Rattle.pcml_cells.proofs.InHandles.{told}
use Rattle.pcml_cells.proofs.lives.pcml_finish.Goals as goal

pub returns : goal.returns
returns c = told c.args.pass.now.kept c.keep.new.self.kept c.in-Some.kept.value c.deref_mut.result.now c.finish-answer.new.kept c.finish-answer.result _ c.in-Some.ensures.some c.deref_mut.ensures.value c.keep.ensures c.finish-answer.ensures

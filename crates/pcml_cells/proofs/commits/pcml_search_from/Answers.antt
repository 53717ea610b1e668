use Rattle.pcml_cells.proofs.InHandles.{told}
use Rattle.pcml_cells.proofs.commits.pcml_search_from.Goals as goal

pub returns-clause-told : goal.returns-clause-told
returns-clause-told c = told c.args.pass.now.kept c.keep.new.self.kept c.in-Some.kept.value c.deref_mut.result.now c.search-answer.new.kept c.search-answer.result _ c.in-Some.ensures.some c.deref_mut.ensures.value c.keep.ensures c.search-answer.ensures.told

use Rattle.std.proofs.Common.{◌≡◌, vec_len, map}
use Rattle.script_tree.specs.Trees.{stmt_of, block_of}
use Rattle.script_reader.specs.Blocks.{body}
use Rattle.script_reader.proofs.Blocking.{body_on}
use Rattle.script_reader.proofs.process.link_stmts.Given as goal

abbrev pub invariant-loop-stmt : goal.invariant-loop-stmt
invariant-loop-stmt l = body_on (block_of l.linked) (map stmt_of l.stmts.items) ≡ body (map stmt_of l.fn.stmts.items)

abbrev pub decreases-loop-stmt : goal.decreases-loop-stmt
decreases-loop-stmt l = vec_len l.stmts

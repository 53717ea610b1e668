use Rattle.std.proofs.Common.{◌≡◌, List, [], ◌∷◌, ◌++◌, map, sym, ap, ◌∙◌, arith}
use Rattle.std.proofs.lemmas.List.{map-append, nil_from_length}
use Rattle.script_tree.specs.Trees.{Runs, stmt_of, block_of}
use Rattle.script_tree.specs.declared.tree.Stmt.{Stmt as SeenStmt}
use Rattle.script_tree.specs.declared.tree.Block.{Block as SeenBlock}
use Rattle.script_reader.proofs.Blocking.{body_on, body_on-nothing, body_on-more}
use Rattle.script_reader.proofs.process.link_stmts.Goals as goal

pub loop-stmt-init : goal.loop-stmt-init
loop-stmt-init c = body_on-nothing (map stmt_of c.args.stmts.items)

pub loop-stmt-preserved : goal.loop-stmt-preserved
loop-stmt-preserved c =
    let stmt = c.in-Some.stmt in
    let left = c.pop.new.self.items in
    let items : c.loop-stmt.stmts.items ≡ left ++ stmt ∷ [] = c.in-Some.ensures.items in
    let step = ap (λ (b : SeenBlock). body_on (Runs (stmt_of stmt) (block_of b)) (map stmt_of left)) c.in_ok-new.ensures.ok in
    let front = body_on-more (block_of c.loop-stmt.linked) (map stmt_of left) (stmt_of stmt) in
    let split = map-append stmt_of left (stmt ∷ []) in
    step ∙ sym front ∙ ap (body_on (block_of c.loop-stmt.linked)) (sym split ∙ ap (map stmt_of) (sym items)) ∙ c.loop-stmt.invariant

pub returns : goal.returns
returns c =
    let none : c.loop-stmt.stmts.items ≡ [] = nil_from_length c.loop-stmt.stmts.items (omega (arith, c.in_default.ensures.cases.0, c.loop-stmt.stmts.ok.0)) in
    ap (λ (xs : List SeenStmt). body_on (block_of c.loop-stmt.linked) (map stmt_of xs)) (sym none) ∙ c.loop-stmt.invariant

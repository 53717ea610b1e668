-- The parts of a process's tree may cross threads. Types that hold each other are shown together, from one layer of each.
use denote.RattleType.{RattleType}
use denote.Enum.Enum.{Enum}
use denote.Enum.Declared as E
use denote.Struct.Declared as S
use denote.Hole.Fix.{holes}
use denote.Hole.FixSend.{both_send, both_sync, Crosses}
use denote.Param.Send.{IsSend, IsSync, sendable, recorded_send, recorded_sync, enum_send, enum_sync}
use denote.Param.SendFields.{variants_send, variants_sync, declared_send, declared_sync}
use Rattle.std.proofs.Crossing.{crosses}
use Rattle.std.specs.contracts.sync.Arc as arc
use Rattle.std.proofs.MapsCrossing.{crosses as texts}
use Rattle.std.specs.contracts.option.Option as Option
use Rattle.std.specs.contracts.string.String as String
use Rattle.std.specs.contracts.alloc.Global as Global
use Rattle.std.specs.contracts.impls.GlobalAllocator.TheImpl.{ghosts}
use Rattle.script_tree.specs.contracts.tree.Name as Name
use Rattle.script_tree.specs.contracts.tree.Names as Names
use Rattle.script_tree.specs.contracts.tree.Operand as Operand
use Rattle.script_tree.specs.contracts.tree.Term as Term
use Rattle.script_tree.specs.contracts.tree.Terms as Terms
use Rattle.script_tree.specs.contracts.tree.Expr as Expr
use Rattle.script_tree.specs.contracts.tree.Exprs as Exprs
use Rattle.script_tree.specs.contracts.tree.Test as Test
use Rattle.script_tree.specs.contracts.tree.Block as Block
use Rattle.script_tree.specs.contracts.tree.Event as Event
use Rattle.script_tree.specs.contracts.tree.Events as Events
use Rattle.script_tree.specs.contracts.tree.Stmt as Stmt
use Rattle.script_tree.specs.contracts.tree.LoopBody as LoopBody
use Rattle.script_tree.specs.contracts.process.Proc as Proc

module _ (h : _ → RattleType) (ts : IsSend (h Term.the_member)) (ty : IsSync (h Term.the_member)) (ms : IsSend (h Terms.the_member)) (my : IsSync (h Terms.the_member)) (es : IsSend (h Expr.the_member)) (ey : IsSync (h Expr.the_member)) where
  term_send : IsSend (E.row (Term.the_layer h))
  term_send = search (sendable, crosses) depth 30

  term_sync : IsSync (E.row (Term.the_layer h))
  term_sync = search (sendable, crosses) depth 30

  terms_send : IsSend (E.row (Terms.the_layer h))
  terms_send = search (sendable, crosses) depth 30

  terms_sync : IsSync (E.row (Terms.the_layer h))
  terms_sync = search (sendable, crosses) depth 30

  expr_send : IsSend (S.row (Expr.the_layer h))
  expr_send = search (sendable, crosses) depth 30

  expr_sync : IsSync (S.row (Expr.the_layer h))
  expr_sync = search (sendable, crosses) depth 30

sum_steps : (i : _) → Crosses Term.the_ring i
sum_steps = Term.by_members (Crosses Term.the_ring)
    (record { send = λ h s y. term_send h (s _) (y _) (s _) (y _) (s _) (y _); sync = λ h s y. term_sync h (s _) (y _) (s _) (y _) (s _) (y _) })
    (record { send = λ h s y. terms_send h (s _) (y _) (s _) (y _) (s _) (y _); sync = λ h s y. terms_sync h (s _) (y _) (s _) (y _) (s _) (y _) })
    (record { send = λ h s y. expr_send h (s _) (y _) (s _) (y _) (s _) (y _); sync = λ h s y. expr_sync h (s _) (y _) (s _) (y _) (s _) (y _) })

pub operand_send : IsSend Operand.the_row
operand_send = search (sendable, crosses) depth 30

pub operand_sync : IsSync Operand.the_row
operand_sync = search (sendable, crosses) depth 30

holes_send : (i : _) → IsSend (holes Term.the_ring i)
holes_send = both_send Term.the_ring sum_steps

holes_sync : (i : _) → IsSync (holes Term.the_ring i)
holes_sync = both_sync Term.the_ring sum_steps

pub term_row_send : IsSend Term.the_row
term_row_send = let a = holes_send Expr.the_member in let b = holes_sync Expr.the_member in search (sendable, crosses) depth 30

pub term_row_sync : IsSync Term.the_row
term_row_sync = let a = holes_send Expr.the_member in let b = holes_sync Expr.the_member in search (sendable, crosses) depth 30

pub terms_row_send : IsSend Terms.the_row
terms_row_send = let a = holes_send Terms.the_member in let b = holes_sync Terms.the_member in variants_send Terms.enum (tt, ((search sendable, (term_row_send, (search (sendable, crosses) depth 20, tt))), tt))

pub terms_row_sync : IsSync Terms.the_row
terms_row_sync = let a = holes_send Terms.the_member in let b = holes_sync Terms.the_member in variants_sync Terms.enum (tt, ((search sendable, (term_row_sync, (search (sendable, crosses) depth 20, tt))), tt))

pub expr_row_send : IsSend Expr.the_row
expr_row_send = declared_send Expr.the_type (operand_send, (terms_row_send, tt))

pub expr_row_sync : IsSync Expr.the_row
expr_row_sync = declared_sync Expr.the_type (operand_sync, (terms_row_sync, tt))

pub exprs_send : IsSend Exprs.the_row
exprs_send = let e = expr_row_send in variants_send Exprs.enum (tt, ((e, tt), ((e, (e, tt)), ((e, (e, (e, tt))), tt))))

pub exprs_sync : IsSync Exprs.the_row
exprs_sync = let e = expr_row_sync in variants_sync Exprs.enum (tt, ((e, tt), ((e, (e, tt)), ((e, (e, (e, tt))), tt))))

pub test_send : IsSend Test.the_row
test_send = declared_send Test.the_type (expr_row_send, (search sendable depth 20, (expr_row_send, tt)))

pub test_sync : IsSync Test.the_row
test_sync = declared_sync Test.the_type (expr_row_sync, (search sendable depth 20, (expr_row_sync, tt)))

name_send : IsSend Name.the_row
name_send = search (sendable, crosses) depth 30

name_sync : IsSync Name.the_row
name_sync = search (sendable, crosses) depth 30

bound_send : IsSend (Option.the_row Names.the_row)
bound_send = search (sendable, crosses) depth 30

bound_sync : IsSync (Option.the_row Names.the_row)
bound_sync = search (sendable, crosses) depth 30

abbrev Arc : RattleType → RattleType
Arc R = arc.the_row R Global.the_row ghosts

module _ (h : _ → RattleType) (bs : IsSend (h Block.the_member)) (by : IsSync (h Block.the_member)) (es : IsSend (h Event.the_member)) (ey : IsSync (h Event.the_member))
    (vs : IsSend (h Events.the_member)) (vy : IsSync (h Events.the_member)) (ss : IsSend (h Stmt.the_member)) (sy : IsSync (h Stmt.the_member)) (ts : IsSend (h LoopBody.the_member)) (ty : IsSync (h LoopBody.the_member)) where
  block_send : IsSend (E.row (Block.the_layer h))
  block_send = search (sendable, crosses) depth 30

  block_sync : IsSync (E.row (Block.the_layer h))
  block_sync = search (sendable, crosses) depth 30

  event_send : IsSend (E.row (Event.the_layer h))
  event_send =
      let T = Event.the_layer h in
      let n = name_send in
      let l = exprs_send in
      let b : IsSend (Arc (h Block.the_member)) = search (sendable, crosses) depth 20 in
      let e : IsSend (Arc (h Event.the_member)) = search (sendable, crosses) depth 20 in
      let m : IsSend (Arc (h Events.the_member)) = search (sendable, crosses) depth 20 in
      recorded_send (Enum (E.shape T)) T.D T.to T.to_one (enum_send (E.shape T) ((n, (l, tt)), ((n, tt), ((l, tt), (tt, ((n, tt), ((search sendable, tt), ((m, tt), ((e, (bound_send, (l, tt))), ((b, (e, tt)), ((search sendable, (b, (e, tt))), tt)))))))))))

  event_sync : IsSync (E.row (Event.the_layer h))
  event_sync =
      let T = Event.the_layer h in
      let n = name_sync in
      let l = exprs_sync in
      let b : IsSync (Arc (h Block.the_member)) = search (sendable, crosses) depth 20 in
      let e : IsSync (Arc (h Event.the_member)) = search (sendable, crosses) depth 20 in
      let m : IsSync (Arc (h Events.the_member)) = search (sendable, crosses) depth 20 in
      recorded_sync (Enum (E.shape T)) T.D T.to T.to_one (enum_sync (E.shape T) ((n, (l, tt)), ((n, tt), ((l, tt), (tt, ((n, tt), ((search sendable, tt), ((m, tt), ((e, (bound_sync, (l, tt))), ((b, (e, tt)), ((search sendable, (b, (e, tt))), tt)))))))))))

  events_send : IsSend (E.row (Events.the_layer h))
  events_send = search (sendable, crosses) depth 30

  events_sync : IsSync (E.row (Events.the_layer h))
  events_sync = search (sendable, crosses) depth 30

  stmt_send : IsSend (E.row (Stmt.the_layer h))
  stmt_send = let a = expr_row_send in let b = test_send in search (sendable, crosses) depth 30

  stmt_sync : IsSync (E.row (Stmt.the_layer h))
  stmt_sync = let a = expr_row_sync in let b = test_sync in search (sendable, crosses) depth 30

  turn_send : IsSend (S.row (LoopBody.the_layer h))
  turn_send = search (sendable, crosses) depth 30

  turn_sync : IsSync (S.row (LoopBody.the_layer h))
  turn_sync = search (sendable, crosses) depth 30

tree_steps : (i : _) → Crosses Block.the_ring i
tree_steps = Block.by_members (Crosses Block.the_ring)
    (record { send = λ h s y. block_send h (s _) (y _) (s _) (y _) (s _) (y _) (s _) (y _) (s _) (y _); sync = λ h s y. block_sync h (s _) (y _) (s _) (y _) (s _) (y _) (s _) (y _) (s _) (y _) })
    (record { send = λ h s y. event_send h (s _) (y _) (s _) (y _) (s _) (y _) (s _) (y _) (s _) (y _); sync = λ h s y. event_sync h (s _) (y _) (s _) (y _) (s _) (y _) (s _) (y _) (s _) (y _) })
    (record { send = λ h s y. events_send h (s _) (y _) (s _) (y _) (s _) (y _) (s _) (y _) (s _) (y _); sync = λ h s y. events_sync h (s _) (y _) (s _) (y _) (s _) (y _) (s _) (y _) (s _) (y _) })
    (record { send = λ h s y. stmt_send h (s _) (y _) (s _) (y _) (s _) (y _) (s _) (y _) (s _) (y _); sync = λ h s y. stmt_sync h (s _) (y _) (s _) (y _) (s _) (y _) (s _) (y _) (s _) (y _) })
    (record { send = λ h s y. turn_send h (s _) (y _) (s _) (y _) (s _) (y _) (s _) (y _) (s _) (y _); sync = λ h s y. turn_sync h (s _) (y _) (s _) (y _) (s _) (y _) (s _) (y _) (s _) (y _) })

tree_send : (i : _) → IsSend (holes Block.the_ring i)
tree_send = both_send Block.the_ring tree_steps

tree_sync : (i : _) → IsSync (holes Block.the_ring i)
tree_sync = both_sync Block.the_ring tree_steps

block_hole_send : IsSend (Arc (holes Block.the_ring Block.the_member))
block_hole_send = let a = tree_send Block.the_member in let b = tree_sync Block.the_member in search (sendable, crosses) depth 20

event_hole_send : IsSend (Arc (holes Block.the_ring Event.the_member))
event_hole_send = let a = tree_send Event.the_member in let b = tree_sync Event.the_member in search (sendable, crosses) depth 20

events_hole_send : IsSend (Arc (holes Block.the_ring Events.the_member))
events_hole_send = let a = tree_send Events.the_member in let b = tree_sync Events.the_member in search (sendable, crosses) depth 20

turn_hole_send : IsSend (Arc (holes Block.the_ring LoopBody.the_member))
turn_hole_send = let a = tree_send LoopBody.the_member in let b = tree_sync LoopBody.the_member in search (sendable, crosses) depth 20

pub event_row_send : IsSend Event.the_row
event_row_send =
    let n = name_send in
    let l = exprs_send in
    let b = block_hole_send in
    let e = event_hole_send in
    variants_send Event.enum ((n, (l, tt)), ((n, tt), ((l, tt), (tt, ((n, tt), ((search sendable, tt), ((events_hole_send, tt), ((e, (bound_send, (l, tt))), ((b, (e, tt)), ((search sendable, (b, (e, tt))), tt))))))))))

pub stmt_row_send : IsSend Stmt.the_row
stmt_row_send =
    let x = expr_row_send in
    let b = block_hole_send in
    let t = turn_hole_send in
    variants_send Stmt.enum ((search sendable, (x, tt)), ((x, tt), ((bound_send, (event_hole_send, tt)), ((test_send, (b, (b, tt))), ((search sendable, (t, tt)), ((t, tt), (tt, ((search sendable, tt), tt))))))))

pub block_row_send : IsSend Block.the_row
block_row_send = variants_send Block.enum (tt, ((stmt_row_send, (search sendable, (block_hole_send, tt))), tt))

block_hole_sync : IsSync (Arc (holes Block.the_ring Block.the_member))
block_hole_sync = let a = tree_send Block.the_member in let b = tree_sync Block.the_member in search (sendable, crosses) depth 20

event_hole_sync : IsSync (Arc (holes Block.the_ring Event.the_member))
event_hole_sync = let a = tree_send Event.the_member in let b = tree_sync Event.the_member in search (sendable, crosses) depth 20

events_hole_sync : IsSync (Arc (holes Block.the_ring Events.the_member))
events_hole_sync = let a = tree_send Events.the_member in let b = tree_sync Events.the_member in search (sendable, crosses) depth 20

turn_hole_sync : IsSync (Arc (holes Block.the_ring LoopBody.the_member))
turn_hole_sync = let a = tree_send LoopBody.the_member in let b = tree_sync LoopBody.the_member in search (sendable, crosses) depth 20

pub event_row_sync : IsSync Event.the_row
event_row_sync =
    let n = name_sync in
    let l = exprs_sync in
    let b = block_hole_sync in
    let e = event_hole_sync in
    variants_sync Event.enum ((n, (l, tt)), ((n, tt), ((l, tt), (tt, ((n, tt), ((search sendable, tt), ((events_hole_sync, tt), ((e, (bound_sync, (l, tt))), ((b, (e, tt)), ((search sendable, (b, (e, tt))), tt))))))))))

pub stmt_row_sync : IsSync Stmt.the_row
stmt_row_sync =
    let x = expr_row_sync in
    let b = block_hole_sync in
    let t = turn_hole_sync in
    variants_sync Stmt.enum ((search sendable, (x, tt)), ((x, tt), ((bound_sync, (event_hole_sync, tt)), ((test_sync, (b, (b, tt))), ((search sendable, (t, tt)), ((t, tt), (tt, ((search sendable, tt), tt))))))))

pub block_row_sync : IsSync Block.the_row
block_row_sync = variants_sync Block.enum (tt, ((stmt_row_sync, (search sendable, (block_hole_sync, tt))), tt))

pub process_send : IsSend Proc.the_row
process_send =
    let a = block_row_send in let b = block_row_sync in
    let t : IsSend (String.the_row Global.the_row ghosts) = search (sendable, crosses, texts) depth 20 in
    declared_send Proc.the_type (t, (search (sendable, crosses) depth 20, (search (sendable, crosses) depth 20, (search sendable, (search sendable, tt)))))

pub process_sync : IsSync Proc.the_row
process_sync =
    let a = block_row_send in let b = block_row_sync in
    let t : IsSync (String.the_row Global.the_row ghosts) = search (sendable, crosses, texts) depth 20 in
    declared_sync Proc.the_type (t, (search (sendable, crosses) depth 20, (search (sendable, crosses) depth 20, (search sendable, (search sendable, tt)))))

-- A machine may cross threads, as its parts may.
use denote.Builtin.{u8}
use denote.Param.Send.{IsSend, IsSync, sendable, view_send, view_sync}
use denote.Param.SendFields.{variants_send, declared_send, declared_sync}
use Rattle.std.proofs.Crossing.{crosses}
use Rattle.thread_code.specs.contracts.Code as Code
use Rattle.protocol_values.specs.contracts.Base as Base
use Rattle.protocol_values.specs.contracts.Message as Message
use Rattle.protocol_values.specs.contracts.Offer as Offer
use Rattle.thread.specs.contracts.memory.Memory as Memory
use Rattle.thread.specs.contracts.stack.Frame as Frame
use Rattle.thread.specs.contracts.stack.Stack as Stack
use Rattle.thread.specs.contracts.branch.Position as Position
use Rattle.thread.specs.contracts.counted.Counted as Counted
use Rattle.thread.specs.contracts.counted.Counted.TheInside as CountedInside
use Rattle.thread.specs.contracts.needs.Needs as Needs
use Rattle.thread.specs.contracts.branch.Branch as Branch
use Rattle.thread.specs.contracts.branch.Branch.TheInside as BranchInside
use Rattle.thread.specs.contracts.machine.Machine as Machine
use Rattle.thread.specs.contracts.machine.Machine.TheInside as Inside
use Rattle.script_tree.proofs.Crossing.{event_row_send, event_row_sync, block_row_send, block_row_sync}

code_send : IsSend Code.the_row
code_send =
    let a = block_row_send in let b = block_row_sync in let c = event_row_send in let d = event_row_sync in
    search (sendable, crosses) depth 30

code_sync : IsSync Code.the_row
code_sync =
    let a = block_row_send in let b = block_row_sync in let c = event_row_send in let d = event_row_sync in
    search (sendable, crosses) depth 30

message_send : IsSend Message.the_row
message_send = search (sendable, crosses) depth 30

base_send : IsSend Base.the_row
base_send =
    let m = message_send in
    let n : IsSend u8 = search sendable in
    variants_send Base.enum ((n, (m, tt)), ((n, tt), ((m, tt), ((search sendable depth 20, tt), ((n, tt), (tt, tt))))))

offer_send : IsSend Offer.the_row
offer_send = declared_send Offer.the_type (base_send, (search sendable depth 20, tt))

frame_send : IsSend Frame.the_row
frame_send = search (sendable, crosses) depth 30

stack_send : IsSend Stack.the_row
stack_send = let a = frame_send in let b = offer_send in search (sendable, crosses) depth 30

place_send : IsSend Position.the_row
place_send = search (sendable, crosses) depth 30

memory_send : IsSend Memory.the_row
memory_send = search (sendable, crosses) depth 30

needs_send : IsSend Needs.the_row
needs_send = search (sendable, crosses) depth 30

needs_sync : IsSync Needs.the_row
needs_sync = search (sendable, crosses) depth 30

counted_inside_send : IsSend CountedInside.the_row
counted_inside_send =
    let a = code_send in let b = needs_send in
    declared_send CountedInside.the_type (a, (search (sendable, crosses) depth 20, tt))

counted_send : IsSend Counted.the_row
counted_send = view_send _ _ _ _ _ counted_inside_send

counted_inside_sync : IsSync CountedInside.the_row
counted_inside_sync =
    let a = code_sync in let b = needs_sync in
    declared_sync CountedInside.the_type (a, (search (sendable, crosses) depth 20, tt))

counted_sync : IsSync Counted.the_row
counted_sync = view_sync _ _ _ _ _ counted_inside_sync

branch_inside_send : IsSend BranchInside.the_row
branch_inside_send =
    let a = block_row_send in let b = block_row_sync in let c = counted_send in let d = counted_sync in let e = message_send in
    declared_send BranchInside.the_type (search (sendable, crosses) depth 20, (search (sendable, crosses) depth 20, (search sendable depth 20, (search sendable depth 20, (memory_send, (stack_send, (search (sendable, crosses) depth 20, (search (sendable, crosses) depth 20, (place_send, tt)))))))))

branch_send : IsSend Branch.the_row
branch_send = view_send _ _ _ _ _ branch_inside_send

inside_send : IsSend Inside.the_row
inside_send = declared_send Inside.the_type (branch_send, tt)

pub machine_send : IsSend Machine.the_row
machine_send = view_send _ _ _ _ _ inside_send

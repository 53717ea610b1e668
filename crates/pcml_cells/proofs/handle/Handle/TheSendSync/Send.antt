-- A handle may go to another thread, since what it keeps may.
use mir.Raw.{raw}
use base.Shift.{Keyless}
use denote.Memory.{lone}
use denote.RawPtr.{Ptr}
use denote.Struct.Struct.{exits_of}
use denote.Struct.Owning.{shape, fields, to}
use denote.Param.Send.{IsSend, AllSend, owning_send, struct_send, sendable}
use Rattle.std.specs.Prelude.{Some, None}
use Rattle.std.specs.Global.{Global}
use Rattle.std.proofs.Crossing as heap
use Rattle.std_alloc.proofs.SendSync.{quiet, lies}
use Rattle.std_heap.proofs.Global.TheSendSync as global
use Rattle.cell_hand.specs.contracts.kept.Kept as Kept
use Rattle.cell_hand.proofs.Crossing.{kept_send}
use Rattle.pcml_cells.specs.Owned.{InHandle, handle_owns}
use Rattle.pcml_cells.specs.contracts.handle.Handle.{the_row, the_type}

owned : (a : Global) (p : Ptr) (x : InHandle) → Keyless (handle_owns a p x)
owned a p None = tt
owned a p (Some value) = (lies Kept.the_row kept_send p value, heap.frees.frees a (raw (lone Kept.the_row.mir)) p)

pub send : IsSend the_row
send =
    let all : AllSend (fields the_type) = (search sendable, (global.the_field_send, tt)) in
    owning_send the_type all (λ d. owned d.alloc d.at d.kept) (λ k. quiet (to the_type) (exits_of k (fields the_type)) ((struct_send (shape the_type) all).leaving k))

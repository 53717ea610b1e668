-- What a handle owns: what a box at the same address owns, and nothing where it is null.
use Rattle.std.specs.Prelude.{Option, Some, None}
use base.Fml.{Fml, feq}
use Rattle.std.specs.Coded.{Coded, coded_option}
use denote.RawPtr.{Ptr, null_ptr}
use Rattle.std.specs.Box.Ownership.{box_owns}
use Rattle.std.specs.Global.{Global}
use Rattle.std.specs.contracts.impls.GlobalAllocator.TheImpl.{ghosts}
use Rattle.cell_hand.specs.contracts.kept.Kept.{the_row}

abbrev pub InHandle : Type 0
InHandle = Option the_row.Denot

abbrev pub handle_owns : Global → Ptr → InHandle → Fml
handle_owns alloc at kept = elim kept [ None ↦ feq Ptr at null_ptr | Some value ↦ box_owns (ghosts.dealloc_token alloc) the_row at value ]

abbrev pub kept_coded : Coded InHandle
kept_coded = coded_option the_row.coded

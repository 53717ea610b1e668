-- A state that stands for a kept world, and knows who names whom, is sound.
use Rattle.std.proofs.Common.{◌≡◌, sym, subst}
use Rattle.protocol.specs.declared.state.State.{State}
use Rattle.protocol_ledger.specs.Tables.{Table}
use Rattle.protocol_ledger.specs.Worlds.{World, with_table}
use Rattle.protocol_ledger.specs.Kept.{Kept}
use Rattle.protocol_ledger.specs.Sheets.{table_of}
use Rattle.protocol.specs.States.{world_of, IsSound, Tells}

pub sound_state : (s : State) (w : World) (t : Table) → table_of s.sheet ≡ t → s.seats ≡ w.seats → s.holders.items ≡ w.holders → s.lasts.items ≡ w.lasts → Kept (with_table w t) → Tells (with_table w t) s.namers.items → IsSound s
sound_state s w t e f g h k tells =
    let same : with_table w t ≡ world_of s = λ i. record { table = sym e i; seats = sym f i; holders = sym g i; lasts = sym h i } in
    record {
      kept = subst Kept same k;
      told = subst (λ (v : World). Tells v s.namers.items) same tells;
    }

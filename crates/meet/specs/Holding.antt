-- What a part of a search is called with.
use Rattle.protocol_values.specs.declared.Row.{Row}
use Rattle.cell.specs.Calls.{GridOf, IsPassOf, IsRowOf, PassOf}
use Rattle.cell_table.specs.Sight.{Has}

-- the pass is one of this table, and holds this row of it, which it saw opened
abbrev pub HoldsOpened : {M : Type 0} → GridOf M → PassOf M → Row → Type 0
HoldsOpened g p r = IsPassOf g p × IsRowOf g r × Has p.seen.held r × Has p.seen.opened r

-- What the code's own tables stand for.
use Rattle.protocol_ledger.specs.declared.sheet.Sheet.{Sheet}
use Rattle.protocol_ledger.specs.Short.{wide_table}
use Rattle.protocol_ledger.specs.Tables.{Table}

-- the table for which a sheet's words stand, whose rows and threads may be short
abbrev pub table_of : Sheet → Table
table_of b = wide_table b.layout (record { threads = b.threads; rows = b.rows; words = b.words.items; opening = b.opening })

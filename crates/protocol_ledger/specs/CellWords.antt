-- What a cell's word says of its row.
use Rattle.std.specs.Prelude.{ℕ, Option, option_and_then, unwrap_or}
use Rattle.protocol_values.specs.Values.{joined_of}
use Rattle.protocol_values.specs.Words.{cell_of}
use Rattle.protocol_values.specs.declared.Cell.TheVariants.{Fresh}
use Rattle.protocol_values.specs.declared.Joined.{Joined}
use Rattle.protocol_values.specs.declared.Row.{Row}

-- how the row is committed; one of a word that is no cell's is Fresh
abbrev pub joined_by : ℕ → Option Joined
joined_by w = joined_of (unwrap_or (cell_of w) Fresh)

-- with whom
abbrev pub partner_by : ℕ → Option (Row × ℕ)
partner_by w = option_and_then (λ (j : Joined). j.partner) (joined_by w)

-- What a schedule in memory says, and what a fault of reading says of the bytes.
use Rattle.std.specs.Prelude.{ℕ, List}
use Rattle.protocol.specs.declared.schedule.Schedule.{Schedule}
use Rattle.protocol.specs.declared.schedule.ReadFault.{ReadFault}
use Rattle.protocol.specs.declared.schedule.ReadFault.TheVariants.{Memory, BadStep}
use Rattle.protocol.specs.Schedule.{Plan, IsFirstBadLine}

-- a schedule without where it lies in memory
abbrev pub plan_of : Schedule → Plan
plan_of s = record { size = s.size; steps = s.steps.items }

abbrev pub Explains : List ℕ → ReadFault → Type 0
Explains bytes Memory = Unit {0}
Explains bytes (BadStep k) = IsFirstBadLine bytes k

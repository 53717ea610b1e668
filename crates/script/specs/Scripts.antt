-- Reading from left to right: declarations, processes, and whole texts.
use Rattle.std.specs.Prelude.{◌≡◌, ℕ, ◌-◌, List, [], ◌∷◌, ◌++◌, map, length, ◌||◌, Option, Some, None, Result, Ok, Err, is_some, nat_lt, nat_le, ◌==◌, slice_index, if◌then◌else◌}
use Rattle.script_token.specs.Tokens.{Token}
use Rattle.script_token.specs.Lexemes.{placed_tokens, last_line}
use Rattle.script_grammar.specs.Meaning.{place, if_some}
use Rattle.script_reader.specs.Steps.{Told, ◌>>=◌, stop_at, repeated, name_at, next_is, accept_at, expect_at, Here, here, start}
use Rattle.script_tree.specs.Trees.{Block}
use Rattle.script_tree.specs.Processes.{Proc, proc_of, string_texts}
use Rattle.script_reader.specs.Blocks.{block_at}
use Rattle.script_reader.specs.declared.process.Loops.TheVariants.{Allowed}
pub use Rattle.script.specs.Sources.{Script, IsScript, tokens_of}
use Rattle.script.specs.declared.script.Script.{Script as SeenScript}
use Rattle.script.specs.declared.reading.Draft.{Draft}
use Rattle.script_reader.specs.declared.fault.Problem.{Problem}
use Rattle.script_reader.specs.declared.fault.Problem.TheVariants.{Syntax, UnknownName, Twice, TooMany, LoopWithoutSync}
use Rattle.script.specs.declared.fault.ScriptFault.{ScriptFault}
use Rattle.script.specs.declared.fault.ScriptFault.TheVariants as faults
use Rattle.script_token.specs.declared.kind.Symbol.TheVariants.{Channel, Process, Semicolon}

abbrev pub proc_from : List ℕ → Block → Here → Proc
proc_from name body h = record { name = name; body = body; variables = h.variables; channels = length h.channels; earlier = length h.processes }

abbrev pub script_of : SeenScript → Script
script_of s = record { channels = string_texts s.channels.items; processes = map proc_of s.processes.items }

-- a name that is declared, as one of at most so many, and the names with it
unfoldable pub declare_at : ℕ → List (List ℕ) → List Token → Result (List ℕ × List (List ℕ) × List Token) Told
declare_at limit names ts =
    if_some (name_at ts) (λ text.
    if is_some (place text names)
    then stop_at Twice ts
    else (if nat_le limit (length names) || nat_lt 32 (length text)
    then stop_at TooMany ts
    else (accept_at 49 ts >>= λ rest. Ok (text, names ++ text ∷ [], rest))))
    (stop_at Syntax ts)

-- one more channel
unfoldable pub channel_next : List (List ℕ) × List Token → Result (List (List ℕ) × List Token) Told
channel_next s = do
  rest ← accept_at 49 s.1
  c ← declare_at 256 s.0 rest
  rest ← expect_at 49 Semicolon c.2
  Ok (c.1, rest)

abbrev pub channel_step : List (List ℕ) × List Token → Option (Result (List (List ℕ) × List Token) Told)
channel_step s = if next_is Channel s.1 then Some (channel_next s) else None

unfoldable pub channels_at : List Token → Result (List (List ℕ) × List Token) Told
channels_at ts = repeated channel_step (length ts) ([], ts)

-- the processes so far, and the names that can be read, theirs among them
abbrev pub Drawn : Type 0
Drawn = List Proc × Here × List Token

abbrev pub drawn : Draft → List Token → Drawn
drawn d ts = (map proc_of d.processes.items, here d.scope, ts)

-- one more process, which can be named behind its block
unfoldable pub process_next : Drawn → Result Drawn Told
process_next s = do
  rest ← expect_at 49 Process s.2
  n ← declare_at 64 s.1.processes rest
  b ← block_at 49 Allowed (start s.1.channels s.1.processes s.1.spawned) n.2
  Ok (s.0 ++ proc_from n.0 b.0 b.1 ∷ [], record b.1 { processes = n.1 }, b.2)

abbrev pub process_step : Drawn → Option (Result Drawn Told)
process_step s = if length s.2 == 0 then None else Some (process_next s)

unfoldable pub processes_at : List (List ℕ) → List Token → Result Drawn Told
processes_at channels ts = repeated process_step (length ts) ([], start channels [] [], ts)

unfoldable pub script_at : List Token → Result Script Told
script_at ts = do
  c ← channels_at ts
  p ← processes_at c.0 c.1
  Ok (record { channels = p.1.channels; processes = p.0 })

-- WHOLE TEXTS

-- the line at which so many tokens are left
abbrev pub line_left : List (Token × ℕ) → ℕ → ℕ → ℕ
line_left ps last left =
    if (left == 0) || nat_lt (length ps) left then last else slice_index (map (λ p. p.1) ps) (length ps - left)

abbrev pub fault_at : Problem → ℕ → ScriptFault
fault_at Syntax line = faults.Syntax line
fault_at UnknownName line = faults.UnknownName line
fault_at Twice line = faults.Twice line
fault_at TooMany line = faults.TooMany line
fault_at LoopWithoutSync line = faults.LoopWithoutSync line

abbrev pub with_line : List ℕ → Result Script Told → Result Script ScriptFault
with_line bytes (Ok s) = Ok s
with_line bytes (Err told) = Err (fault_at told.0 (line_left (placed_tokens bytes) (last_line bytes) told.1))

-- what a text says, or its fault
unfoldable pub text_at : List ℕ → Result Script ScriptFault
text_at bytes = if nat_lt 65536 (length bytes) then Err faults.TooLong else with_line bytes (script_at (tokens_of bytes))

-- the answer is that of the text, unless memory ran out
abbrev pub IsFault : ScriptFault → Result Script ScriptFault → Type 0
IsFault faults.Memory read = Unit {0}
IsFault (faults.Syntax line) read = read ≡ Err (faults.Syntax line)
IsFault (faults.UnknownName line) read = read ≡ Err (faults.UnknownName line)
IsFault (faults.Twice line) read = read ≡ Err (faults.Twice line)
IsFault (faults.TooMany line) read = read ≡ Err (faults.TooMany line)
IsFault (faults.LoopWithoutSync line) read = read ≡ Err (faults.LoopWithoutSync line)
IsFault faults.TooLong read = read ≡ Err faults.TooLong

abbrev pub Answers : Result SeenScript ScriptFault → Result Script ScriptFault → Type 0
Answers (Ok s) read = read ≡ Ok (script_of s)
Answers (Err fault) read = IsFault fault read

-- How keywords and marks are spelled.
use Rattle.std.specs.Prelude.{◌≡◌, ℕ, List, codes}
use Rattle.script_token.specs.Tokens.{Fixed, token_of}
use Rattle.script_token.specs.declared.kind.Symbol.{Symbol}
use Rattle.script_token.specs.declared.kind.Symbol.TheVariants as symbols

abbrev pub spelling : Symbol → List ℕ
spelling symbols.Channel = codes "channel"
spelling symbols.Process = codes "process"
spelling symbols.Let = codes "let"
spelling symbols.Print = codes "print"
spelling symbols.Sync = codes "sync"
spelling symbols.If = codes "if"
spelling symbols.Else = codes "else"
spelling symbols.Loop = codes "loop"
spelling symbols.Forever = codes "forever"
spelling symbols.End = codes "end"
spelling symbols.Send = codes "send"
spelling symbols.Recv = codes "recv"
spelling symbols.Always = codes "always"
spelling symbols.Never = codes "never"
spelling symbols.Cancelled = codes "cancelled"
spelling symbols.Choose = codes "choose"
spelling symbols.Wrap = codes "wrap"
spelling symbols.As = codes "as"
spelling symbols.To = codes "to"
spelling symbols.Guard = codes "guard"
spelling symbols.Nack = codes "nack"
spelling symbols.Spawn = codes "spawn"
spelling symbols.Joined = codes "joined"
spelling symbols.Semicolon = codes ";"
spelling symbols.Comma = codes ","
spelling symbols.OpenBrace = codes "{"
spelling symbols.CloseBrace = codes "}"
spelling symbols.OpenParen = codes "("
spelling symbols.CloseParen = codes ")"
spelling symbols.OpenBracket = codes "["
spelling symbols.CloseBracket = codes "]"
spelling symbols.Equal = codes "="
spelling symbols.Less = codes "<"
spelling symbols.Plus = codes "+"
spelling symbols.Minus = codes "-"
spelling symbols.Arrow = codes "<-"

-- what is spelled so is read as that
abbrev pub AreSpelled : Type 0
AreSpelled = (symbol : Symbol) → token_of (spelling symbol) ≡ Fixed symbol

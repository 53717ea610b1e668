-- The canonical text of a script: the tokens of what is written plainly, with a line end behind each `;`,
-- `{` and `}`, and a space behind each other token.
use Rattle.std.specs.Prelude.{ℕ, List, [], ◌∷◌, ◌++◌, codes}
use Rattle.std.specs.Fmt.{decimal}
use Rattle.script_token.specs.Tokens.{Token, Fixed, Name, Number, Bad}
use Rattle.script_token.specs.declared.kind.Symbol.{Symbol}
use Rattle.script_token.specs.declared.kind.Symbol.TheVariants.{Channel, Process, Let, Print, Sync, If, Else, Loop, Forever, End, Send, Recv, Always, Never, Cancelled, Choose, Wrap, As, To, Guard, Nack, Spawn, Joined, Semicolon, Comma, OpenBrace, CloseBrace, OpenParen, CloseParen, OpenBracket, CloseBracket, Equal, Less, Plus, Minus, Arrow}
use Rattle.script_grammar.specs.Written.{script_tokens}
use Rattle.script.specs.Scripts.{Script}
use Rattle.script_writer.specs.Plain.{plain}

-- how a keyword or a mark is spelled
abbrev pub spelling : Symbol → List ℕ
spelling Channel = codes "channel"
spelling Process = codes "process"
spelling Let = codes "let"
spelling Print = codes "print"
spelling Sync = codes "sync"
spelling If = codes "if"
spelling Else = codes "else"
spelling Loop = codes "loop"
spelling Forever = codes "forever"
spelling End = codes "end"
spelling Send = codes "send"
spelling Recv = codes "recv"
spelling Always = codes "always"
spelling Never = codes "never"
spelling Cancelled = codes "cancelled"
spelling Choose = codes "choose"
spelling Wrap = codes "wrap"
spelling As = codes "as"
spelling To = codes "to"
spelling Guard = codes "guard"
spelling Nack = codes "nack"
spelling Spawn = codes "spawn"
spelling Joined = codes "joined"
spelling Semicolon = codes ";"
spelling Comma = codes ","
spelling OpenBrace = codes "{"
spelling CloseBrace = codes "}"
spelling OpenParen = codes "("
spelling CloseParen = codes ")"
spelling OpenBracket = codes "["
spelling CloseBracket = codes "]"
spelling Equal = codes "="
spelling Less = codes "<"
spelling Plus = codes "+"
spelling Minus = codes "-"
spelling Arrow = codes "<-"

-- how a token is spelled; what is no token, as a number with a leading zero
abbrev pub word_of : Token → List ℕ
word_of (Fixed symbol) = spelling symbol
word_of (Name text) = text
word_of (Number n) = decimal n
word_of Bad = codes "00"

-- the byte behind a keyword or a mark
abbrev pub behind_symbol : Symbol → ℕ
behind_symbol Semicolon = 10
behind_symbol OpenBrace = 10
behind_symbol CloseBrace = 10
behind_symbol other = 32

abbrev pub behind : Token → ℕ
behind (Fixed symbol) = behind_symbol symbol
behind (Name text) = 32
behind (Number n) = 32
behind Bad = 32

unfoldable pub text_of : List Token → List ℕ
text_of [] = []
text_of (t ∷ ts) = word_of t ++ behind t ∷ text_of ts

unfoldable pub Canon : Script → List ℕ
Canon s = text_of (script_tokens (plain s))

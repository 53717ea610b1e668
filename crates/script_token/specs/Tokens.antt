-- Tokens: what a lexeme is. One that is no token at all is Bad.
use Rattle.std.specs.Prelude.{ℕ, ◌+◌, ◌-◌, ◌*◌, List, [], ◌∷◌, codes, Bool, ◌||◌, ◌&&◌, Option, Some, None, nat_le, nat_lt, nat_eq, length, slice_index, ◌==◌, if◌then◌else◌}
use Rattle.std.specs.List.{list_all}
use Rattle.std.specs.Cmp.Lexicographic.{pointwise}
use Rattle.script_token.specs.declared.kind.Symbol.{Symbol}
use Rattle.script_token.specs.declared.kind.Symbol.TheVariants.{Channel, Process, Let, Print, Sync, If, Else, Loop, Forever, End, Send, Recv, Always, Never, Cancelled, Choose, Wrap, As, To, Guard, Nack, Spawn, Joined, Semicolon, Comma, OpenBrace, CloseBrace, OpenParen, CloseParen, OpenBracket, CloseBracket, Equal, Less, Plus, Minus, Arrow}
use Rattle.script_token.specs.declared.kind.Token.{Token as Seen}
use Rattle.script_token.specs.declared.kind.Token.TheVariants as seen

pub data Token : Type 0 where
  Fixed : (symbol : Symbol) → Token
  Name : (text : List ℕ) → Token
  Number : (value : ℕ) → Token
  Bad : Token

-- a token without where its text lies in memory
abbrev pub view : Seen → Token
view (seen.Symbol s) = Fixed s
view (seen.Name text) = Name text.now
view (seen.Number n) = Number n
view seen.Bad = Bad

abbrev pub same : List ℕ → List ℕ → Bool
same w text = pointwise nat_eq w text

-- the keywords that begin a statement or a declaration
abbrev pub statement_word : List ℕ → Option Symbol
statement_word w =
    if same w (codes "channel") then Some Channel
    else (if same w (codes "process") then Some Process
    else (if same w (codes "let") then Some Let
    else (if same w (codes "print") then Some Print
    else (if same w (codes "sync") then Some Sync
    else (if same w (codes "if") then Some If
    else (if same w (codes "loop") then Some Loop
    else (if same w (codes "forever") then Some Forever
    else (if same w (codes "end") then Some End else None))))))))

-- the keywords that begin an event
abbrev pub event_word : List ℕ → Option Symbol
event_word w =
    if same w (codes "send") then Some Send
    else (if same w (codes "recv") then Some Recv
    else (if same w (codes "always") then Some Always
    else (if same w (codes "never") then Some Never
    else (if same w (codes "cancelled") then Some Cancelled
    else (if same w (codes "choose") then Some Choose
    else (if same w (codes "wrap") then Some Wrap
    else (if same w (codes "guard") then Some Guard
    else (if same w (codes "nack") then Some Nack else None))))))))

-- the keywords that stand within, or are kept for later
abbrev pub other_word : List ℕ → Option Symbol
other_word w =
    if same w (codes "else") then Some Else
    else (if same w (codes "as") then Some As
    else (if same w (codes "to") then Some To
    else (if same w (codes "spawn") then Some Spawn
    else (if same w (codes "joined") then Some Joined else None))))

abbrev pub or_else : {A : Type 0} → Option A → Option A → Option A
or_else (Some x) other = Some x
or_else None other = other

unfoldable pub keyword_of : List ℕ → Option Symbol
keyword_of w = or_else (statement_word w) (or_else (event_word w) (other_word w))

abbrev pub mark_byte : ℕ → Option Symbol
mark_byte b =
    if b == 59 then Some Semicolon
    else (if b == 44 then Some Comma
    else (if b == 123 then Some OpenBrace
    else (if b == 125 then Some CloseBrace
    else (if b == 40 then Some OpenParen
    else (if b == 41 then Some CloseParen
    else (if b == 91 then Some OpenBracket
    else (if b == 93 then Some CloseBracket
    else (if b == 61 then Some Equal
    else (if b == 60 then Some Less
    else (if b == 43 then Some Plus
    else (if b == 45 then Some Minus else None)))))))))))

abbrev pub mark_of : List ℕ → Option Symbol
mark_of [] = None
mark_of (b ∷ []) = mark_byte b
mark_of (b ∷ c ∷ []) = if (b == 60) && (c == 45) then Some Arrow else None
mark_of (b ∷ c ∷ d ∷ bytes) = None

abbrev pub between : ℕ → ℕ → ℕ → Bool
between low high b = nat_le low b && nat_le b high

abbrev pub is_letter : ℕ → Bool
is_letter b = between 97 122 b || between 65 90 b

abbrev pub is_digit : ℕ → Bool
is_digit b = between 48 57 b

-- what may stand in a name or a number: letters, digits and `_`
abbrev pub is_word : ℕ → Bool
is_word b = is_letter b || (is_digit b || (b == 95))

abbrev pub digit_of : ℕ → Option ℕ
digit_of b = if is_digit b then Some (b - 48) else None

-- a letter, and then letters, digits and `_`
abbrev pub is_name : List ℕ → Bool
is_name w = is_letter (slice_index w 0) && list_all is_word w

-- the number that digits say behind the number n
abbrev pub value_from : ℕ → List ℕ → ℕ
value_from n [] = n
value_from n (b ∷ bytes) = value_from (n * 10 + (b - 48)) bytes

abbrev pub has_leading_zero : List ℕ → Bool
has_leading_zero w = nat_lt 1 (length w) && (slice_index w 0 == 48)

-- the number that digits say, at most 4294967295
abbrev pub numeral_from : ℕ → List ℕ → Option ℕ
numeral_from n bytes = if list_all is_digit bytes && nat_le (value_from n bytes) 4294967295 then Some (value_from n bytes) else None

abbrev pub number_of : List ℕ → Option ℕ
number_of w = if has_leading_zero w then None else numeral_from 0 w

abbrev pub number_token : Option ℕ → Token
number_token (Some n) = Number n
number_token None = Bad

abbrev pub name_or_number : List ℕ → Token
name_or_number w = if is_name w then Name w else number_token (number_of w)

abbrev pub symbol_or : Option Symbol → Token → Token
symbol_or (Some s) other = Fixed s
symbol_or None other = other

-- a keyword or a mark, else a name, else a number without a leading zero
unfoldable pub token_of : List ℕ → Token
token_of w = symbol_or (or_else (keyword_of w) (mark_of w)) (name_or_number w)

-- the place of a keyword or a mark among all of them
abbrev pub order : Symbol → ℕ
order Channel = 0
order Process = 1
order Let = 2
order Print = 3
order Sync = 4
order If = 5
order Else = 6
order Loop = 7
order Forever = 8
order End = 9
order Send = 10
order Recv = 11
order Always = 12
order Never = 13
order Cancelled = 14
order Choose = 15
order Wrap = 16
order As = 17
order To = 18
order Guard = 19
order Nack = 20
order Spawn = 21
order Joined = 22
order Semicolon = 23
order Comma = 24
order OpenBrace = 25
order CloseBrace = 26
order OpenParen = 27
order CloseParen = 28
order OpenBracket = 29
order CloseBracket = 30
order Equal = 31
order Less = 32
order Plus = 33
order Minus = 34
order Arrow = 35

abbrev pub same_symbol : Symbol → Symbol → Bool
same_symbol a b = order a == order b

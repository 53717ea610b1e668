-- The tokens of the text of tokens are those tokens, where each name and number is one.
use Rattle.std.proofs.Common.{◌≡◌, ℕ, zero, suc, ◌+◌, ◌-◌, ◌*◌, ◌/◌, ◌%◌, ◌^◌, ◌<◌, ◌≤◌, Bool, true, false, ◌&&◌, eqb, ltb, leb, get_or, List, [], ◌∷◌, ◌++◌, length, map, codes, None, refl, ap, ◌∙◌, arith, tests}
use Rattle.std.specs.Fmt.{decimal}
use Rattle.std.specs.List.{list_all}
use Rattle.std.proofs.lemmas.Bool.{and_parts}
use Rattle.std.proofs.lemmas.Bool.Decides.{nat_tests}
use Rattle.std.proofs.lemmas.Fmt.{decimal_digit, decimal_by_steps, decimal_nonempty, first_decimal}
use Rattle.script_token.specs.Tokens.{Token, Fixed, Name, Number, Bad, keyword_of, mark_of, is_letter, is_digit, is_word, is_name, value_from, has_leading_zero, token_of}
use Rattle.script_token.specs.Lexemes.{lexemes, is_white, line_after, tokens_from}
use Rattle.script_token.specs.declared.kind.Symbol.{Symbol}
use Rattle.script_token.specs.declared.kind.Symbol.TheVariants.{Channel, Process, Let, Print, Sync, If, Else, Loop, Forever, End, Send, Recv, Always, Never, Cancelled, Choose, Wrap, As, To, Guard, Nack, Spawn, Joined, Semicolon, Comma, OpenBrace, CloseBrace, OpenParen, CloseParen, OpenBracket, CloseBracket, Equal, Less, Plus, Minus, Arrow}
use Rattle.script_token.proofs.Cutting.{run_parts, mark_one, mark_arrow}
use Rattle.script.specs.Scripts.{tokens_of}
use Rattle.script.proofs.Good.{Good, AllGood}
use Rattle.script_writer.specs.Canon.{word_of, behind, text_of}

-- LEXEMES

-- how a token is cut off
record Cuts (t : Token) : Type 0 where
  white : is_white (behind t) ≡ true
  cut : (bytes : List ℕ) → lexemes (word_of t ++ behind t ∷ bytes) ≡ word_of t ∷ (behind t ∷ []) ∷ lexemes bytes
  black : is_white (get_or (word_of t) 0 0) ≡ false
  token : token_of (word_of t) ≡ t

white_first : (c : ℕ) (bytes : List ℕ) → is_word c ≡ false → eqb c 60 ≡ false → lexemes (c ∷ bytes) ≡ (c ∷ []) ∷ lexemes bytes
white_first c bytes e f = mark_one (c ∷ bytes) (omega arith) e (rw f refl)

space_cut : (bytes : List ℕ) → lexemes (32 ∷ bytes) ≡ (32 ∷ []) ∷ lexemes bytes
space_cut bytes = white_first 32 bytes refl refl

word_cut : (w : List ℕ) → 0 < length w → list_all is_word w ≡ true → (bytes : List ℕ) → lexemes (w ++ 32 ∷ bytes) ≡ w ∷ (32 ∷ []) ∷ lexemes bytes
word_cut w some all bytes = run_parts w (32 ∷ bytes) some all refl ∙ ap (λ (ws : List (List ℕ)). w ∷ ws) (space_cut bytes)

mark_cut : (b c : ℕ) → is_word b ≡ false → (eqb b 60 && eqb c 45) ≡ false → is_word c ≡ false → eqb c 60 ≡ false → (bytes : List ℕ) → lexemes (b ∷ c ∷ bytes) ≡ (b ∷ []) ∷ (c ∷ []) ∷ lexemes bytes
mark_cut b c e f g h bytes = mark_one (b ∷ c ∷ bytes) (omega arith) e f ∙ ap (λ (ws : List (List ℕ)). (b ∷ []) ∷ ws) (white_first c bytes g h)

arrow_cut : (bytes : List ℕ) → lexemes (60 ∷ 45 ∷ 32 ∷ bytes) ≡ (60 ∷ 45 ∷ []) ∷ (32 ∷ []) ∷ lexemes bytes
arrow_cut bytes = mark_arrow (60 ∷ 45 ∷ 32 ∷ bytes) (omega arith) refl refl ∙ ap (λ (ws : List (List ℕ)). (60 ∷ 45 ∷ []) ∷ ws) (space_cut bytes)

symbol_cuts : (s : Symbol) → Cuts (Fixed s)
unfolding token_of keyword_of
symbol_cuts Channel = record { white = refl; cut = word_cut (codes "channel") (omega arith) refl; black = refl; token = refl }
symbol_cuts Process = record { white = refl; cut = word_cut (codes "process") (omega arith) refl; black = refl; token = refl }
symbol_cuts Let = record { white = refl; cut = word_cut (codes "let") (omega arith) refl; black = refl; token = refl }
symbol_cuts Print = record { white = refl; cut = word_cut (codes "print") (omega arith) refl; black = refl; token = refl }
symbol_cuts Sync = record { white = refl; cut = word_cut (codes "sync") (omega arith) refl; black = refl; token = refl }
symbol_cuts If = record { white = refl; cut = word_cut (codes "if") (omega arith) refl; black = refl; token = refl }
symbol_cuts Else = record { white = refl; cut = word_cut (codes "else") (omega arith) refl; black = refl; token = refl }
symbol_cuts Loop = record { white = refl; cut = word_cut (codes "loop") (omega arith) refl; black = refl; token = refl }
symbol_cuts Forever = record { white = refl; cut = word_cut (codes "forever") (omega arith) refl; black = refl; token = refl }
symbol_cuts End = record { white = refl; cut = word_cut (codes "end") (omega arith) refl; black = refl; token = refl }
symbol_cuts Send = record { white = refl; cut = word_cut (codes "send") (omega arith) refl; black = refl; token = refl }
symbol_cuts Recv = record { white = refl; cut = word_cut (codes "recv") (omega arith) refl; black = refl; token = refl }
symbol_cuts Always = record { white = refl; cut = word_cut (codes "always") (omega arith) refl; black = refl; token = refl }
symbol_cuts Never = record { white = refl; cut = word_cut (codes "never") (omega arith) refl; black = refl; token = refl }
symbol_cuts Cancelled = record { white = refl; cut = word_cut (codes "cancelled") (omega arith) refl; black = refl; token = refl }
symbol_cuts Choose = record { white = refl; cut = word_cut (codes "choose") (omega arith) refl; black = refl; token = refl }
symbol_cuts Wrap = record { white = refl; cut = word_cut (codes "wrap") (omega arith) refl; black = refl; token = refl }
symbol_cuts As = record { white = refl; cut = word_cut (codes "as") (omega arith) refl; black = refl; token = refl }
symbol_cuts To = record { white = refl; cut = word_cut (codes "to") (omega arith) refl; black = refl; token = refl }
symbol_cuts Guard = record { white = refl; cut = word_cut (codes "guard") (omega arith) refl; black = refl; token = refl }
symbol_cuts Nack = record { white = refl; cut = word_cut (codes "nack") (omega arith) refl; black = refl; token = refl }
symbol_cuts Spawn = record { white = refl; cut = word_cut (codes "spawn") (omega arith) refl; black = refl; token = refl }
symbol_cuts Joined = record { white = refl; cut = word_cut (codes "joined") (omega arith) refl; black = refl; token = refl }
symbol_cuts Semicolon = record { white = refl; cut = mark_cut 59 10 refl refl refl refl; black = refl; token = refl }
symbol_cuts Comma = record { white = refl; cut = mark_cut 44 32 refl refl refl refl; black = refl; token = refl }
symbol_cuts OpenBrace = record { white = refl; cut = mark_cut 123 10 refl refl refl refl; black = refl; token = refl }
symbol_cuts CloseBrace = record { white = refl; cut = mark_cut 125 10 refl refl refl refl; black = refl; token = refl }
symbol_cuts OpenParen = record { white = refl; cut = mark_cut 40 32 refl refl refl refl; black = refl; token = refl }
symbol_cuts CloseParen = record { white = refl; cut = mark_cut 41 32 refl refl refl refl; black = refl; token = refl }
symbol_cuts OpenBracket = record { white = refl; cut = mark_cut 91 32 refl refl refl refl; black = refl; token = refl }
symbol_cuts CloseBracket = record { white = refl; cut = mark_cut 93 32 refl refl refl refl; black = refl; token = refl }
symbol_cuts Equal = record { white = refl; cut = mark_cut 61 32 refl refl refl refl; black = refl; token = refl }
symbol_cuts Less = record { white = refl; cut = mark_cut 60 32 refl refl refl refl; black = refl; token = refl }
symbol_cuts Plus = record { white = refl; cut = mark_cut 43 32 refl refl refl refl; black = refl; token = refl }
symbol_cuts Minus = record { white = refl; cut = mark_cut 45 32 refl refl refl refl; black = refl; token = refl }
symbol_cuts Arrow = record { white = refl; cut = arrow_cut; black = refl; token = refl }

letter_is_black : (b : ℕ) → is_letter b ≡ true → is_white b ≡ false
letter_is_black b h = grind (arith, nat_tests)

name_cuts : (text : List ℕ) → is_name text ≡ true → token_of text ≡ Name text → Cuts (Name text)
name_cuts [] e f = absurd cc
name_cuts (b ∷ w) e f =
    let parts = and_parts (is_letter b) (list_all is_word (b ∷ w)) e in
    record { white = refl; cut = word_cut (b ∷ w) (omega arith) parts.1; black = letter_is_black b parts.0; token = f }

bad_cuts : Cuts Bad
unfolding token_of keyword_of
bad_cuts = record { white = refl; cut = word_cut (codes "00") (omega arith) refl; black = refl; token = refl }

-- NUMBERS

-- digits that say a number
record Says (n : ℕ) (text : List ℕ) : Type 0 where
  digits : list_all is_digit text ≡ true
  value : value_from 0 text ≡ n

digit_is : (d : ℕ) → d < 10 → is_digit (48 + d) ≡ true
digit_is d h = search (arith, tests)

all_more : (w : List ℕ) (b : ℕ) → list_all is_digit w ≡ true → is_digit b ≡ true → list_all is_digit (w ++ b ∷ []) ≡ true
all_more [] b h k = rw k refl
all_more (c ∷ w) b h k = (let p = and_parts (is_digit c) (list_all is_digit w) h in rw (p.0, all_more w b p.1 k) refl)

value_more : (w : List ℕ) (m b : ℕ) → value_from m (w ++ b ∷ []) ≡ value_from m w * 10 + (b - 48)
value_more [] m b = refl
value_more (c ∷ w) m b = value_more w (m * 10 + (c - 48)) b

one_digit : (n : ℕ) → n < 10 → Says n ((48 + n) ∷ [])
one_digit n h = record { digits = rw (digit_is n h) refl; value = omega arith }

one_digit_more : (n : ℕ) (ds : List ℕ) → 10 ≤ n → Says (n / 10) ds → Says n (ds ++ (48 + n % 10) ∷ [])
one_digit_more n ds h s = record {
  digits = all_more ds (48 + n % 10) s.digits (digit_is (n % 10) (omega arith));
  value = value_more ds 0 (48 + n % 10) ∙ omega (arith, s.value);
}

decimal_says : (n : ℕ) → n < 2 ^ 64 → Says n (decimal n)
decimal_says = decimal_by_steps Says one_digit one_digit_more

no_letter : (b k : ℕ) → is_digit b ≡ true → 58 ≤ k → eqb b k ≡ false
no_letter b k h l = grind (arith, nat_tests)

no_mark : (b k : ℕ) → is_digit b ≡ true → k < 48 → eqb b k ≡ false
no_mark b k h l = grind (arith, nat_tests)

digit_is_no_word : (b : ℕ) (w : List ℕ) → is_digit b ≡ true → keyword_of (b ∷ w) ≡ None
unfolding keyword_of
digit_is_no_word b w h =
    let n = λ (k : ℕ) (l : 58 ≤ k). no_letter b k h l in
    rw (n 99 (omega arith), n 112 (omega arith), n 108 (omega arith), n 115 (omega arith), n 105 (omega arith), n 102 (omega arith), n 101 (omega arith), n 114 (omega arith), n 97 (omega arith), n 110 (omega arith), n 119 (omega arith), n 103 (omega arith), n 116 (omega arith), n 106 (omega arith)) refl

digit_is_no_mark : (b : ℕ) (w : List ℕ) → is_digit b ≡ true → mark_of (b ∷ w) ≡ None
digit_is_no_mark b [] h =
    let n = λ (k : ℕ) (l : 58 ≤ k). no_letter b k h l in
    let m = λ (k : ℕ) (l : k < 48). no_mark b k h l in
    rw (n 59 (omega arith), m 44 (omega arith), n 123 (omega arith), n 125 (omega arith), m 40 (omega arith), m 41 (omega arith), n 91 (omega arith), n 93 (omega arith), n 61 (omega arith), n 60 (omega arith), m 43 (omega arith), m 45 (omega arith)) refl
digit_is_no_mark b (c ∷ []) h = rw (no_letter b 60 h (omega arith)) refl
digit_is_no_mark b (c ∷ d ∷ w) h = refl

digit_is_no_letter : (b : ℕ) → is_digit b ≡ true → is_letter b ≡ false
digit_is_no_letter b h = grind (arith, nat_tests)

digit_is_black : (b : ℕ) → is_digit b ≡ true → is_white b ≡ false
digit_is_black b h = grind (arith, nat_tests)

digit_is_word : (b : ℕ) → is_digit b ≡ true → is_word b ≡ true
digit_is_word b h = rw (digit_is_no_letter b h, h) refl

all_words : (w : List ℕ) → list_all is_digit w ≡ true → list_all is_word w ≡ true
all_words [] h = refl
all_words (b ∷ w) h = (let p = and_parts (is_digit b) (list_all is_digit w) h in rw (digit_is_word b p.0, all_words w p.1) refl)

-- digits without a leading zero are a number
number_is : (w : List ℕ) (n : ℕ) → 0 < length w → Says n w → n ≤ 4294967295 → has_leading_zero w ≡ false → token_of w ≡ Number n
unfolding token_of
number_is [] n some s few h = absurd (omega (arith, some))
number_is (b ∷ w) n some s few h =
    let p = and_parts (is_digit b) (list_all is_digit w) s.digits in
    let small : leb n 4294967295 ≡ true = search (arith, tests) in
    rw (digit_is_no_word b w p.0, digit_is_no_mark b w p.0, digit_is_no_letter b p.0, h, s.digits, s.value, small) refl

no_zero : (n : ℕ) → n ≤ 4294967295 → has_leading_zero (decimal n) ≡ false
no_zero zero h = rw (decimal_digit 0 (omega arith)) refl
no_zero (suc n) h =
    let first = first_decimal (suc n) (omega arith) (omega arith) in
    let b = get_or (decimal (suc n)) 0 0 in
    let other : eqb b 48 ≡ false = search (arith, tests) in
    rw other (and_no (ltb 1 (length (decimal (suc n)))))
  where
    and_no : (v : Bool) → (v && false) ≡ false
    and_no true = refl
    and_no false = refl

first_digit : (w : List ℕ) → 0 < length w → list_all is_digit w ≡ true → is_white (get_or w 0 0) ≡ false
first_digit [] some h = absurd (omega (arith, some))
first_digit (b ∷ w) some h = digit_is_black b (and_parts (is_digit b) (list_all is_digit w) h).0

number_cuts : (n : ℕ) → n ≤ 4294967295 → Cuts (Number n)
number_cuts n h =
    let s = decimal_says n (omega arith) in
    let some = decimal_nonempty n (omega arith) in
    record { white = refl; cut = word_cut (decimal n) some (all_words (decimal n) s.digits); black = first_digit (decimal n) some s.digits; token = number_is (decimal n) n some s h (no_zero n h) }

-- TEXTS

cuts : (t : Token) → Good t → Cuts t
unfolding Good
cuts (Fixed s) h = symbol_cuts s
cuts (Name text) h = name_cuts text h.0 h.1
cuts (Number n) h = number_cuts n h
cuts Bad h = bad_cuts

tokens_again : (ts : List Token) (line : ℕ) → AllGood ts → map (λ (p : Token × ℕ). p.0) (tokens_from line (lexemes (text_of ts))) ≡ ts
unfolding text_of tokens_from lexemes AllGood
tokens_again [] line h = refl
tokens_again (t ∷ ts) line h =
    let c = cuts t h.0 in
    let line' = line_after line (word_of t) in
    let more = tokens_again ts (line_after line' (behind t ∷ [])) h.1 in
    ap (λ (ws : List (List ℕ)). map (λ (p : Token × ℕ). p.0) (tokens_from line ws)) (c.cut (text_of ts)) ∙ rw (c.black, c.token, c.white) (ap (λ (x : List Token). t ∷ x) more)

pub text_again : (ts : List Token) → AllGood ts → tokens_of (text_of ts) ≡ ts
text_again ts h = tokens_again ts 1 h

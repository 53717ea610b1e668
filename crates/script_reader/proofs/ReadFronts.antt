-- Single tokens: what is written is taken, and what is taken was written.
use Rattle.std.proofs.Common.{◌≡◌, ℕ, zero, suc, ◌<◌, true, false, eqb, get_or, List, [], ◌∷◌, Option, Some, None, Result, Ok, refl, sym, ap, ◌∙◌, arith, tests}
use Rattle.std.proofs.lemmas.Bool.Decides.{nat_tests}
use Rattle.script_token.specs.Tokens.{Token, Fixed, Name, Number, Bad, order, same_symbol}
use Rattle.script_token.specs.declared.kind.Symbol.{Symbol}
use Rattle.script_token.specs.declared.kind.Symbol.TheVariants.{Channel, Process, Let, Print, Sync, If, Else, Loop, Forever, End, Send, Recv, Always, Never, Cancelled, Choose, Wrap, As, To, Guard, Nack, Spawn, Joined, Semicolon, Comma, OpenBrace, CloseBrace, OpenParen, CloseParen, OpenBracket, CloseBracket, Equal, Less, Plus, Minus, Arrow}
use Rattle.script_reader.specs.Steps.{Told, repeated, name_at, number_at, next_is, accept_at, expect_at}
use Rattle.script_reader.proofs.Keeping.{ok_is, no_ok, if_ok, accept_room}

-- SYMBOLS

all_symbols : List Symbol
all_symbols = Channel ∷ Process ∷ Let ∷ Print ∷ Sync ∷ If ∷ Else ∷ Loop ∷ Forever ∷ End ∷ Send ∷ Recv ∷ Always ∷ Never ∷ Cancelled ∷ Choose ∷ Wrap ∷ As ∷ To ∷ Guard ∷ Nack ∷ Spawn ∷ Joined ∷ Semicolon ∷ Comma ∷ OpenBrace ∷ CloseBrace ∷ OpenParen ∷ CloseParen ∷ OpenBracket ∷ CloseBracket ∷ Equal ∷ Less ∷ Plus ∷ Minus ∷ Arrow ∷ []

in_order : (s : Symbol) → get_or all_symbols (order s) Channel ≡ s
unfolding all_symbols
in_order Channel = refl
in_order Process = refl
in_order Let = refl
in_order Print = refl
in_order Sync = refl
in_order If = refl
in_order Else = refl
in_order Loop = refl
in_order Forever = refl
in_order End = refl
in_order Send = refl
in_order Recv = refl
in_order Always = refl
in_order Never = refl
in_order Cancelled = refl
in_order Choose = refl
in_order Wrap = refl
in_order As = refl
in_order To = refl
in_order Guard = refl
in_order Nack = refl
in_order Spawn = refl
in_order Joined = refl
in_order Semicolon = refl
in_order Comma = refl
in_order OpenBrace = refl
in_order CloseBrace = refl
in_order OpenParen = refl
in_order CloseParen = refl
in_order OpenBracket = refl
in_order CloseBracket = refl
in_order Equal = refl
in_order Less = refl
in_order Plus = refl
in_order Minus = refl
in_order Arrow = refl

same_number : (a b : ℕ) → eqb a b ≡ true → a ≡ b
same_number a b e = grind (arith, nat_tests)

pub same_one : (a b : Symbol) → same_symbol a b ≡ true → a ≡ b
same_one a b e = sym (in_order a) ∙ ap (λ (n : ℕ). get_or all_symbols n Channel) (same_number (order a) (order b) e) ∙ in_order b

pub is_itself : (s : Symbol) → same_symbol s s ≡ true
is_itself s = (let n = order s in let is : eqb n n ≡ true = search (arith, tests) in is)

-- WHAT IS WRITTEN IS TAKEN

pub accept_ok : (nesting : ℕ) (t : Token) (ts : List Token) → 0 < nesting → accept_at nesting (t ∷ ts) ≡ Ok ts
unfolding accept_at
accept_ok nesting t ts h = (let no : eqb nesting 0 ≡ false = search (arith, tests) in rw no refl)

pub expect_ok : (nesting : ℕ) (symbol : Symbol) (ts : List Token) → 0 < nesting → expect_at nesting symbol (Fixed symbol ∷ ts) ≡ Ok ts
unfolding expect_at next_is
expect_ok nesting symbol ts h = rw (is_itself symbol) (accept_ok nesting (Fixed symbol) ts h)

pub is_next : (symbol : Symbol) (ts : List Token) → next_is symbol (Fixed symbol ∷ ts) ≡ true
unfolding next_is
is_next symbol ts = is_itself symbol

-- WHAT IS TAKEN WAS WRITTEN

-- tokens, of which this is the first
pub record Front (t : Token) (ts : List Token) : Type 0 where
  pub rest : List Token
  pub is : ts ≡ t ∷ rest

pub next_found : (symbol : Symbol) (ts : List Token) → next_is symbol ts ≡ true → Front (Fixed symbol) ts
unfolding next_is
next_found symbol [] e = absurd cc
next_found symbol (Fixed s ∷ ts) e = record { rest = ts; is = ap (λ (x : Symbol). Fixed x ∷ ts) (sym (same_one symbol s e)) }
next_found symbol (Name text ∷ ts) e = absurd cc
next_found symbol (Number n ∷ ts) e = absurd cc
next_found symbol (Bad ∷ ts) e = absurd cc

pub name_found : (ts : List Token) (text : List ℕ) → name_at ts ≡ Some text → Front (Name text) ts
name_found [] text e = absurd cc
name_found (Fixed s ∷ ts) text e = absurd cc
name_found (Name x ∷ ts) text e = (let same : x ≡ text = cc in record { rest = ts; is = ap (λ (x : List ℕ). Name x ∷ ts) same })
name_found (Number n ∷ ts) text e = absurd cc
name_found (Bad ∷ ts) text e = absurd cc

pub number_found : (ts : List Token) (n : ℕ) → number_at ts ≡ Some n → Front (Number n) ts
number_found [] n e = absurd cc
number_found (Fixed s ∷ ts) n e = absurd cc
number_found (Name x ∷ ts) n e = absurd cc
number_found (Number m ∷ ts) n e = (let same : m ≡ n = cc in record { rest = ts; is = ap (λ (x : ℕ). Number x ∷ ts) same })
number_found (Bad ∷ ts) n e = absurd cc

-- the token in front is taken
pub record Taken (nesting : ℕ) (t : Token) (ts rest : List Token) : Type 0 where
  pub is : ts ≡ t ∷ rest
  pub some : 0 < nesting

taken_first : (nesting : ℕ) (t : Token) (ts rest : List Token) → accept_at nesting (t ∷ ts) ≡ Ok rest → ts ≡ rest
unfolding accept_at
taken_first nesting t ts rest e = if_ok (eqb nesting 0) _ _ rest e (λ _ f. no_ok _ _ f) (λ _ f. ok_is _ _ f)

pub accept_found : (nesting : ℕ) (t : Token) (ts rest : List Token) → Front t ts → accept_at nesting ts ≡ Ok rest → Taken nesting t ts rest
accept_found nesting t ts rest front e =
    let taken : accept_at nesting (t ∷ front.rest) ≡ Ok rest = ap (accept_at nesting) (sym front.is) ∙ e in
    record { is = front.is ∙ ap (λ (x : List Token). t ∷ x) (taken_first nesting t front.rest rest taken); some = accept_room nesting ts rest e }

pub expect_found : (nesting : ℕ) (symbol : Symbol) (ts rest : List Token) → expect_at nesting symbol ts ≡ Ok rest → Taken nesting (Fixed symbol) ts rest
unfolding expect_at
expect_found nesting symbol ts rest e = if_ok (next_is symbol ts) _ _ rest e (λ is f. accept_found nesting (Fixed symbol) ts rest (next_found symbol ts is) f) (λ _ f. no_ok _ _ f)

-- STEPS

pub no_step : {S : Type 0} (step : S → Option (Result S Told)) (n : ℕ) (s : S) → step s ≡ None → repeated step n s ≡ Ok s
unfolding repeated
no_step step zero s e = refl
no_step step (suc n) s e = rw e refl

pub one_step : {S : Type 0} (step : S → Option (Result S Told)) (n : ℕ) (s t : S) (whole : Result S Told) → step s ≡ Some (Ok t) → repeated step n t ≡ whole → repeated step (suc n) s ≡ whole
unfolding repeated
one_step step n s t whole e h = rw e h

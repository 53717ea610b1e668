-- The grammar: what is written, with a constructor for each alternative, and the tokens of it. Each
-- function gives the tokens of what is written, and behind them those that are passed to it.
use Rattle.std.specs.Prelude.{ℕ, List, [], ◌∷◌}
use Rattle.script_token.specs.Tokens.{Token, Fixed, Name, Number}
use Rattle.script_token.specs.declared.kind.Symbol.{Symbol}
use Rattle.script_token.specs.declared.kind.Symbol.TheVariants as symbols
use Rattle.script_tree.specs.declared.tree.Sign.{Sign}
use Rattle.script_tree.specs.declared.tree.Sign.TheVariants as signs
use Rattle.script_tree.specs.declared.tree.Relation.{Relation}
use Rattle.script_tree.specs.declared.tree.Relation.TheVariants as relations

-- EXPRESSIONS

mutual
  -- a number, a name, or an expression in parentheses
  pub data Term : Type 0 where
    OfNumber : (value : ℕ) → Term
    OfName : (text : List ℕ) → Term
    Grouped : (first : Term) (more : Terms) → Term

  -- the terms behind the first, each with its sign
  pub data Terms : Type 0 where
    NoMore : Terms
    Further : (sign : Sign) (term : Term) (more : Terms) → Terms

pub record Expr : Type 0 where
  pub first : Term
  pub more : Terms

pub record Test : Type 0 where
  pub left : Expr
  pub relation : Relation
  pub right : Expr

abbrev pub sign_symbol : Sign → Symbol
sign_symbol signs.Plus = symbols.Plus
sign_symbol signs.Minus = symbols.Minus

abbrev pub relation_symbol : Relation → Symbol
relation_symbol relations.Equal = symbols.Equal
relation_symbol relations.Less = symbols.Less

abbrev mutual
  pub term_tokens : Term → List Token → List Token
  term_tokens (OfNumber n) rest = Number n ∷ rest
  term_tokens (OfName text) rest = Name text ∷ rest
  term_tokens (Grouped first more) rest = Fixed symbols.OpenParen ∷ term_tokens first (terms_tokens more (Fixed symbols.CloseParen ∷ rest))

  pub terms_tokens : Terms → List Token → List Token
  terms_tokens NoMore rest = rest
  terms_tokens (Further sign term more) rest = Fixed (sign_symbol sign) ∷ term_tokens term (terms_tokens more rest)

abbrev pub expr_tokens : Expr → List Token → List Token
expr_tokens e rest = term_tokens e.first (terms_tokens e.more rest)

abbrev pub test_tokens : Test → List Token → List Token
test_tokens t rest = expr_tokens t.left (Fixed (relation_symbol t.relation) ∷ expr_tokens t.right rest)

-- expressions behind another, each behind a comma
abbrev pub others_tokens : List Expr → List Token → List Token
others_tokens [] rest = rest
others_tokens (e ∷ es) rest = Fixed symbols.Comma ∷ expr_tokens e (others_tokens es rest)

abbrev pub members_tokens : List Expr → List Token → List Token
members_tokens [] rest = rest
members_tokens (e ∷ es) rest = expr_tokens e (others_tokens es rest)

abbrev pub list_tokens : List Expr → List Token → List Token
list_tokens es rest = Fixed symbols.OpenParen ∷ members_tokens es (Fixed symbols.CloseParen ∷ rest)

-- names behind another, each behind a comma
abbrev pub more_names_tokens : List (List ℕ) → List Token → List Token
more_names_tokens [] rest = rest
more_names_tokens (name ∷ names) rest = Fixed symbols.Comma ∷ Name name ∷ more_names_tokens names rest

-- EVENTS, STATEMENTS AND BLOCKS
-- A list of names that is not there is empty.

mutual
  pub data Event : Type 0 where
    Send : (channel : List ℕ) (list : List Expr) → Event
    Recv : (channel : List ℕ) → Event
    Always : (list : List Expr) → Event
    Never : Event
    Cancelled : (nack : List ℕ) → Event
    Joined : (process : List ℕ) → Event
    Choose : (members : Events) → Event
    Wrap : (event : Event) (names : List (List ℕ)) (list : List Expr) → Event
    Guard : (body : Block) (event : Event) → Event
    Nack : (name : List ℕ) (body : Block) (event : Event) → Event

  pub data Events : Type 0 where
    NoEvents : Events
    Another : (event : Event) (others : Events) → Events

  pub data Stmt : Type 0 where
    Let : (name : List ℕ) (value : Expr) → Stmt
    Print : (value : Expr) → Stmt
    Sync : (names : List (List ℕ)) (event : Event) → Stmt
    If : (test : Test) (first second : Block) → Stmt
    Loop : (times : ℕ) (body : Block) → Stmt
    Forever : (body : Block) → Stmt
    End : Stmt
    Spawn : (process : List ℕ) → Stmt

  -- the statements between two braces
  pub data Block : Type 0 where
    Done : Block
    Then : (stmt : Stmt) (rest : Block) → Block

abbrev pub as_tokens : List (List ℕ) → List Token → List Token
as_tokens [] rest = rest
as_tokens (name ∷ names) rest = Fixed symbols.As ∷ Name name ∷ more_names_tokens names rest

abbrev pub received_tokens : List (List ℕ) → List Token → List Token
received_tokens [] rest = rest
received_tokens (name ∷ names) rest = Name name ∷ more_names_tokens names (Fixed symbols.Arrow ∷ rest)

abbrev mutual
  pub event_tokens : Event → List Token → List Token
  event_tokens (Send channel list) rest = Fixed symbols.Send ∷ Name channel ∷ list_tokens list rest
  event_tokens (Recv channel) rest = Fixed symbols.Recv ∷ Name channel ∷ rest
  event_tokens (Always list) rest = Fixed symbols.Always ∷ list_tokens list rest
  event_tokens Never rest = Fixed symbols.Never ∷ rest
  event_tokens (Cancelled nack) rest = Fixed symbols.Cancelled ∷ Name nack ∷ rest
  event_tokens (Joined process) rest = Fixed symbols.Joined ∷ Name process ∷ rest
  event_tokens (Choose members) rest = Fixed symbols.Choose ∷ Fixed symbols.OpenBracket ∷ events_tokens members (Fixed symbols.CloseBracket ∷ rest)
  event_tokens (Wrap event names list) rest = Fixed symbols.Wrap ∷ event_tokens event (as_tokens names (Fixed symbols.To ∷ list_tokens list rest))
  event_tokens (Guard body event) rest = Fixed symbols.Guard ∷ Fixed symbols.OpenBrace ∷ body_tokens body (event_tokens event rest)
  event_tokens (Nack name body event) rest = Fixed symbols.Nack ∷ Name name ∷ Fixed symbols.OpenBrace ∷ body_tokens body (event_tokens event rest)

  pub events_tokens : Events → List Token → List Token
  events_tokens NoEvents rest = rest
  events_tokens (Another event others) rest = event_tokens event (more_events_tokens others rest)

  -- events behind another, each behind a comma
  pub more_events_tokens : Events → List Token → List Token
  more_events_tokens NoEvents rest = rest
  more_events_tokens (Another event others) rest = Fixed symbols.Comma ∷ event_tokens event (more_events_tokens others rest)

  pub stmt_tokens : Stmt → List Token → List Token
  stmt_tokens (Let name value) rest = Fixed symbols.Let ∷ Name name ∷ Fixed symbols.Equal ∷ expr_tokens value (Fixed symbols.Semicolon ∷ rest)
  stmt_tokens (Print value) rest = Fixed symbols.Print ∷ expr_tokens value (Fixed symbols.Semicolon ∷ rest)
  stmt_tokens (Sync names event) rest = received_tokens names (Fixed symbols.Sync ∷ event_tokens event (Fixed symbols.Semicolon ∷ rest))
  stmt_tokens (If test first second) rest = Fixed symbols.If ∷ test_tokens test (Fixed symbols.OpenBrace ∷ body_tokens first (Fixed symbols.Else ∷ Fixed symbols.OpenBrace ∷ body_tokens second rest))
  stmt_tokens (Loop times body) rest = Fixed symbols.Loop ∷ Number times ∷ Fixed symbols.OpenBrace ∷ body_tokens body rest
  stmt_tokens (Forever body) rest = Fixed symbols.Forever ∷ Fixed symbols.OpenBrace ∷ body_tokens body rest
  stmt_tokens End rest = Fixed symbols.End ∷ Fixed symbols.Semicolon ∷ rest
  stmt_tokens (Spawn process) rest = Fixed symbols.Spawn ∷ Name process ∷ Fixed symbols.Semicolon ∷ rest

  -- statements, and the brace that ends them
  pub body_tokens : Block → List Token → List Token
  body_tokens Done rest = Fixed symbols.CloseBrace ∷ rest
  body_tokens (Then stmt others) rest = stmt_tokens stmt (body_tokens others rest)

abbrev pub block_tokens : Block → List Token → List Token
block_tokens body rest = Fixed symbols.OpenBrace ∷ body_tokens body rest

-- SCRIPTS

pub record Process : Type 0 where
  pub name : List ℕ
  pub body : Block

pub record Script : Type 0 where
  pub channels : List (List ℕ)
  pub processes : List Process

abbrev pub channels_tokens : List (List ℕ) → List Token → List Token
channels_tokens [] rest = rest
channels_tokens (name ∷ names) rest = Fixed symbols.Channel ∷ Name name ∷ Fixed symbols.Semicolon ∷ channels_tokens names rest

abbrev pub processes_tokens : List Process → List Token
processes_tokens [] = []
processes_tokens (p ∷ ps) = Fixed symbols.Process ∷ Name p.name ∷ block_tokens p.body (processes_tokens ps)

abbrev pub script_tokens : Script → List Token
script_tokens s = channels_tokens s.channels (processes_tokens s.processes)

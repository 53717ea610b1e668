-- The fault that reading has to tell, stated with no reading in it.
use Rattle.std.specs.Prelude.{◌≡◌, ◌⊎◌, ℕ, ◌+◌, ◌≤◌, List, ◌∷◌, ◌++◌, length, take, Some, None, Result, Ok, Err, is_some, false}
use Rattle.script_token.specs.Tokens.{Token, Name}
use Rattle.script_token.specs.declared.kind.Symbol.TheVariants.{Comma}
use Rattle.script_reader.specs.Steps.{Told, Here, next_is, bind_names_at}
use Rattle.script_reader.specs.Exprs.{sign_at, expr_at, test_at, list_at}
use Rattle.script_reader.specs.declared.fault.Problem.{Problem}
use Rattle.script_reader.specs.declared.fault.Problem.TheVariants.{Syntax}
use Rattle.script_grammar.specs.Written.{expr_tokens, test_tokens, list_tokens, more_names_tokens, event_tokens, stmt_tokens, block_tokens}
use Rattle.script_reader.specs.declared.process.Loops.{Loops}
use Rattle.script_reader.specs.Blocks.{are_allowed, event_at, stmt_at, block_at}
use Rattle.script_faults.specs.BlockNotes.{event_notes, stmt_notes, block_notes}
use Rattle.script_faults.specs.Notes.{Note, first_fault, SameFront, expr_notes, test_notes, list_notes, names_notes}

-- the first fault of these notes is this one, behind so many notes of none
pub record IsFirst (notes : List Note) (place : ℕ) (fault : Problem × ℕ) : Type 0 where
  pub before : List Note
  pub behind : List Note
  pub parts : notes ≡ before ++ Some fault ∷ behind
  pub count : length before ≡ place
  pub none : first_fault before ≡ None

-- Of what can be written, with its tokens and its notes, and with what may follow it: the fault that is to
-- be told of these tokens. It stands at the place behind those before.
pub record Demanded {W : Type 0} (spell : W → List Token → List Token) (notes : W → List Note) (Ends : List Token → Type 0) (ts : List Token) (told : Told) : Type 0 where
  pub before : List Token
  pub behind : List Token
  pub tokens : ts ≡ before ++ behind
  -- how many tokens before the place the one stands whose line is told
  pub back : ℕ
  pub line : told.1 ≡ back + length behind
  -- something that is written begins with the tokens before, and no fault stands at one of them
  pub written : W
  pub more : List Token → List Token
  pub begins : (rest : List Token) → spell written rest ≡ before ++ more rest
  pub within : length before ≤ length (notes written)
  pub clean : first_fault (take (length before) (notes written)) ≡ None
  -- whatever is written and goes on with the token at the place has its first fault there, this one
  pub first : (w : W) (rest others : List Token) → Ends rest → spell w rest ≡ before ++ others → SameFront behind others → IsFirst (notes w) (length before) (told.0, back)
  -- and something does go on with it, unless it is syntax, whose line is that of the place itself
  pub goes_on : (told.0 ≡ Syntax) × (back ≡ 0) ⊎ ((rest : List Token) → SameFront behind (more rest))

abbrev pub IsRead : {X : Type 0} → Result X Told → Type 0
IsRead (Ok x) = Unit {0}
IsRead (Err told) = ⊥

-- What is written is read where no fault stands in it, and else the first fault is told. Of any tokens the
-- fault that is told is the demanded one, and no other fault is demanded.
pub record Answered {X : Type 0} {W : Type 0} (spell : W → List Token → List Token) (notes : W → List Note) (Ends : List Token → Type 0) (read : List Token → Result X Told) : Type 0 where
  pub reads : (w : W) → first_fault (notes w) ≡ None → (rest : List Token) → Ends rest → IsRead (read (spell w rest))
  pub tells : (w : W) (told : Told) → first_fault (notes w) ≡ Some told → (rest : List Token) → Ends rest → read (spell w rest) ≡ Err (told.0, told.1 + length rest)
  pub demanded : (ts : List Token) (told : Told) → read ts ≡ Err told → Demanded spell notes Ends ts told
  pub alone : (ts : List Token) (told : Told) → Demanded spell notes Ends ts told → read ts ≡ Err told

-- no further term follows
abbrev pub NoSign : List Token → Type 0
NoSign rest = is_some (sign_at rest) ≡ false

-- no further name follows
abbrev pub NoComma : List Token → Type 0
NoComma rest = next_is Comma rest ≡ false

abbrev pub Any : List Token → Type 0
Any rest = Unit {0}

abbrev pub ExprsAreAnswered : Type 0
ExprsAreAnswered = (nesting : ℕ) (h : Here) → Answered expr_tokens (expr_notes nesting h) NoSign (λ ts. expr_at nesting h ts)

abbrev pub TestsAreAnswered : Type 0
TestsAreAnswered = (nesting : ℕ) (h : Here) → Answered test_tokens (test_notes nesting h) NoSign (λ ts. test_at nesting h ts)

abbrev pub ListsAreAnswered : Type 0
ListsAreAnswered = (nesting : ℕ) (h : Here) → Answered list_tokens (list_notes nesting h) Any (λ ts. list_at nesting h ts)

-- names that are bound, of which there is one at least
abbrev pub Names : Type 0
Names = List ℕ × List (List ℕ)

abbrev pub names_tokens : Names → List Token → List Token
names_tokens names rest = Name names.0 ∷ more_names_tokens names.1 rest

abbrev pub NamesAreAnswered : Type 0
NamesAreAnswered = (nesting : ℕ) (h : Here) → Answered names_tokens (λ names. names_notes nesting h names.0 names.1) NoComma (λ ts. bind_names_at nesting h ts)

-- EVENTS, STATEMENTS AND BLOCKS

abbrev pub EventsAreAnswered : Type 0
EventsAreAnswered = (nesting : ℕ) (h : Here) → Answered event_tokens (event_notes nesting h) Any (λ ts. event_at nesting h ts)

abbrev pub StmtsAreAnswered : Type 0
StmtsAreAnswered = (nesting : ℕ) (place : Loops) (h : Here) → Answered stmt_tokens (stmt_notes (are_allowed place) nesting h) Any (λ ts. stmt_at nesting place h ts)

abbrev pub BlocksAreAnswered : Type 0
BlocksAreAnswered = (nesting : ℕ) (place : Loops) (h : Here) → Answered block_tokens (block_notes (are_allowed place) nesting h) Any (λ ts. block_at nesting place h ts)

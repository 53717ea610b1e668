-- What may stand behind the first tokens of a script.
use Rattle.std.specs.Prelude.{◌≡◌, ◌≢◌, List, ◌∷◌, ◌++◌, length, take, Option, Some, None, Contains, codes, slice_get}
use Rattle.script_token.specs.Tokens.{Token, Fixed, Name, Number}
use Rattle.script_grammar.specs.Written.{Script, script_tokens}
use Rattle.script_reader.specs.declared.fault.Problem.TheVariants.{Syntax}
use Rattle.script_faults.specs.Notes.{first_fault}
use Rattle.script_faults.specs.BlockNotes.{script_notes}
use Rattle.script_mistakes.specs.declared.kind.Kind.{Kind}
use Rattle.script_mistakes.specs.declared.kind.Kind.TheVariants as kinds

-- Something that can be written begins with the tokens before and goes on with this one, which the grammar allows
-- there: a loop can be written in the block of a guard or a nack, but it is not allowed.
pub record MayFollow (before : List Token) (token : Token) : Type 0 where
  pub written : Script
  pub rest : List Token
  pub begins : script_tokens written ≡ before ++ token ∷ rest
  pub allowed : slice_get (script_notes written) (length before) ≢ Some (Some (Syntax, 0))

-- the tokens before are all those of something that can be written
pub record MayEnd (before : List Token) : Type 0 where
  pub written : Script
  pub is : script_tokens written ≡ before

-- A token of the kind; none is at the end of the text. One name stands for all names, and one number for all numbers.
abbrev pub example : Kind → Option Token
example kinds.Name = Some (Name (codes "name"))
example kinds.Number = Some (Number 1)
example (kinds.Symbol symbol) = Some (Fixed symbol)
example kinds.End = None

-- the token, or else the end of the text, may stand behind those before
abbrev pub MayCome : Option Token → List Token → Type 0
MayCome (Some token) before = MayFollow before token
MayCome None before = MayEnd before

-- one of the kind may stand behind the tokens before
abbrev pub MayStand : Kind → List Token → Type 0
MayStand kind before = MayCome (example kind) before

-- these are the kinds of what may stand behind the tokens before
pub record AreExpected (kinds : List Kind) (before : List Token) : Type 0 where
  pub may : (kind : Kind) → Contains kinds kind → MayStand kind before
  pub all : (kind : Kind) → MayStand kind before → Contains kinds kind

-- something that can be written begins with the tokens, and no fault stands at one of them
pub record IsClean (before : List Token) : Type 0 where
  pub written : Script
  pub more : List Token
  pub begins : script_tokens written ≡ before ++ more
  pub clean : first_fault (take (length before) (script_notes written)) ≡ None

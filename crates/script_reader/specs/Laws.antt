-- How what is written and what is read from left to right belong together: names and expressions.
use Rattle.std.specs.Prelude.{◌≡◌, ℕ, ◌<◌, List, Some, None, Ok}
use Rattle.script_token.specs.Tokens.{Token}
use Rattle.script_reader.specs.Steps.{Here}
use Rattle.script_reader.specs.Exprs.{sign_at, expr_at}
use Rattle.script_reader.specs.declared.scope.Counts.{Counts}
use Rattle.script_tree.specs.Trees as trees
use Rattle.script_grammar.specs.Written.{Expr, expr_tokens}
use Rattle.script_grammar.specs.Depths.{expr_depth}
use Rattle.script_grammar.specs.Meaning.{Names, expr_meaning}

-- the names at a token
abbrev pub names_at : Here → Names
names_at h = record { channels = h.channels; processes = h.processes; variables = h.variables; spawned = h.spawned }

-- a token with such names and counts
abbrev pub at : Names → Counts → Here
at ns counts = record { channels = ns.channels; processes = ns.processes; variables = ns.variables; spawned = ns.spawned; counts = counts }

-- an expression that means e with so much nesting, and the tokens behind it
pub record SpellsExpr (nesting : ℕ) (ns : Names) (ts : List Token) (e : trees.Expr) (rest : List Token) : Type 0 where
  pub expr : Expr
  pub tokens : ts ≡ expr_tokens expr rest
  pub depth : expr_depth expr < nesting
  pub meaning : expr_meaning ns expr ≡ Some e

-- what is read was written
abbrev pub ExprsAreFound : Type 0
ExprsAreFound = (nesting : ℕ) (h : Here) (ts : List Token) (x : trees.Expr × List Token) → expr_at nesting h ts ≡ Ok x → SpellsExpr nesting (names_at h) ts x.0 x.1

-- what is written is read, where no further term follows
abbrev pub ExprsAreReadAgain : Type 0
ExprsAreReadAgain = (nesting : ℕ) (ns : Names) (counts : Counts) (ts : List Token) (e : trees.Expr) (rest : List Token)
    → SpellsExpr nesting ns ts e rest → sign_at rest ≡ None → expr_at nesting (at ns counts) ts ≡ Ok (e, rest)

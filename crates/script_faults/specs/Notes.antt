-- The faults of what is written: a note for each of its tokens, in their order, with the fault that stands
-- there, and of several the one with the lowest number. Names and counts are those known at the token.
-- `nesting` is how many levels deeper a token may lie, and one more: 49 at the outermost level.
use Rattle.std.specs.Prelude.{◌≡◌, ℕ, zero, suc, ◌+◌, ◌-◌, List, [], ◌∷◌, ◌++◌, length, ◌||◌, Option, Some, None, is_some, nat_lt, nat_le, ◌==◌, if◌then◌else◌}
use Rattle.script_grammar.specs.Meaning.{place, if_some, is_listed}
use Rattle.script_token.specs.Tokens.{Token}
use Rattle.script_reader.specs.Steps.{Told, Here, meaning, bound, is_taken}
use Rattle.script_reader.specs.declared.fault.Problem.{Problem}
use Rattle.script_reader.specs.declared.fault.Problem.TheVariants.{UnknownName, Twice, TooMany}
use Rattle.script_grammar.specs.Written.{Term, OfNumber, OfName, Grouped, Terms, NoMore, Further, Expr, Test}

-- A fault: the problem, and how many tokens before it the one stands whose line is told.
abbrev pub Note : Type 0
Note = Option (Problem × ℕ)

-- the first fault, and how many tokens are left from the one whose line is told
abbrev pub first_fault : List Note → Option Told
first_fault [] = None
first_fault (None ∷ notes) = first_fault notes
first_fault (Some p ∷ notes) = Some (p.0, p.1 + suc (length notes))

-- a fault that stands at the first of the tokens too, behind those with a lower number
abbrev pub also : Problem × ℕ → List Note → List Note
also p [] = []
also p (None ∷ notes) = Some p ∷ notes
also p (Some q ∷ notes) = Some q ∷ notes

-- SINGLE TOKENS

-- a token that may lie too deep
unfoldable pub plain : ℕ → Note
plain nesting = if nesting == 0 then Some (TooMany, 0) else None

-- a name that is read
unfoldable pub read_note : ℕ → Here → List ℕ → Note
read_note nesting h text = if is_some (meaning h text) then plain nesting else Some (UnknownName, 0)

-- a process that is named
unfoldable pub process_note : ℕ → Here → List ℕ → Note
process_note nesting h text = if is_some (place text h.processes) then plain nesting else Some (UnknownName, 0)

-- a process that is named in order to be spawned
unfoldable pub spawn_note : ℕ → Here → List ℕ → Note
spawn_note nesting h text =
    if is_some (place text h.processes)
    then (if is_listed h.spawned (place text h.processes) then Some (Twice, 0) else plain nesting)
    else Some (UnknownName, 0)

-- the names behind it
abbrev pub spawned_after : Here → List ℕ → Here
spawned_after h text = if_some (place text h.processes) (λ p. record h { spawned = h.spawned ++ p ∷ [] }) h

-- a name that is bound behind the variables of its list
unfoldable pub bind_note : ℕ → List ℕ → Here → List ℕ → Note
bind_note nesting list h text =
    if is_taken list h text then Some (Twice, 0)
    else (if nat_lt 32 (length text) || nat_le 3 (length list) then Some (TooMany, 0) else plain nesting)

-- EXPRESSIONS

unfoldable mutual
  pub term_notes : ℕ → Here → Term → List Note
  term_notes nesting h (OfNumber n) = plain nesting ∷ []
  term_notes nesting h (OfName text) = read_note nesting h text ∷ []
  term_notes nesting h (Grouped first more) = plain nesting ∷ ((term_notes (nesting - 1) h first ++ terms_notes (nesting - 1) h more) ++ plain (nesting - 1) ∷ [])

  pub terms_notes : ℕ → Here → Terms → List Note
  terms_notes nesting h NoMore = []
  terms_notes nesting h (Further sign term more) = (plain nesting ∷ term_notes nesting h term) ++ terms_notes nesting h more

unfoldable pub expr_notes : ℕ → Here → Expr → List Note
expr_notes nesting h e = term_notes nesting h e.first ++ terms_notes nesting h e.more

unfoldable pub test_notes : ℕ → Here → Test → List Note
test_notes nesting h t = expr_notes nesting h t.left ++ (plain nesting ∷ expr_notes nesting h t.right)

-- expressions behind another
unfoldable pub others_notes : ℕ → Here → List Expr → List Note
others_notes nesting h [] = []
others_notes nesting h (e ∷ es) = plain nesting ∷ (expr_notes nesting h e ++ others_notes nesting h es)

-- expressions behind another, of which so many may stand there
unfoldable pub more_notes : ℕ → ℕ → Here → List Expr → List Note
more_notes n nesting h [] = []
more_notes zero nesting h (e ∷ es) = plain nesting ∷ also (TooMany, 0) (expr_notes nesting h e ++ others_notes nesting h es)
more_notes (suc n) nesting h (e ∷ es) = plain nesting ∷ (expr_notes nesting h e ++ more_notes n nesting h es)

unfoldable pub members_notes : ℕ → Here → List Expr → List Note
members_notes nesting h [] = []
members_notes nesting h (e ∷ es) = expr_notes nesting h e ++ more_notes 2 nesting h es

unfoldable pub list_notes : ℕ → Here → List Expr → List Note
list_notes nesting h es = plain nesting ∷ (members_notes (nesting - 1) h es ++ plain (nesting - 1) ∷ [])

-- NAMES THAT ARE BOUND

-- the names behind them
abbrev pub names_after : Here → List (List ℕ) → Here
names_after h [] = h
names_after h (text ∷ texts) = names_after (bound h text).1 texts

-- names behind others of their list
unfoldable pub more_names_notes : ℕ → List ℕ → Here → List (List ℕ) → List Note
more_names_notes nesting list h [] = []
more_names_notes nesting list h (text ∷ texts) = plain nesting ∷ bind_note nesting list h text ∷ more_names_notes nesting (list ++ (bound h text).0 ∷ []) (bound h text).1 texts

unfoldable pub names_notes : ℕ → Here → List ℕ → List (List ℕ) → List Note
names_notes nesting h text texts = bind_note nesting [] h text ∷ more_names_notes nesting ((bound h text).0 ∷ []) (bound h text).1 texts

-- THE TOKEN AT A PLACE

-- the same token stands in front of both, or both are at their end
abbrev pub SameFront : List Token → List Token → Type 0
SameFront [] [] = Unit {0}
SameFront [] (u ∷ us) = ⊥
SameFront (t ∷ ts) [] = ⊥
SameFront (t ∷ ts) (u ∷ us) = t ≡ u

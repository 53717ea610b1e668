-- Reading from left to right: single tokens, names and lists of names.
use Rattle.std.specs.Prelude.{◌≡◌, ℕ, zero, suc, List, [], ◌∷◌, ◌++◌, map, length, Bool, false, ◌||◌, Option, Some, None, Result, Ok, Err, is_some, nat_lt, ◌==◌, if◌then◌else◌}
use Rattle.script_token.specs.Tokens.{Token, Fixed, Name, Number, Bad, view, same_symbol}
use Rattle.script_grammar.specs.Meaning.{if_some, place, channel_of, is_among, is_listed}
use Rattle.script_reader.specs.Places.{texts}
use Rattle.script_token.specs.declared.kind.Symbol.{Symbol}
use Rattle.script_token.specs.declared.kind.Symbol.TheVariants.{Comma}
use Rattle.script_token.specs.declared.lexeme.Placed.{Placed}
use Rattle.script_reader.specs.declared.fault.Problem.{Problem}
use Rattle.script_reader.specs.declared.fault.Problem.TheVariants.{Syntax, UnknownName, Twice, TooMany}
use Rattle.script_reader.specs.declared.fault.Fault.{Fault}
use Rattle.script_reader.specs.declared.fault.Stop.{Stop}
use Rattle.script_reader.specs.declared.fault.Stop.TheVariants.{Memory, At}
use Rattle.script_reader.specs.declared.scope.Counts.{Counts}
use Rattle.script_reader.specs.declared.scope.Scope.{Scope}
use Rattle.script_tree.specs.Trees.{names_of}
use Rattle.script_tree.specs.declared.tree.Names.{Names}
use Rattle.script_tree.specs.declared.tree.Name.{Name as Meaning}
use Rattle.script_tree.specs.declared.tree.Name.TheVariants.{Variable}

-- what is wrong, and how many tokens are left from where it is
abbrev pub Told : Type 0
Told = Problem × ℕ

infixl 10 ◌>>=◌
abbrev pub ◌>>=◌ : {A B : Type 0} → Result A Told → (A → Result B Told) → Result B Told
(Ok x) >>= f = f x
(Err e) >>= f = Err e

abbrev pub told : Fault → Told
told fault = (fault.problem, fault.left)

-- What a function returned that asks for no memory, seen by view, is what reading gives.
abbrev pub Tells : {X Y : Type 0} → (X → Y) → Result X Fault → Result Y Told → Type 0
Tells view (Ok x) read = read ≡ Ok (view x)
Tells view (Err fault) read = read ≡ Err (told fault)

-- What a function returned, seen by view, is what reading gives, unless memory ran out.
abbrev pub Fails : {Y : Type 0} → Stop → Result Y Told → Type 0
Fails Memory read = Unit {0}
Fails (At fault) read = read ≡ Err (told fault)

abbrev pub Gives : {X Y : Type 0} → (X → Y) → Result X Stop → Result Y Told → Type 0
Gives view (Ok x) read = read ≡ Ok (view x)
Gives view (Err e) read = Fails e read

-- the tokens, without their lines
abbrev pub bare : List Placed → List Token
bare ps = map (λ p. view p.token) ps

abbrev pub stop_at : {A : Type 0} → Problem → List Token → Result A Told
stop_at problem ts = Err (problem, length ts)

-- steps one after another, at most so many, until there is none
unfoldable pub repeated : {S : Type 0} → (S → Option (Result S Told)) → ℕ → S → Result S Told
repeated step zero s = Ok s
repeated step (suc n) s = if_some (step s) (λ r. r >>= repeated step n) (Ok s)

-- the name in front
abbrev pub name_in : Token → Option (List ℕ)
name_in (Name text) = Some text
name_in (Fixed s) = None
name_in (Number n) = None
name_in Bad = None

abbrev pub name_at : List Token → Option (List ℕ)
name_at [] = None
name_at (t ∷ ts) = name_in t

-- the number in front
abbrev pub number_in : Token → Option ℕ
number_in (Number n) = Some n
number_in (Fixed s) = None
number_in (Name text) = None
number_in Bad = None

abbrev pub number_at : List Token → Option ℕ
number_at [] = None
number_at (t ∷ ts) = number_in t

-- whether the keyword or the mark stands in front
abbrev pub is_fixed : Symbol → Token → Bool
is_fixed symbol (Fixed s) = same_symbol symbol s
is_fixed symbol (Name text) = false
is_fixed symbol (Number n) = false
is_fixed symbol Bad = false

unfoldable pub next_is : Symbol → List Token → Bool
next_is symbol [] = false
next_is symbol (t ∷ ts) = is_fixed symbol t

-- what stands behind the token in front, where it may lie so deep
unfoldable pub accept_at : ℕ → List Token → Result (List Token) Told
accept_at nesting [] = Err (Syntax, 0)
accept_at nesting (t ∷ ts) = if nesting == 0 then stop_at TooMany (t ∷ ts) else Ok ts

unfoldable pub expect_at : ℕ → Symbol → List Token → Result (List Token) Told
expect_at nesting symbol ts = if next_is symbol ts then accept_at nesting ts else stop_at Syntax ts

-- NAMES

-- the names at a token, which processes are spawned so far, and what the sync there has
pub record Here : Type 0 where
  pub channels : List (List ℕ)
  pub processes : List (List ℕ)
  pub variables : List (List ℕ)
  pub spawned : List ℕ
  pub counts : Counts

abbrev pub here : Scope → Here
here s = record {
  channels = texts s.channels.names.items;
  processes = texts s.processes.names.items;
  variables = texts s.variables.names.items;
  spawned = s.spawned.items;
  counts = s.counts;
}

-- at the first token of a process, behind others some of which are spawned
abbrev pub start : List (List ℕ) → List (List ℕ) → List ℕ → Here
start channels processes spawned = record { channels = channels; processes = processes; variables = []; spawned = spawned; counts = record { bases = 0; nacks = 0 } }

-- what a name stands for
unfoldable pub meaning : Here → List ℕ → Option Meaning
meaning h name = if_some (place name h.channels) channel_of (if_some (place name h.variables) (λ v. Some (Variable v)) None)

unfoldable pub read_name_at : ℕ → Here → List Token → Result (Meaning × List Token) Told
read_name_at nesting h ts =
    if_some (name_at ts) (λ text.
    if_some (meaning h text) (λ name. accept_at nesting ts >>= λ rest. Ok (name, rest))
    (stop_at UnknownName ts))
    (stop_at Syntax ts)

-- a process that is named
unfoldable pub read_process_at : ℕ → Here → List Token → Result (ℕ × List Token) Told
read_process_at nesting h ts =
    if_some (name_at ts) (λ text.
    if_some (place text h.processes) (λ p. accept_at nesting ts >>= λ rest. Ok (p, rest))
    (stop_at UnknownName ts))
    (stop_at Syntax ts)

-- a process that is named in order to be spawned, and is not spawned already
unfoldable pub spawn_process_at : ℕ → Here → List Token → Result (ℕ × Here × List Token) Told
spawn_process_at nesting h ts =
    if_some (name_at ts) (λ text.
    if_some (place text h.processes) (λ p.
    if is_among h.spawned p
    then stop_at Twice ts
    else (accept_at nesting ts >>= λ rest. Ok (p, record h { spawned = h.spawned ++ p ∷ [] }, rest)))
    (stop_at UnknownName ts))
    (stop_at Syntax ts)

-- the variables of a list that may be there
abbrev pub listed : Option Names → List ℕ
listed (Some names) = names_of names
listed None = []

-- the variable that a name is bound to, and the names from there on
abbrev pub bound : Here → List ℕ → ℕ × Here
bound h name = if_some (place name h.variables) (λ v. (v, h)) (length h.variables, record h { variables = h.variables ++ name ∷ [] })

-- whether a name stands for something that it may not be bound to, behind the variables of its list
abbrev pub is_taken : List ℕ → Here → List ℕ → Bool
is_taken list h text = is_some (place text h.channels) || is_listed list (place text h.variables)

-- a name that is bound, behind the variables of its list
unfoldable pub bind_name_at : ℕ → List ℕ → Here → List Token → Result (ℕ × Here × List Token) Told
bind_name_at nesting list h ts =
    if_some (name_at ts) (λ text.
    if is_taken list h text
    then stop_at Twice ts
    else (if nat_lt 32 (length text)
    then stop_at TooMany ts
    else (accept_at nesting ts >>= λ rest. Ok ((bound h text).0, (bound h text).1, rest))))
    (stop_at Syntax ts)

-- what is wrong at a fourth name
unfoldable pub fourth_name_at : List ℕ → Here → List Token → Problem
fourth_name_at list h ts = if_some (name_at ts) (λ text. if is_taken list h text then Twice else TooMany) Syntax

-- a list of names that are bound
unfoldable pub bind_names_at : ℕ → Here → List Token → Result (List ℕ × Here × List Token) Told
bind_names_at nesting h ts = do
  a ← bind_name_at nesting [] h ts
  if next_is Comma a.2
      then (do
        rest ← accept_at nesting a.2
        b ← bind_name_at nesting (a.0 ∷ []) a.1 rest
        if next_is Comma b.2
            then (do
              rest ← accept_at nesting b.2
              c ← bind_name_at nesting (a.0 ∷ b.0 ∷ []) b.1 rest
              if next_is Comma c.2
                  then (accept_at nesting c.2 >>= λ rest. stop_at (fourth_name_at (a.0 ∷ b.0 ∷ c.0 ∷ []) c.1 rest) rest)
                  else Ok (a.0 ∷ b.0 ∷ c.0 ∷ [], c.1, c.2))
            else Ok (a.0 ∷ b.0 ∷ [], b.1, b.2))
      else Ok (a.0 ∷ [], a.1, a.2)

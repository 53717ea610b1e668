-- What names, expressions, lists and tests come to, as in `Values` of `thread`, with what is wrong in place of the bare fault.
use Rattle.std.specs.Prelude.{◌≡◌, ℕ, ◌+◌, ◌-◌, ◌^◌, ◌<◌, ◌≤◌, Bool, nat_lt, nat_le, if◌then◌else◌, List, [], ◌∷◌, length, Option, Some, None, Result, Ok, Err, slice_get, ⊤}
use Rattle.script_tree.specs.Trees.{Term, Single, Sum, Terms, Nothing, More, Expr, Test}
use Rattle.script_tree.specs.declared.tree.Name.{Name}
use Rattle.script_tree.specs.declared.tree.Name.TheVariants.{Variable, Channel}
use Rattle.script_tree.specs.declared.tree.Operand.{Operand}
use Rattle.script_tree.specs.declared.tree.Operand.TheVariants.{Number, Named}
use Rattle.script_tree.specs.declared.tree.Sign.{Sign}
use Rattle.script_tree.specs.declared.tree.Sign.TheVariants.{Plus, Minus}
use Rattle.script_tree.specs.declared.tree.Relation.{Relation}
use Rattle.script_tree.specs.declared.tree.Relation.TheVariants.{Equal, Less}
use Rattle.protocol_values.specs.declared.Atom.{Atom}
use Rattle.protocol_values.specs.declared.Atom.TheVariants.{Num, Chan, Nack}
use Rattle.protocol_values.specs.declared.Message.{Message}
use Rattle.protocol_values.specs.declared.NackName.{NackName}
use Rattle.thread.specs.Values.{Store, atoms, is_same, message_of, with_atom}
use Rattle.thread.specs.declared.Fault.{Fault}
use Rattle.thread.specs.declared.Fault.TheVariants as fault
use Rattle.pcml_why_sites.specs.declared.trouble.Kind.{Kind}
use Rattle.pcml_why_sites.specs.declared.trouble.Kind.TheVariants as kind
use Rattle.pcml_why_sites.specs.declared.trouble.Trouble.{Trouble}
use Rattle.pcml_why_sites.specs.declared.trouble.Trouble.TheVariants.{Unset, NotOfKind, Below, Above, Nacks, Count}

-- TROUBLES

abbrev pub fault_of : Trouble → Fault
fault_of (Unset variable) = fault.Unset
fault_of (NotOfKind name value wanted) = fault.Kind
fault_of (Below left right) = fault.Range
fault_of (Above left right) = fault.Range
fault_of Nacks = fault.Range
fault_of (Count values names) = fault.Shape

-- the first trouble is the one that is told
infixl 10 ◌>>=◌
abbrev pub ◌>>=◌ : {A B : Type 0} → Result A Trouble → (A → Result B Trouble) → Result B Trouble
Ok a >>= f = f a
Err trouble >>= f = Err trouble

-- NAMES AND OPERANDS

abbrev pub was_set : ℕ → Option (Option Atom) → Result Atom Trouble
was_set v (Some (Some atom)) = Ok atom
was_set v (Some None) = Err (Unset v)
was_set v None = Err (Unset v)

abbrev pub name_value : Store → Name → Result Atom Trouble
name_value store (Variable v) = was_set v (slice_get store v)
name_value store (Channel c) = Ok (Chan c)

abbrev pub operand_value : Store → Operand → Result Atom Trouble
operand_value store (Number n) = Ok (Num n)
operand_value store (Named name) = name_value store name

-- the name that an expression is, if it is one

abbrev pub operand_name : Operand → Option Name
operand_name (Number n) = None
operand_name (Named name) = Some name

abbrev pub sum_name : Operand → Terms → Option Name
sum_name first Nothing = operand_name first
sum_name first (More sign term more) = None

abbrev pub term_name : Term → Option Name
term_name (Single operand) = operand_name operand
term_name (Sum first more) = sum_name first more

abbrev pub expr_name : Expr → Option Name
expr_name e = sum_name e.first e.more

-- THE KIND THAT IS WANTED

abbrev pub number_in : Option Name → Atom → Result ℕ Trouble
number_in name (Num n) = Ok n
number_in name (Chan c) = Err (NotOfKind name (Chan c) kind.Number)
number_in name (Nack n) = Err (NotOfKind name (Nack n) kind.Number)

abbrev pub channel_in : Option Name → Atom → Result ℕ Trouble
channel_in name (Num n) = Err (NotOfKind name (Num n) kind.Channel)
channel_in name (Chan c) = Ok c
channel_in name (Nack n) = Err (NotOfKind name (Nack n) kind.Channel)

abbrev pub nack_in : Option Name → Atom → Result NackName Trouble
nack_in name (Num n) = Err (NotOfKind name (Num n) kind.Nack)
nack_in name (Chan c) = Err (NotOfKind name (Chan c) kind.Nack)
nack_in name (Nack n) = Ok n

abbrev pub channel_value : Store → Name → Result ℕ Trouble
channel_value store name = name_value store name >>= channel_in (Some name)

abbrev pub nack_value : Store → Name → Result NackName Trouble
nack_value store name = name_value store name >>= nack_in (Some name)

-- EXPRESSIONS

abbrev pub sum_of : ℕ → ℕ → Result Atom Trouble
sum_of m n = if nat_lt (m + n) (2 ^ 32) then Ok (Num (m + n)) else Err (Above m n)

abbrev pub difference : ℕ → ℕ → Result Atom Trouble
difference m n = if nat_le n m then Ok (Num (m - n)) else Err (Below m n)

abbrev pub computed : Sign → ℕ → ℕ → Result Atom Trouble
computed Plus m n = sum_of m n
computed Minus m n = difference m n

-- each side with its name; the left one is looked at first
abbrev pub combined : Sign → Option Name → Atom → Option Name → Atom → Result Atom Trouble
combined sign one left other right = number_in one left >>= λ m. number_in other right >>= λ n. computed sign m n

abbrev mutual
  pub term_value : Store → Term → Result Atom Trouble
  term_value store (Single operand) = operand_value store operand
  term_value store (Sum first more) = operand_value store first >>= sum_value store more (operand_name first)

  -- the terms after what was added up before them, which has this name, from left to right
  pub sum_value : Store → Terms → Option Name → Atom → Result Atom Trouble
  sum_value store Nothing name total = Ok total
  sum_value store (More sign term more) name total =
      term_value store term >>= λ right. combined sign name total (term_name term) right >>= sum_value store more None

abbrev pub expr_value : Store → Expr → Result Atom Trouble
expr_value store e = operand_value store e.first >>= sum_value store e.more (operand_name e.first)

-- LISTS AND TESTS

abbrev pub exprs_value : Store → List Expr → Result (List Atom) Trouble
exprs_value store [] = Ok []
exprs_value store (e ∷ es) = expr_value store e >>= λ a. exprs_value store es >>= λ list. Ok (a ∷ list)

abbrev pub list_value : Store → List Expr → Result Message Trouble
list_value store es = exprs_value store es >>= λ list. Ok (message_of list)

abbrev pub compared : Relation → Option Name → Atom → Option Name → Atom → Result Bool Trouble
compared Equal one left other right = Ok (is_same left right)
compared Less one left other right = number_in one left >>= λ m. number_in other right >>= λ n. Ok (nat_lt m n)

abbrev pub test_value : Store → Test → Result Bool Trouble
test_value store t =
    expr_value store t.left >>= λ left. expr_value store t.right >>= λ right.
    compared t.relation (expr_name t.left) left (expr_name t.right) right

-- NAMES THAT ARE SET

-- each name the atom in its place; there have to be as many
abbrev pub with_all : Trouble → List ℕ → List Atom → Store → Result Store Trouble
with_all trouble [] [] store = Ok store
with_all trouble (v ∷ vs) (a ∷ more) store = with_all trouble vs more (with_atom v a store)
with_all trouble vs others store = Err trouble

abbrev pub with_names : Option (List ℕ) → Message → Store → Result Store Trouble
with_names None message store = Ok store
with_names (Some vs) message store = with_all (Count (length (atoms message)) (length vs)) vs (atoms message) store

-- WHAT A TROUBLE SAYS

abbrev pub kind_of : Atom → Kind
kind_of (Num n) = kind.Number
kind_of (Chan c) = kind.Channel
kind_of (Nack n) = kind.Nack

-- the value is the name's, if it has one
abbrev pub IsValueOf : Store → Option Name → Atom → Type 0
IsValueOf store None value = ⊤
IsValueOf store (Some name) value = name_value store name ≡ Ok value

-- what it says is so, where these are the variables, and so many nacks were made
abbrev pub IsSo : Store → ℕ → Trouble → Type 0
IsSo store nacks (Unset variable) = (value : Atom) → name_value store (Variable variable) ≡ Ok value → ⊥
IsSo store nacks (NotOfKind name value wanted) = IsValueOf store name value × (kind_of value ≡ wanted → ⊥)
IsSo store nacks (Below left right) = left < right
IsSo store nacks (Above left right) = 2 ^ 32 ≤ left + right
IsSo store nacks Nacks = 64 ≤ nacks
IsSo store nacks (Count values names) = values ≡ names → ⊥

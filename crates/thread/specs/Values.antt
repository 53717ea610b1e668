-- What names, expressions, lists and tests come to, with the variables as they stand.
use Rattle.std.specs.Prelude.{ℕ, ◌+◌, ◌-◌, ◌^◌, Bool, false, ◌==◌, ◌&&◌, nat_lt, nat_le, if◌then◌else◌, List, [], ◌∷◌, Option, Some, None, Result, Ok, Err, slice_get, slice_set}
use Rattle.script_tree.specs.Trees.{Term, Single, Sum, Terms, Nothing, More, Expr, Test}
use Rattle.script_tree.specs.declared.tree.Name.{Name}
use Rattle.script_tree.specs.declared.tree.Name.TheVariants.{Variable, Channel}
use Rattle.script_tree.specs.declared.tree.Operand.{Operand}
use Rattle.script_tree.specs.declared.tree.Operand.TheVariants.{Number, Named}
use Rattle.script_tree.specs.declared.tree.Sign.{Sign}
use Rattle.script_tree.specs.declared.tree.Sign.TheVariants.{Plus, Minus}
use Rattle.script_tree.specs.declared.tree.Relation.{Relation}
use Rattle.script_tree.specs.declared.tree.Relation.TheVariants.{Equal, Less}
use Rattle.protocol_values.specs.declared.Atom.{Atom}
use Rattle.protocol_values.specs.declared.Atom.TheVariants.{Num, Chan, Nack}
use Rattle.protocol_values.specs.declared.Message.{Message}
use Rattle.protocol_values.specs.declared.Message.TheVariants.{Empty, One, Two, Three}
use Rattle.thread.specs.declared.Fault.{Fault}
use Rattle.thread.specs.declared.Fault.TheVariants.{Unset, Kind, Range, Shape}

-- the atom of each variable that was set
abbrev pub Store : Type 0
Store = List (Option Atom)

-- the first fault is the one that is told
infixl 10 ◌>>=◌
abbrev pub ◌>>=◌ : {A B : Type 0} → Result A Fault → (A → Result B Fault) → Result B Fault
Ok a >>= f = f a
Err fault >>= f = Err fault

-- EXPRESSIONS

abbrev pub was_set : Option (Option Atom) → Result Atom Fault
was_set (Some (Some atom)) = Ok atom
was_set (Some None) = Err Unset
was_set None = Err Unset

abbrev pub name_value : Store → Name → Result Atom Fault
name_value store (Variable v) = was_set (slice_get store v)
name_value store (Channel c) = Ok (Chan c)

abbrev pub operand_value : Store → Operand → Result Atom Fault
operand_value store (Number n) = Ok (Num n)
operand_value store (Named name) = name_value store name

abbrev pub number_value : ℕ → Result Atom Fault
number_value n = if nat_lt n (2 ^ 32) then Ok (Num n) else Err Range

abbrev pub difference : ℕ → ℕ → Result Atom Fault
difference m n = if nat_le n m then Ok (Num (m - n)) else Err Range

-- both sides have to be numbers
abbrev pub combined : Sign → Atom → Atom → Result Atom Fault
combined Plus (Num m) (Num n) = number_value (m + n)
combined Minus (Num m) (Num n) = difference m n
combined sign left right = Err Kind

abbrev mutual
  pub term_value : Store → Term → Result Atom Fault
  term_value store (Single operand) = operand_value store operand
  term_value store (Sum first more) = operand_value store first >>= sum_value store more

  -- the terms after what was added up before them, from left to right
  pub sum_value : Store → Terms → Atom → Result Atom Fault
  sum_value store Nothing total = Ok total
  sum_value store (More sign term more) total =
      term_value store term >>= λ right. combined sign total right >>= sum_value store more

abbrev pub expr_value : Store → Expr → Result Atom Fault
expr_value store e = operand_value store e.first >>= sum_value store e.more

-- LISTS AND TESTS

abbrev pub exprs_value : Store → List Expr → Result (List Atom) Fault
exprs_value store [] = Ok []
exprs_value store (e ∷ es) = expr_value store e >>= λ a. exprs_value store es >>= λ atoms. Ok (a ∷ atoms)

-- the message of at most three atoms
abbrev pub message_of : List Atom → Message
message_of [] = Empty
message_of (a ∷ []) = One a
message_of (a ∷ b ∷ []) = Two a b
message_of (a ∷ b ∷ c ∷ more) = Three a b c

abbrev pub list_value : Store → List Expr → Result Message Fault
list_value store es = exprs_value store es >>= λ atoms. Ok (message_of atoms)

-- one kind and one value
abbrev pub is_same : Atom → Atom → Bool
is_same (Num m) (Num n) = m == n
is_same (Chan c) (Chan d) = c == d
is_same (Nack m) (Nack n) = (m.thread == n.thread) && (m.k == n.k)
is_same left right = false

abbrev pub compared : Relation → Atom → Atom → Result Bool Fault
compared Equal left right = Ok (is_same left right)
compared Less (Num m) (Num n) = Ok (nat_lt m n)
compared Less left right = Err Kind

abbrev pub test_value : Store → Test → Result Bool Fault
test_value store t =
    expr_value store t.left >>= λ left. expr_value store t.right >>= λ right. compared t.relation left right

-- NAMES THAT ARE SET

abbrev pub with_atom : ℕ → Atom → Store → Store
with_atom v atom store = slice_set store v (Some atom)

abbrev pub atoms : Message → List Atom
atoms Empty = []
atoms (One a) = a ∷ []
atoms (Two a b) = a ∷ b ∷ []
atoms (Three a b c) = a ∷ b ∷ c ∷ []

-- each name the atom in its place; there have to be as many
abbrev pub with_all : List ℕ → List Atom → Store → Result Store Fault
with_all [] [] store = Ok store
with_all (v ∷ vs) (a ∷ more) store = with_all vs more (with_atom v a store)
with_all vs others store = Err Shape

-- without names the message is dropped
abbrev pub with_names : Option (List ℕ) → Message → Store → Result Store Fault
with_names None message store = Ok store
with_names (Some vs) message store = with_all vs (atoms message) store

-- The limits that a process keeps: how deep it lies, how many base events and nacks a sync has, and
-- that each number of a variable, a channel or a process stands for one.
use Rattle.std.specs.Prelude.{ℕ, ◌+◌, ◌<◌, ◌≤◌, max, List, [], ◌∷◌, Option, Some, None, ⊤}
use Rattle.std.specs.List.{AllByRecursion, AllByRecursion-prop}
use Rattle.std.specs.Coded.{×_prop, Unit-prop, le_prop}
use Rattle.script_tree.specs.Trees.{Term, Single, Sum, Terms, Nothing, More, Expr, Test, Event, Sends, Receives, IsReady, IsNever, IsCancelled, IsJoined, Chooses, Wraps, Guards, Nacks, Events, NoMembers, Members, Stmt, Lets, Prints, Syncs, Branches, Loops, LoopsForever, Ends, Spawns, Block, Stops, Runs}
use Rattle.script_tree.specs.declared.tree.Operand.{Operand}
use Rattle.script_tree.specs.declared.tree.Operand.TheVariants.{Number, Named}
use Rattle.script_tree.specs.declared.tree.Name.{Name}
use Rattle.script_tree.specs.declared.tree.Name.TheVariants.{Variable, Channel}

-- BASE EVENTS AND NACKS
-- Those of a sync inside a body of a guard or a nack are that sync's own.

abbrev mutual
  pub base_count : Event → ℕ
  base_count (Sends channel list) = 1
  base_count (Receives channel) = 1
  base_count (IsReady list) = 1
  base_count IsNever = 1
  base_count (IsCancelled nack) = 1
  base_count (IsJoined process) = 1
  base_count (Chooses members) = bases_of_all members
  base_count (Wraps event names list) = base_count event
  base_count (Guards body event) = base_count event
  base_count (Nacks name body event) = base_count event

  pub bases_of_all : Events → ℕ
  bases_of_all NoMembers = 0
  bases_of_all (Members event others) = base_count event + bases_of_all others

abbrev mutual
  pub nack_count : Event → ℕ
  nack_count (Sends channel list) = 0
  nack_count (Receives channel) = 0
  nack_count (IsReady list) = 0
  nack_count IsNever = 0
  nack_count (IsCancelled nack) = 0
  nack_count (IsJoined process) = 0
  nack_count (Chooses members) = nacks_of_all members
  nack_count (Wraps event names list) = nack_count event
  nack_count (Guards body event) = nack_count event
  nack_count (Nacks name body event) = 1 + nack_count event

  pub nacks_of_all : Events → ℕ
  nacks_of_all NoMembers = 0
  nacks_of_all (Members event others) = nack_count event + nacks_of_all others

-- what a sync may offer
abbrev pub IsSmall : Event → Type 0
IsSmall event = (base_count event ≤ 8) × (nack_count event ≤ 4)

-- DEPTH
-- The greatest number of marks that are open at a token of the tree's text, which has no parentheses
-- but where it needs them, and of words `wrap`, `guard` and `nack` whose event has not ended there.

abbrev mutual
  pub term_depth : Term → ℕ
  term_depth (Single operand) = 0
  term_depth (Sum first more) = 1 + terms_depth more

  pub terms_depth : Terms → ℕ
  terms_depth Nothing = 0
  terms_depth (More sign term more) = max (term_depth term) (terms_depth more)

abbrev pub expr_depth : Expr → ℕ
expr_depth e = terms_depth e.more

abbrev pub exprs_depth : List Expr → ℕ
exprs_depth [] = 0
exprs_depth (e ∷ es) = max (expr_depth e) (exprs_depth es)

abbrev pub list_depth : List Expr → ℕ
list_depth list = 1 + exprs_depth list

abbrev pub test_depth : Test → ℕ
test_depth t = max (expr_depth t.left) (expr_depth t.right)

abbrev mutual
  pub event_depth : Event → ℕ
  event_depth (Sends channel list) = list_depth list
  event_depth (Receives channel) = 0
  event_depth (IsReady list) = list_depth list
  event_depth IsNever = 0
  event_depth (IsCancelled nack) = 0
  event_depth (IsJoined process) = 0
  event_depth (Chooses members) = 1 + members_depth members
  event_depth (Wraps event names list) = 1 + max (event_depth event) (list_depth list)
  event_depth (Guards body event) = 1 + max (1 + stmts_depth body) (event_depth event)
  event_depth (Nacks name body event) = 1 + max (1 + stmts_depth body) (event_depth event)

  pub members_depth : Events → ℕ
  members_depth NoMembers = 0
  members_depth (Members event others) = max (event_depth event) (members_depth others)

  pub stmt_depth : Stmt → ℕ
  stmt_depth (Lets name value) = expr_depth value
  stmt_depth (Prints value) = expr_depth value
  stmt_depth (Syncs names event) = event_depth event
  stmt_depth (Branches test first second) = max (test_depth test) (max (1 + stmts_depth first) (1 + stmts_depth second))
  stmt_depth (Loops times names event rest) = 1 + max (event_depth event) (stmts_depth rest)
  stmt_depth (LoopsForever names event rest) = 1 + max (event_depth event) (stmts_depth rest)
  stmt_depth Ends = 0
  stmt_depth (Spawns process) = 0

  -- without the marks round it
  pub stmts_depth : Block → ℕ
  stmts_depth Stops = 0
  stmts_depth (Runs stmt rest) = max (stmt_depth stmt) (stmts_depth rest)

abbrev pub block_depth : Block → ℕ
block_depth body = 1 + stmts_depth body

-- NUMBERS OF NAMES

-- how many channels and variables there are, and how many processes' blocks have ended before
pub record Known : Type 0 where
  pub channels : ℕ
  pub variables : ℕ
  pub processes : ℕ

abbrev pub NameIsIn : Known → Name → Type 0
NameIsIn k (Variable v) = v < k.variables
NameIsIn k (Channel c) = c < k.channels

abbrev pub NamesAreIn : Known → Option (List ℕ) → Type 0
NamesAreIn k (Some names) = AllByRecursion (λ v. v < k.variables) names
NamesAreIn k None = ⊤

abbrev pub OperandIsIn : Known → Operand → Type 0
OperandIsIn k (Number n) = ⊤
OperandIsIn k (Named name) = NameIsIn k name

abbrev mutual
  pub TermIsIn : Known → Term → Type 0
  TermIsIn k (Single operand) = OperandIsIn k operand
  TermIsIn k (Sum first more) = OperandIsIn k first × TermsAreIn k more

  pub TermsAreIn : Known → Terms → Type 0
  TermsAreIn k Nothing = ⊤
  TermsAreIn k (More sign term more) = TermIsIn k term × TermsAreIn k more

abbrev pub ExprIsIn : Known → Expr → Type 0
ExprIsIn k e = OperandIsIn k e.first × TermsAreIn k e.more

abbrev pub ListIsIn : Known → List Expr → Type 0
ListIsIn k list = AllByRecursion (ExprIsIn k) list

abbrev pub TestIsIn : Known → Test → Type 0
TestIsIn k t = ExprIsIn k t.left × ExprIsIn k t.right

-- BLOCKS

-- each number stands for a name, and each sync within, also one that a loop begins with, is small
abbrev mutual
  pub EventIsIn : Known → Event → Type 0
  EventIsIn k (Sends channel list) = NameIsIn k channel × ListIsIn k list
  EventIsIn k (Receives channel) = NameIsIn k channel
  EventIsIn k (IsReady list) = ListIsIn k list
  EventIsIn k IsNever = ⊤
  EventIsIn k (IsCancelled nack) = NameIsIn k nack
  EventIsIn k (IsJoined process) = process < k.processes
  EventIsIn k (Chooses members) = MembersAreIn k members
  EventIsIn k (Wraps event names list) = EventIsIn k event × (NamesAreIn k names × ListIsIn k list)
  EventIsIn k (Guards body event) = BlockIsIn k body × EventIsIn k event
  EventIsIn k (Nacks name body event) = (name < k.variables) × (BlockIsIn k body × EventIsIn k event)

  pub MembersAreIn : Known → Events → Type 0
  MembersAreIn k NoMembers = ⊤
  MembersAreIn k (Members event others) = EventIsIn k event × MembersAreIn k others

  pub StmtIsIn : Known → Stmt → Type 0
  StmtIsIn k (Lets name value) = (name < k.variables) × ExprIsIn k value
  StmtIsIn k (Prints value) = ExprIsIn k value
  StmtIsIn k (Syncs names event) = NamesAreIn k names × (EventIsIn k event × IsSmall event)
  StmtIsIn k (Branches test first second) = TestIsIn k test × (BlockIsIn k first × BlockIsIn k second)
  StmtIsIn k (Loops times names event rest) = NamesAreIn k names × (EventIsIn k event × (IsSmall event × BlockIsIn k rest))
  StmtIsIn k (LoopsForever names event rest) = NamesAreIn k names × (EventIsIn k event × (IsSmall event × BlockIsIn k rest))
  StmtIsIn k Ends = ⊤
  StmtIsIn k (Spawns process) = process < k.processes

  pub BlockIsIn : Known → Block → Type 0
  BlockIsIn k Stops = ⊤
  BlockIsIn k (Runs stmt rest) = StmtIsIn k stmt × BlockIsIn k rest

-- the body of a process that can name so much
pub record KeepsLimits (k : Known) (body : Block) : Type 0 where
  pub names : BlockIsIn k body
  pub depth : block_depth body ≤ 48

-- EACH IS A FACT
-- It can be shown in one way only, so a process may carry it.

pub NameIsIn-prop : (k : Known) (name : Name) → IsProp (NameIsIn k name)
NameIsIn-prop k (Variable v) = le_prop
NameIsIn-prop k (Channel c) = le_prop

pub NamesAreIn-prop : (k : Known) (names : Option (List ℕ)) → IsProp (NamesAreIn k names)
NamesAreIn-prop k (Some names) = AllByRecursion-prop (λ v. v < k.variables) (λ v. le_prop) names
NamesAreIn-prop k None = Unit-prop

pub OperandIsIn-prop : (k : Known) (operand : Operand) → IsProp (OperandIsIn k operand)
OperandIsIn-prop k (Number n) = Unit-prop
OperandIsIn-prop k (Named name) = NameIsIn-prop k name

mutual
  pub TermIsIn-prop : (k : Known) (term : Term) → IsProp (TermIsIn k term)
  TermIsIn-prop k (Single operand) = OperandIsIn-prop k operand
  TermIsIn-prop k (Sum first more) = ×_prop (OperandIsIn-prop k first) (TermsAreIn-prop k more)

  pub TermsAreIn-prop : (k : Known) (terms : Terms) → IsProp (TermsAreIn k terms)
  TermsAreIn-prop k Nothing = Unit-prop
  TermsAreIn-prop k (More sign term more) = ×_prop (TermIsIn-prop k term) (TermsAreIn-prop k more)

pub ExprIsIn-prop : (k : Known) (e : Expr) → IsProp (ExprIsIn k e)
ExprIsIn-prop k e = ×_prop (OperandIsIn-prop k e.first) (TermsAreIn-prop k e.more)

pub ListIsIn-prop : (k : Known) (list : List Expr) → IsProp (ListIsIn k list)
ListIsIn-prop k list = AllByRecursion-prop (ExprIsIn k) (ExprIsIn-prop k) list

pub IsSmall-prop : (event : Event) → IsProp (IsSmall event)
IsSmall-prop event = ×_prop le_prop le_prop

mutual
  pub EventIsIn-prop : (k : Known) (event : Event) → IsProp (EventIsIn k event)
  EventIsIn-prop k (Sends channel list) = ×_prop (NameIsIn-prop k channel) (ListIsIn-prop k list)
  EventIsIn-prop k (Receives channel) = NameIsIn-prop k channel
  EventIsIn-prop k (IsReady list) = ListIsIn-prop k list
  EventIsIn-prop k IsNever = Unit-prop
  EventIsIn-prop k (IsCancelled nack) = NameIsIn-prop k nack
  EventIsIn-prop k (IsJoined process) = le_prop
  EventIsIn-prop k (Chooses members) = MembersAreIn-prop k members
  EventIsIn-prop k (Wraps event names list) = ×_prop (EventIsIn-prop k event) (×_prop (NamesAreIn-prop k names) (ListIsIn-prop k list))
  EventIsIn-prop k (Guards body event) = ×_prop (BlockIsIn-prop k body) (EventIsIn-prop k event)
  EventIsIn-prop k (Nacks name body event) = ×_prop le_prop (×_prop (BlockIsIn-prop k body) (EventIsIn-prop k event))

  pub MembersAreIn-prop : (k : Known) (members : Events) → IsProp (MembersAreIn k members)
  MembersAreIn-prop k NoMembers = Unit-prop
  MembersAreIn-prop k (Members event others) = ×_prop (EventIsIn-prop k event) (MembersAreIn-prop k others)

  pub StmtIsIn-prop : (k : Known) (stmt : Stmt) → IsProp (StmtIsIn k stmt)
  StmtIsIn-prop k (Lets name value) = ×_prop le_prop (ExprIsIn-prop k value)
  StmtIsIn-prop k (Prints value) = ExprIsIn-prop k value
  StmtIsIn-prop k (Syncs names event) = ×_prop (NamesAreIn-prop k names) (×_prop (EventIsIn-prop k event) (IsSmall-prop event))
  StmtIsIn-prop k (Branches test first second) = ×_prop (×_prop (ExprIsIn-prop k test.left) (ExprIsIn-prop k test.right)) (×_prop (BlockIsIn-prop k first) (BlockIsIn-prop k second))
  StmtIsIn-prop k (Loops times names event rest) = ×_prop (NamesAreIn-prop k names) (×_prop (EventIsIn-prop k event) (×_prop (IsSmall-prop event) (BlockIsIn-prop k rest)))
  StmtIsIn-prop k (LoopsForever names event rest) = ×_prop (NamesAreIn-prop k names) (×_prop (EventIsIn-prop k event) (×_prop (IsSmall-prop event) (BlockIsIn-prop k rest)))
  StmtIsIn-prop k Ends = Unit-prop
  StmtIsIn-prop k (Spawns process) = le_prop

  pub BlockIsIn-prop : (k : Known) (body : Block) → IsProp (BlockIsIn k body)
  BlockIsIn-prop k Stops = Unit-prop
  BlockIsIn-prop k (Runs stmt rest) = ×_prop (StmtIsIn-prop k stmt) (BlockIsIn-prop k rest)

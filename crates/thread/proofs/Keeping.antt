-- What a process keeps from one step to the next: of the atoms that it has, of the nacks that it takes, of the events that it
-- offers and of what it prints.
use Rattle.std.proofs.Common.{◌≡◌, ℕ, zero, suc, ◌+◌, ◌-◌, ◌<◌, ◌==◌, List, [], ◌∷◌, ◌++◌, Option, Some, None, Result, Ok, Err, Bool, true, false, length, slice_get, refl, sym, ◌∙◌, subst, arith, nat_le, nat_lt}
use Rattle.std.proofs.lemmas.Bool.Decides.{nat_tests}
use Rattle.std.proofs.lemmas.List.{length-append, length-map}
use Rattle.std.proofs.lemmas.List.Elements.{All-nil, All-cons, All-append, All-head, All-map, All-tail, All-set, All-replicate}
use Rattle.std.specs.Prelude.{⊤, All, if◌then◌else◌}
use Rattle.std.specs.List.{list_any}
use Rattle.event.specs.Tree.{Tree, Single, Nothing, Or, Wrap, Scope, bases_from, base_count, scope_count, with_scope, with_wrap, wraps_at}
use Rattle.script_tree.specs.Limits.{base_count as bases_of, bases_of_all}
use Rattle.script_tree.specs.Trees.{Term, Single as SingleTerm, Sum, Terms, Nothing as NoTerms, More, Expr, Event, Sends, Receives, IsReady, IsNever, IsCancelled, IsJoined, Chooses, Wraps, Guards, Nacks, Events, NoMembers, Members, Stmt, Lets, Prints, Syncs, Branches, Loops, LoopsForever, Ends, Spawns, Block, Stops, Runs}
use Rattle.script_tree.specs.declared.tree.Name.{Name}
use Rattle.script_tree.specs.declared.tree.Name.TheVariants.{Variable, Channel}
use Rattle.script_tree.specs.declared.tree.Operand.{Operand}
use Rattle.script_tree.specs.declared.tree.Operand.TheVariants.{Number, Named}
use Rattle.script_tree.specs.declared.tree.Sign.{Sign}
use Rattle.script_tree.specs.declared.tree.Sign.TheVariants.{Plus, Minus}
use Rattle.protocol_values.specs.declared.Atom.{Atom}
use Rattle.protocol_values.specs.declared.Atom.TheVariants.{Num, Chan, Nack}
use Rattle.protocol_values.specs.declared.Base.{Base}
use Rattle.protocol_values.specs.declared.Base.TheVariants.{Send, Recv, Always, OnNack, OnEnd, Never}
use Rattle.protocol_values.specs.declared.Message.{Message}
use Rattle.protocol_values.specs.declared.Message.TheVariants.{Empty, One, Two, Three}
use Rattle.thread.specs.declared.Fault.{Fault}
use Rattle.thread.specs.Values.{Store, name_value, operand_value, combined, term_value, sum_value, expr_value, exprs_value, message_of, list_value, test_value, with_atom, atoms, with_all, with_names, ◌>>=◌ as ◌>>>◌}
use Rattle.thread.specs.After.{Said, State, Chosen, Outcome, Goes, Offers, Finishes, Fails, Strays, ◌>>=◌, given, received, Wrapping, Having, wrapped_once, wrapped, Formed, committed, synced_with, synced, times, channel_in, nack_in, channel_value, nack_value, send_value, recv_value, always_value, cancelled_value, formed, with_variable, with_nack, as_wrap, as_scope, as_first, run_block, run_stmt, resolve, resolve_all, start, finished, after}

-- What is kept of one thread: of each atom (Good) and of the number of nacks that it took (Taken); of the nack of a scope
-- (Scoped) and of how many base events a sync has (Small); if the process's text has such numbers (Literal) and channels
-- (Named), and of the processes that it spawns (Spawned) and joins (Joined). It sends on channels of one kind (Into) and receives
-- on those of one (From): among them is each that it has as an atom, and each that its text names there.
pub record Rule : Type 1 where
  pub thread : ℕ
  pub Good : Atom → Type 0
  pub Taken : ℕ → Type 0
  pub Scoped : ℕ → Type 0
  pub Small : ℕ → Type 0
  pub Literal : ℕ → Type 0
  pub Named : ℕ → Type 0
  pub Spawned : ℕ → Type 0
  pub Joined : ℕ → Type 0
  pub Into : ℕ → Type 0
  pub From : ℕ → Type 0
  pub literal : (n : ℕ) → Literal n → Good (Num n)
  pub total : (n : ℕ) → n < 4294967296 → Good (Num n)
  pub less : (m n : ℕ) → Good (Num m) → Good (Num (m - n))
  pub channel : (c : ℕ) → Named c → Good (Chan c)
  pub into : (c : ℕ) → Good (Chan c) → Into c
  pub from : (c : ℕ) → Good (Chan c) → From c
  pub nack : (k : ℕ) → k < 64 → Taken k → Good (Nack (record { thread = thread; k = k })) × Taken (k + 1) × Scoped k

-- PARTS

abbrev pub EachOf : {A : Type 0} → (A → Type 0) → List A → Type 0
EachOf P [] = ⊤
EachOf P (a ∷ more) = P a × EachOf P more

abbrev pub MessageOf : (Atom → Type 0) → Message → Type 0
MessageOf P Empty = ⊤
MessageOf P (One a) = P a
MessageOf P (Two a b) = P a × P b
MessageOf P (Three a b c) = P a × (P b × P c)

-- with channels of some kind to send on, and of some kind to receive on
abbrev pub BaseOn : (ℕ → Type 0) → (ℕ → Type 0) → (Atom → Type 0) → (ℕ → Type 0) → Base → Type 0
BaseOn I F P J (Send channel message) = I channel × MessageOf P message
BaseOn I F P J (Recv channel) = F channel
BaseOn I F P J (Always message) = MessageOf P message
BaseOn I F P J (OnNack n) = P (Nack n)
BaseOn I F P J (OnEnd thread) = J thread
BaseOn I F P J Never = ⊤

abbrev pub BaseOf : (Atom → Type 0) → (ℕ → Type 0) → Base → Type 0
BaseOf P J base = BaseOn (λ c. P (Chan c)) (λ c. P (Chan c)) P J base

abbrev pub ResultsOf : (Atom → Type 0) → List Chosen → Type 0
ResultsOf P [] = ⊤
ResultsOf P (r ∷ more) = MessageOf P r.1 × ResultsOf P more

abbrev pub PlaceOf : (Atom → Type 0) → Option Atom → Type 0
PlaceOf P None = ⊤
PlaceOf P (Some a) = P a

abbrev pub TreeOn : (Base → Type 0) → (ℕ → Type 0) → Tree → Type 0
TreeOn B S (Single base) = B base
TreeOn B S Nothing = ⊤
TreeOn B S (Or first second) = TreeOn B S first × TreeOn B S second
TreeOn B S (Wrap wrap event) = TreeOn B S event
TreeOn B S (Scope nack event) = S nack × TreeOn B S event

abbrev pub TreeOf : (Atom → Type 0) → (ℕ → Type 0) → (ℕ → Type 0) → Tree → Type 0
TreeOf P J S tree = TreeOn (BaseOf P J) S tree

module _ (B : Base → Type 0) (S : ℕ → Type 0) where
  -- those of a tree of such base events are such
  pub bases_are : (n : ℕ) (t : Tree) → TreeOn B S t → All (λ b. B b.base) (bases_from n t)
  bases_are n (Single base) h = All-cons (λ b. B b.base) _ [] h (All-nil (λ b. B b.base))
  bases_are n Nothing h = All-nil (λ b. B b.base)
  bases_are n (Or first second) h =
      All-append (λ b. B b.base) (bases_from n first) _ (bases_are n first h.0) (bases_are (n + scope_count first) second h.1)
  bases_are n (Wrap wrap event) h = All-map (λ b. B b.base) (with_wrap wrap) (bases_from n event) (bases_are n event h)
  bases_are n (Scope nack event) h = All-map (λ b. B b.base) (with_scope n) (bases_from (n + 1) event) (bases_are (n + 1) event h.1)

abbrev pub IfFine : {A : Type 0} → Result A Fault → (A → Type 0) → Type 0
IfFine (Ok a) P = P a
IfFine (Err fault) P = ⊤

then_fine : {A B : Type 0} (x : Result A Fault) (f : A → Result B Fault) (P : A → Type 0) (Q : B → Type 0) → IfFine x P → ((a : A) → P a → IfFine (f a) Q) → IfFine (x >>> f) Q
then_fine (Ok a) f P Q h next = next a h
then_fine (Err fault) f P Q h next = tt

anything : {A : Type 0} (r : Result A Fault) → IfFine r (λ _. ⊤)
anything (Ok a) = tt
anything (Err fault) = tt

pub each_more : {A : Type 0} (P : A → Type 0) (xs : List A) (a : A) → EachOf P xs → P a → EachOf P (xs ++ a ∷ [])
each_more P [] a h k = (k, tt)
each_more P (x ∷ xs) a h k = (h.0, each_more P xs a h.1 k)

-- base events are as many under any number of the first scope
bases_count : (n m : ℕ) (t : Tree) → length (bases_from n t) ≡ length (bases_from m t)
bases_count n m (Single base) = refl
bases_count n m Nothing = refl
bases_count n m (Or first second) =
    omega (arith, length-append (bases_from n first) (bases_from (n + scope_count first) second), length-append (bases_from m first) (bases_from (m + scope_count first) second), bases_count n m first, bases_count (n + scope_count first) (m + scope_count first) second)
bases_count n m (Wrap wrap event) = length-map (bases_from n event) (with_wrap wrap) ∙ bases_count n m event ∙ sym (length-map (bases_from m event) (with_wrap wrap))
bases_count n m (Scope nack event) =
    length-map (bases_from (n + 1) event) (with_scope n) ∙ bases_count (n + 1) (m + 1) event ∙ sym (length-map (bases_from (m + 1) event) (with_scope m))

module _ (r : Rule) where
  -- THE TEXT OF A PROCESS

  abbrev pub NameOf : Name → Type 0
  NameOf (Variable v) = ⊤
  NameOf (Channel c) = r.Named c

  -- the name of a channel to send on, and of one to receive on
  abbrev pub IntoOf : Name → Type 0
  IntoOf (Variable v) = ⊤
  IntoOf (Channel c) = r.Into c

  abbrev pub FromOf : Name → Type 0
  FromOf (Variable v) = ⊤
  FromOf (Channel c) = r.From c

  pub into_name : (name : Name) → NameOf name → IntoOf name
  into_name (Variable v) h = tt
  into_name (Channel c) h = r.into c (r.channel c h)

  pub from_name : (name : Name) → NameOf name → FromOf name
  from_name (Variable v) h = tt
  from_name (Channel c) h = r.from c (r.channel c h)

  abbrev pub OperandOf : Operand → Type 0
  OperandOf (Number n) = r.Literal n
  OperandOf (Named name) = NameOf name

  abbrev mutual
    pub TermOf : Term → Type 0
    TermOf (SingleTerm operand) = OperandOf operand
    TermOf (Sum first more) = OperandOf first × TermsOf more

    pub TermsOf : Terms → Type 0
    TermsOf NoTerms = ⊤
    TermsOf (More sign term more) = TermOf term × TermsOf more

  abbrev pub ExprOf : Expr → Type 0
  ExprOf e = OperandOf e.first × TermsOf e.more

  abbrev pub ListOf : List Expr → Type 0
  ListOf [] = ⊤
  ListOf (e ∷ es) = ExprOf e × ListOf es

  abbrev mutual
    pub EventOf : Event → Type 0
    EventOf (Sends channel list) = IntoOf channel × ListOf list
    EventOf (Receives channel) = FromOf channel
    EventOf (IsReady list) = ListOf list
    EventOf IsNever = ⊤
    EventOf (IsCancelled nack) = NameOf nack
    EventOf (IsJoined process) = r.Joined process
    EventOf (Chooses members) = MembersOf members
    EventOf (Wraps event names list) = EventOf event × ListOf list
    EventOf (Guards body event) = BlockOf body × EventOf event
    EventOf (Nacks name body event) = BlockOf body × EventOf event

    pub MembersOf : Events → Type 0
    MembersOf NoMembers = ⊤
    MembersOf (Members event others) = EventOf event × MembersOf others

    pub StmtOf : Stmt → Type 0
    StmtOf (Lets name value) = ExprOf value
    StmtOf (Prints value) = ExprOf value
    StmtOf (Syncs names event) = EventOf event × r.Small (bases_of event)
    StmtOf (Branches test first second) = BlockOf first × BlockOf second
    StmtOf (Loops times names event rest) = (EventOf event × r.Small (bases_of event)) × BlockOf rest
    StmtOf (LoopsForever names event rest) = (EventOf event × r.Small (bases_of event)) × BlockOf rest
    StmtOf Ends = ⊤
    StmtOf (Spawns process) = r.Spawned process

    pub BlockOf : Block → Type 0
    BlockOf Stops = ⊤
    BlockOf (Runs stmt rest) = StmtOf stmt × BlockOf rest

  -- any numbers and channels will do
  pub record AnyValues : Type 0 where
    pub literal : (n : ℕ) → r.Literal n
    pub named : (c : ℕ) → r.Named c

  -- any text will do
  pub record AnyText : Type 0 where
    pub values : AnyValues
    pub small : (n : ℕ) → r.Small n
    pub spawned : (p : ℕ) → r.Spawned p
    pub joined : (p : ℕ) → r.Joined p

  pub any_name : AnyValues → (name : Name) → NameOf name
  any_name h (Variable v) = tt
  any_name h (Channel c) = h.named c

  any_operand : AnyValues → (operand : Operand) → OperandOf operand
  any_operand h (Number n) = h.literal n
  any_operand h (Named name) = any_name h name

  mutual
    any_term : AnyValues → (term : Term) → TermOf term
    any_term h (SingleTerm operand) = any_operand h operand
    any_term h (Sum first more) = (any_operand h first, any_terms h more)

    any_terms : AnyValues → (terms : Terms) → TermsOf terms
    any_terms h NoTerms = tt
    any_terms h (More sign term more) = (any_term h term, any_terms h more)

  pub any_expr : AnyValues → (e : Expr) → ExprOf e
  any_expr h e = (any_operand h e.first, any_terms h e.more)

  pub any_list : AnyValues → (es : List Expr) → ListOf es
  any_list h [] = tt
  any_list h (e ∷ es) = (any_expr h e, any_list h es)

  mutual
    pub any_event : AnyText → (event : Event) → EventOf event
    any_event h (Sends channel list) = (into_name channel (any_name h.values channel), any_list h.values list)
    any_event h (Receives channel) = from_name channel (any_name h.values channel)
    any_event h (IsReady list) = any_list h.values list
    any_event h IsNever = tt
    any_event h (IsCancelled nack) = any_name h.values nack
    any_event h (IsJoined process) = h.joined process
    any_event h (Chooses members) = any_members h members
    any_event h (Wraps event names list) = (any_event h event, any_list h.values list)
    any_event h (Guards body event) = (any_block h body, any_event h event)
    any_event h (Nacks name body event) = (any_block h body, any_event h event)

    pub any_members : AnyText → (members : Events) → MembersOf members
    any_members h NoMembers = tt
    any_members h (Members event others) = (any_event h event, any_members h others)

    any_stmt : AnyText → (stmt : Stmt) → StmtOf stmt
    any_stmt h (Lets name value) = any_expr h.values value
    any_stmt h (Prints value) = any_expr h.values value
    any_stmt h (Syncs names event) = (any_event h event, h.small (bases_of event))
    any_stmt h (Branches test first second) = (any_block h first, any_block h second)
    any_stmt h (Loops times names event rest) = ((any_event h event, h.small (bases_of event)), any_block h rest)
    any_stmt h (LoopsForever names event rest) = ((any_event h event, h.small (bases_of event)), any_block h rest)
    any_stmt h Ends = tt
    any_stmt h (Spawns process) = h.spawned process

    pub any_block : AnyText → (b : Block) → BlockOf b
    any_block h Stops = tt
    any_block h (Runs stmt rest) = (any_stmt h stmt, any_block h rest)

  -- VALUES

  abbrev pub StoreIs : Store → Type 0
  StoreIs store = All (PlaceOf r.Good) store

  name_fine : (store : Store) (name : Name) → StoreIs store → NameOf name → IfFine (name_value store name) r.Good
  name_fine [] (Variable v) h w = tt
  name_fine (None ∷ store) (Variable zero) h w = tt
  name_fine (Some a ∷ store) (Variable zero) h w = All-head (PlaceOf r.Good) (Some a) store h
  name_fine (x ∷ store) (Variable (suc v)) h w = name_fine store (Variable v) (All-tail (PlaceOf r.Good) x store h) tt
  name_fine store (Channel c) h w = r.channel c w

  operand_fine : (store : Store) (operand : Operand) → StoreIs store → OperandOf operand → IfFine (operand_value store operand) r.Good
  operand_fine store (Number n) h w = r.literal n w
  operand_fine store (Named name) h w = name_fine store name h w

  choice_fine : (b : Bool) (n : ℕ) (fault : Fault) → (b ≡ true → r.Good (Num n)) → IfFine (if b then Ok (Num n) else Err fault) r.Good
  choice_fine true n fault h = h refl
  choice_fine false n fault h = tt

  sum_below : (m n : ℕ) → nat_lt (m + n) 4294967296 ≡ true → r.Good (Num (m + n))
  sum_below m n e = let below : m + n < 4294967296 = grind (arith, nat_tests, e) in r.total (m + n) below

  combined_fine : (sign : Sign) (left right : Atom) → r.Good left → IfFine (combined sign left right) r.Good
  combined_fine Plus (Num m) (Num n) h = choice_fine (nat_lt (m + n) 4294967296) _ _ (sum_below m n)
  combined_fine Minus (Num m) (Num n) h = choice_fine (nat_le n m) _ _ (λ e. r.less m n h)
  combined_fine Plus (Num m) (Chan c) h = tt
  combined_fine Plus (Num m) (Nack n) h = tt
  combined_fine Minus (Num m) (Chan c) h = tt
  combined_fine Minus (Num m) (Nack n) h = tt
  combined_fine Plus (Chan c) right h = tt
  combined_fine Plus (Nack n) right h = tt
  combined_fine Minus (Chan c) right h = tt
  combined_fine Minus (Nack n) right h = tt

  mutual
    term_fine : (store : Store) → StoreIs store → (term : Term) → TermOf term → IfFine (term_value store term) r.Good
    term_fine store h (SingleTerm operand) w = operand_fine store operand h w
    term_fine store h (Sum first more) w =
        then_fine (operand_value store first) (sum_value store more) r.Good r.Good (operand_fine store first h w.0) (λ a k. sum_fine store h more a w.1 k)

    sum_fine : (store : Store) → StoreIs store → (terms : Terms) (total : Atom) → TermsOf terms → r.Good total → IfFine (sum_value store terms total) r.Good
    sum_fine store h NoTerms total w k = k
    sum_fine store h (More sign term more) total w k =
        then_fine (term_value store term) (λ right. combined sign total right >>> sum_value store more) r.Good r.Good (term_fine store h term w.0) (λ right l.
        then_fine (combined sign total right) (sum_value store more) r.Good r.Good (combined_fine sign total right k) (λ a i. sum_fine store h more a w.1 i))

  expr_fine : (store : Store) → StoreIs store → (e : Expr) → ExprOf e → IfFine (expr_value store e) r.Good
  expr_fine store h e w =
      then_fine (operand_value store e.first) (sum_value store e.more) r.Good r.Good (operand_fine store e.first h w.0) (λ a k. sum_fine store h e.more a w.1 k)

  exprs_fine : (store : Store) → StoreIs store → (es : List Expr) → ListOf es → IfFine (exprs_value store es) (EachOf r.Good)
  exprs_fine store h [] w = tt
  exprs_fine store h (e ∷ es) w =
      then_fine (expr_value store e) _ r.Good (EachOf r.Good) (expr_fine store h e w.0) (λ a k.
      then_fine (exprs_value store es) _ (EachOf r.Good) (EachOf r.Good) (exprs_fine store h es w.1) (λ more l. (k, l)))

  message_fine : (as' : List Atom) → EachOf r.Good as' → MessageOf r.Good (message_of as')
  message_fine [] h = tt
  message_fine (a ∷ []) h = h.0
  message_fine (a ∷ b ∷ []) h = (h.0, h.1.0)
  message_fine (a ∷ b ∷ c ∷ more) h = (h.0, (h.1.0, h.1.1.0))

  list_fine : (store : Store) → StoreIs store → (es : List Expr) → ListOf es → IfFine (list_value store es) (MessageOf r.Good)
  list_fine store h es w =
      then_fine (exprs_value store es) _ (EachOf r.Good) (MessageOf r.Good) (exprs_fine store h es w) (λ more k. message_fine more k)

  atoms_fine : (m : Message) → MessageOf r.Good m → EachOf r.Good (atoms m)
  atoms_fine Empty h = tt
  atoms_fine (One a) h = (h, tt)
  atoms_fine (Two a b) h = (h.0, (h.1, tt))
  atoms_fine (Three a b c) h = (h.0, (h.1.0, (h.1.1, tt)))

  with_atom_fine : (v : ℕ) (a : Atom) (store : Store) → r.Good a → StoreIs store → StoreIs (with_atom v a store)
  with_atom_fine v a store k h = All-set (PlaceOf r.Good) store v (Some a) k h

  with_all_fine : (vs : List ℕ) (as' : List Atom) (store : Store) → EachOf r.Good as' → StoreIs store → IfFine (with_all vs as' store) StoreIs
  with_all_fine [] [] store k h = h
  with_all_fine [] (a ∷ more) store k h = tt
  with_all_fine (v ∷ vs) [] store k h = tt
  with_all_fine (v ∷ vs) (a ∷ more) store k h = with_all_fine vs more (with_atom v a store) k.1 (with_atom_fine v a store k.0 h)

  with_names_fine : (names : Option (List ℕ)) (m : Message) (store : Store) → MessageOf r.Good m → StoreIs store → IfFine (with_names names m store) StoreIs
  with_names_fine None m store k h = h
  with_names_fine (Some vs) m store k h = with_all_fine vs (atoms m) store (atoms_fine m k) h

  channel_fine : (a : Atom) → r.Good a → IfFine (channel_in a) (λ c. r.Good (Chan c))
  channel_fine (Num n) h = tt
  channel_fine (Chan c) h = h
  channel_fine (Nack n) h = tt

  nack_fine : (a : Atom) → r.Good a → IfFine (nack_in a) (λ n. r.Good (Nack n))
  nack_fine (Num n) h = tt
  nack_fine (Chan c) h = tt
  nack_fine (Nack n) h = h

  variable_fine : (store : Store) (v : ℕ) → StoreIs store → IfFine (channel_value store (Variable v)) (λ c. r.Good (Chan c))
  variable_fine store v h =
      then_fine (name_value store (Variable v)) channel_in r.Good (λ c. r.Good (Chan c)) (name_fine store (Variable v) h tt) (λ a k. channel_fine a k)

  fine_so : {A : Type 0} (x : Result A Fault) (P Q : A → Type 0) → ((a : A) → P a → Q a) → IfFine x P → IfFine x Q
  fine_so (Ok a) P Q so h = so a h
  fine_so (Err fault) P Q so h = tt

  into_fine : (store : Store) (name : Name) → StoreIs store → IntoOf name → IfFine (channel_value store name) r.Into
  into_fine store (Variable v) h w = fine_so (channel_value store (Variable v)) (λ c. r.Good (Chan c)) r.Into r.into (variable_fine store v h)
  into_fine store (Channel c) h w = w

  from_fine : (store : Store) (name : Name) → StoreIs store → FromOf name → IfFine (channel_value store name) r.From
  from_fine store (Variable v) h w = fine_so (channel_value store (Variable v)) (λ c. r.Good (Chan c)) r.From r.from (variable_fine store v h)
  from_fine store (Channel c) h w = w

  -- what it offers
  abbrev pub BaseIs : Base → Type 0
  BaseIs base = BaseOn r.Into r.From r.Good r.Joined base

  pub send_fine : (store : Store) (channel : Name) (es : List Expr) → StoreIs store → IntoOf channel → ListOf es → IfFine (send_value store channel es) BaseIs
  send_fine store channel es h w v =
      then_fine (channel_value store channel) _ r.Into BaseIs (into_fine store channel h w) (λ c k.
      then_fine (list_value store es) _ (MessageOf r.Good) BaseIs (list_fine store h es v) (λ m l. (k, l)))

  pub recv_fine : (store : Store) (channel : Name) → StoreIs store → FromOf channel → IfFine (recv_value store channel) BaseIs
  recv_fine store channel h w =
      then_fine (channel_value store channel) _ r.From BaseIs (from_fine store channel h w) (λ c k. k)

  pub always_fine : (store : Store) (es : List Expr) → StoreIs store → ListOf es → IfFine (always_value store es) BaseIs
  always_fine store es h w = then_fine (list_value store es) _ (MessageOf r.Good) BaseIs (list_fine store h es w) (λ m l. l)

  pub cancelled_fine : (store : Store) (name : Name) → StoreIs store → NameOf name → IfFine (cancelled_value store name) BaseIs
  cancelled_fine store name h w =
      then_fine (nack_value store name) _ (λ n. r.Good (Nack n)) BaseIs
      (then_fine (name_value store name) nack_in r.Good (λ n. r.Good (Nack n)) (name_fine store name h w) (λ a k. nack_fine a k))
      (λ n l. l)

  -- the lists of wraps have such numbers and channels
  abbrev WrapIs : Option Wrapping → Type 0
  WrapIs None = ⊤
  WrapIs (Some w) = ListOf w.list

  abbrev pub WrapsAre : List Wrapping → Type 0
  WrapsAre [] = ⊤
  WrapsAre (w ∷ ws) = ListOf w.list × WrapsAre ws

  wrap_at : (wraps : List Wrapping) (n : ℕ) → WrapsAre wraps → WrapIs (slice_get wraps n)
  wrap_at [] n h = tt
  wrap_at (w ∷ ws) zero h = h.0
  wrap_at (w ∷ ws) (suc n) h = wrap_at ws n h.1

  wraps_more : (wraps : List Wrapping) (w : Wrapping) → WrapsAre wraps → ListOf w.list → WrapsAre (wraps ++ w ∷ [])
  wraps_more [] w h k = (k, tt)
  wraps_more (x ∷ wraps) w h k = (h.0, wraps_more wraps w h.1 k)

  -- THREADS

  pub record SaidIs (said : Said) : Type 0 where
    pub printed : EachOf r.Good said.printed
    pub spawned : EachOf r.Spawned said.spawned

  pub record StateIs (s : State) : Type 0 where
    pub thread : s.thread ≡ r.thread
    pub nacks : r.Taken s.nacks
    pub store : StoreIs s.store
    pub said : SaidIs s.said
    pub left : ResultsOf r.Good s.left

  -- it was formed of an event with so many base events
  pub record FormedIs (n : ℕ) (f : Formed) : Type 0 where
    pub tree : TreeOn BaseIs r.Scoped f.tree
    pub count : base_count f.tree ≡ n
    pub wraps : WrapsAre f.wraps
    pub state : StateIs f.state

  pub record HavingIs (h : Having) : Type 0 where
    pub message : MessageOf r.Good h.message
    pub state : StateIs h.state

  -- an event that is offered, with what was told before
  pub record OfferedIs (tree : Tree) (told : Said) : Type 0 where
    pub parts : TreeOn BaseIs r.Scoped tree
    pub small : r.Small (base_count tree)
    pub said : SaidIs told

  -- what it goes on with, or offers, or told
  abbrev pub Keeps : {A : Type 0} → Outcome A → (A → Type 0) → Type 0
  Keeps (Goes a) P = P a
  Keeps (Offers tree printed) P = OfferedIs tree printed
  Keeps (Finishes said left) P = SaidIs said
  Keeps (Fails fault said left) P = SaidIs said
  Keeps Strays P = ⊤

  bind_keeps : {A B : Type 0} (x : Outcome A) (f : A → Outcome B) (P : A → Type 0) (Q : B → Type 0) → Keeps x P → ((a : A) → P a → Keeps (f a) Q) → Keeps (x >>= f) Q
  bind_keeps (Goes a) f P Q h next = next a h
  bind_keeps (Offers tree printed) f P Q h next = h
  bind_keeps (Finishes printed left) f P Q h next = h
  bind_keeps (Fails fault printed left) f P Q h next = h
  bind_keeps Strays f P Q h next = tt

  -- with a fact of nothing that changes
  and_keeps : {A : Type 0} (x : Outcome A) (P : A → Type 0) (F : Type 0) → F → Keeps x P → Keeps x (λ a. P a × F)
  and_keeps (Goes a) P F f h = (h, f)
  and_keeps (Offers tree printed) P F f h = h
  and_keeps (Finishes printed left) P F f h = h
  and_keeps (Fails fault printed left) P F f h = h
  and_keeps Strays P F f h = tt

  given_keeps : {A : Type 0} (s : State) (x : Result A Fault) (P : A → Type 0) → StateIs s → IfFine x P → Keeps (given s x) P
  given_keeps s (Ok a) P k h = h
  given_keeps s (Err fault) P k h = k.said

  if_keeps : {A : Type 0} (b : Bool) (x y : Outcome A) (P : A → Type 0) → (b ≡ true → Keeps x P) → (b ≡ false → Keeps y P) → Keeps (if b then x else y) P
  if_keeps true x y P first second = first refl
  if_keeps false x y P first second = second refl

  -- a process that is spawned is one more, or was spawned before
  spawned_is : (process : ℕ) (said : Said) (before : Bool) → r.Spawned process → SaidIs said → SaidIs (if before then said else record said { spawned = said.spawned ++ process ∷ [] })
  spawned_is process said true w h = h
  spawned_is process said false w h = record { printed = h.printed; spawned = each_more r.Spawned said.spawned process h.spawned w }

  with_store : (s : State) (store : Store) → StateIs s → StoreIs store → StateIs (record s { store = store })
  with_store s store h k = record { thread = h.thread; nacks = h.nacks; store = k; said = h.said; left = h.left }

  received_keeps : (names : Option (List ℕ)) (m : Message) (s : State) → MessageOf r.Good m → StateIs s → Keeps (received names m s) StateIs
  received_keeps names m s k h =
      bind_keeps (given s (with_names names m s.store)) _ StoreIs StateIs (given_keeps s _ StoreIs h (with_names_fine names m s.store k h.store))
      (λ store l. with_store s store h l)

  wrapped_once_keeps : (w : Option Wrapping) (m : Message) (s : State) → WrapIs w → MessageOf r.Good m → StateIs s → Keeps (wrapped_once w m s) HavingIs
  wrapped_once_keeps None m s v k h = record { message = k; state = h }
  wrapped_once_keeps (Some w) m s v k h =
      bind_keeps (received w.names m s) _ StateIs HavingIs (received_keeps w.names m s k h) (λ t l.
      bind_keeps (given t (list_value t.store w.list)) _ (MessageOf r.Good) HavingIs (given_keeps t _ (MessageOf r.Good) l (list_fine t.store l.store w.list v)) (λ changed i.
      record { message = i; state = l }))

  wrapped_keeps : (wraps : List Wrapping) (ns : List ℕ) (m : Message) (s : State) → WrapsAre wraps → MessageOf r.Good m → StateIs s → Keeps (wrapped wraps ns m s) HavingIs
  wrapped_keeps wraps [] m s v k h = record { message = k; state = h }
  wrapped_keeps wraps (n ∷ ns) m s v k h =
      bind_keeps (wrapped_once (slice_get wraps n) m s) _ HavingIs HavingIs (wrapped_once_keeps (slice_get wraps n) m s (wrap_at wraps n v) k h) (λ g l.
      wrapped_keeps wraps ns g.message g.state v l.message l.state)

  pub committed_keeps : (names : Option (List ℕ)) (f : Formed) (numbers : Option (List ℕ)) (m : Message) (s : State) → WrapsAre f.wraps → MessageOf r.Good m → StateIs s → Keeps (committed names f numbers m s) StateIs
  committed_keeps names f None m s v k h = tt
  committed_keeps names f (Some numbers) m s v k h =
      bind_keeps (wrapped f.wraps numbers m s) _ HavingIs StateIs (wrapped_keeps f.wraps numbers m s v k h) (λ g l.
      received_keeps names g.message g.state l.message l.state)

  pub synced_with_keeps : (n : ℕ) (names : Option (List ℕ)) (f : Formed) (left : List Chosen) → r.Small n → ResultsOf r.Good left → FormedIs n f → Keeps (synced_with names f left) StateIs
  synced_with_keeps n names f [] small k h = record { parts = h.tree; small = subst r.Small (sym h.count) small; said = h.state.said }
  synced_with_keeps n names f (c ∷ left) small k h =
      let s : State = record f.state { left = left } in
      committed_keeps names f (wraps_at f.tree c.0) c.1 s h.wraps k.0
      (record { thread = h.state.thread; nacks = h.state.nacks; store = h.state.store; said = h.state.said; left = k.1 })

  pub synced_keeps : (n : ℕ) (names : Option (List ℕ)) (f : Formed) → r.Small n → FormedIs n f → Keeps (synced names f) StateIs
  synced_keeps n names f small h = synced_with_keeps n names f f.state.left small h.state.left h

  times_keeps : (n : ℕ) (turn : State → Outcome State) → ((s : State) → StateIs s → Keeps (turn s) StateIs) → (s : State) → StateIs s → Keeps (times n turn s) StateIs
  times_keeps zero turn keeps s h = h
  times_keeps (suc n) turn keeps s h =
      bind_keeps (turn s) (times n turn) StateIs StateIs (keeps s h) (λ t k. times_keeps n turn keeps t k)

  pub turn_keeps : (n : ℕ) (names : Option (List ℕ)) (event : State → Outcome Formed) (rest : State → Outcome State) → r.Small n → ((s : State) → StateIs s → Keeps (event s) (FormedIs n)) → ((s : State) → StateIs s → Keeps (rest s) StateIs) → (s : State) → StateIs s → Keeps (event s >>= synced names >>= rest) StateIs
  turn_keeps n names event rest small forms keeps s h =
      bind_keeps (event s >>= synced names) rest StateIs StateIs
      (bind_keeps (event s) (synced names) (FormedIs n) StateIs (forms s h) (λ f k. synced_keeps n names f small k))
      (λ t k. keeps t k)

  with_variable_in : (name : ℕ) (a : Atom) (s : State) → r.Good a → StateIs s → StateIs (with_variable name a s)
  with_variable_in name a s k h = with_store s (with_atom name a s.store) h (with_atom_fine name a s.store k h.store)

  pub with_nack_keeps : (name : ℕ) (s : State) → StateIs s → Keeps (with_nack name s) (λ t. StateIs t × r.Scoped s.nacks)
  with_nack_keeps name s h =
      if_keeps (nat_le 64 s.nacks) _ _ (λ t. StateIs t × r.Scoped s.nacks) (λ full. h.said) (λ few.
      let below : s.nacks < 64 = grind (arith, nat_tests, few) in
      let taken = r.nack s.nacks below h.nacks in
      let good : r.Good (Nack (record { thread = s.thread; k = s.nacks })) = subst (λ (t : ℕ). r.Good (Nack (record { thread = t; k = s.nacks }))) (sym h.thread) taken.0 in (
        record {
          thread = h.thread;
          nacks = taken.1;
          store = with_atom_fine name (Nack (record { thread = s.thread; k = s.nacks })) s.store good h.store;
          said = h.said;
          left = h.left;
        },
        taken.2,
      ))

  base_keeps : (wraps : List Wrapping) (s : State) (x : Result Base Fault) → WrapsAre wraps → IfFine x BaseIs → StateIs s → Keeps (given s x >>= formed wraps s) (FormedIs 1)
  base_keeps wraps s x v k h =
      bind_keeps (given s x) (formed wraps s) BaseIs (FormedIs 1) (given_keeps s x BaseIs h k) (λ base l. record { tree = l; count = refl; wraps = v; state = h })

  mutual
    pub block_keeps : (b : Block) (s : State) → BlockOf b → StateIs s → Keeps (run_block b s) StateIs
    block_keeps Stops s w h = h
    block_keeps (Runs stmt rest) s w h =
        bind_keeps (run_stmt stmt s) (run_block rest) StateIs StateIs (stmt_keeps stmt s w.0 h) (λ t k. block_keeps rest t w.1 k)

    stmt_keeps : (stmt : Stmt) (s : State) → StmtOf stmt → StateIs s → Keeps (run_stmt stmt s) StateIs
    stmt_keeps (Lets name value) s w h =
        bind_keeps (given s (expr_value s.store value)) _ r.Good StateIs (given_keeps s _ r.Good h (expr_fine s.store h.store value w)) (λ a k. with_variable_in name a s k h)
    stmt_keeps (Prints value) s w h =
        bind_keeps (given s (expr_value s.store value)) _ r.Good StateIs (given_keeps s _ r.Good h (expr_fine s.store h.store value w)) (λ a k.
        record { thread = h.thread; nacks = h.nacks; store = h.store; said = record { printed = each_more r.Good s.said.printed a h.said.printed k; spawned = h.said.spawned }; left = h.left })
    stmt_keeps (Syncs names event) s w h =
        bind_keeps (resolve event [] s) (synced names) (FormedIs (bases_of event)) StateIs (event_keeps event [] s w.0 tt h) (λ f k. synced_keeps (bases_of event) names f w.1 k)
    stmt_keeps (Branches test first second) s w h =
        bind_keeps (given s (test_value s.store test)) _ (λ _. ⊤) StateIs (given_keeps s _ (λ _. ⊤) h (anything (test_value s.store test))) (λ holds k.
        if_keeps holds _ _ StateIs (λ e. block_keeps first s w.0 h) (λ e. block_keeps second s w.1 h))
    stmt_keeps (Loops number names event rest) s w h =
        times_keeps number (λ t. resolve event [] t >>= synced names >>= run_block rest) (turn_keeps (bases_of event) names (resolve event []) (run_block rest) w.0.1 (λ t k. event_keeps event [] t w.0.0 tt k) (λ t k. block_keeps rest t w.1 k)) s h
    stmt_keeps (LoopsForever names event rest) s w h =
        times_keeps (suc (length s.left)) (λ t. resolve event [] t >>= synced names >>= run_block rest) (turn_keeps (bases_of event) names (resolve event []) (run_block rest) w.0.1 (λ t k. event_keeps event [] t w.0.0 tt k) (λ t k. block_keeps rest t w.1 k)) s h
    stmt_keeps Ends s w h = h.said
    stmt_keeps (Spawns process) s w h =
        record { thread = h.thread; nacks = h.nacks; store = h.store; said = spawned_is process s.said (list_any (λ q. q == process) s.said.spawned) w h.said; left = h.left }

    pub event_keeps : (event : Event) (wraps : List Wrapping) (s : State) → EventOf event → WrapsAre wraps → StateIs s → Keeps (resolve event wraps s) (FormedIs (bases_of event))
    event_keeps (Sends channel list) wraps s w v h = base_keeps wraps s (send_value s.store channel list) v (send_fine s.store channel list h.store w.0 w.1) h
    event_keeps (Receives channel) wraps s w v h = base_keeps wraps s (recv_value s.store channel) v (recv_fine s.store channel h.store w) h
    event_keeps (IsReady list) wraps s w v h = base_keeps wraps s (always_value s.store list) v (always_fine s.store list h.store w) h
    event_keeps IsNever wraps s w v h = record { tree = tt; count = refl; wraps = v; state = h }
    event_keeps (IsCancelled nack) wraps s w v h = base_keeps wraps s (cancelled_value s.store nack) v (cancelled_fine s.store nack h.store w) h
    event_keeps (IsJoined process) wraps s w v h = record { tree = w; count = refl; wraps = v; state = h }
    event_keeps (Chooses members) wraps s w v h = members_keep members wraps s w v h
    event_keeps (Wraps event names list) wraps s w v h =
        bind_keeps (resolve event _ s) (as_wrap (length wraps)) (FormedIs (bases_of event)) (FormedIs (bases_of event)) (event_keeps event _ s w.0 (wraps_more wraps (record { names = names; list = list }) v w.1) h) (λ f k.
        record { tree = k.tree; count = length-map (bases_from 0 f.tree) (with_wrap (length wraps)) ∙ k.count; wraps = k.wraps; state = k.state })
    event_keeps (Guards body event) wraps s w v h =
        bind_keeps (run_block body s) (resolve event wraps) StateIs (FormedIs (bases_of event)) (block_keeps body s w.0 h) (λ t k. event_keeps event wraps t w.1 v k)
    event_keeps (Nacks name body event) wraps s w v h =
        bind_keeps (with_nack name s >>= run_block body >>= resolve event wraps) (as_scope s.nacks) (λ f. FormedIs (bases_of event) f × r.Scoped s.nacks) (FormedIs (bases_of event))
        (bind_keeps (with_nack name s >>= run_block body) (resolve event wraps) (λ t. StateIs t × r.Scoped s.nacks) (λ f. FormedIs (bases_of event) f × r.Scoped s.nacks)
        (bind_keeps (with_nack name s) (run_block body) (λ t. StateIs t × r.Scoped s.nacks) (λ t. StateIs t × r.Scoped s.nacks) (with_nack_keeps name s h) (λ t k.
        and_keeps (run_block body t) StateIs (r.Scoped s.nacks) k.1 (block_keeps body t w.0 k.0)))
        (λ t k. and_keeps (resolve event wraps t) (FormedIs (bases_of event)) (r.Scoped s.nacks) k.1 (event_keeps event wraps t w.1 v k.0)))
        (λ f k. record {
          tree = (k.1, k.0.tree);
          count = length-map (bases_from 1 f.tree) (with_scope 0) ∙ bases_count 1 0 f.tree ∙ k.0.count;
          wraps = k.0.wraps;
          state = k.0.state;
        })

    pub members_keep : (members : Events) (wraps : List Wrapping) (s : State) → MembersOf members → WrapsAre wraps → StateIs s → Keeps (resolve_all members wraps s) (FormedIs (bases_of_all members))
    members_keep NoMembers wraps s w v h = record { tree = tt; count = refl; wraps = v; state = h }
    members_keep (Members event others) wraps s w v h =
        bind_keeps (resolve event wraps s) _ (FormedIs (bases_of event)) (FormedIs (bases_of event + bases_of_all others)) (event_keeps event wraps s w.0 v h) (λ f k.
        bind_keeps (resolve_all others f.wraps f.state) (as_first f) (FormedIs (bases_of_all others)) (FormedIs (bases_of event + bases_of_all others)) (members_keep others f.wraps f.state w.1 k.wraps k.state) (λ g l.
        record {
          tree = (k.tree, l.tree);
          count = omega (arith, length-append (bases_from 0 f.tree) (bases_from (0 + scope_count f.tree) g.tree), bases_count (0 + scope_count f.tree) 0 g.tree, k.count, l.count);
          wraps = l.wraps;
          state = l.state;
        }))

  pub after_keeps : (body : Block) (variables : ℕ) (results : List Chosen) → r.Taken 0 → BlockOf body → ResultsOf r.Good results → Keeps (after body variables r.thread results) (λ s. ⊤)
  after_keeps body variables results taken w k =
      bind_keeps (run_block body (start r.thread variables results)) finished StateIs (λ s. ⊤)
      (block_keeps body (start r.thread variables results) w (record { thread = refl; nacks = taken; store = All-replicate (PlaceOf r.Good) variables None tt; said = record { printed = tt; spawned = tt }; left = k }))
      (λ s h. h.said)

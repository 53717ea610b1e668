-- Scripts are told apart by codes that can be read back, so they make up a set: that two are equal is known
-- in one way.
use Rattle.std.proofs.Common.{◌≡◌, ℕ, zero, suc, List, [], ◌∷◌, Option, Some, None, refl, sym, ap, ◌∙◌}
use Rattle.std.specs.Coded.{Coded, Coded-set}
use base.Stored.{Gv, gnil, gnum, gcons}
use Rattle.script_tree.specs.declared.tree.Name.{Name}
use Rattle.script_tree.specs.declared.tree.Name.TheVariants.{Variable, Channel}
use Rattle.script_tree.specs.declared.tree.Operand.{Operand}
use Rattle.script_tree.specs.declared.tree.Operand.TheVariants.{Number, Named}
use Rattle.script_tree.specs.declared.tree.Sign.{Sign}
use Rattle.script_tree.specs.declared.tree.Sign.TheVariants.{Plus, Minus}
use Rattle.script_tree.specs.declared.tree.Relation.{Relation}
use Rattle.script_tree.specs.declared.tree.Relation.TheVariants.{Equal, Less}
use Rattle.script_tree.specs.Trees.{Term, Single, Sum, Terms, Nothing, More, Expr, Test, Event, Sends, Receives, IsReady, IsNever, IsCancelled, IsJoined, Chooses, Wraps, Guards, Nacks, Events, NoMembers, Members, Stmt, Lets, Prints, Syncs, Branches, Loops, LoopsForever, Ends, Spawns, Block, Stops, Runs}
use Rattle.script_tree.specs.Processes.{Proc}
use Rattle.script.specs.Scripts.{Script}

code_numbers : List ℕ → Gv
code_numbers [] = gnil
code_numbers (x ∷ xs) = gcons (gnum x) (code_numbers xs)

read_numbers : Gv → List ℕ
read_numbers (gcons (gnum x) xs) = x ∷ read_numbers xs
read_numbers other = []

back_numbers : (xs : List ℕ) → read_numbers (code_numbers xs) ≡ xs
unfolding code_numbers read_numbers
back_numbers [] = refl
back_numbers (x ∷ xs) = rw (back_numbers xs) refl

code_names : Option (List ℕ) → Gv
code_names None = gnil
code_names (Some names) = gcons gnil (code_numbers names)

read_names : Gv → Option (List ℕ)
read_names (gcons first names) = Some (read_numbers names)
read_names other = None

back_names : (x : Option (List ℕ)) → read_names (code_names x) ≡ x
unfolding code_names read_names
back_names None = refl
back_names (Some names) = rw (back_numbers names) refl

code_name : Name → Gv
code_name (Variable n) = gcons (gnum 0) (gnum n)
code_name (Channel n) = gcons (gnum 1) (gnum n)

read_name : Gv → Name
read_name (gcons (gnum zero) (gnum n)) = Variable n
read_name (gcons (gnum (suc zero)) (gnum n)) = Channel n
read_name other = Variable 0

back_name : (x : Name) → read_name (code_name x) ≡ x
unfolding code_name read_name
back_name (Variable n) = refl
back_name (Channel n) = refl

code_operand : Operand → Gv
code_operand (Number n) = gcons (gnum 0) (gnum n)
code_operand (Named name) = gcons (gnum 1) (code_name name)

read_operand : Gv → Operand
read_operand (gcons (gnum zero) (gnum n)) = Number n
read_operand (gcons (gnum (suc zero)) name) = Named (read_name name)
read_operand other = Number 0

back_operand : (x : Operand) → read_operand (code_operand x) ≡ x
unfolding code_operand read_operand
back_operand (Number n) = refl
back_operand (Named name) = rw (back_name name) refl

code_sign : Sign → Gv
code_sign Plus = gnum 0
code_sign Minus = gnum 1

read_sign : Gv → Sign
read_sign (gnum zero) = Plus
read_sign other = Minus

back_sign : (x : Sign) → read_sign (code_sign x) ≡ x
unfolding code_sign read_sign
back_sign Plus = refl
back_sign Minus = refl

code_relation : Relation → Gv
code_relation Equal = gnum 0
code_relation Less = gnum 1

read_relation : Gv → Relation
read_relation (gnum zero) = Equal
read_relation other = Less

back_relation : (x : Relation) → read_relation (code_relation x) ≡ x
unfolding code_relation read_relation
back_relation Equal = refl
back_relation Less = refl

mutual
  code_term : Term → Gv
  code_term (Single o) = gcons (gnum 0) (code_operand o)
  code_term (Sum first more) = gcons (gnum 1) (gcons (code_operand first) (code_terms more))

  code_terms : Terms → Gv
  code_terms Nothing = gcons (gnum 0) gnil
  code_terms (More sign term more) = gcons (gnum 1) (gcons (code_sign sign) (gcons (code_term term) (code_terms more)))

mutual
  read_term : Gv → Term
  read_term (gcons (gnum zero) o) = Single (read_operand o)
  read_term (gcons (gnum (suc zero)) (gcons first more)) = Sum (read_operand first) (read_terms more)
  read_term other = Single (Number 0)

  read_terms : Gv → Terms
  read_terms (gcons (gnum zero) gnil) = Nothing
  read_terms (gcons (gnum (suc zero)) (gcons sign (gcons term more))) = More (read_sign sign) (read_term term) (read_terms more)
  read_terms other = Nothing

mutual
  unfolding code_term read_term code_terms read_terms

  back_term : (x : Term) → read_term (code_term x) ≡ x
  back_term (Single o) = rw (back_operand o) refl
  back_term (Sum first more) = rw (back_operand first, back_terms more) refl

  back_terms : (x : Terms) → read_terms (code_terms x) ≡ x
  back_terms Nothing = refl
  back_terms (More sign term more) = rw (back_sign sign, back_term term, back_terms more) refl

code_expr : Expr → Gv
code_expr x = gcons (code_operand x.first) (code_terms x.more)

read_expr : Gv → Expr
read_expr (gcons first more) = record { first = read_operand first; more = read_terms more }
read_expr other = record { first = read_operand gnil; more = read_terms gnil }

back_expr : (x : Expr) → read_expr (code_expr x) ≡ x
unfolding code_expr read_expr
back_expr x = rw (back_operand x.first, back_terms x.more) refl

code_list : List Expr → Gv
code_list [] = gnil
code_list (x ∷ xs) = gcons (code_expr x) (code_list xs)

read_list : Gv → List Expr
read_list (gcons x xs) = (read_expr x) ∷ read_list xs
read_list other = []

back_list : (xs : List Expr) → read_list (code_list xs) ≡ xs
unfolding code_list read_list
back_list [] = refl
back_list (x ∷ xs) = rw (back_expr x, back_list xs) refl

code_test : Test → Gv
code_test x = gcons (code_expr x.left) (gcons (code_relation x.relation) (code_expr x.right))

read_test : Gv → Test
read_test (gcons left (gcons relation right)) = record { left = read_expr left; relation = read_relation relation; right = read_expr right }
read_test other = record { left = read_expr gnil; relation = read_relation gnil; right = read_expr gnil }

back_test : (x : Test) → read_test (code_test x) ≡ x
unfolding code_test read_test
back_test x = rw (back_expr x.left, back_relation x.relation, back_expr x.right) refl

mutual
  code_event : Event → Gv
  code_event (Sends name list) = gcons (gnum 0) (gcons (code_name name) (code_list list))
  code_event (Receives name) = gcons (gnum 1) (code_name name)
  code_event (IsReady list) = gcons (gnum 2) (code_list list)
  code_event IsNever = gcons (gnum 3) gnil
  code_event (IsCancelled name) = gcons (gnum 4) (code_name name)
  code_event (Chooses members) = gcons (gnum 5) (code_events members)
  code_event (Wraps event names list) = gcons (gnum 6) (gcons (code_event event) (gcons (code_names names) (code_list list)))
  code_event (Guards body event) = gcons (gnum 7) (gcons (code_block body) (code_event event))
  code_event (Nacks n body event) = gcons (gnum 8) (gcons (gnum n) (gcons (code_block body) (code_event event)))
  code_event (IsJoined n) = gcons (gnum 9) (gnum n)

  code_events : Events → Gv
  code_events NoMembers = gcons (gnum 0) gnil
  code_events (Members event others) = gcons (gnum 1) (gcons (code_event event) (code_events others))

  code_stmt : Stmt → Gv
  code_stmt (Lets n value) = gcons (gnum 0) (gcons (gnum n) (code_expr value))
  code_stmt (Prints value) = gcons (gnum 1) (code_expr value)
  code_stmt (Syncs names event) = gcons (gnum 2) (gcons (code_names names) (code_event event))
  code_stmt (Branches test first second) = gcons (gnum 3) (gcons (code_test test) (gcons (code_block first) (code_block second)))
  code_stmt (Loops n names event rest) = gcons (gnum 4) (gcons (gnum n) (gcons (code_names names) (gcons (code_event event) (code_block rest))))
  code_stmt (LoopsForever names event rest) = gcons (gnum 5) (gcons (code_names names) (gcons (code_event event) (code_block rest)))
  code_stmt Ends = gcons (gnum 6) gnil
  code_stmt (Spawns n) = gcons (gnum 7) (gnum n)

  code_block : Block → Gv
  code_block Stops = gcons (gnum 0) gnil
  code_block (Runs stmt rest) = gcons (gnum 1) (gcons (code_stmt stmt) (code_block rest))

mutual
  read_event : Gv → Event
  read_event (gcons (gnum zero) (gcons name list)) = Sends (read_name name) (read_list list)
  read_event (gcons (gnum (suc zero)) name) = Receives (read_name name)
  read_event (gcons (gnum (suc (suc zero))) list) = IsReady (read_list list)
  read_event (gcons (gnum (suc (suc (suc zero)))) gnil) = IsNever
  read_event (gcons (gnum (suc (suc (suc (suc zero))))) name) = IsCancelled (read_name name)
  read_event (gcons (gnum (suc (suc (suc (suc (suc zero)))))) members) = Chooses (read_events members)
  read_event (gcons (gnum (suc (suc (suc (suc (suc (suc zero))))))) (gcons event (gcons names list))) = Wraps (read_event event) (read_names names) (read_list list)
  read_event (gcons (gnum (suc (suc (suc (suc (suc (suc (suc zero)))))))) (gcons body event)) = Guards (read_block body) (read_event event)
  read_event (gcons (gnum (suc (suc (suc (suc (suc (suc (suc (suc zero))))))))) (gcons (gnum n) (gcons body event))) = Nacks n (read_block body) (read_event event)
  read_event (gcons (gnum (suc (suc (suc (suc (suc (suc (suc (suc (suc zero)))))))))) (gnum n)) = IsJoined n
  read_event other = IsNever

  read_events : Gv → Events
  read_events (gcons (gnum zero) gnil) = NoMembers
  read_events (gcons (gnum (suc zero)) (gcons event others)) = Members (read_event event) (read_events others)
  read_events other = NoMembers

  read_stmt : Gv → Stmt
  read_stmt (gcons (gnum zero) (gcons (gnum n) value)) = Lets n (read_expr value)
  read_stmt (gcons (gnum (suc zero)) value) = Prints (read_expr value)
  read_stmt (gcons (gnum (suc (suc zero))) (gcons names event)) = Syncs (read_names names) (read_event event)
  read_stmt (gcons (gnum (suc (suc (suc zero)))) (gcons test (gcons first second))) = Branches (read_test test) (read_block first) (read_block second)
  read_stmt (gcons (gnum (suc (suc (suc (suc zero))))) (gcons (gnum n) (gcons names (gcons event rest)))) = Loops n (read_names names) (read_event event) (read_block rest)
  read_stmt (gcons (gnum (suc (suc (suc (suc (suc zero)))))) (gcons names (gcons event rest))) = LoopsForever (read_names names) (read_event event) (read_block rest)
  read_stmt (gcons (gnum (suc (suc (suc (suc (suc (suc zero))))))) gnil) = Ends
  read_stmt (gcons (gnum (suc (suc (suc (suc (suc (suc (suc zero)))))))) (gnum n)) = Spawns n
  read_stmt other = Ends

  read_block : Gv → Block
  read_block (gcons (gnum zero) gnil) = Stops
  read_block (gcons (gnum (suc zero)) (gcons stmt rest)) = Runs (read_stmt stmt) (read_block rest)
  read_block other = Stops

mutual
  unfolding code_event read_event code_events read_events code_stmt read_stmt code_block read_block

  back_event : (x : Event) → read_event (code_event x) ≡ x
  back_event (Sends name list) = rw (back_name name, back_list list) refl
  back_event (Receives name) = rw (back_name name) refl
  back_event (IsReady list) = rw (back_list list) refl
  back_event IsNever = refl
  back_event (IsCancelled name) = rw (back_name name) refl
  back_event (Chooses members) = rw (back_events members) refl
  back_event (Wraps event names list) = rw (back_event event, back_names names, back_list list) refl
  back_event (Guards body event) = rw (back_block body, back_event event) refl
  back_event (Nacks n body event) = rw (back_block body, back_event event) refl
  back_event (IsJoined n) = refl

  back_events : (x : Events) → read_events (code_events x) ≡ x
  back_events NoMembers = refl
  back_events (Members event others) = rw (back_event event, back_events others) refl

  back_stmt : (x : Stmt) → read_stmt (code_stmt x) ≡ x
  back_stmt (Lets n value) = rw (back_expr value) refl
  back_stmt (Prints value) = rw (back_expr value) refl
  back_stmt (Syncs names event) = rw (back_names names, back_event event) refl
  back_stmt (Branches test first second) = rw (back_test test, back_block first, back_block second) refl
  back_stmt (Loops n names event rest) = rw (back_names names, back_event event, back_block rest) refl
  back_stmt (LoopsForever names event rest) = rw (back_names names, back_event event, back_block rest) refl
  back_stmt Ends = refl
  back_stmt (Spawns n) = refl

  back_block : (x : Block) → read_block (code_block x) ≡ x
  back_block Stops = refl
  back_block (Runs stmt rest) = rw (back_stmt stmt, back_block rest) refl

code_texts : List (List ℕ) → Gv
code_texts [] = gnil
code_texts (x ∷ xs) = gcons (code_numbers x) (code_texts xs)

read_texts : Gv → List (List ℕ)
read_texts (gcons x xs) = (read_numbers x) ∷ read_texts xs
read_texts other = []

back_texts : (xs : List (List ℕ)) → read_texts (code_texts xs) ≡ xs
unfolding code_texts read_texts
back_texts [] = refl
back_texts (x ∷ xs) = rw (back_numbers x, back_texts xs) refl

code_process : Proc → Gv
code_process x = gcons (code_numbers x.name) (gcons (code_block x.body) (gcons (code_texts x.variables) (gcons (gnum x.channels) (gnum x.earlier))))

read_process : Gv → Proc
read_process (gcons name (gcons body (gcons variables (gcons (gnum channels) (gnum earlier))))) = record { name = read_numbers name; body = read_block body; variables = read_texts variables; channels = channels; earlier = earlier }
read_process other = record { name = read_numbers gnil; body = read_block gnil; variables = read_texts gnil; channels = 0; earlier = 0 }

back_process : (x : Proc) → read_process (code_process x) ≡ x
unfolding code_process read_process
back_process x = rw (back_numbers x.name, back_block x.body, back_texts x.variables) refl

code_processes : List Proc → Gv
code_processes [] = gnil
code_processes (x ∷ xs) = gcons (code_process x) (code_processes xs)

read_processes : Gv → List Proc
read_processes (gcons x xs) = (read_process x) ∷ read_processes xs
read_processes other = []

back_processes : (xs : List Proc) → read_processes (code_processes xs) ≡ xs
unfolding code_processes read_processes
back_processes [] = refl
back_processes (x ∷ xs) = rw (back_process x, back_processes xs) refl

code_script : Script → Gv
code_script x = gcons (code_texts x.channels) (code_processes x.processes)

read_script : Gv → Script
read_script (gcons channels processes) = record { channels = read_texts channels; processes = read_processes processes }
read_script other = record { channels = read_texts gnil; processes = read_processes gnil }

back_script : (x : Script) → read_script (code_script x) ≡ x
unfolding code_script read_script
back_script x = rw (back_texts x.channels, back_processes x.processes) refl

coded_script : Coded Script
coded_script = record { code = code_script; inj = λ x y e. sym (back_script x) ∙ ap read_script e ∙ back_script y }

pub script_set : IsSet Script
script_set = Coded-set coded_script

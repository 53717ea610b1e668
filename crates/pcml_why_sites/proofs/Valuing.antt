-- Values are told as they are; or a trouble is told that is of the fault, and so.
use Rattle.std.proofs.Common.{◌≡◌, ℕ, ◌+◌, ◌^◌, List, [], ◌∷◌, Option, Some, None, Result, Ok, Err, Bool, true, false, length, slice_get, refl, sym, ap, ◌∙◌, subst, arith, nat_le, nat_lt}
use Rattle.std.proofs.lemmas.Bool.Decides.{nat_tests}
use Rattle.std.specs.Prelude.{if◌then◌else◌}
use Rattle.script_tree.specs.Trees.{Term, Single, Sum, Terms, Nothing, More, Expr, Test}
use Rattle.script_tree.specs.declared.tree.Name.{Name}
use Rattle.script_tree.specs.declared.tree.Name.TheVariants.{Variable, Channel}
use Rattle.script_tree.specs.declared.tree.Operand.{Operand}
use Rattle.script_tree.specs.declared.tree.Operand.TheVariants.{Number, Named}
use Rattle.script_tree.specs.declared.tree.Relation.{Relation}
use Rattle.script_tree.specs.declared.tree.Relation.TheVariants.{Equal, Less}
use Rattle.script_tree.specs.declared.tree.Sign.{Sign}
use Rattle.script_tree.specs.declared.tree.Sign.TheVariants.{Plus, Minus}
use Rattle.protocol_values.specs.declared.Atom.{Atom}
use Rattle.protocol_values.specs.declared.Atom.TheVariants.{Num, Chan, Nack}
use Rattle.protocol_values.specs.declared.Message.{Message}
use Rattle.thread.specs.After as after
use Rattle.thread.specs.Values as values
use Rattle.thread.specs.Values.{Store, atoms, message_of, with_atom, ◌>>=◌ as ◌>>>◌}
use Rattle.thread.specs.declared.Fault.{Fault}
use Rattle.thread.specs.declared.Fault.TheVariants as fault
use Rattle.pcml_why_sites.specs.Standing.{send_value, recv_value, always_value, cancelled_value}
use Rattle.pcml_why_sites.specs.Troubles.{fault_of, ◌>>=◌, was_set, name_value, operand_value, operand_name, sum_name, term_name, expr_name, channel_in, nack_in, channel_value, nack_value, sum_of, difference, combined, term_value, sum_value, expr_value, exprs_value, list_value, compared, test_value, with_all, with_names, IsValueOf, IsSo}
use Rattle.pcml_why_sites.specs.declared.trouble.Trouble.{Trouble}
use Rattle.pcml_why_sites.specs.declared.trouble.Trouble.TheVariants.{Count}

module _ (store : Store) (nacks : ℕ) where
  abbrev pub ValueTold : {A : Type 0} → Result A Trouble → Result A Fault → Type 0
  ValueTold (Ok a) (Ok b) = a ≡ b
  ValueTold (Err trouble) (Err fault) = (fault_of trouble ≡ fault) × IsSo store nacks trouble
  ValueTold one other = ⊥

  then_told : {A B : Type 0} (r : Result A Trouble) (q : Result A Fault) (f : A → Result B Trouble) (g : A → Result B Fault) → ValueTold r q → ((a : A) → r ≡ Ok a → ValueTold (f a) (g a)) → ValueTold (r >>= f) (q >>> g)
  then_told (Ok a) (Ok b) f g h next = subst (λ z. ValueTold (f a) (g z)) h (next a refl)
  then_told (Err trouble) (Err fault) f g h next = h
  then_told r q f g h next = absurd h

  if_told : {A : Type 0} (b : Bool) (x y : Result A Trouble) (v w : Result A Fault) → (b ≡ true → ValueTold x v) → (b ≡ false → ValueTold y w) → ValueTold (if b then x else y) (if b then v else w)
  if_told true x y v w first second = first refl
  if_told false x y v w first second = second refl

  -- NAMES AND OPERANDS

  set_told : (v : ℕ) (o : Option (Option Atom)) → slice_get store v ≡ o → ValueTold (was_set v o) (values.was_set o)
  set_told v (Some (Some atom)) is = refl
  set_told v (Some None) is = (refl, λ value e. absurd (cc (sym (ap (was_set v) is) ∙ e)))
  set_told v None is = (refl, λ value e. absurd (cc (sym (ap (was_set v) is) ∙ e)))

  name_told : (name : Name) → ValueTold (name_value store name) (values.name_value store name)
  name_told (Variable v) = set_told v (slice_get store v) refl
  name_told (Channel c) = refl

  operand_told : (o : Operand) → ValueTold (operand_value store o) (values.operand_value store o)
  operand_told (Number n) = refl
  operand_told (Named name) = name_told name

  -- WHAT STANDS UNDER A NAME

  operand_is : (o : Operand) (a : Atom) → operand_value store o ≡ Ok a → IsValueOf store (operand_name o) a
  operand_is (Number n) a is = tt
  operand_is (Named name) a is = is

  nothing_more : (name : Option Name) (x : Result Atom Trouble) → (x >>= sum_value store Nothing name) ≡ x
  nothing_more name (Ok a) = refl
  nothing_more name (Err trouble) = refl

  sum_is : (first : Operand) (more : Terms) (a : Atom) → (operand_value store first >>= sum_value store more (operand_name first)) ≡ Ok a → IsValueOf store (sum_name first more) a
  sum_is first Nothing a is = operand_is first a (sym (nothing_more (operand_name first) (operand_value store first)) ∙ is)
  sum_is first (More sign term more) a is = tt

  term_is : (t : Term) (a : Atom) → term_value store t ≡ Ok a → IsValueOf store (term_name t) a
  term_is (Single o) a is = operand_is o a is
  term_is (Sum first more) a is = sum_is first more a is

  expr_is : (e : Expr) (a : Atom) → expr_value store e ≡ Ok a → IsValueOf store (expr_name e) a
  expr_is e a is = sum_is e.first e.more a is

  -- EXPRESSIONS

  sum_told : (m n : ℕ) → ValueTold (sum_of m n) (values.number_value (m + n))
  sum_told m n = if_told (nat_lt (m + n) (2 ^ 32)) _ _ _ _ (λ e. refl) (λ e. (refl, grind (arith, nat_tests, e)))

  difference_told : (m n : ℕ) → ValueTold (difference m n) (values.difference m n)
  difference_told m n = if_told (nat_le n m) _ _ _ _ (λ e. refl) (λ e. (refl, grind (arith, nat_tests, e)))

  combined_told : (sign : Sign) (one other : Option Name) (left right : Atom) → IsValueOf store one left → IsValueOf store other right → ValueTold (combined sign one left other right) (values.combined sign left right)
  combined_told Plus one other (Num m) (Num n) h k = sum_told m n
  combined_told Minus one other (Num m) (Num n) h k = difference_told m n
  combined_told Plus one other (Num m) (Chan c) h k = (refl, (k, λ e. absurd (cc (e))))
  combined_told Plus one other (Num m) (Nack n) h k = (refl, (k, λ e. absurd (cc (e))))
  combined_told Plus one other (Chan c) right h k = (refl, (h, λ e. absurd (cc (e))))
  combined_told Plus one other (Nack n) right h k = (refl, (h, λ e. absurd (cc (e))))
  combined_told Minus one other (Num m) (Chan c) h k = (refl, (k, λ e. absurd (cc (e))))
  combined_told Minus one other (Num m) (Nack n) h k = (refl, (k, λ e. absurd (cc (e))))
  combined_told Minus one other (Chan c) right h k = (refl, (h, λ e. absurd (cc (e))))
  combined_told Minus one other (Nack n) right h k = (refl, (h, λ e. absurd (cc (e))))

  mutual
    term_told : (t : Term) → ValueTold (term_value store t) (values.term_value store t)
    term_told (Single o) = operand_told o
    term_told (Sum first more) =
        then_told (operand_value store first) (values.operand_value store first) (sum_value store more (operand_name first)) (values.sum_value store more) (operand_told first)
        (λ a is. sum_all_told more (operand_name first) a (operand_is first a is))

    sum_all_told : (ts : Terms) (name : Option Name) (total : Atom) → IsValueOf store name total → ValueTold (sum_value store ts name total) (values.sum_value store ts total)
    sum_all_told Nothing name total h = refl
    sum_all_told (More sign term more) name total h =
        then_told (term_value store term) (values.term_value store term) _ _ (term_told term) (λ right is.
        then_told (combined sign name total (term_name term) right) (values.combined sign total right) (sum_value store more None) (values.sum_value store more) (combined_told sign name (term_name term) total right h (term_is term right is))
        (λ a _. sum_all_told more None a tt))

  pub expr_told : (e : Expr) → ValueTold (expr_value store e) (values.expr_value store e)
  expr_told e =
      then_told (operand_value store e.first) (values.operand_value store e.first) (sum_value store e.more (operand_name e.first)) (values.sum_value store e.more) (operand_told e.first)
      (λ a is. sum_all_told e.more (operand_name e.first) a (operand_is e.first a is))

  -- LISTS AND TESTS

  exprs_told : (es : List Expr) → ValueTold (exprs_value store es) (values.exprs_value store es)
  exprs_told [] = refl
  exprs_told (e ∷ es) =
      then_told (expr_value store e) (values.expr_value store e) _ _ (expr_told e) (λ a _.
      then_told (exprs_value store es) (values.exprs_value store es) (λ list. Ok (a ∷ list)) (λ list. Ok (a ∷ list)) (exprs_told es) (λ list _. refl))

  pub list_told : (es : List Expr) → ValueTold (list_value store es) (values.list_value store es)
  list_told es = then_told (exprs_value store es) (values.exprs_value store es) (λ list. Ok (message_of list)) (λ list. Ok (message_of list)) (exprs_told es) (λ list _. refl)

  compared_told : (relation : Relation) (one other : Option Name) (left right : Atom) → IsValueOf store one left → IsValueOf store other right → ValueTold (compared relation one left other right) (values.compared relation left right)
  compared_told Equal one other left right h k = refl
  compared_told Less one other (Num m) (Num n) h k = refl
  compared_told Less one other (Num m) (Chan c) h k = (refl, (k, λ e. absurd (cc (e))))
  compared_told Less one other (Num m) (Nack n) h k = (refl, (k, λ e. absurd (cc (e))))
  compared_told Less one other (Chan c) right h k = (refl, (h, λ e. absurd (cc (e))))
  compared_told Less one other (Nack n) right h k = (refl, (h, λ e. absurd (cc (e))))

  pub test_told : (t : Test) → ValueTold (test_value store t) (values.test_value store t)
  test_told t =
      then_told (expr_value store t.left) (values.expr_value store t.left) _ _ (expr_told t.left) (λ left is.
      then_told (expr_value store t.right) (values.expr_value store t.right) (λ right. compared t.relation (expr_name t.left) left (expr_name t.right) right) (values.compared t.relation left) (expr_told t.right)
      (λ right too. compared_told t.relation (expr_name t.left) (expr_name t.right) left right (expr_is t.left left is) (expr_is t.right right too)))

  -- NAMES THAT ARE SET

  with_all_told : (trouble : Trouble) → fault_of trouble ≡ fault.Shape → (vs : List ℕ) (list : List Atom) (into : Store) → ((length list ≡ length vs → ⊥) → IsSo store nacks trouble) → ValueTold (with_all trouble vs list into) (values.with_all vs list into)
  with_all_told trouble shape [] [] into so = refl
  with_all_told trouble shape (v ∷ vs) (a ∷ list) into so = with_all_told trouble shape vs list (with_atom v a into) (λ ne. so (λ e. ne (omega (arith, e))))
  with_all_told trouble shape [] (a ∷ list) into so = (shape, so (λ e. omega (arith, e)))
  with_all_told trouble shape (v ∷ vs) [] into so = (shape, so (λ e. omega (arith, e)))

  pub with_names_told : (names : Option (List ℕ)) (message : Message) → ValueTold (with_names names message store) (values.with_names names message store)
  with_names_told None message = refl
  with_names_told (Some vs) message = with_all_told (Count (length (atoms message)) (length vs)) refl vs (atoms message) store (λ ne. ne)

  -- BASE EVENTS

  channel_told : (name : Name) (a : Atom) → name_value store name ≡ Ok a → ValueTold (channel_in (Some name) a) (after.channel_in a)
  channel_told name (Num n) is = (refl, (is, λ e. absurd (cc (e))))
  channel_told name (Chan c) is = refl
  channel_told name (Nack n) is = (refl, (is, λ e. absurd (cc (e))))

  nack_told : (name : Name) (a : Atom) → name_value store name ≡ Ok a → ValueTold (nack_in (Some name) a) (after.nack_in a)
  nack_told name (Num n) is = (refl, (is, λ e. absurd (cc (e))))
  nack_told name (Chan c) is = (refl, (is, λ e. absurd (cc (e))))
  nack_told name (Nack n) is = refl

  channel_value_told : (name : Name) → ValueTold (channel_value store name) (after.channel_value store name)
  channel_value_told name = then_told (name_value store name) (values.name_value store name) (channel_in (Some name)) after.channel_in (name_told name) (channel_told name)

  nack_value_told : (name : Name) → ValueTold (nack_value store name) (after.nack_value store name)
  nack_value_told name = then_told (name_value store name) (values.name_value store name) (nack_in (Some name)) after.nack_in (name_told name) (nack_told name)

  pub send_told : (channel : Name) (list : List Expr) → ValueTold (send_value store channel list) (after.send_value store channel list)
  send_told channel list =
      then_told (channel_value store channel) (after.channel_value store channel) _ _ (channel_value_told channel) (λ c _.
      then_told (list_value store list) (values.list_value store list) _ _ (list_told list) (λ m _. refl))

  pub recv_told : (channel : Name) → ValueTold (recv_value store channel) (after.recv_value store channel)
  recv_told channel = then_told (channel_value store channel) (after.channel_value store channel) _ _ (channel_value_told channel) (λ c _. refl)

  pub always_told : (list : List Expr) → ValueTold (always_value store list) (after.always_value store list)
  always_told list = then_told (list_value store list) (values.list_value store list) _ _ (list_told list) (λ m _. refl)

  pub cancelled_told : (name : Name) → ValueTold (cancelled_value store name) (after.cancelled_value store name)
  cancelled_told name = then_told (nack_value store name) (after.nack_value store name) _ _ (nack_value_told name) (λ n _. refl)

-- Lists of entries that stand in the order of their ends.
use Rattle.std.proofs.Common.{List, [], ◌∷◌, ◌++◌, All}
use Rattle.std.proofs.lemmas.List.Elements.{All-cons, All-head, All-nil, All-push, All-tail}
use Rattle.meet_queues.specs.declared.entries.Entry.{Entry}
use Rattle.meet_queues.specs.Hands.{Before, InOrder}

module _ {T : Type 0} where
  -- an entry joins at the end
  pub in_order_push : (xs : List (Entry T)) (e : Entry T) → InOrder xs → All (λ (x : Entry T). Before x e) xs → InOrder (xs ++ e ∷ [])
  in_order_push [] e o all = (All-nil (Before e), tt)
  in_order_push (x ∷ xs) e o all = (
    All-push (Before x) xs e o.0 (All-head (λ (y : Entry T). Before y e) x xs all),
    in_order_push xs e o.1 (All-tail (λ (y : Entry T). Before y e) x xs all),
  )

  -- the end of a list is in order
  pub in_order_end : (xs ys : List (Entry T)) → InOrder (xs ++ ys) → InOrder ys
  in_order_end [] ys o = o
  in_order_end (x ∷ xs) ys o = in_order_end xs ys o.1

  -- and so is its beginning
  all_front : (P : Entry T → Type 0) (xs ys : List (Entry T)) → All P (xs ++ ys) → All P xs
  all_front P [] ys all = All-nil P
  all_front P (x ∷ xs) ys all = All-cons P x xs (All-head P x (xs ++ ys) all) (all_front P xs ys (All-tail P x (xs ++ ys) all))

  pub in_order_front : (xs ys : List (Entry T)) → InOrder (xs ++ ys) → InOrder xs
  in_order_front [] ys o = tt
  in_order_front (x ∷ xs) ys o = (all_front (Before x) xs ys o.0, in_order_front xs ys o.1)

  -- and what is left where some are taken out in the middle
  all_without : (P : Entry T → Type 0) (xs out ys : List (Entry T)) → All P (xs ++ (out ++ ys)) → All P (xs ++ ys)
  all_without P [] [] ys all = all
  all_without P [] (e ∷ out) ys all = all_without P [] out ys (All-tail P e (out ++ ys) all)
  all_without P (x ∷ xs) out ys all = All-cons P x (xs ++ ys) (All-head P x (xs ++ (out ++ ys)) all) (all_without P xs out ys (All-tail P x (xs ++ (out ++ ys)) all))

  pub in_order_without : (xs out ys : List (Entry T)) → InOrder (xs ++ (out ++ ys)) → InOrder (xs ++ ys)
  in_order_without [] out ys o = in_order_end out ys o
  in_order_without (x ∷ xs) out ys o = (all_without (Before x) xs out ys o.0, in_order_without xs out ys o.1)

  -- the beginning and the end of a list of which something is said
  pub all_parts : (P : Entry T → Type 0) (xs ys : List (Entry T)) → All P (xs ++ ys) → All P xs × All P ys
  all_parts P [] ys all = (All-nil P, all)
  all_parts P (x ∷ xs) ys all = let rest = all_parts P xs ys (All-tail P x (xs ++ ys) all) in (All-cons P x xs (All-head P x (xs ++ ys) all) rest.0, rest.1)

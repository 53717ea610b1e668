-- The rule's steps, as a deque and an injector ask for them, and what they say of an end's hands.
use Rattle.std.proofs.Common.{◌≡◌, ℕ, ◌+◌, ◌≤◌, [], ◌∷◌, sym, refl, ap, ◌∙◌, subst, Some, arith}
use Rattle.protocol_values.specs.declared.Row.{Row}
use Rattle.crossbeam_deque.specs.Tasks.{Finds, Pushes, Takes}
use Rattle.meet_queues.specs.declared.entries.Entry.{Entry}
use Rattle.meet_queues.specs.declared.entries.QueueView.{QueueView}
use Rattle.meet_queues.specs.Hands.{HandsOver, IsHandOf, WasEmpty, gets, puts, PutsOne}
use Rattle.meet_queues.proofs.Keeping.{get_kept, put_kept}

pub put_one : (port : ℕ) (v : QueueView Row) (e : Entry Row) → v.number ≡ Some e.end → v.below ≤ e.count → Pushes HandsOver port v (e ∷ []) (PutsOne v (e ∷ []))
put_one port v e number fewer items views r at = (puts v e, put_kept port v e number fewer items views r at, (e, refl, refl))

pub get_one : (port : ℕ) (v : QueueView Row) → Takes HandsOver port v 1 (λ entries w. w ≡ gets v entries)
get_one port v entries items views some_ few r at = (gets v entries, get_kept port v entries items views r at, refl)

-- what a hand learns where the queue holds nothing
pub finds_empty : (port : ℕ) (v : QueueView Row) → Finds HandsOver port v (WasEmpty v)
finds_empty port v views r at = (views, port, r, at)

-- the entry that was put is the one that there is
one_entry : (e x : Entry Row) → e ∷ [] ≡ x ∷ [] → x ≡ e
one_entry e x same = cc

puts_it : (v w : QueueView Row) (e : Entry Row) → PutsOne v (e ∷ []) w → w ≡ puts v e
puts_it v w e put = put.2 ∙ ap (puts v) (one_entry e put.0 put.1)

-- a hand that nothing was done with, where its end has put an entry
pub hand_kept : (number count : ℕ) (v w : QueueView Row) → IsHandOf number count v → w ≡ v → IsHandOf number (count + 1) w
hand_kept number count v w is same = let p : v.below ≤ count = is.1 in subst (IsHandOf number (count + 1)) (sym same) (is.0, omega arith)

-- a hand that put the entry of this count
pub hand_put : (number count : ℕ) (v w : QueueView Row) (e : Entry Row) → IsHandOf number count v → PutsOne v (e ∷ []) w → e.count ≡ count → IsHandOf number (count + 1) w
hand_put number count v w e is put at = subst (IsHandOf number (count + 1)) (sym (puts_it v w e put)) (is.0, omega arith)

-- New ends: a fresh end is an end of its queues.
use Rattle.std.proofs.Common.{◌≡◌, ℕ, ◌+◌, List, [], ◌∷◌, ◌++◌, length, map, sym, ap, ◌∙◌, Some, All, arith, drop, take, ◌-◌}
use lib.ListN.{length-drop}
use lib.Seq.{take_all}
use Rattle.std.proofs.lemmas.List.{drop-map, take-map}
use Rattle.std.proofs.lemmas.List.Elements.{All-cons, All-map, All-weaker}
use Rattle.atomic_blocks.specs.Lent.{RowsId}
use Rattle.std.specs.declared.alloc.Global.{Global}
use Rattle.protocol_values.specs.declared.Row.{Row}
use Rattle.meet_queues.specs.declared.entries.Entry.{Entry}
use Rattle.meet_queues.specs.declared.entries.QueueView.{QueueView}
use Rattle.meet_queues.specs.declared.ends.ReadyEnd.{ReadyEnd}
use Rattle.meet_queues.specs.declared.ready.Ready.{Ready}
use Rattle.meet_queues.specs.Ends.{IsEndOf, IsFresh, IsNewEnd, IsNewOther, IsOther, all_but, deque_of, got_of, own_deque_of, own_hand, shared_hand}

-- a fresh end is an end of its queues
pub end_of : (ready : Ready) (n : ℕ) (e : ReadyEnd) → IsFresh ready n e → All IsNewOther e.others.items → IsEndOf ready e
end_of ready n e fresh others = record {
  fifo = fresh.fifo;
  own = (
    ap (λ (v : QueueView Row). v.number) fresh.own ∙ ap (λ (k : ℕ). Some k) (sym fresh.number),
    (let none : (own_hand e).below ≡ 0 = ap (λ (v : QueueView Row). v.below) fresh.own in omega arith),
  );
  inlet = fresh.inlet;
  shared = (
    ap (λ (v : QueueView Row). v.number) fresh.shared ∙ ap (λ (k : ℕ). Some k) (sym fresh.number),
    (let none : (shared_hand e).below ≡ 0 = ap (λ (v : QueueView Row). v.below) fresh.shared in omega arith),
  );
  others = All-weaker IsNewOther IsOther (λ o is. is.0) e.others.items others;
}

abbrev Nothing : List (Entry Row) → Type 0
Nothing got = got ≡ []

pub new_end : (ready : Ready) (ends : List ReadyEnd) (ds : List (RowsId × Global)) (n : ℕ) (e : ReadyEnd) → IsFresh ready n e → All IsNewOther e.others.items
    → map deque_of e.others.items ≡ all_but n ds → map own_deque_of ends ≡ ds → IsNewEnd ends n e
new_end ready ends ds n e fresh others steals is = (
  fresh.number,
  fresh.count,
  ap (λ (v : QueueView Row). v.put) fresh.own,
  ap (λ (v : QueueView Row). v.put) fresh.shared,
  All-cons Nothing (own_hand e).got ((shared_hand e).got ∷ map got_of e.others.items) (ap (λ (v : QueueView Row). v.got) fresh.own)
      (All-cons Nothing (shared_hand e).got (map got_of e.others.items) (ap (λ (v : QueueView Row). v.got) fresh.shared)
      (All-map Nothing got_of e.others.items (All-weaker IsNewOther (λ o. Nothing (got_of o)) (λ o is_. ap (λ (v : QueueView Row). v.got) is_.1) e.others.items others))),
  steals ∙ ap (λ (l : List (RowsId × Global)). all_but n l) (sym is),
)

-- the deques after one's own, and then those before it
pub rest_of : {X Y : Type 0} (f : X → Y) (n : ℕ) (xs : List X) (start after all : List Y) → start ≡ [] → after ≡ start ++ map f (take (length xs - (n + 1)) (drop (n + 1) xs)) → all ≡ after ++ map f (take n xs) → all ≡ all_but n (map f xs)
rest_of f n xs start after all none first then =
    let whole : take (length xs - (n + 1)) (drop (n + 1) xs) ≡ drop (n + 1) xs = take_all (length xs - (n + 1)) (drop (n + 1) xs) (omega (arith, length-drop (n + 1) xs)) in
    then
    ∙ ap (λ l. l ++ map f (take n xs)) (first ∙ (λ i. none i ++ map f (whole i)))
    ∙ (λ i. sym (drop-map f (n + 1) xs) i ++ sym (take-map f n xs) i)

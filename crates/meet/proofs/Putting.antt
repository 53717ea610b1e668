-- What the passes of lanes put, one call after another.
use Rattle.std.proofs.Common.{◌≡◌, ◌<◌, ◌+◌, ℕ, zero, suc, List, [], ◌∷◌, ◌++◌, inl, inr, refl, ap, sym, subst, ◌∙◌, Some, None, map, set, get_or, length, arith}
use Rattle.std.proofs.lemmas.List.{append_assoc, append-nil, map-append}
use Rattle.std.specs.Prelude.{IfOk, MatchOption, MatchResult, Result, Ok, Err, Option}
use Rattle.cell_table.specs.Sight.{Has}
use Rattle.meet_queues.specs.declared.entries.Entry.{Entry}
use Rattle.meet_queues.specs.declared.entries.QueueView.{QueueView}
use Rattle.meet_queues.specs.declared.lane.LanePass.{LanePass}
use Rattle.meet_queues.specs.Hands.{WasEmpty}
use Rattle.meet_queues.specs.Lanes.{HasTaken, IsSame, Offered, entry, hand_of}
use Rattle.meet.specs.Rooms.{EachPutsOn, Joins, PutAt, PutMeanwhile, PutsOn, offers_put}

same_puts : (p q : LanePass) → (hand_of q).put ≡ (hand_of p).put → offers_put q ≡ offers_put p
same_puts p q same = ap (λ (entries : List (Entry Offered)). map (λ (e : Entry Offered). e.item) entries) same

nothing_more : (p q : LanePass) → q.count ≡ p.count → (hand_of q).put ≡ (hand_of p).put → PutsOn p q
nothing_more p q count same = (omega arith, ([], same_puts p q same ∙ sym (append-nil (offers_put p))))

pub same_puts_on : (p q : LanePass) → IsSame p q → PutsOn p q
same_puts_on p q same = nothing_more p q same.1 (ap (λ (h : QueueView Offered). h.put) same.2)

pub taken_puts_on : (p q : LanePass) (waiting : Offered) → HasTaken p q waiting → PutsOn p q
taken_puts_on p q waiting taken = nothing_more p q taken.1 (ap (λ (h : QueueView Offered). h.put) taken.2.2)

puts_one : (p q : LanePass) (waiting : Offered) → (hand_of q).put ≡ (hand_of p).put ++ entry waiting p ∷ [] → offers_put q ≡ offers_put p ++ waiting ∷ []
puts_one p q waiting put =
    ap (λ (entries : List (Entry Offered)). map (λ (e : Entry Offered). e.item) entries) put ∙ map-append (λ (e : Entry Offered). e.item) (hand_of p).put (entry waiting p ∷ [])

pub joins_on : (p q : LanePass) (waiting : Offered) → Joins p q waiting → PutsOn p q
joins_on p q waiting (inl put) =
    let counts : q.count ≡ p.count + 1 = put.1.1 in
    (omega arith, (waiting ∷ [], puts_one p q waiting (ap (λ (h : QueueView Offered). h.put) put.1.2)))
joins_on p q waiting (inr full) = same_puts_on p q full.1

pub joins_put : (p q : LanePass) (waiting : Offered) → Joins p q waiting → PutMeanwhile p q waiting
joins_put p q waiting (inl put) = inl (waiting ∷ [], puts_one p q waiting (ap (λ (h : QueueView Offered). h.put) put.1.2), inl refl)
joins_put p q waiting (inr full) = inr (let count = full.0 in let same : q.count ≡ p.count = full.1.1 in omega arith)

pub on_nothing : (p : LanePass) → PutsOn p p
on_nothing p = nothing_more p p refl refl

pub on_then : (p q r : LanePass) → PutsOn p q → PutsOn q r → PutsOn p r
on_then p q r first last = (
  let one = first.0 in let two = last.0 in omega arith,
  (first.1.0 ++ last.1.0, last.1.1 ∙ ap (λ (xs : List Offered). xs ++ last.1.0) first.1.1 ∙ append_assoc (offers_put p) first.1.0 last.1.0),
)

has_front : (xs ys : List Offered) (x : Offered) → Has xs x → Has (xs ++ ys) x
has_front [] ys x h = absurd h
has_front (y ∷ xs) ys x (inl is) = inl is
has_front (y ∷ xs) ys x (inr h) = inr (has_front xs ys x h)

has_back : (xs ys : List Offered) (x : Offered) → Has ys x → Has (xs ++ ys) x
has_back [] ys x h = h
has_back (y ∷ xs) ys x h = inr (has_back xs ys x h)

-- what was put meanwhile was put between an earlier and a later moment
put_between : (p q r s : LanePass) (waiting : Offered) → PutsOn p q → PutMeanwhile q r waiting → PutsOn r s → PutMeanwhile p s waiting
put_between p q r s waiting before (inl put) after = inl (
  (before.1.0 ++ put.0) ++ after.1.0,
  after.1.1 ∙ ap (λ (xs : List Offered). xs ++ after.1.0) (put.1 ∙ ap (λ (xs : List Offered). xs ++ put.0) before.1.1 ∙ append_assoc (offers_put p) before.1.0 put.0) ∙ append_assoc (offers_put p) (before.1.0 ++ put.0) after.1.0,
  has_front (before.1.0 ++ put.0) after.1.0 waiting (has_back before.1.0 put.0 waiting put.2),
)
put_between p q r s waiting before (inr full) after = inr (let more = after.0 in omega arith)

-- what a call did, by its answer
pub put_on : {E : Type 0} (p q : LanePass) (waiting : Offered) (r : Result (Unit {0}) E) → MatchResult r (λ x. Joins p q waiting) (λ x. IsSame p q) → PutsOn p q
put_on p q waiting (Ok x) joins = joins_on p q waiting joins
put_on p q waiting (Err e) same = same_puts_on p q same

pub taken_on : (p q : LanePass) (r : Option Offered) → MatchOption r (IsSame p q × WasEmpty (hand_of p)) (λ w. HasTaken p q w) → PutsOn p q
taken_on p q None same = same_puts_on p q same.0
taken_on p q (Some waiting) taken = taken_puts_on p q waiting taken

-- LISTS OF PASSES
pub each_on_nothing : (ps : List LanePass) → EachPutsOn ps ps
each_on_nothing [] = tt
each_on_nothing (p ∷ ps) = (on_nothing p, each_on_nothing ps)

pub each_on_then : (ps qs rs : List LanePass) → EachPutsOn ps qs → EachPutsOn qs rs → EachPutsOn ps rs
each_on_then [] [] rs first last = last
each_on_then [] (q ∷ qs) rs first last = absurd first
each_on_then (p ∷ ps) [] rs first last = absurd first
each_on_then (p ∷ ps) (q ∷ qs) [] first last = absurd last
each_on_then (p ∷ ps) (q ∷ qs) (r ∷ rs) first last = (on_then p q r first.0 last.0, each_on_then ps qs rs first.1 last.1)

-- another stands at one place
pub each_on_set : (ps : List LanePass) (n : ℕ) (p q : LanePass) → p ≡ get_or ps n p → PutsOn p q → EachPutsOn ps (set ps n q)
each_on_set [] n p q is on = tt
each_on_set (x ∷ ps) zero p q is on = (subst (λ (y : LanePass). PutsOn y q) is on, each_on_nothing ps)
each_on_set (x ∷ ps) (suc n) p q is on = (on_nothing x, each_on_set ps n p q is on)

pub put_at_set : (ps : List LanePass) (n : ℕ) (p q : LanePass) (waiting : Offered) → n < length ps → p ≡ get_or ps n p → PutMeanwhile p q waiting → PutAt n waiting ps (set ps n q)
put_at_set [] n p q waiting low is put = absurd (omega arith)
put_at_set (x ∷ ps) zero p q waiting low is put = (x, q, refl, refl, subst (λ (y : LanePass). PutMeanwhile y q waiting) is put)
put_at_set (x ∷ ps) (suc n) p q waiting low is put = put_at_set ps n p q waiting (omega arith) is put

pub put_meanwhile : {E : Type 0} (ps : List LanePass) (n : ℕ) (p q : LanePass) (waiting : Offered) (r : Result (Unit {0}) E) → n < length ps → p ≡ get_or ps n p
    → MatchResult r (λ x. Joins p q waiting) (λ x. IsSame p q) → IfOk r (λ x. PutAt n waiting ps (set ps n q))
put_meanwhile ps n p q waiting (Ok x) low is joins = put_at_set ps n p q waiting low is (joins_put p q waiting joins)
put_meanwhile ps n p q waiting (Err e) low is same = tt

pub put_at_between : (ps qs rs ss : List LanePass) (n : ℕ) (waiting : Offered) → EachPutsOn ps qs → PutAt n waiting qs rs → EachPutsOn rs ss → PutAt n waiting ps ss
put_at_between [] [] rs ss n waiting before put after = let bad : None ≡ Some put.0 = put.2 in cc
put_at_between [] (q ∷ qs) rs ss n waiting before put after = absurd before
put_at_between (p ∷ ps) [] rs ss n waiting before put after = absurd before
put_at_between (p ∷ ps) (q ∷ qs) [] ss n waiting before put after = let bad : None ≡ Some put.1 = put.3 in cc
put_at_between (p ∷ ps) (q ∷ qs) (r ∷ rs) [] n waiting before put after = absurd after
put_at_between (p ∷ ps) (q ∷ qs) (r ∷ rs) (s ∷ ss) zero waiting before put after =
    let first : put.0 ≡ q = same_pass put.0 q put.2 in
    let last : put.1 ≡ r = same_pass put.1 r put.3 in (
      p,
      s,
      refl,
      refl,
      put_between p q r s waiting before.0 (subst (λ (x : LanePass). PutMeanwhile x r waiting) first (subst (λ (x : LanePass). PutMeanwhile put.0 x waiting) last put.4)) after.0,
    )
  where
    same_pass : (x y : LanePass) → Some y ≡ Some x → x ≡ y
    same_pass x y e = cc
put_at_between (p ∷ ps) (q ∷ qs) (r ∷ rs) (s ∷ ss) (suc n) waiting before put after = put_at_between ps qs rs ss n waiting before.1 put after.1

-- so it is where an earlier call put on
pub put_at_later : {E : Type 0} (ps qs rs : List LanePass) (n : ℕ) (waiting : Offered) (r : Result (Unit {0}) E) → EachPutsOn ps qs → IfOk r (λ x. PutAt n waiting qs rs) → IfOk r (λ x. PutAt n waiting ps rs)
put_at_later ps qs rs n waiting (Ok x) before put = put_at_between ps qs rs rs n waiting before put (each_on_nothing rs)
put_at_later ps qs rs n waiting (Err e) before put = tt

-- what a call came to is what its caller comes to
pub ok_then : {X E P Q : Type 0} (r : Result X E) → (P → Q) → IfOk r (λ x. P) → IfOk r (λ x. Q)
ok_then (Ok x) f p = f p
ok_then (Err e) f p = tt

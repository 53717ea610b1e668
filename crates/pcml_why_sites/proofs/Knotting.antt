-- The greatest set of a relation of which the pairs are known.
use Rattle.std.proofs.Common.{◌≡◌, ◌==◌, ◌&&◌, ◌||◌, ℕ, zero, suc, ◌<◌, ⊎_elim, ◌⊎◌, inl, inr, Bool, true, false, not, if◌then◌else◌, List, [], ◌∷◌, ◌++◌, length, get_or, refl, sym, ap, ◌∙◌, subst, arith, eq-eqb, Option, Some, None, slice_get, set}
use Rattle.std.specs.List.{list_any}
use Rattle.std.proofs.lemmas.List.Folds.{list_any-append}
use Rattle.std.proofs.lemmas.List.{get_or-set_other}
use Rattle.std.proofs.lemmas.Option.{slice_get_within}
use Rattle.std.proofs.lemmas.Bool.{eqb-true, false≢true}
use Rattle.journal_text.specs.Names.{Naming}
use Rattle.pcml_why_sites.specs.declared.site.Site.{Site}
use Rattle.pcml_why_sites.specs.Writing.{Written}
use Rattle.pcml_why_sites.specs.Knots.{IsClosed, IsKnot, could_serve, has_former, has_next, is_held, is_pair, members_below, offers_at, pairs_below, pairs_of, waits_at, waits_for}

-- TESTS

both : (x y : Bool) → x ≡ true → y ≡ true → (x && y) ≡ true
both x y p q = rw (p, q) refl

parts : (x y : Bool) → (x && y) ≡ true → (x ≡ true) × (y ≡ true)
parts true y e = (refl, e)
parts false y e = absurd (false≢true e)

either : (x y : Bool) → (x || y) ≡ true → (x ≡ true) ⊎ (y ≡ true)
either true y e = inl refl
either false y e = inr e

first : (x y : Bool) → x ≡ true → (x || y) ≡ true
first x y e = rw e refl

second : (x y : Bool) → y ≡ true → (x || y) ≡ true
second true y e = refl
second false y e = e

alike : (x y : Bool) → (x ≡ true → y ≡ true) → (y ≡ true → x ≡ true) → x ≡ y
alike true y f g = sym (f refl)
alike false true f g = g refl
alike false false f g = refl

-- an element that passes the test; each test that it passes is passed by some element
some : {X : Type 0} (f : X → Bool) (xs : List X) → list_any f xs ≡ true → (x : X) × (f x ≡ true) × ((g : X → Bool) → g x ≡ true → list_any g xs ≡ true)
some f [] e = absurd (false≢true e)
some f (x ∷ xs) e =
    ⊎_elim
    (λ here. (x, here, λ g passes. first (g x) (list_any g xs) passes))
    (λ there. let w = some f xs there in (w.0, w.1, λ g passes. second (g x) (list_any g xs) (w.2 g passes)))
    (either (f x) (list_any f xs) e)

-- WHAT HOLDS A MEMBER

pub next-in : (pairs : List (ℕ × ℕ)) (members : List Bool) (a : ℕ) → has_next pairs members a ≡ true → (b : ℕ) × (get_or members b false ≡ true) × (is_pair pairs a b ≡ true)
next-in pairs members a e =
    let w = some (λ (p : ℕ × ℕ). (p.0 == a) && get_or members p.1 false) pairs e in
    let is = parts (w.0.0 == a) (get_or members w.0.1 false) w.1 in
    (w.0.1, is.1, w.2 (λ p. (p.0 == a) && (p.1 == w.0.1)) (both (w.0.0 == a) (w.0.1 == w.0.1) is.0 (eq-eqb w.0.1 w.0.1 refl)))

pub former-in : (pairs : List (ℕ × ℕ)) (members : List Bool) (a : ℕ) → has_former pairs members a ≡ true → (b : ℕ) × (get_or members b false ≡ true) × (is_pair pairs b a ≡ true)
former-in pairs members a e =
    let w = some (λ (p : ℕ × ℕ). (p.1 == a) && get_or members p.0 false) pairs e in
    let is = parts (w.0.1 == a) (get_or members w.0.0 false) w.1 in
    (w.0.0, is.1, w.2 (λ p. (p.0 == w.0.0) && (p.1 == a)) (both (w.0.0 == w.0.0) (w.0.1 == a) (eq-eqb w.0.0 w.0.0 refl) is.0))

next-out : (pairs : List (ℕ × ℕ)) (members : List Bool) (a b : ℕ) → is_pair pairs a b ≡ true → get_or members b false ≡ true → has_next pairs members a ≡ true
next-out pairs members a b e member =
    let w = some (λ (p : ℕ × ℕ). (p.0 == a) && (p.1 == b)) pairs e in
    let is = parts (w.0.0 == a) (w.0.1 == b) w.1 in
    w.2 (λ p. (p.0 == a) && get_or members p.1 false)
    (both (w.0.0 == a) (get_or members w.0.1 false) is.0 (ap (λ (n : ℕ). get_or members n false) (eqb-true w.0.1 b is.1) ∙ member))

former-out : (pairs : List (ℕ × ℕ)) (members : List Bool) (a b : ℕ) → is_pair pairs b a ≡ true → get_or members b false ≡ true → has_former pairs members a ≡ true
former-out pairs members a b e member =
    let w = some (λ (p : ℕ × ℕ). (p.0 == b) && (p.1 == a)) pairs e in
    let is = parts (w.0.0 == b) (w.0.1 == a) w.1 in
    w.2 (λ p. (p.1 == a) && get_or members p.0 false)
    (both (w.0.1 == a) (get_or members w.0.0 false) is.1 (ap (λ (n : ℕ). get_or members n false) (eqb-true w.0.0 b is.0) ∙ member))

-- TAKING ONE AWAY

-- every closed set is within
abbrev pub IsWide : ℕ → List (ℕ × ℕ) → List Bool → Type 0
IsWide count pairs members = (is_other : ℕ → Bool) → IsClosed count (is_pair pairs) is_other → (a : ℕ) → is_other a ≡ true → get_or members a false ≡ true

held : (count : ℕ) (pairs : List (ℕ × ℕ)) (members : List Bool) → IsWide count pairs members → (is_other : ℕ → Bool) → IsClosed count (is_pair pairs) is_other → (a : ℕ) → is_other a ≡ true → is_held pairs members a ≡ true
held count pairs members wide is_other closed a member =
    let n = closed.next a member in
    let m = closed.former a member in
    both (has_next pairs members a) (has_former pairs members a)
    (next-out pairs members a n.0 n.2 (wide is_other closed n.0 n.1))
    (former-out pairs members a m.0 m.2 (wide is_other closed m.0 m.1))

pub still-wide : (count : ℕ) (pairs : List (ℕ × ℕ)) (members : List Bool) (a : ℕ) → is_held pairs members a ≡ false → IsWide count pairs members → IsWide count pairs (set members a false)
still-wide count pairs members a loose wide is_other closed b member =
    get_or-set_other members a b false false (λ (e : b ≡ a). false≢true (sym loose ∙ held count pairs members wide is_other closed a (ap is_other (sym e) ∙ member)))
    ∙ wide is_other closed b member

pub member-within : (members : List Bool) (a : ℕ) → get_or members a false ≡ true → a < length members
member-within [] a e = absurd (false≢true e)
member-within (x ∷ members) zero e = omega arith
member-within (x ∷ members) (suc a) e = let within = member-within members a e in omega arith

-- what is left when nothing is to be taken away
pub is-knot : (count : ℕ) (pairs : List (ℕ × ℕ)) (members : List Bool) (knot : List ℕ) → length members ≡ count → IsWide count pairs members
    → ((a : ℕ) → a < length members → get_or members a false ≡ true → is_held pairs members a ≡ true)
    → knot ≡ members_below (λ a. get_or members a false) (length members) → IsKnot count (is_pair pairs) knot
is-knot count pairs members knot same wide each told = record {
  is_member = λ a. get_or members a false;
  closed = record {
    within = λ a e. subst (λ (n : ℕ). a < n) same (member-within members a e);
    next = λ a e. next-in pairs members a (parts (has_next pairs members a) (has_former pairs members a) (each a (member-within members a e) e)).0;
    former = λ a e. former-in pairs members a (parts (has_next pairs members a) (has_former pairs members a) (each a (member-within members a e) e)).1;
  };
  greatest = wide;
  are = told ∙ ap (λ (n : ℕ). members_below (λ a. get_or members a false) n) same;
}

closed-same : (count : ℕ) (w v : ℕ → ℕ → Bool) (is_member : ℕ → Bool) → ((a b : ℕ) → w a b ≡ v a b) → IsClosed count w is_member → IsClosed count v is_member
closed-same count w v is_member same closed = record {
  within = closed.within;
  next = λ a e. let n = closed.next a e in (n.0, n.1, sym (same a n.0) ∙ n.2);
  former = λ a e. let n = closed.former a e in (n.0, n.1, sym (same n.0 a) ∙ n.2);
}

-- a relation that is the same has the same knot
pub same-knot : (count : ℕ) (w v : ℕ → ℕ → Bool) (knot : List ℕ) → ((a b : ℕ) → w a b ≡ v a b) → IsKnot count w knot → IsKnot count v knot
same-knot count w v knot same is = record {
  is_member = is.is_member;
  closed = closed-same count w v is.is_member same is.closed;
  greatest = λ is_other closed. is.greatest is_other (closed-same count v w is_other (λ a b. sym (same a b)) closed);
  are = is.are;
}

-- THE PAIRS

one-sound : (w : ℕ → ℕ → Bool) (a n x y : ℕ) → w a n ≡ true → ((a == x) && (n == y)) ≡ true → w x y ≡ true
one-sound w a n x y waits is =
    let e = parts (a == x) (n == y) is in
    ap (λ (k : ℕ). w k y) (sym (eqb-true a x e.0)) ∙ ap (λ (k : ℕ). w a k) (sym (eqb-true n y e.1)) ∙ waits

more-sound : (w : ℕ → ℕ → Bool) (a n x y : ℕ) (b : Bool) → w a n ≡ b → (is_pair (pairs_of w a n) x y ≡ true → w x y ≡ true)
    → is_pair (if b then pairs_of w a n ++ (a, n) ∷ [] else pairs_of w a n) x y ≡ true → w x y ≡ true
more-sound w a n x y true waits before h =
    ⊎_elim
    before
    (λ last. ⊎_elim (λ here. one-sound w a n x y waits here) (λ none. absurd (false≢true none)) (either ((a == x) && (n == y)) false last))
    (either (is_pair (pairs_of w a n) x y) (((a == x) && (n == y)) || false) (sym (list_any-append (λ (p : ℕ × ℕ). (p.0 == x) && (p.1 == y)) (pairs_of w a n) ((a, n) ∷ [])) ∙ h))
more-sound w a n x y false waits before h = before h

of-sound : (w : ℕ → ℕ → Bool) (a n x y : ℕ) → is_pair (pairs_of w a n) x y ≡ true → w x y ≡ true
of-sound w a zero x y e = absurd (false≢true e)
of-sound w a (suc n) x y e = more-sound w a n x y (w a n) refl (of-sound w a n x y) e

below-sound : (w : ℕ → ℕ → Bool) (count n x y : ℕ) → is_pair (pairs_below w count n) x y ≡ true → w x y ≡ true
below-sound w count zero x y e = absurd (false≢true e)
below-sound w count (suc n) x y e =
    ⊎_elim
    (λ before. below-sound w count n x y before)
    (λ last. of-sound w n count x y last)
    (either (is_pair (pairs_below w count n) x y) (is_pair (pairs_of w n count) x y) (sym (list_any-append (λ (p : ℕ × ℕ). (p.0 == x) && (p.1 == y)) (pairs_below w count n) (pairs_of w n count)) ∙ e))

below-or-at : (y n : ℕ) → y < suc n → (y < n) ⊎ (y ≡ n)
below-or-at zero zero within = inr refl
below-or-at zero (suc n) within = inl (omega arith)
below-or-at (suc y) zero within = absurd (omega arith)
below-or-at (suc y) (suc n) within = ⊎_elim (λ (h : y < n). inl (omega arith)) (λ (h : y ≡ n). inr (ap suc h)) (below-or-at y n (omega arith))

more-complete : (w : ℕ → ℕ → Bool) (a n y : ℕ) (b : Bool) → w a n ≡ b → w a y ≡ true → (y < n → is_pair (pairs_of w a n) a y ≡ true) → (y < n) ⊎ (y ≡ n)
    → is_pair (if b then pairs_of w a n ++ (a, n) ∷ [] else pairs_of w a n) a y ≡ true
more-complete w a n y true is waits before place =
    list_any-append (λ (p : ℕ × ℕ). (p.0 == a) && (p.1 == y)) (pairs_of w a n) ((a, n) ∷ [])
    ∙ ⊎_elim
    (λ (lower : y < n). first (is_pair (pairs_of w a n) a y) (((a == a) && (n == y)) || false) (before lower))
    (λ (here : y ≡ n). second (is_pair (pairs_of w a n) a y) (((a == a) && (n == y)) || false) (first ((a == a) && (n == y)) false (both (a == a) (n == y) (eq-eqb a a refl) (eq-eqb n y (sym here)))))
    place
more-complete w a n y false is waits before place =
    ⊎_elim before (λ (here : y ≡ n). absurd (false≢true (sym is ∙ ap (λ (k : ℕ). w a k) (sym here) ∙ waits))) place

of-complete : (w : ℕ → ℕ → Bool) (a n y : ℕ) → y < n → w a y ≡ true → is_pair (pairs_of w a n) a y ≡ true
of-complete w a zero y within waits = absurd (omega arith)
of-complete w a (suc n) y within waits = more-complete w a n y (w a n) refl waits (λ lower. of-complete w a n y lower waits) (below-or-at y n within)

below-complete : (w : ℕ → ℕ → Bool) (count n x y : ℕ) → x < n → y < count → w x y ≡ true → is_pair (pairs_below w count n) x y ≡ true
below-complete w count zero x y within inside waits = absurd (omega arith)
below-complete w count (suc n) x y within inside waits =
    list_any-append (λ (p : ℕ × ℕ). (p.0 == x) && (p.1 == y)) (pairs_below w count n) (pairs_of w n count)
    ∙ ⊎_elim
    (λ (before : x < n). first (is_pair (pairs_below w count n) x y) (is_pair (pairs_of w n count) x y) (below-complete w count n x y before inside waits))
    (λ (here : x ≡ n). second (is_pair (pairs_below w count n) x y) (is_pair (pairs_of w n count) x y)
    (subst (λ (k : ℕ). is_pair (pairs_of w k count) x y ≡ true) here (of-complete w x count y inside waits)))
    (below-or-at x n within)

-- THE RELATION

some-site : (sites : List Site) (b : ℕ) (s : Option Site) → slice_get sites b ≡ s → waits_at s ≡ true → b < length sites
some-site sites b None is e = absurd (false≢true e)
some-site sites b (Some s) is e = slice_get_within sites b s is

some-offers : (names : Naming) (texts : List (List Written)) (sites : List Site) (a b : ℕ) (s : Option Site) → slice_get sites a ≡ s → list_any (λ o. could_serve names texts sites b o.base) (offers_at s) ≡ true → a < length sites
some-offers names parts sites a b None is e = absurd (false≢true e)
some-offers names parts sites a b (Some s) is e = slice_get_within sites a s is

waits-within : (names : Naming) (lists : List (List Written)) (sites : List Site) (a b : ℕ) → waits_for names lists sites a b ≡ true → (a < length sites) × (b < length sites)
waits-within names lists sites a b e =
    let offers = list_any (λ o. could_serve names lists sites b o.base) (offers_at (slice_get sites a)) in
    let more = parts (waits_at (slice_get sites b)) offers (parts (not (a == b)) (waits_at (slice_get sites b) && offers) e).1 in
    (some-offers names lists sites a b (slice_get sites a) refl more.1, some-site sites b (slice_get sites b) refl more.0)

-- the pairs are those of the relation
pub are-pairs : (names : Naming) (lists : List (List Written)) (sites : List Site) (a b : ℕ) →
    is_pair (pairs_below (waits_for names lists sites) (length sites) (length sites)) a b ≡ waits_for names lists sites a b
are-pairs names lists sites a b =
    alike (is_pair (pairs_below (waits_for names lists sites) (length sites) (length sites)) a b) (waits_for names lists sites a b)
    (below-sound (waits_for names lists sites) (length sites) (length sites) a b)
    (λ e. let within = waits-within names lists sites a b e in below-complete (waits_for names lists sites) (length sites) (length sites) a b within.0 within.1 e)

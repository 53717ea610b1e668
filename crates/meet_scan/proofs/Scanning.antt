-- Whom a scan passed by or missed stays so, and of two left rows one was seen committed or taken.
use Rattle.std.proofs.Common.{◌≡◌, ◌≢◌, ◌⊎◌, ◌<◌, ◌≤◌, ◌+◌, ◌*◌, ℕ, refl, inl, inr, ⊎_elim, ap, sym, subst, ◌∙◌, Bool, true, false, not, arith}
use Rattle.std.proofs.Common.{lt_of_not-le}
use mathlib.Core.Logic.{dite}
use native.Mathlib.Decide.{dec_le, ℕ_discrete}
use Rattle.std.specs.Bool.{then_some}
use Rattle.std.proofs.lemmas.Bool.{true≢false}
use Rattle.std.proofs.lemmas.List.{get_or-set_same, get_or-set_other}
use Rattle.std.specs.Prelude.{IfNone, IfSome, List, MatchOption, length, set, Option, Some, None, get_or, unwrap_or, is_some}
use Rattle.protocol_values.specs.Words.{count_of, head_of}
use Rattle.protocol_values.specs.declared.Direction.{Direction}
use Rattle.protocol_values.specs.declared.Direction.TheVariants.{Always, Never, OnEnd, OnNack, Recv, Send}
use Rattle.std.proofs.lemmas.Bool.{eqb-true, eq-eqb}
use Rattle.protocol_values.specs.declared.Row.{Row}
use Rattle.protocol_values.specs.Values.{directions_meet}
use Rattle.cell_table.specs.declared.view.Seen.{Seen}
use Rattle.cell_table.specs.Sight.{Coherent, Has, HaveDirection, LackOffer, SawCommitted}
use Rattle.meet_directory.specs.declared.view.View.{View}
use Rattle.meet_directory.specs.Directory.{HasBit, Missed, NoBitBetween, NoPairMissed, Opened, Published, glimpse, saw, Has as HasMark}
use Rattle.meet_scan.specs.Leaving.{ArePublished, AreRead, CannotPass, ComesTo, IsDoneWith, IsHeldUp, IsHeldUpBy, IsLeft, IsLeftAt, IsLeftFor, IsLeftRow, IsPast, IsTried, IsTriedAt, IsTriedFor, KnowsMore, MeetsNoneAt, NoPairLeft, PassedBy, ScansTo, TriesFirst, sides_of}
use Rattle.meet_scan.specs.Searches.{FoundAt, Grows, LacksAt, Leaves, Lists}
use Rattle.meet_scan.specs.Steps.{SearchMade, found_or_left}
use Rattle.protocol_values.specs.declared.Step.{Step}
use Rattle.cell_table.specs.Nacks.{CanStandAlone}
use Rattle.meet_scan.specs.declared.found.Found.{Found}
use Rattle.meet_scan.specs.declared.found.Found.TheVariants.{Met, Alone, Already, Waits}
use Rattle.meet_scan.proofs.Growing.{NeedsPartner, grows_nothing, grows_then, saw_more, seen_more, stands_never}
use Rattle.meet_scan.proofs.Making.{keeps_nothing, keeps_then, made_then, tries_nothing}
use Rattle.cell.specs.Attempts.{CanMeet}
use Rattle.cell.specs.Calls.{GridOf, IsPassOf, KeepsResults, PassOf}
use Rattle.atomic_table.specs.declared.shared.Seat.{Seat}
use Rattle.meet_directory.specs.declared.directory.Directory.{Directory}
use Rattle.meet_directory.specs.Seats.{Sits}

pub have_more : (s t : Seen) (r : Row) (k : ℕ) (d : Direction) → Grows s t → HaveDirection s.words r k d → HaveDirection t.words r k d
have_more s t r k d g h = record { count = h.count; counted = g.words.0 (r, 1, h.count) h.counted; below = h.below; head = h.head; has_head = g.words.0 (r, 2 + 4 * k, h.head) h.has_head; scopes = h.scopes; is = h.is }

pub none_at_more : (s t : Seen) (r : Row) (d : Direction) (k : ℕ) → Grows s t → MeetsNoneAt s r d k → MeetsNoneAt t r d k
none_at_more s t r d k g (inl l) = inl (l.0, g.words.0 (r, 1, l.0) l.1, l.2)
none_at_more s t r d k g (inr (e, have, apart)) = inr (e, have_more s t r k e g have, apart)

pub passed_more : (s t : Seen) (r : Row) (d : Direction) → Grows s t → PassedBy s r d → PassedBy t r d
passed_more s t r d g (inl c) = inl (saw_more s t r g c)
passed_more s t r d g (inr (inl none)) = inr (inl (λ k low. none_at_more s t r d k g (none k low)))
passed_more s t r d g (inr (inr p)) = inr (inr (p.0, p.1, p.2, g.opened.0 p.0 p.3))

-- who lacks offer n has none behind it
pub lacks_behind : (s : Seen) (r : Row) (n k : ℕ) → n ≤ k → LackOffer s.words r n → LackOffer s.words r k
lacks_behind s r n k far l = let few = l.2 in (l.0, l.1, omega arith)

pub all_next : (s t : Seen) (r : Row) (d : Direction) (n : ℕ) → Grows s t → ((k : ℕ) → k < n → MeetsNoneAt s r d k) → MeetsNoneAt t r d n → (k : ℕ) → k < n + 1 → MeetsNoneAt t r d k
all_next s t r d n g before here k low = dite (ℕ_discrete k n)
    (λ (e : k ≡ n). subst (λ (z : ℕ). MeetsNoneAt t r d z) (sym e) here)
    (λ (ne : k ≢ n). none_at_more s t r d k g (before k (omega arith)))

pub lacks_all : (s t : Seen) (r : Row) (d : Direction) (n : ℕ) → Grows s t → ((k : ℕ) → k < n → MeetsNoneAt s r d k) → LackOffer t.words r n → (k : ℕ) → MeetsNoneAt t r d k
lacks_all s t r d n g before lacks k = dite (dec_le n k)
    (λ (far : n ≤ k). inl (lacks_behind t r n k far lacks))
    (λ (near : ¬ (n ≤ k)). none_at_more s t r d k g (before k (lt_of_not-le near)))

-- WHOM THE BOARD SHOWS
pub more_nothing : (v : View) → KnowsMore v v
more_nothing v = (λ m h. h, λ a h. h)

pub more_then : (u v w : View) → KnowsMore u v → KnowsMore v w → KnowsMore u w
more_then u v w f g = (λ m h. g.0 m (f.0 m h), λ a h. g.1 a (f.1 a h))

pub more_saw : (v w : View) (i n : ℕ) → w ≡ saw i n v → KnowsMore v w
more_saw v w i n e = subst (λ (z : View). KnowsMore v z) (sym e) (λ m h. inr h, λ a h. inr h)

pub saw_it : (v w : View) (i n : ℕ) → w ≡ saw i n v → HasMark w.looks (glimpse i n v)
saw_it v w i n e = subst (λ (z : View). HasMark z.looks (glimpse i n v)) (sym e) (inl refl)

pub published_more : (v w : View) (t g l : ℕ) → KnowsMore v w → Published v.marks t g l → Published w.marks t g l
published_more v w t g l more p = ((p.0.0, more.0 (t, p.0.0) p.0.1, p.0.2), (p.1.0, more.0 (64 + l, p.1.0) p.1.1, p.1.2))

pub missed_more : (v w : View) (t g l u h k : ℕ) → KnowsMore v w → Missed v t g l u h k → Missed w t g l u h k
missed_more v w t g l u h k more m = (m.0, more.1 m.0 m.1, m.2, m.3)

pub done_more : (v w : View) (s t : Seen) (r : Row) (d : Direction) (own other u : ℕ) → KnowsMore v w → Grows s t → IsDoneWith v s r d own other u → IsDoneWith w t r d own other u
done_more v w s t r d own other u more g done q at = ⊎_elim
    (λ (m : Missed v r.thread r.sync own q.thread q.sync other). inl (missed_more v w r.thread r.sync own q.thread q.sync other more m))
    (λ (p : PassedBy s q d). inr (passed_more s t q d g p))
    (done q at)

-- no bit of the thread stands on the side
pub no_bit : (v w : View) (s : Seen) (r : Row) (d : Direction) (own other u word : ℕ) → Published v.marks r.thread r.sync own → HasMark w.looks (glimpse (64 + other) word v) → (¬ HasBit word u) → IsDoneWith w s r d own other u
no_bit v w s r d own other u word published look none q at = inl (glimpse (64 + other) word v, look, published, inl (refl, λ h. none (subst (λ (z : ℕ). HasBit word z) at h)))

-- the thread has opened no row
pub no_row : (v w : View) (s : Seen) (r : Row) (d : Direction) (own other u : ℕ) → Published v.marks r.thread r.sync own → HasMark w.looks (glimpse u 0 v) → IsDoneWith w s r d own other u
no_row v w s r d own other u published look q at = inl (glimpse u 0 v, look, published, inr (sym at, omega arith))

-- its newest row was passed by: earlier ones were taken, and later ones are not there
pub newest_done : (v w : View) (s : Seen) (r newest : Row) (d : Direction) (own other count : ℕ) → Published v.marks r.thread r.sync own → HasMark w.looks (glimpse newest.thread count v)
    → count ≡ newest.sync + 1 → PassedBy s newest d → Has s.opened newest → IsDoneWith w s r d own other newest.thread
newest_done v w s r newest d own other count published look is passed opened q at = dite (dec_le count q.sync)
    (λ (late : count ≤ q.sync). inl (glimpse newest.thread count v, look, published, inr (sym at, late)))
    (λ (early : ¬ (count ≤ q.sync)). dite (ℕ_discrete q.sync newest.sync)
    (λ (e : q.sync ≡ newest.sync). let same : newest ≡ q = (λ i. record { thread = sym at i; sync = sym e i }) in inr (subst (λ (z : Row). PassedBy s z d) same passed))
    (λ (ne : q.sync ≢ newest.sync). inr (inr (inr (newest, sym at, (let low = lt_of_not-le early in omega arith), opened)))))

-- the threads below this one are done with
abbrev pub AreDone : View → Seen → Row → Direction → ℕ → ℕ → ℕ → Type 0
AreDone v s r d own other n = (u : ℕ) → u < n → u ≢ r.thread → IsDoneWith v s r d own other u

pub done_next : (v w : View) (s t : Seen) (r : Row) (d : Direction) (own other n : ℕ) → KnowsMore v w → Grows s t → AreDone v s r d own other n → (n ≢ r.thread → IsDoneWith w t r d own other n) → AreDone w t r d own other (n + 1)
done_next v w s t r d own other n more g before here u low apart = dite (ℕ_discrete u n)
    (λ (e : u ≡ n). subst (λ (z : ℕ). IsDoneWith w t r d own other z) (sym e) (here (λ h. apart (e ∙ h))))
    (λ (ne : u ≢ n). done_more v w s t r d own other u more g (before u (omega arith) apart))

-- those without a bit are done with
pub done_to : (v w : View) (s : Seen) (r : Row) (d : Direction) (own other from to word : ℕ) → Published v.marks r.thread r.sync own → HasMark w.looks (glimpse (64 + other) word v) → NoBitBetween word from to
    → AreDone w s r d own other from → AreDone w s r d own other to
done_to v w s r d own other from to word published look none before u low apart = dite (dec_le from u)
    (λ (far : from ≤ u). no_bit v w s r d own other u word published look (none u far low))
    (λ (near : ¬ (from ≤ u)). before u (lt_of_not-le near) apart)

pub all_done : (v : View) (s : Seen) (r : Row) (d : Direction) (own other n : ℕ) → 64 ≤ n → AreDone v s r d own other n → IsLeft v s r d own other
all_done v s r d own other n far done q low apart = done q.thread (omega arith) apart q refl

-- NOBODY IS LEFT: of two rows that offer to each other, one was seen committed, or is past
module _ (threads rows : ℕ) (s : Seen) (agree : Coherent threads rows s) where
  -- an offer that was read meets, so it is none of those that do not
  not_none : (r : Row) (d e : Direction) (k : ℕ) → HaveDirection s.words r k e → directions_meet d e ≡ true → MeetsNoneAt s r d k → ⊥
  not_none r d e k have meet (inl l) =
      let one : have.count ≡ l.0 = agree.one_word r 1 have.count l.0 have.counted l.1 in
      let below = subst (λ (c : ℕ). k < unwrap_or (count_of c) 0) one have.below in
      let few = l.2 in omega arith
  not_none r d e k have meet (inr (f, other, apart)) =
      let one : have.head ≡ other.head = agree.one_word r _ have.head other.head have.has_head other.has_head in
      let same = ap (λ (o : Option _). o) (sym have.is ∙ ap head_of one ∙ other.is) in
      let way : e ≡ f = ap (λ (o : Option _). (unwrap_or o (record { direction = e; scopes = 0 })).direction) same in
      true≢false (sym meet ∙ ap (directions_meet d) way ∙ apart)

  Done : Row → Type 0
  Done r = SawCommitted s r ⊎ IsPast s r

  passed_done : (r : Row) (d e : Direction) (k : ℕ) → k < 8 → HaveDirection s.words r k e → directions_meet d e ≡ true → PassedBy s r d → SawCommitted s r ⊎ IsPast s r
  passed_done r d e k low have meet (inl c) = inl c
  passed_done r d e k low have meet (inr (inl none)) = absurd (not_none r d e k have meet (none k low))
  passed_done r d e k low have meet (inr (inr p)) = inr p

  pub nobody_left : (v : View) → NoPairMissed v → (q r : Row) (d e : Direction) (i j l m : ℕ) → q.thread < 64 → r.thread < 64 → q.thread ≢ r.thread → i < 8 → j < 8
      → HaveDirection s.words q i d → HaveDirection s.words r j e → directions_meet d e ≡ true → directions_meet e d ≡ true
      → IsLeft v s q d l m → IsLeft v s r e m l
      → (SawCommitted s q ⊎ IsPast s q) ⊎ (SawCommitted s r ⊎ IsPast s r)
  nobody_left v none q r d e i j l m low low' apart fi fj hq hr meet back left_q left_r = ⊎_elim
      (λ (missed : Missed v q.thread q.sync l r.thread r.sync m). ⊎_elim
      (λ (too : Missed v r.thread r.sync m q.thread q.sync l). absurd (none q.thread q.sync l r.thread r.sync m low low' missed too))
      (λ (passed : PassedBy s q e). inl (passed_done q e d i fi hq back passed))
      (left_r q low apart))
      (λ (passed : PassedBy s r d). inr (passed_done r d e j fj hr meet passed))
      (left_q r low' (λ h. apart (sym h)))

-- ROWS WITH ALL THEIR OFFERS
pub left_more : (v w : View) (s t : Seen) (r : Row) (d : Direction) (l m : ℕ) → KnowsMore v w → Grows s t → IsLeft v s r d l m → IsLeft w t r d l m
left_more v w s t r d l m more g left q low apart = ⊎_elim
    (λ (x : Missed v r.thread r.sync l q.thread q.sync m). inl (missed_more v w r.thread r.sync l q.thread q.sync m more x))
    (λ (p : PassedBy s q d). inr (passed_more s t q d g p))
    (left q low apart)

pub lack_more : (s t : Seen) (r : Row) (n : ℕ) → Grows s t → LackOffer s.words r n → LackOffer t.words r n
lack_more s t r n g l = (l.0, g.words.0 (r, 1, l.0) l.1, l.2)

pub left_at_more : (v w : View) (s t : Seen) (r : Row) (n : ℕ) → KnowsMore v w → Grows s t → IsLeftAt v s r n → IsLeftAt w t r n
left_at_more v w s t r n more g (inl l) = inl (lack_more s t r n g l)
left_at_more v w s t r n more g (inr (d, have, left)) = inr (d, have_more s t r n d g have, λ l m e. left_more v w s t r d l m more g (left l m e))

-- those below n, and n
pub next_of : (P Q : ℕ → Type 0) (n : ℕ) → ((k : ℕ) → P k → Q k) → ((k : ℕ) → k < n → P k) → Q n → (k : ℕ) → k < n + 1 → Q k
next_of P Q n more before here k low = dite (ℕ_discrete k n)
    (λ (e : k ≡ n). subst Q (sym e) here)
    (λ (ne : k ≢ n). more k (before k (omega arith)))

-- those below n, and all behind it, since the row lacks n
pub rest_of : (P Q : ℕ → Type 0) (n : ℕ) → ((k : ℕ) → P k → Q k) → ((k : ℕ) → k < n → P k) → ((k : ℕ) → n ≤ k → Q k) → (k : ℕ) → Q k
rest_of P Q n more before behind k = dite (dec_le n k)
    (λ (far : n ≤ k). behind k far)
    (λ (near : ¬ (n ≤ k)). more k (before k (lt_of_not-le near)))

-- sides of offers that meet cross
pub crossing : (d e : Direction) → directions_meet d e ≡ true → (l : ℕ) × (m : ℕ) × (sides_of d ≡ Some (l, m)) × (sides_of e ≡ Some (m, l)) × (directions_meet e d ≡ true)
crossing (Send c a) (Recv k) h = let same : c ≡ k = eqb-true c k h in (2 * c, 2 * c + 1, refl, ap (λ (z : ℕ). Some (2 * z + 1, 2 * z)) (sym same), (eq-eqb k c (sym same)))
crossing (Recv c) (Send k a) h = let same : c ≡ k = eqb-true c k h in (2 * c + 1, 2 * c, refl, ap (λ (z : ℕ). Some (2 * z, 2 * z + 1)) (sym same), (eq-eqb k c (sym same)))
crossing (Send c a) (Send k b) h = absurd (true≢false (sym h))
crossing (Send c a) (Always b) h = absurd (true≢false (sym h))
crossing (Send c a) (OnNack n) h = absurd (true≢false (sym h))
crossing (Send c a) (OnEnd p) h = absurd (true≢false (sym h))
crossing (Send c a) Never h = absurd (true≢false (sym h))
crossing (Recv c) (Recv k) h = absurd (true≢false (sym h))
crossing (Recv c) (Always b) h = absurd (true≢false (sym h))
crossing (Recv c) (OnNack n) h = absurd (true≢false (sym h))
crossing (Recv c) (OnEnd p) h = absurd (true≢false (sym h))
crossing (Recv c) Never h = absurd (true≢false (sym h))
crossing (Always a) e h = absurd (true≢false (sym h))
crossing (OnNack n) e h = absurd (true≢false (sym h))
crossing (OnEnd p) e h = absurd (true≢false (sym h))
crossing Never e h = absurd (true≢false (sym h))

module _ (threads rows : ℕ) (s : Seen) (agree : Coherent threads rows s) where
  -- the row is left for the offer that was read there
  left_for : (v : View) (r : Row) (n : ℕ) (d : Direction) (l m : ℕ) → HaveDirection s.words r n d → sides_of d ≡ Some (l, m) → IsLeftAt v s r n → IsLeft v s r d l m
  left_for v r n d l m have e (inl lack) =
      let one : have.count ≡ lack.0 = agree.one_word r 1 have.count lack.0 have.counted lack.1 in
      let below = subst (λ (c : ℕ). n < unwrap_or (count_of c) 0) one have.below in
      let few = lack.2 in absurd (omega arith)
  left_for v r n d l m have e (inr (f, other, left)) =
      let one : have.head ≡ other.head = agree.one_word r _ have.head other.head have.has_head other.has_head in
      let way : d ≡ f = ap (λ (o : Option _). (unwrap_or o (record { direction = d; scopes = 0 })).direction) (sym have.is ∙ ap head_of one ∙ other.is) in
      subst (λ (z : Direction). IsLeft v s r z l m) (sym way) (left l m (ap sides_of (sym way) ∙ e))

  pub no_pair_left : (v : View) → NoPairMissed v → NoPairLeft v s
  no_pair_left v none q r d e i j low low' apart fi fj hq hr meet left_q left_r =
      let x = crossing d e meet in
      nobody_left threads rows s agree v none q r d e i j x.0 x.1 low low' apart fi fj hq hr meet x.4
      (left_for v q i d x.0 x.1 hq x.2 (left_q i fi)) (left_for v r j e x.1 x.0 hr x.3 (left_r j fj))

pub no_side : (d : Direction) (x : ℕ × ℕ) → sides_of d ≡ None → sides_of d ≡ Some x → ⊥
no_side d x none some = true≢false (sym (ap is_some some) ∙ ap is_some none)

pub one_side : (d : Direction) (x y : ℕ × ℕ) → sides_of d ≡ Some x → sides_of d ≡ Some y → x ≡ y
one_side d x y e f = ap (λ (o : Option (ℕ × ℕ)). unwrap_or o x) (sym e ∙ f)

pub opened_more : (v w : View) (t g : ℕ) → KnowsMore v w → Opened v.marks t g → Opened w.marks t g
opened_more v w t g more o = (o.0, more.0 (t, o.0) o.1, o.2)

pub left_now : (v : View) (s : Seen) (r : Row) (n : ℕ) (d : Direction) (both : ℕ × ℕ) → HaveDirection s.words r n d → sides_of d ≡ Some both → IsLeft v s r d both.0 both.1 → IsLeftAt v s r n
left_now v s r n d both have is left = inr (d, have, λ l m e. subst (λ (z : ℕ × ℕ). IsLeft v s r d z.0 z.1) (one_side d both (l, m) is e) left)

-- PUBLISHED: what stands on the sides of the first offers, and stays there
abbrev pub ArePublishedTo : List (ℕ × ℕ) → Row → List (Option Direction) → ℕ → Type 0
ArePublishedTo marks r directions n = (k : ℕ) (d : Direction) (l m : ℕ) → k < n → Lists directions k d → sides_of d ≡ Some (l, m) → Published marks r.thread r.sync l

pub published_next : (v w : View) (r : Row) (directions : List (Option Direction)) (n : ℕ) → KnowsMore v w → ArePublishedTo v.marks r directions n
    → ((d : Direction) (l m : ℕ) → Lists directions n d → sides_of d ≡ Some (l, m) → Published w.marks r.thread r.sync l) → ArePublishedTo w.marks r directions (n + 1)
published_next v w r directions n more before here k d l m low listed is = dite (ℕ_discrete k n)
    (λ (e : k ≡ n). here d l m (subst (λ (z : ℕ). Lists directions z d) e listed) is)
    (λ (ne : k ≢ n). published_more v w r.thread r.sync l more (before k d l m (omega arith) listed is))

pub all_more : (v w : View) (r : Row) (directions : List (Option Direction)) → KnowsMore v w → ArePublished v.marks r directions → ArePublished w.marks r directions
all_more v w r directions more out n d l m listed is = published_more v w r.thread r.sync l more (out n d l m listed is)

-- A SCAN GOES ON: what the calls of a scan do to the pass of the table and to that of the directory, while nothing is committed
pub record Goes {M : Type 0} (g : GridOf M) (b : Directory) (r : Row) (p q : PassOf M) (x y : Seat (Unit {0}) View) : Type 0 where
  pub here : IsPassOf g q
  pub grows : Grows p.seen q.seen
  pub results : KeepsResults p q
  pub sits : Sits b y
  pub more : KnowsMore x.me.0 y.me.0
  pub made : SearchMade r Waits p.made q.made

pub goes_nothing : {M : Type 0} (g : GridOf M) (b : Directory) (r : Row) (p : PassOf M) (x : Seat (Unit {0}) View) → IsPassOf g p → Sits b x → Goes g b r p p x x
goes_nothing g b r p x here sits = record { here = here; grows = grows_nothing p.seen; results = keeps_nothing p; sits = sits; more = more_nothing x.me.0; made = tries_nothing r p.made }

pub goes_then : {M : Type 0} (g : GridOf M) (b : Directory) (r : Row) (p q s : PassOf M) (x y z : Seat (Unit {0}) View) → Goes g b r p q x y → Goes g b r q s y z → Goes g b r p s x z
goes_then g b r p q s x y z f h = record {
  here = h.here;
  grows = grows_then p.seen q.seen s.seen f.grows h.grows;
  results = keeps_then p q s f.results h.results;
  sits = h.sits;
  more = more_then x.me.0 y.me.0 z.me.0 f.more h.more;
  made = made_then r Waits p.made q.made s.made f.made h.made;
}

-- WHAT A PART OF A SCAN CAME TO
pub comes_wider : (t : Seen) (r : Row) (P Q : Type 0) (found : Option Found) → (P → Q) → IfSome found (ComesTo t r P) → IfSome found (ComesTo t r Q)
comes_wider t r P Q None f h = tt
comes_wider t r P Q (Some (Met other)) f h = h
comes_wider t r P Q (Some Alone) f h = h
comes_wider t r P Q (Some Already) f h = h
comes_wider t r P Q (Some Waits) f h = f h

-- where the row is committed, whatever holds of one that is left
pub comes_found : (t : Seen) (r : Row) (P Q : Type 0) (found : Option Found) → found ≢ Some Waits → IfSome found (ComesTo t r P) → IfSome found (ComesTo t r Q)
comes_found t r P Q None apart h = tt
comes_found t r P Q (Some (Met other)) apart h = h
comes_found t r P Q (Some Alone) apart h = h
comes_found t r P Q (Some Already) apart h = h
comes_found t r P Q (Some Waits) apart h = absurd (apart refl)

-- at the end of a scan, where no row was claimed
pub then_comes : (t : Seen) (r : Row) (P : Type 0) (claimed : Bool) (found : Option Found) → found ≡ then_some (not claimed) Waits → (claimed ≡ false → P) → IfSome found (ComesTo t r P)
then_comes t r P false found is holds = subst (λ (f : Option Found). IfSome f (ComesTo t r P)) (sym is) (holds refl)
then_comes t r P true found is holds = subst (λ (f : Option Found). IfSome f (ComesTo t r P)) (sym is) tt

-- where it is left
pub comes_left : (t : Seen) (r : Row) (P : Type 0) (found : Option Found) → found ≡ Some Waits → IfSome found (ComesTo t r P) → P
comes_left t r P found is comes = subst (λ (f : Option Found). IfSome f (ComesTo t r P)) is comes

pub left_made : (r : Row) (a b : List Step) (found : Option Found) → found ≡ Some Waits → SearchMade r (found_or_left found) a b → SearchMade r Waits a b
left_made r a b found is made = subst (λ (f : Option Found). SearchMade r (found_or_left f) a b) is made

pub alone_comes : (t : Seen) (r : Row) (P : Type 0) (found : Option Found) → IfSome found (FoundAt t r) → IfNone found P → ComesTo t r P (unwrap_or found Waits)
alone_comes t r P None f n = n
alone_comes t r P (Some (Met other)) f n = f
alone_comes t r P (Some Alone) f n = f
alone_comes t r P (Some Already) f n = f
alone_comes t r P (Some Waits) f n = absurd f

pub alone_made : (r : Row) (a b : List Step) (found : Option Found) → SearchMade r (found_or_left found) a b → SearchMade r (unwrap_or found Waits) a b
alone_made r a b None made = made
alone_made r a b (Some found) made = made

-- THE OWN OFFERS
pub read_listed : (s : Seen) (r : Row) (directions : List (Option Direction)) (n : ℕ) (d : Direction) → n < 8 → AreRead s r directions → Lists directions n d → HaveDirection s.words r n d
read_listed s r directions n d low read listed = subst (λ (o : Option Direction). MatchOption o (LackOffer s.words r n) (HaveDirection s.words r n)) listed (read n low)

pub read_lacks : (s : Seen) (r : Row) (directions : List (Option Direction)) (n : ℕ) → n < 8 → AreRead s r directions → LacksAt directions n → LackOffer s.words r n
read_lacks s r directions n low read lacks = subst (λ (o : Option Direction). MatchOption o (LackOffer s.words r n) (HaveDirection s.words r n)) lacks (read n low)

pub read_more : (s t : Seen) (r : Row) (directions : List (Option Direction)) → Grows s t → AreRead s r directions → AreRead t r directions
read_more s t r directions g read n low = by_case (get_or directions n None) (read n low)
  where
    by_case : (o : Option Direction) → MatchOption o (LackOffer s.words r n) (HaveDirection s.words r n) → MatchOption o (LackOffer t.words r n) (HaveDirection t.words r n)
    by_case None h = lack_more s t r n g h
    by_case (Some d) h = have_more s t r n d g h

needs_partner : (d : Direction) (both : ℕ × ℕ) → sides_of d ≡ Some both → NeedsPartner d
needs_partner (Send c a) both e = λ s x y z h. h
needs_partner (Recv c) both e = λ s x y z h. h
needs_partner (Always a) both e = absurd (no_side (Always a) both refl e)
needs_partner (OnNack n) both e = absurd (no_side (OnNack n) both refl e)
needs_partner (OnEnd p) both e = absurd (no_side (OnEnd p) both refl e)
needs_partner Never both e = absurd (no_side Never both refl e)

-- an offer with a side does not let its row stand alone
pub never_alone : (threads rows : ℕ) (s : Seen) (r : Row) (n : ℕ) (d : Direction) (both : ℕ × ℕ) → Coherent threads rows s → HaveDirection s.words r n d → sides_of d ≡ Some both → ¬ CanStandAlone s r n
never_alone threads rows s r n d both agree have e = stands_never threads rows s r n d agree (inl have) (needs_partner d both e)

pub left_in_side : (v : View) (s : Seen) (r : Row) (d : Direction) (both : ℕ × ℕ) → sides_of d ≡ Some both → IsLeft v s r d both.0 both.1 → IsLeftFor v s r d
left_in_side v s r d both is left l m e = subst (λ (z : ℕ × ℕ). IsLeft v s r d z.0 z.1) (one_side d both (l, m) is e) left

pub left_nowhere : (v : View) (s : Seen) (r : Row) (d : Direction) → sides_of d ≡ None → IsLeftFor v s r d
left_nowhere v s r d none l m e = absurd (no_side d (l, m) none e)

-- the first offers, and one more; where it is asked, none of them lets the row stand alone
abbrev pub AreLeft : View → Seen → Seen → Row → Type 0 → ℕ → Type 0
AreLeft v s t r Asked n = (k : ℕ) → k < n → IsLeftAt v t r k × (Asked → ¬ CanStandAlone s r k)

pub left_next : (v w : View) (s t u : Seen) (r : Row) (Asked : Type 0) (n : ℕ) → KnowsMore v w → Grows t u → AreLeft v s t r Asked n → IsLeftAt w u r n → (Asked → ¬ CanStandAlone s r n) → AreLeft w s u r Asked (n + 1)
left_next v w s t u r Asked n more g before here alone k low = dite (ℕ_discrete k n)
    (λ (e : k ≡ n). subst (λ (z : ℕ). IsLeftAt w u r z × (Asked → ¬ CanStandAlone s r z)) (sym e) (here, alone))
    (λ (ne : k ≢ n). let was = before k (omega arith) in (left_at_more v w t u r k more g was.0, was.1))

-- the first offers, of a row that has no more
pub left_behind : (v : View) (t : Seen) (r : Row) (n : ℕ) → LackOffer t.words r n → ((k : ℕ) → k < n → IsLeftAt v t r k) → (k : ℕ) → IsLeftAt v t r k
left_behind v t r n lacks before k = dite (dec_le n k)
    (λ (far : n ≤ k). inl (lacks_behind t r n k far lacks))
    (λ (near : ¬ (n ≤ k)). before k (lt_of_not-le near))

-- the row was left for all its offers, and then to others
pub left_scans : (v : View) (s t u : Seen) (r : Row) (found : Found) → Grows s t → Grows t u → IsLeftRow v t r → Leaves t u r found → ScansTo v s u r found
left_scans v s t u r (Met other) before after left leaves = absurd leaves
left_scans v s t u r Alone before after left leaves = absurd leaves
left_scans v s t u r Already before after left leaves = leaves
left_scans v s t u r Waits before after left leaves = ((λ n low. left_at_more v v t u r n (more_nothing v) after (left n low)), λ c. leaves (saw_more s t r before c))

-- READ ONE AFTER ANOTHER: the heads that were read stand in the list, and nothing behind them
pub record ReadTo (t : Seen) (r : Row) (directions : List (Option Direction)) (n : ℕ) : Type 0 where
  pub have : (k : ℕ) (d : Direction) → Lists directions k d → HaveDirection t.words r k d
  pub rest : (k : ℕ) → n ≤ k → LacksAt directions k

pub read_next : (t u : Seen) (r : Row) (directions : List (Option Direction)) (n at : ℕ) (read : Direction) → length directions ≡ 8 → at ≡ n → n < 8 → Grows t u
    → HaveDirection u.words r n read → ReadTo t r directions n → ReadTo u r (set directions at (Some read)) (n + 1)
read_next t u r directions n at read sized same_place low g have before = record { have = all; rest = rest }
  where
    at_n : get_or (set directions at (Some read)) at None ≡ Some read
    at_n = get_or-set_same directions at (Some read) None (omega (arith, sized))

    all : (k : ℕ) (d : Direction) → Lists (set directions at (Some read)) k d → HaveDirection u.words r k d
    all k d e = dite (ℕ_discrete k at)
        (λ (is : k ≡ at). let way : read ≡ d = ap (λ (x : Option Direction). unwrap_or x read) (sym at_n ∙ subst (λ (x : ℕ). Lists (set directions at (Some read)) x d) is e) in
        subst (λ (x : ℕ). HaveDirection u.words r x d) (sym (is ∙ same_place)) (subst (λ (x : Direction). HaveDirection u.words r n x) way have))
        (λ (other : k ≢ at). have_more t u r k d g (before.have k d (sym (get_or-set_other directions at k (Some read) None other) ∙ e)))

    rest : (k : ℕ) → n + 1 ≤ k → LacksAt (set directions at (Some read)) k
    rest k far = get_or-set_other directions at k (Some read) None (λ (e : k ≡ at). absurd (omega arith)) ∙ before.rest k (omega arith)

-- the list ends at n, which the row lacks
pub read_ended : (t u : Seen) (r : Row) (directions : List (Option Direction)) (n : ℕ) → Grows t u → ReadTo t r directions n → ((k : ℕ) → k < n → ¬ LacksAt directions k) → LackOffer u.words r n → AreRead u r directions
read_ended t u r directions n g to filled lacks k low = by_case (get_or directions k None) refl
  where
    by_case : (o : Option Direction) → get_or directions k None ≡ o → MatchOption o (LackOffer u.words r k) (HaveDirection u.words r k)
    by_case None e = dite (dec_le n k)
        (λ (far : n ≤ k). lacks_behind u r n k far lacks)
        (λ (near : ¬ (n ≤ k)). absurd (filled k (lt_of_not-le near) e))
    by_case (Some d) e = have_more t u r k d g (to.have k d e)

-- it has all eight
pub read_whole : (t : Seen) (r : Row) (directions : List (Option Direction)) (n : ℕ) → 8 ≤ n → ReadTo t r directions n → ((k : ℕ) → k < n → ¬ LacksAt directions k) → AreRead t r directions
read_whole t r directions n all to filled k low = by_case (get_or directions k None) refl
  where
    by_case : (o : Option Direction) → get_or directions k None ≡ o → MatchOption o (LackOffer t.words r k) (HaveDirection t.words r k)
    by_case None e = absurd (filled k (omega arith) e)
    by_case (Some d) e = to.have k d e

-- HELD UP stays so
pub can_meet_more : (s t : Seen) (r : Row) (n : ℕ) (q : Row) (k : ℕ) → Grows s t → CanMeet s r n q k → CanMeet t r n q k
can_meet_more s t r n q k g can = (can.0, can.1, can.2, seen_more s t r n can.1 g can.3, seen_more s t q k can.2 g can.4, can.5)

pub stops_more : {M : Type 0} (g : GridOf M) (a s t u : Seen) (r q : Row) → Grows a s → Grows t u → CannotPass g s t r q → CannotPass g a u r q
stops_more g a s t u r q before after (inl far) = inl far
stops_more g a s t u r q before after (inr (inl none)) = inr (inl none)
stops_more g a s t u r q before after (inr (inr (inl new))) = inr (inr (inl (λ h. new (before.opened.0 q h))))
stops_more g a s t u r q before after (inr (inr (inr (n, k, can)))) = inr (inr (inr (n, k, can_meet_more t u r n q k after can)))

pub held_more : {M : Type 0} (g : GridOf M) (v w : View) (a s t u : Seen) (r : Row) → KnowsMore v w → Grows a s → Grows t u → IsHeldUp g v s t r → IsHeldUp g w a u r
held_more g v w a s t u r more before after held = record {
  other = held.other;
  own = held.own;
  apart = held.apart;
  named = (held.named.0, more.1 held.named.0 held.named.1, held.named.2, held.named.3, held.named.4);
  stops = stops_more g a s t u r held.other before after held.stops;
}

-- the directory named this row
pub held_by : {M : Type 0} (g : GridOf M) (v w : View) (s t : Seen) (r q : Row) (own count : ℕ) → Published v.marks r.thread r.sync own → w ≡ saw q.thread count v → count ≡ q.sync + 1 → r.thread ≢ q.thread
    → CannotPass g s t r q → IsHeldUpBy g w s t r q.thread
held_by g v w s t r q own count published look is apart stops =
    (record { other = q; own = own; apart = apart; named = (glimpse q.thread count v, saw_it v w q.thread count look, published, refl, is); stops = stops }, refl)

pub then_none : {P : Type 0} (claimed : Bool) (found : Option Found) → found ≡ then_some (not claimed) Waits → (claimed ≡ true → P) → IfNone found P
then_none {P} false found is holds = subst (λ (f : Option Found). IfNone f P) (sym is) tt
then_none {P} true found is holds = subst (λ (f : Option Found). IfNone f P) (sym is) (holds refl)

pub none_holds : {P Q : Type 0} (found : Option Found) → (P → Q) → IfNone found P → IfNone found Q
none_holds None f p = f p
none_holds (Some x) f p = tt

pub from_again : {P : Type 0} (found : Option Found) → found ≡ None → IfNone found P → P
from_again {P} found none again = subst (λ (f : Option Found). IfNone f P) none again

-- TRIED FIRST: who was tried stays so
pub held_by_more : {M : Type 0} (g : GridOf M) (v w : View) (a s t u : Seen) (r : Row) (first : ℕ) → KnowsMore v w → Grows a s → Grows t u → IsHeldUpBy g v s t r first → IsHeldUpBy g w a u r first
unfolding held_more
held_by_more g v w a s t u r first more before after held = (held_more g v w a s t u r more before after held.0, held.1)

pub tried_at_more : {M : Type 0} (g : GridOf M) (v w : View) (a s t u : Seen) (r : Row) (first n : ℕ) → KnowsMore v w → Grows a s → Grows t u → IsTriedAt g v s t r first n → IsTriedAt g w a u r first n
tried_at_more g v w a s t u r first n more before after (inl l) = inl (lack_more t u r n after l)
tried_at_more g v w a s t u r first n more before after (inr (d, have, tried)) =
    inr (
      d,
      have_more t u r n d after have,
      λ l m e. ⊎_elim
          (λ (done : IsDoneWith v t r d l m first). inl (done_more v w t u r d l m first more after done))
          (λ (held : IsHeldUpBy g v s t r first). inr (held_by_more g v w a s t u r first more before after held))
          (tried l m e),
    )

pub tried_more : {M : Type 0} (g : GridOf M) (v w : View) (a s t u : Seen) (r : Row) (first : ℕ) → KnowsMore v w → Grows a s → Grows t u → IsTried g v s t r first → IsTried g w a u r first
tried_more g v w a s t u r first more before after tried low apart n few = tried_at_more g v w a s t u r first n more before after (tried low apart n few)

-- for the first offers
abbrev pub AreTried : {M : Type 0} → GridOf M → View → Seen → Seen → Row → ℕ → ℕ → Type 0
AreTried g v s t r first n = (k : ℕ) → k < n → IsTriedAt g v s t r first k

-- and one more
pub tried_next : {M : Type 0} (g : GridOf M) (v w : View) (s t u : Seen) (r : Row) (first n : ℕ) → KnowsMore v w → Grows t u → AreTried g v s t r first n → IsTriedAt g w s u r first n → AreTried g w s u r first (n + 1)
tried_next g v w s t u r first n more after before here =
    next_of (λ (k : ℕ). IsTriedAt g v s t r first k) (λ (k : ℕ). IsTriedAt g w s u r first k) n
    (λ k h. tried_at_more g v w s s t u r first k more (grows_nothing s) after h) before here

-- of a row that has no more
pub tried_behind : {M : Type 0} (g : GridOf M) (v : View) (s t : Seen) (r : Row) (first n : ℕ) → LackOffer t.words r n → AreTried g v s t r first n → (k : ℕ) → IsTriedAt g v s t r first k
tried_behind g v s t r first n lacks before k = dite (dec_le n k)
    (λ (far : n ≤ k). inl (lacks_behind t r n k far lacks))
    (λ (near : ¬ (n ≤ k)). before k (lt_of_not-le near))

-- for an offer that has this side, or none
pub tried_in_side : {M : Type 0} (g : GridOf M) (v : View) (s t : Seen) (r : Row) (d : Direction) (both : ℕ × ℕ) (first : ℕ) → sides_of d ≡ Some both
    → IsDoneWith v t r d both.0 both.1 first ⊎ IsHeldUpBy g v s t r first → IsTriedFor g v s t r d first
tried_in_side g v s t r d both first is tried l m e = subst (λ (z : ℕ × ℕ). IsDoneWith v t r d z.0 z.1 first ⊎ IsHeldUpBy g v s t r first) (one_side d both (l, m) is e) tried

pub tried_nowhere : {M : Type 0} (g : GridOf M) (v : View) (s t : Seen) (r : Row) (d : Direction) (first : ℕ) → sides_of d ≡ None → IsTriedFor g v s t r d first
tried_nowhere g v s t r d first none l m e = absurd (no_side d (l, m) none e)

-- what a search that has tried it comes to
tried_tries : {M : Type 0} (g : GridOf M) (v : View) (s t : Seen) (r : Row) (first : ℕ) (found : Found) → IsTried g v s t r first → TriesFirst g v s t r first found
tried_tries g v s t r first (Met other) tried = λ apart. tried
tried_tries g v s t r first Alone tried = tried
tried_tries g v s t r first Already tried = tt
tried_tries g v s t r first Waits tried = tt

pub all_try : {M : Type 0} (g : GridOf M) (v : View) (s t : Seen) (r : Row) (first : ℕ) (found : Option Found) → IsTried g v s t r first → IfSome found (TriesFirst g v s t r first)
all_try g v s t r first None tried = tt
all_try g v s t r first (Some found) tried = tried_tries g v s t r first found tried

pub tries_sooner : {M : Type 0} (g : GridOf M) (v : View) (a s t : Seen) (r : Row) (first : ℕ) (found : Found) → Grows a s → TriesFirst g v s t r first found → TriesFirst g v a t r first found
tries_sooner g v a s t r first (Met other) before tries = λ apart. tried_more g v v a s t t r first (more_nothing v) before (grows_nothing t) (tries apart)
tries_sooner g v a s t r first Alone before tried = tried_more g v v a s t t r first (more_nothing v) before (grows_nothing t) tried
tries_sooner g v a s t r first Already before tries = tt
tries_sooner g v a s t r first Waits before tries = tt

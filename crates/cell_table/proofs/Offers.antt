-- Offers, word by word: how the words of one offer are read, and what they agree with.
use Rattle.std.proofs.Common.{◌≡◌, ℕ, zero, suc, ◌+◌, ◌*◌, ◌-◌, ◌%◌, ◌<◌, ◌≤◌, Bool, true, false, List, sym, refl, ap, ◌∙◌, subst, inl, inr, ◌⊎◌, arith, unwrap_or, Option, Some, None, is_some, eqb, leb, cond, IfSome, IfNone, option_and_then}
use Rattle.std.proofs.lemmas.Bool.{le-leb, ne_eqb, false≢true, true≢false}
use Rattle.std.proofs.Math.Nat.{add-mul-mod_self_left}
use Rattle.protocol_values.specs.Words.{count_of, head_of, atom_of, offer_of, base_of, message_of, is_word_for}
use Rattle.protocol_values.specs.declared.Atom.{Atom}
use Rattle.protocol_values.specs.declared.Base.{Base}
use Rattle.protocol_values.specs.declared.Base.TheVariants as base
use Rattle.protocol_values.specs.declared.Direction.{Direction}
use Rattle.protocol_values.specs.declared.Direction.TheVariants as direction
use Rattle.protocol_values.specs.declared.Head.{Head}
use Rattle.protocol_values.specs.declared.Message.TheVariants.{Empty, One, Two, Three}
use Rattle.protocol_ledger.proofs.Linking.{some_inj}
use Rattle.protocol_values.specs.declared.Offer.{Offer}
use Rattle.protocol_values.specs.declared.Row.{Row}
use Rattle.cell_table.specs.declared.view.Seen.{Seen}
use Rattle.cell_table.specs.declared.view.View.{View}
use Rattle.protocol_values.specs.declared.NackName.{NackName}
use Rattle.cell_table.specs.Sight.{Has, Learns, LearnsOf, HaveOffer, SeesOffer, Coherent, atoms_behind, atoms_in, atoms_told}
use Rattle.cell_table.specs.Views.{read_word}

-- a place that is no cell and no count is a head or an atom, by what is left over 4
word_behind : (k w : ℕ) → is_word_for (2 + k) w ≡ cond (eqb (k % 4) 0) (is_some (head_of w)) (is_some (atom_of w))
unfolding is_word_for
word_behind k w =
    ap (λ (b : Bool). cond b (is_some (Rattle.protocol_values.specs.Words.cell_of w)) (cond (eqb (2 + k) 1) (is_some (count_of w)) (cond (eqb ((2 + k - 2) % 4) 0) (is_some (head_of w)) (is_some (atom_of w))))) (ne_eqb (2 + k) 0 (λ e. omega arith))
    ∙ ap (λ (b : Bool). cond b (is_some (count_of w)) (cond (eqb ((2 + k - 2) % 4) 0) (is_some (head_of w)) (is_some (atom_of w)))) (ne_eqb (2 + k) 1 (λ e. omega arith))
    ∙ ap (λ (j : ℕ). cond (eqb (j % 4) 0) (is_some (head_of w)) (is_some (atom_of w))) (let e : 2 + k - 2 ≡ k = omega arith in e)

pub head_place : (n w : ℕ) → is_word_for (2 + 4 * n) w ≡ is_some (head_of w)
head_place n w = word_behind (4 * n) w ∙ ap (λ (j : ℕ). cond (eqb j 0) (is_some (head_of w)) (is_some (atom_of w))) (Rattle.std.proofs.Math.Nat.mul-mod_right 4 n)

pub atom_place : (k n w : ℕ) → 1 ≤ k → k < 4 → is_word_for (2 + k + 4 * n) w ≡ is_some (atom_of w)
atom_place k n w low high =
    ap (λ (j : ℕ). is_word_for j w) (let e : 2 + k + 4 * n ≡ 2 + (k + 4 * n) = omega arith in e)
    ∙ word_behind (k + 4 * n) w
    ∙ ap (λ (b : Bool). cond b (is_some (head_of w)) (is_some (atom_of w)))
    (ap (λ (j : ℕ). eqb j 0) (add-mul-mod_self_left k 4 n ∙ Rattle.std.proofs.Math.Nat.mod-eq_of_lt high) ∙ ne_eqb k 0 (λ e. omega arith))

-- four well-formed words are an offer
pub offer_formed : (a b c d : ℕ) → is_some (head_of a) ≡ true → is_some (atom_of b) ≡ true → is_some (atom_of c) ≡ true → is_some (atom_of d) ≡ true → is_some (offer_of a b c d) ≡ true
unfolding offer_of
offer_formed a b c d = four (head_of a) (atom_of b) (atom_of c) (atom_of d)
  where
    four : (h : Option Head) (x y z : Option Atom) → is_some h ≡ true → is_some x ≡ true → is_some y ≡ true → is_some z ≡ true
        → is_some {T = Offer} (option_and_then (λ h. option_and_then (λ x. option_and_then (λ y. option_and_then (λ z. Some (record { base = base_of h.direction x y z; scopes = h.scopes })) z) y) x) h) ≡ true
    four None x y z p q r s = absurd (true≢false (sym p))
    four (Some h) None y z p q r s = absurd (true≢false (sym q))
    four (Some h) (Some x) None z p q r s = absurd (true≢false (sym r))
    four (Some h) (Some x) (Some y) None p q r s = absurd (true≢false (sym s))
    four (Some h) (Some x) (Some y) (Some z) p q r s = refl

-- the words of one row are enough
pub have_row : (xs ys : List (Row × ℕ × ℕ)) (r : Row) (n : ℕ) (o : Offer) → ((p x : ℕ) → Has xs (r, p, x) → Has ys (r, p, x)) → HaveOffer xs r n o → HaveOffer ys r n o
have_row xs ys r n o more h = record {
  count = h.count;
  counted = more 1 h.count h.counted;
  below = h.below;
  head = h.head;
  has_head = more (2 + 4 * n) h.head h.has_head;
  first = h.first;
  has_first = λ k. more (3 + 4 * n) h.first (h.has_first k);
  second = h.second;
  has_second = λ k. more (4 + 4 * n) h.second (h.has_second k);
  third = h.third;
  has_third = λ k. more (5 + 4 * n) h.third (h.has_third k);
  is = h.is;
}

pub have_more : (xs ys : List (Row × ℕ × ℕ)) (r : Row) (n : ℕ) (o : Offer) → ((x : Row × ℕ × ℕ) → Has xs x → Has ys x) → HaveOffer xs r n o → HaveOffer ys r n o
have_more xs ys r n o more h = have_row xs ys r n o (λ p x i. more (r, p, x) i) h

-- ONE OFFER is read from one head and the atoms that it says, whatever stands behind them
past_none : (k : ℕ) → eqb k 0 ≡ false → 1 ≤ k
past_none zero p = absurd (true≢false p)
past_none (suc k) p = omega arith

past_one : (k : ℕ) → eqb k 0 ≡ false → eqb k 1 ≡ false → 2 ≤ k
past_one zero p q = absurd (true≢false p)
past_one (suc zero) p q = absurd (true≢false q)
past_one (suc (suc k)) p q = omega arith

past_two : (k : ℕ) → eqb k 0 ≡ false → eqb k 1 ≡ false → eqb k 2 ≡ false → 3 ≤ k
past_two zero p q r = absurd (true≢false p)
past_two (suc zero) p q r = absurd (true≢false q)
past_two (suc (suc zero)) p q r = absurd (true≢false r)
past_two (suc (suc (suc k))) p q r = omega arith

message_by : (p q r : Bool) (a b c x y z : Atom) → (p ≡ false → a ≡ x) → (p ≡ false → q ≡ false → b ≡ y) → (p ≡ false → q ≡ false → r ≡ false → c ≡ z)
    → cond p Empty (cond q (One a) (cond r (Two a b) (Three a b c))) ≡ cond p Empty (cond q (One x) (cond r (Two x y) (Three x y z)))
message_by true q r a b c x y z e f g = refl
message_by false true r a b c x y z e f g = ap One (e refl)
message_by false false true a b c x y z e f g = (λ i. Two (e refl i) (f refl refl i))
message_by false false false a b c x y z e f g = (λ i. Three (e refl i) (f refl refl i) (g refl refl refl i))

message_same : (k : ℕ) (a b c x y z : Atom) → (1 ≤ k → a ≡ x) → (2 ≤ k → b ≡ y) → (3 ≤ k → c ≡ z) → message_of k a b c ≡ message_of k x y z
message_same k a b c x y z e f g =
    message_by (eqb k 0) (eqb k 1) (eqb k 2) a b c x y z (λ p. e (past_none k p)) (λ p q. f (past_one k p q)) (λ p q r. g (past_two k p q r))

base_same : (way : Direction) (a b c x y z : Atom) → (1 ≤ atoms_told way → a ≡ x) → (2 ≤ atoms_told way → b ≡ y) → (3 ≤ atoms_told way → c ≡ z) → base_of way a b c ≡ base_of way x y z
base_same (direction.Send chan atoms) a b c x y z e f g = ap (base.Send chan) (message_same atoms a b c x y z e f g)
base_same (direction.Recv chan) a b c x y z e f g = refl
base_same (direction.Always atoms) a b c x y z e f g = ap base.Always (message_same atoms a b c x y z e f g)
base_same (direction.OnNack n) a b c x y z e f g = refl
base_same (direction.OnEnd p) a b c x y z e f g = refl
base_same direction.Never a b c x y z e f g = refl

-- what the words of an offer stand for, one by one
abbrev pub offer_read : Option Head → Option Atom → Option Atom → Option Atom → Option Offer
offer_read h x y z = option_and_then (λ h. option_and_then (λ x. option_and_then (λ y. option_and_then (λ z. Some (record { base = base_of h.direction x y z; scopes = h.scopes })) z) y) x) h

parts_same : (h : Option Head) (x y z p q r : Option Atom) (o : Offer) → offer_read h x y z ≡ Some o
    → (1 ≤ atoms_in h → x ≡ p) → (2 ≤ atoms_in h → y ≡ q) → (3 ≤ atoms_in h → z ≡ r) → (is_some p ≡ true) × (is_some q ≡ true) × (is_some r ≡ true) → offer_read h p q r ≡ Some o
parts_same None x y z p q r o is e f g formed = let bad : None ≡ Some o = is in cc
parts_same (Some h) None y z p q r o is e f g formed = let bad : None ≡ Some o = is in cc
parts_same (Some h) (Some x) None z p q r o is e f g formed = let bad : None ≡ Some o = is in cc
parts_same (Some h) (Some x) (Some y) None p q r o is e f g formed = let bad : None ≡ Some o = is in cc
parts_same (Some h) (Some x) (Some y) (Some z) None q r o is e f g formed = absurd (false≢true formed.0)
parts_same (Some h) (Some x) (Some y) (Some z) (Some p) None r o is e f g formed = absurd (false≢true formed.1)
parts_same (Some h) (Some x) (Some y) (Some z) (Some p) (Some q) None o is e f g formed = absurd (false≢true formed.2)
parts_same (Some h) (Some x) (Some y) (Some z) (Some p) (Some q) (Some r) o is e f g formed =
    ap (λ (b : Base). Some (record { base = b; scopes = h.scopes }))
    (base_same h.direction p q r x y z (λ m. sym (some_inj x p (e m))) (λ m. sym (some_inj y q (f m))) (λ m. sym (some_inj z r (g m)))) ∙ is

pub same_read : (a b c d a' b' c' d' : ℕ) (o : Offer) → offer_of a b c d ≡ Some o → a ≡ a' → (1 ≤ atoms_behind a → b ≡ b') → (2 ≤ atoms_behind a → c ≡ c') → (3 ≤ atoms_behind a → d ≡ d')
    → (is_some (atom_of b') ≡ true) × (is_some (atom_of c') ≡ true) × (is_some (atom_of d') ≡ true) → offer_of a' b' c' d' ≡ Some o
unfolding offer_of
same_read a b c d a' b' c' d' o is head e f g formed =
    ap (λ (w : ℕ). offer_read (head_of w) (atom_of b') (atom_of c') (atom_of d')) (sym head)
    ∙ parts_same (head_of a) (atom_of b) (atom_of c) (atom_of d) (atom_of b') (atom_of c') (atom_of d') o is (λ m. ap atom_of (e m)) (λ m. ap atom_of (f m)) (λ m. ap atom_of (g m)) formed

-- WHAT WAS SEEN BEFORE AGREES with what is read now
module _ (threads rows : ℕ) (s : Seen) (agree : Coherent threads rows s) (r : Row) (n : ℕ) (o : Offer)
    (seen : HaveOffer s.words r n o ⊎ HaveOffer s.drafts r n o) where
  pub same_count : (count : ℕ) → Has s.words (r, 1, count) → n < unwrap_or (count_of count) 0
  same_count count now = from seen
    where
      from : HaveOffer s.words r n o ⊎ HaveOffer s.drafts r n o → n < unwrap_or (count_of count) 0
      from (inl h) = subst (λ (x : ℕ). n < unwrap_or (count_of x) 0) (agree.one_word r 1 h.count count h.counted now) h.below
      from (inr h) = subst (λ (x : ℕ). n < unwrap_or (count_of x) 0) (agree.as_drafted r 1 h.count count h.counted now) h.below

  pub same_offer : (a b c d : ℕ) → Has s.words (r, 2 + 4 * n, a) → (1 ≤ atoms_behind a → Has s.words (r, 3 + 4 * n, b)) → (2 ≤ atoms_behind a → Has s.words (r, 4 + 4 * n, c)) → (3 ≤ atoms_behind a → Has s.words (r, 5 + 4 * n, d))
      → (is_some (atom_of b) ≡ true) × (is_some (atom_of c) ≡ true) × (is_some (atom_of d) ≡ true) → offer_of a b c d ≡ Some o
  same_offer a b c d i j k l formed = from seen
    where
      told : (x m : ℕ) → x ≡ a → m ≤ atoms_behind x → m ≤ atoms_behind a
      told x m e h = subst (λ (w : ℕ). m ≤ atoms_behind w) e h

      from : HaveOffer s.words r n o ⊎ HaveOffer s.drafts r n o → offer_of a b c d ≡ Some o
      from (inl h) =
          let head = agree.one_word r (2 + 4 * n) h.head a h.has_head i in
          same_read h.head h.first h.second h.third a b c d o h.is head
          (λ m. agree.one_word r (3 + 4 * n) h.first b (h.has_first m) (j (told h.head 1 head m))) (λ m. agree.one_word r (4 + 4 * n) h.second c (h.has_second m) (k (told h.head 2 head m)))
          (λ m. agree.one_word r (5 + 4 * n) h.third d (h.has_third m) (l (told h.head 3 head m))) formed
      from (inr h) =
          let head = agree.as_drafted r (2 + 4 * n) h.head a h.has_head i in
          same_read h.head h.first h.second h.third a b c d o h.is head
          (λ m. agree.as_drafted r (3 + 4 * n) h.first b (h.has_first m) (j (told h.head 1 head m))) (λ m. agree.as_drafted r (4 + 4 * n) h.second c (h.has_second m) (k (told h.head 2 head m)))
          (λ m. agree.as_drafted r (5 + 4 * n) h.third d (h.has_third m) (l (told h.head 3 head m))) formed

-- THE WORDS OF AN OFFER THAT WERE READ: its head, and as many atoms as the head says
pub record ReadOffer (s : Seen) (r : Row) (n count a b c d : ℕ) : Type 0 where
  pub count_word : Has s.words (r, 1, count)
  pub head : Has s.words (r, 2 + 4 * n, a)
  pub first : 1 ≤ atoms_behind a → Has s.words (r, 3 + 4 * n, b)
  pub second : 2 ≤ atoms_behind a → Has s.words (r, 4 + 4 * n, c)
  pub third : 3 ≤ atoms_behind a → Has s.words (r, 5 + 4 * n, d)
  pub atoms : (is_some (atom_of b) ≡ true) × (is_some (atom_of c) ≡ true) × (is_some (atom_of d) ≡ true)

module _ {M : Type 0} where
  -- the number of offers was read, and then the head of one
  pub count_and_head : (v v1 v2 : View M) (r : Row) (n count a : ℕ) → v1 ≡ read_word r 1 count v → v2 ≡ read_word r (2 + 4 * n) a v1 → Has v2.seen.words (r, 1, count) × Has v2.seen.words (r, 2 + 4 * n, a)
  count_and_head v v1 v2 r n count a e f =
      subst (λ (w : View M). Has w.seen.words (r, 1, count) × Has w.seen.words (r, 2 + 4 * n, a)) (sym (f ∙ ap (read_word r (2 + 4 * n) a) e)) (inr (inl refl), inl refl)

-- the head was read, and then each atom that it says
pub offer_words : (s t u v : Seen) (r : Row) (n count a b c d : ℕ) (h : Head) (atoms : ℕ) → Has s.words (r, 1, count) → Has s.words (r, 2 + 4 * n, a) → head_of a ≡ Some h → atoms ≡ atoms_told h.direction
    → Learns (λ q. q ≡ r) s t → Learns (λ q. q ≡ r) t u → Learns (λ q. q ≡ r) u v
    → (leb 1 atoms ≡ true → Has t.words (r, 3 + 4 * n, b)) → (leb 2 atoms ≡ true → Has u.words (r, 4 + 4 * n, c)) → (leb 3 atoms ≡ true → Has v.words (r, 5 + 4 * n, d))
    → (is_some (atom_of b) ≡ true) × (is_some (atom_of c) ≡ true) × (is_some (atom_of d) ≡ true)
    → ReadOffer v r n count a b c d
offer_words s t u v r n count a b c d h atoms counted headed is told l m k first second third formed = record {
  count_word = k.words.0 _ (m.words.0 _ (l.words.0 _ counted));
  head = k.words.0 _ (m.words.0 _ (l.words.0 _ headed));
  first = λ i. k.words.0 _ (m.words.0 _ (first (asked 1 i)));
  second = λ i. k.words.0 _ (second (asked 2 i));
  third = λ i. third (asked 3 i);
  atoms = formed;
}
  where
    asked : (j : ℕ) → j ≤ atoms_behind a → leb j atoms ≡ true
    asked j i = le-leb j atoms (subst (λ (x : ℕ). j ≤ x) (ap atoms_in is ∙ sym told) i)

pub read_have : (s : Seen) (r : Row) (n count a b c d : ℕ) (o : Offer) → ReadOffer s r n count a b c d → n < unwrap_or (count_of count) 0 → offer_of a b c d ≡ Some o → HaveOffer s.words r n o
read_have s r n count a b c d o f below is = record {
  count = count;
  counted = f.count_word;
  below = below;
  head = a;
  has_head = f.head;
  first = b;
  has_first = f.first;
  second = c;
  has_second = f.second;
  third = d;
  has_third = f.third;
  is = is;
}

-- the words that were read are an offer
pub read_formed : (threads rows : ℕ) (s : Seen) (r : Row) (n count a b c d : ℕ) → Coherent threads rows s → ReadOffer s r n count a b c d → is_some (offer_of a b c d) ≡ true
read_formed threads rows s r n count a b c d agree f =
    offer_formed a b c d (sym (head_place n a) ∙ agree.formed r (2 + 4 * n) a f.head) f.atoms.0 f.atoms.1 f.atoms.2

pub if_some : {A : Type 0} (x : Option A) (P : A → Type 0) → ((a : A) → x ≡ Some a → P a) → IfSome x P
if_some None P h = tt
if_some (Some a) P h = h a refl

pub if_none : {A : Type 0} (x : Option A) (P : Type 0) → (x ≡ None → P) → IfNone x P
if_none None P h = h refl
if_none (Some a) P h = tt

-- what is seen of an offer says that it stands below the number that was read
have_seen : (s : Seen) (r : Row) (n : ℕ) (o : Offer) → SeesOffer s r n o → HaveOffer s.words r n o ⊎ HaveOffer s.drafts r n o
have_seen s r n o (inl h) = inl h
have_seen s r n o (inr h) = inr h.1

module _ {M : Type 0} where
  pub seen_below : (threads rows : ℕ) (v w : View M) (r : Row) (n : ℕ) (count : ℕ) (o : Offer) → w ≡ read_word r 1 count v → Coherent threads rows w.seen → SeesOffer w.seen r n o → n < unwrap_or (count_of count) 0
  seen_below threads rows v w r n count o e agree seen =
      same_count threads rows w.seen agree r n o (have_seen w.seen r n o seen) count (subst (λ (u : View M). Has u.seen.words (r, 1, count)) (sym e) (inl refl))

-- and that it is the offer that was read
pub seen_same : (threads rows : ℕ) (s : Seen) (r : Row) (n count a b c d : ℕ) (o : Offer) → ReadOffer s r n count a b c d → Coherent threads rows s → SeesOffer s r n o → offer_of a b c d ≡ Some o
seen_same threads rows s r n count a b c d o f agree seen = same_offer threads rows s agree r n o (have_seen s r n o seen) a b c d f.head f.first f.second f.third f.atoms

-- the words of an offer are well-formed
pub offer_parts : (a b c d : ℕ) (o : Offer) → offer_of a b c d ≡ Some o → (is_some (head_of a) ≡ true) × (is_some (atom_of b) ≡ true) × (is_some (atom_of c) ≡ true) × (is_some (atom_of d) ≡ true)
unfolding offer_of
offer_parts a b c d o = four (head_of a) (atom_of b) (atom_of c) (atom_of d)
  where
    four : (h : Option Head) (x y z : Option Atom)
        → option_and_then (λ h. option_and_then (λ x. option_and_then (λ y. option_and_then (λ z. Some (record { base = base_of h.direction x y z; scopes = h.scopes })) z) y) x) h ≡ Some o
        → (is_some h ≡ true) × (is_some x ≡ true) × (is_some y ≡ true) × (is_some z ≡ true)
    four None x y z e = let bad : None ≡ Some o = e in cc
    four (Some h) None y z e = let bad : None ≡ Some o = e in cc
    four (Some h) (Some x) None z e = let bad : None ≡ Some o = e in cc
    four (Some h) (Some x) (Some y) None e = let bad : None ≡ Some o = e in cc
    four (Some h) (Some x) (Some y) (Some z) e = (refl, refl, refl, refl)

pub offer_places : (n a b c d : ℕ) (o : Offer) → offer_of a b c d ≡ Some o
    → (is_word_for (2 + 4 * n) a ≡ true) × (is_word_for (3 + 4 * n) b ≡ true) × (is_word_for (4 + 4 * n) c ≡ true) × (is_word_for (5 + 4 * n) d ≡ true)
offer_places n a b c d o e =
    let p = offer_parts a b c d o e in (
      head_place n a ∙ p.0,
      atom_place 1 n b (omega arith) (omega arith) ∙ p.1,
      atom_place 2 n c (omega arith) (omega arith) ∙ p.2,
      atom_place 3 n d (omega arith) (omega arith) ∙ p.3,
    )

-- what was seen of an offer stays seen while more is learnt
pub sees_more : {Nacks : NackName → Type 0} {Lives : ℕ → Type 0} (About : Row → Type 0) (s t : Seen) (r : Row) (n : ℕ) (o : Offer) → LearnsOf About Nacks Lives s t → SeesOffer s r n o → SeesOffer t r n o
sees_more About s t r n o l (inl h) = inl (have_more s.words t.words r n o l.words.0 h)
sees_more About s t r n o l (inr h) = inr (l.opened.0 r h.0, subst (λ (d : List (Row × ℕ × ℕ)). HaveOffer d r n o) (sym l.drafts) h.1)

-- an offer that was read has a number below 8
pub few : (count n : ℕ) → n < unwrap_or (count_of count) 0 → n < 8
unfolding count_of
few count n h = by_case (Rattle.std.proofs.Math.Dec.leb count 8) refl h
  where
    by_case : (b : Bool) → Rattle.std.proofs.Math.Dec.leb count 8 ≡ b → n < unwrap_or (cond b (Some count) None) 0 → n < 8
    by_case true e h = let l = Rattle.std.proofs.lemmas.Bool.leb-true count 8 e in omega arith
    by_case false e h = absurd (omega arith)

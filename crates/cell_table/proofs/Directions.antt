-- The direction of an offer: what its head tells, and that the heads of two offers tell whether they meet.
use Rattle.std.proofs.Common.{◌≡◌, ℕ, ◌+◌, ◌*◌, ◌<◌, true, List, sym, refl, ap, ◌∙◌, subst, inl, inr, ⊎_elim, unwrap_or, Option, Some, None, is_some}
use Rattle.std.proofs.lemmas.Bool.{true≢false}
use Rattle.protocol_values.specs.Words.{count_of, head_of, atom_of, offer_of, base_of}
use Rattle.protocol_values.specs.declared.Atom.{Atom}
use Rattle.protocol_values.specs.declared.Direction.{Direction}
use Rattle.protocol_values.specs.declared.Direction.TheVariants.{Send, Recv, Always, OnNack, OnEnd, Never}
use Rattle.protocol_values.specs.declared.Head.{Head}
use Rattle.protocol_values.specs.declared.Offer.{Offer}
use Rattle.protocol_values.specs.declared.Row.{Row}
use Rattle.protocol_ledger.specs.Tables.{offers_meet}
use Rattle.protocol_values.specs.Values.{bases_meet}
use Rattle.protocol_ledger.proofs.Linking.{some_inj}
use Rattle.cell_table.specs.declared.view.Seen.{Seen}
use Rattle.cell_table.specs.Sight.{Has, HaveDirection, HaveOffer, SeesDirection, SeesOffer, Coherent, Learns, LearnsOf}
use Rattle.protocol_values.specs.Values.{directions_meet}
use Rattle.cell_table.proofs.Offers.{offer_read}

-- MORE WORDS HAVE NO FEWER DIRECTIONS
-- the words of one row are enough
direction_row : (xs ys : List (Row × ℕ × ℕ)) (r : Row) (n : ℕ) (d : Direction) → ((p x : ℕ) → Has xs (r, p, x) → Has ys (r, p, x)) → HaveDirection xs r n d → HaveDirection ys r n d
direction_row xs ys r n d more h = record {
  count = h.count;
  counted = more 1 h.count h.counted;
  below = h.below;
  head = h.head;
  has_head = more (2 + 4 * n) h.head h.has_head;
  scopes = h.scopes;
  is = h.is;
}

pub direction_more : (xs ys : List (Row × ℕ × ℕ)) (r : Row) (n : ℕ) (d : Direction) → ((x : Row × ℕ × ℕ) → Has xs x → Has ys x) → HaveDirection xs r n d → HaveDirection ys r n d
direction_more xs ys r n d more h = direction_row xs ys r n d (λ p x i. more (r, p, x) i) h

pub sees_direction_more : {Nacks : Rattle.protocol_values.specs.declared.NackName.NackName → Type 0} {Lives : ℕ → Type 0} (About : Row → Type 0) (s t : Seen) (r : Row) (n : ℕ) (d : Direction) → LearnsOf About Nacks Lives s t → SeesDirection s r n d → SeesDirection t r n d
sees_direction_more About s t r n d l (inl h) = inl (direction_more s.words t.words r n d l.words.0 h)
sees_direction_more About s t r n d l (inr h) = inr (l.opened.0 r h.0, subst (λ (ds : List (Row × ℕ × ℕ)). HaveDirection ds r n d) (sym l.drafts) h.1)

-- and of other rows nothing more is seen
pub sees_direction_apart : (About : Row → Type 0) (s t : Seen) (r : Row) (n : ℕ) (d : Direction) → Learns About s t → ¬ About r → SeesDirection t r n d → SeesDirection s r n d
sees_direction_apart About s t r n d l other (inl h) =
    inl (direction_row t.words s.words r n d (λ p x g. ⊎_elim (λ (old : Has s.words (r, p, x)). old) (λ (new : About r). absurd (other new)) (l.words.1 (r, p, x) g)) h)
sees_direction_apart About s t r n d l other (inr h) = inr (
  ⊎_elim (λ (old : Has s.opened r). old) (λ (new : About r). absurd (other new)) (l.opened.1 r h.0),
  subst (λ (ds : List (Row × ℕ × ℕ)). HaveDirection ds r n d) l.drafts h.1,
)

-- WHAT WAS SEEN BEFORE AGREES with what is read now
module _ (threads rows : ℕ) (s : Seen) (agree : Coherent threads rows s) (r : Row) (n : ℕ) (d : Direction) where
  pub direction_below : (count : ℕ) → Has s.words (r, 1, count) → SeesDirection s r n d → n < unwrap_or (count_of count) 0
  direction_below count now (inl h) = subst (λ (x : ℕ). n < unwrap_or (count_of x) 0) (agree.one_word r 1 h.count count h.counted now) h.below
  direction_below count now (inr (opened, h)) = subst (λ (x : ℕ). n < unwrap_or (count_of x) 0) (agree.as_drafted r 1 h.count count h.counted now) h.below

  pub direction_same : (w : ℕ) (head : Head) → Has s.words (r, 2 + 4 * n, w) → head_of w ≡ Some head → SeesDirection s r n d → head.direction ≡ d
  direction_same w head now is (inl h) = ap (λ (x : Head). x.direction) (some_inj head _ (sym is ∙ ap head_of (sym (agree.one_word r (2 + 4 * n) h.head w h.has_head now)) ∙ h.is))
  direction_same w head now is (inr (opened, h)) = ap (λ (x : Head). x.direction) (some_inj head _ (sym is ∙ ap head_of (sym (agree.as_drafted r (2 + 4 * n) h.head w h.has_head now)) ∙ h.is))

same_head : (xs ys : List (Row × ℕ × ℕ)) (r : Row) (n : ℕ) (d e : Direction) → ((p x y : ℕ) → Has xs (r, p, x) → Has ys (r, p, y) → x ≡ y) → HaveDirection xs r n d → HaveDirection ys r n e → d ≡ e
same_head xs ys r n d e agree h i =
    ap (λ (x : Head). x.direction) (some_inj (record { direction = d; scopes = h.scopes }) (record { direction = e; scopes = i.scopes }) (sym h.is ∙ ap head_of (agree (2 + 4 * n) h.head i.head h.has_head i.has_head) ∙ i.is))

pub one_direction : (threads rows : ℕ) (s : Seen) (r : Row) (n : ℕ) (d e : Direction) → Coherent threads rows s → SeesDirection s r n d → SeesDirection s r n e → d ≡ e
one_direction threads rows s r n d e agree (inl h) (inl i) = same_head s.words s.words r n d e (agree.one_word r) h i
one_direction threads rows s r n d e agree (inl h) (inr i) = same_head s.words s.drafts r n d e (λ p x y f g. sym (agree.as_drafted r p y x g f)) h i.1
one_direction threads rows s r n d e agree (inr h) (inl i) = same_head s.drafts s.words r n d e (agree.as_drafted r) h.1 i
one_direction threads rows s r n d e agree (inr h) (inr i) = same_head s.drafts s.drafts r n d e (agree.one_draft r) h.1 i.1

-- AN OFFER GOES IN THE DIRECTION OF ITS HEAD
abbrev pub GoesIn : Direction → Offer → Type 0
GoesIn d o = (x : Atom) × (y : Atom) × (z : Atom) × (o.base ≡ base_of d x y z)

-- four well-formed words are an offer that goes in the direction of the head
pub offer_headed : (a b c e : ℕ) (head : Head) → head_of a ≡ Some head → is_some (atom_of b) ≡ true → is_some (atom_of c) ≡ true → is_some (atom_of e) ≡ true → (o : Offer) × (offer_of a b c e ≡ Some o) × GoesIn head.direction o
unfolding offer_of
offer_headed a b c e head = four (head_of a) (atom_of b) (atom_of c) (atom_of e)
  where
    four : (h : Option Head) (x y z : Option Atom) → h ≡ Some head → is_some x ≡ true → is_some y ≡ true → is_some z ≡ true → (o : Offer) × (offer_read h x y z ≡ Some o) × GoesIn head.direction o
    four None x y z p q r s = let bad : None ≡ Some head = p in cc
    four (Some h) None y z p q r s = absurd (true≢false (sym q))
    four (Some h) (Some x) None z p q r s = absurd (true≢false (sym r))
    four (Some h) (Some x) (Some y) None p q r s = absurd (true≢false (sym s))
    four (Some h) (Some x) (Some y) (Some z) p q r s = (
      record { base = base_of h.direction x y z; scopes = h.scopes },
      refl,
      (x, y, z, ap (λ (g : Head). base_of g.direction x y z) (some_inj h head p)),
    )

head_told : (a b c e : ℕ) (o : Offer) → offer_of a b c e ≡ Some o → (head : Head) × (head_of a ≡ Some head) × GoesIn head.direction o
unfolding offer_of
head_told a b c e o = four (head_of a) (atom_of b) (atom_of c) (atom_of e)
  where
    four : (h : Option Head) (x y z : Option Atom) → offer_read h x y z ≡ Some o → (head : Head) × (h ≡ Some head) × GoesIn head.direction o
    four None x y z p = let bad : None ≡ Some o = p in cc
    four (Some h) None y z p = let bad : None ≡ Some o = p in cc
    four (Some h) (Some x) None z p = let bad : None ≡ Some o = p in cc
    four (Some h) (Some x) (Some y) None p = let bad : None ≡ Some o = p in cc
    four (Some h) (Some x) (Some y) (Some z) p = (h, refl, (x, y, z, ap (λ (q : Offer). q.base) (sym (some_inj _ o p))))

direction_of_offer : (words : List (Row × ℕ × ℕ)) (r : Row) (n : ℕ) (o : Offer) → HaveOffer words r n o → (d : Direction) × HaveDirection words r n d × GoesIn d o
direction_of_offer words r n o h =
    let told = head_told h.head h.first h.second h.third o h.is in (
      told.0.direction,
      record {
        count = h.count;
        counted = h.counted;
        below = h.below;
        head = h.head;
        has_head = h.has_head;
        scopes = told.0.scopes;
        is = told.1;
      },
      told.2,
    )

-- whoever has seen an offer has seen its direction
pub sees_direction : (s : Seen) (r : Row) (n : ℕ) (o : Offer) → SeesOffer s r n o → (d : Direction) × SeesDirection s r n d × GoesIn d o
sees_direction s r n o (inl h) = let told = direction_of_offer s.words r n o h in (told.0, inl told.1, told.2)
sees_direction s r n o (inr (opened, h)) = let told = direction_of_offer s.drafts r n o h in (told.0, inr (opened, told.1), told.2)

-- WHETHER TWO OFFERS MEET is told by their directions
bases_meet_as : (d e : Direction) (x y z u v w : Atom) → bases_meet (base_of d x y z) (base_of e u v w) ≡ directions_meet d e
bases_meet_as (Send c m) (Send k p) x y z u v w = refl
bases_meet_as (Send c m) (Recv k) x y z u v w = refl
bases_meet_as (Send c m) (Always p) x y z u v w = refl
bases_meet_as (Send c m) (OnNack k) x y z u v w = refl
bases_meet_as (Send c m) (OnEnd p) x y z u v w = refl
bases_meet_as (Send c m) Never x y z u v w = refl
bases_meet_as (Recv c) (Send k p) x y z u v w = refl
bases_meet_as (Recv c) (Recv k) x y z u v w = refl
bases_meet_as (Recv c) (Always p) x y z u v w = refl
bases_meet_as (Recv c) (OnNack k) x y z u v w = refl
bases_meet_as (Recv c) (OnEnd p) x y z u v w = refl
bases_meet_as (Recv c) Never x y z u v w = refl
bases_meet_as (Always m) e x y z u v w = refl
bases_meet_as (OnNack k) e x y z u v w = refl
bases_meet_as (OnEnd p) e x y z u v w = refl
bases_meet_as Never e x y z u v w = refl

pub offers_meet_as : (d e : Direction) (a b : Offer) → GoesIn d a → GoesIn e b → offers_meet (Some a) (Some b) ≡ directions_meet d e
offers_meet_as d e a b (x, y, z, is_a) (u, v, w, is_b) = (λ i. bases_meet (is_a i) (is_b i)) ∙ bases_meet_as d e x y z u v w

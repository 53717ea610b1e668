-- What other crates cite of the words: each value has its word, and each well-formed word is the word of its value.
use Rattle.std.proofs.Common.{◌≡◌, ℕ, ◌+◌, ◌*◌, ◌%◌, ◌^◌, ◌<◌, ◌≤◌, Bool, true, false, ◌==◌, ◌&&◌, nat_le, if◌then◌else◌, Option, Some, None, IfSome, is_some, option_and_then, ◌-◌, refl, sym, ap, ◌∙◌, arith, eqb-true, eq-eqb, leb-true, le-leb, subst}
use Rattle.std.proofs.lemmas.Bool.{true≢false, and_parts, and_from, cond-true}
use Rattle.std.proofs.lemmas.Option.{none-some, same_Some, cond_some}
use Rattle.protocol_values.specs.declared.Row.{Row}
use Rattle.protocol_values.specs.declared.Joined.{Joined}
use Rattle.protocol_values.specs.declared.Cell.{Cell}
use Rattle.protocol_values.specs.declared.Cell.TheVariants.{Fresh, Waiting, Claimed, Synched, Taken}
use Rattle.protocol_values.specs.declared.Direction.{Direction}
use Rattle.protocol_values.specs.declared.Direction.TheVariants.{Never, Send, Recv, Always, OnNack, OnEnd}
use Rattle.protocol_values.specs.declared.Head.{Head}
use Rattle.protocol_values.specs.declared.Atom.{Atom}
use Rattle.protocol_values.specs.declared.Atom.TheVariants.{Num, Chan, Nack}
use Rattle.protocol_values.specs.declared.Binding.{Binding}
use Rattle.protocol_values.specs.declared.NackWord.{NackWord}
use Rattle.protocol_values.specs.declared.NackWord.TheVariants.{Unbound, Bound, Carried}
use Rattle.protocol_values.specs.declared.Course.{Course}
use Rattle.protocol_values.specs.declared.Course.TheVariants.{Unstarted, Running, Ended}
use Rattle.protocol_values.specs.declared.Message.{Message}
use Rattle.protocol_values.specs.declared.Message.TheVariants.{Empty, One, Two, Three}
use Rattle.protocol_values.specs.declared.Base.{Base}
use Rattle.protocol_values.specs.declared.Base.TheVariants as base
use Rattle.protocol_values.specs.declared.Offer.{Offer}
use Rattle.protocol_values.specs.Words.{field, partner_bits, joined_bits, cell_word, IsRowInRange, IsJoinedInRange, IsCellInRange, joined_fields, cell_fields, has_stamp, cell_of, count_of, course_word, course_fields, ends_in_a_table, IsCourseInRange, course_of, direction_bits, direction_fields, head_word, head_fields, head_of, IsNackInRange, IsDirectionInRange, IsHeadInRange, atom_word, atom_fields, atom_of, IsAtomInRange, nack_word, nack_fields, nack_of, IsBindingInRange, IsNackWordInRange, offer_of, is_word_for, IsMessageInRange, IsBaseInRange, IsOfferInRange, atom_count, head_in, direction_in, message_in, first_word, second_word, third_word, message_of, base_of}

-- ANY WORD: what its fields say, and the test that it is the word of just that

of_word : {V : Type 0} (word_of : V → ℕ) (fields : ℕ → V) (v : V) → fields (word_of v) ≡ v →
    (if word_of (fields (word_of v)) == word_of v then Some (fields (word_of v)) else None) ≡ Some v
of_word word_of fields v e = rw e (cond-true (word_of v == word_of v) (Some v) None (eq-eqb _ _ refl))

word_of_same : {V : Type 0} (word_of : V → ℕ) (fields : ℕ → V) (w : ℕ) (v : V) →
    (if word_of (fields w) == w then Some (fields w) else None) ≡ Some v → (fields w ≡ v) × (w ≡ word_of v)
word_of_same word_of fields w v e =
    let h = cond_some (word_of (fields w) == w) (fields w) v e in
    (h.1, sym (eqb-true _ _ h.0) ∙ ap word_of h.1)

-- the value that a `Some` holds
pub some_value : {A : Type 0} (o : Option A) → is_some o ≡ true → (x : A) × (o ≡ Some x)
some_value None h = absurd (true≢false (sym h))
some_value (Some x) h = (x, refl)

-- a word that is known to be well-formed is what its fields say
fields_of_some : {A : Type 0} (b : Bool) (x : A) → is_some (if b then Some x else None) ≡ true → (if b then Some x else None) ≡ Some x
fields_of_some false x h = absurd (true≢false (sym h))
fields_of_some true x h = refl

-- THE CELL

joined_fields-at : (state own stamp : ℕ) (p : Option (Row × ℕ)) → state < 8 → own < 8 →
    IfSome p (λ p. IsRowInRange p.0 × (p.1 < 8)) → stamp < 2 ^ 32 →
    joined_fields (state + (own * 2 ^ 3 + partner_bits p + stamp * 2 ^ 26)) ≡ record { own = own; partner = p; stamp = stamp }
joined_fields-at state own stamp None a b c d =
    let w : ℕ = state + (own * 2 ^ 3 + 0 + stamp * 2 ^ 26) in
    let e₁ : field w 3 3 ≡ own = omega arith in
    let e₂ : field w 6 1 ≡ 0 = omega arith in
    let e₃ : field w 26 32 ≡ stamp = omega arith in
    simp (e₁, e₂, e₃)
joined_fields-at state own stamp (Some (row, offer)) a b c d =
    let w : ℕ = state + (own * 2 ^ 3 + (2 ^ 6 + offer * 2 ^ 7 + row.sync * 2 ^ 10 + row.thread * 2 ^ 20) + stamp * 2 ^ 26) in
    let sync : row.sync < 1024 = c.0.sync in
    let thread : row.thread < 64 = c.0.thread in
    let partner : offer < 8 = c.1 in
    let e₁ : field w 3 3 ≡ own = omega arith in
    let e₂ : field w 6 1 ≡ 1 = omega arith in
    let e₃ : field w 26 32 ≡ stamp = omega arith in
    let e₄ : field w 7 3 ≡ offer = omega arith in
    let e₅ : field w 10 10 ≡ row.sync = omega arith in
    let e₆ : field w 20 6 ≡ row.thread = omega arith in
    simp (e₁, e₂, e₃, e₄, e₅, e₆)

partner_bits_whole : (p : Option (Row × ℕ)) → (k : ℕ) × (partner_bits p ≡ 64 * k)
partner_bits_whole None = (0, refl)
partner_bits_whole (Some (row, offer)) = (1 + offer * 2 + row.sync * 2 ^ 4 + row.thread * 2 ^ 14, omega arith)

state_of_joined : (state : ℕ) (j : Joined) → state < 8 → field (state + joined_bits j) 0 3 ≡ state
state_of_joined state j h = let k = partner_bits_whole j.partner in omega (arith, k.1)

joined_fields-joined_bits : (state : ℕ) (j : Joined) → state < 8 → IsJoinedInRange j → joined_fields (state + joined_bits j) ≡ j
joined_fields-joined_bits state j h r = joined_fields-at state j.own j.stamp j.partner h r.own r.partner r.stamp_high

pub cell_fields-cell_word : (c : Cell) → IsCellInRange c → cell_fields (cell_word c) ≡ c
unfolding cell_word
cell_fields-cell_word Fresh r = refl
cell_fields-cell_word Waiting r = refl
cell_fields-cell_word Claimed r = refl
cell_fields-cell_word (Synched j) r =
    let s : field (3 + joined_bits j) 0 3 ≡ 3 = state_of_joined 3 j (omega arith) in
    simp s (ap Synched (joined_fields-joined_bits 3 j (omega arith) r))
cell_fields-cell_word (Taken j) r =
    let s : field (4 + joined_bits j) 0 3 ≡ 4 = state_of_joined 4 j (omega arith) in
    simp s (ap Taken (joined_fields-joined_bits 4 j (omega arith) r))

has_stamp_in_range : (c : Cell) → IsCellInRange c → has_stamp c ≡ true
has_stamp_in_range Fresh r = refl
has_stamp_in_range Waiting r = refl
has_stamp_in_range Claimed r = refl
has_stamp_in_range (Synched j) r = le-leb _ _ r.stamp_low
has_stamp_in_range (Taken j) r = le-leb _ _ r.stamp_low

-- Each value has its word.
pub cell_of-cell_word : (c : Cell) → IsCellInRange c → cell_of (cell_word c) ≡ Some c
unfolding cell_of
cell_of-cell_word c r =
    rw (cell_fields-cell_word c r)
    (cond-true _ _ _ (and_from (cell_word c == cell_word c) (has_stamp c) (eq-eqb _ _ refl) (has_stamp_in_range c r)))

partner_in_range : (b : Bool) (row : Row) (offer : ℕ) → IsRowInRange row → offer < 8 →
    IfSome {T = Row × ℕ} (if b then Some (row, offer) else None) (λ p. IsRowInRange p.0 × (p.1 < 8))
partner_in_range true row offer r h = (r, h)
partner_in_range false row offer r h = tt

IsJoinedInRange-joined_fields : (w : ℕ) → 1 ≤ field w 26 32 → IsJoinedInRange (joined_fields w)
IsJoinedInRange-joined_fields w h = record {
  own = omega arith;
  partner = partner_in_range (field w 6 1 == 1) (record { thread = field w 20 6; sync = field w 10 10 }) (field w 7 3)
      (record { thread = omega arith; sync = omega arith }) (omega arith);
  stamp_low = h;
  stamp_high = omega arith;
}

abbrev cell_at : Joined → Bool → Bool → Bool → Bool → Cell
cell_at j a b c d =
    if a then Waiting else (if b then Claimed else (if c then Synched j else (if d then Taken j else Fresh)))

IsCellInRange-cell_at : (j : Joined) (a b c d : Bool) → (nat_le 1 j.stamp ≡ true → IsJoinedInRange j) →
    has_stamp (cell_at j a b c d) ≡ true → IsCellInRange (cell_at j a b c d)
IsCellInRange-cell_at j true b c d joined h = tt
IsCellInRange-cell_at j false true c d joined h = tt
IsCellInRange-cell_at j false false true d joined h = joined h
IsCellInRange-cell_at j false false false true joined h = joined h
IsCellInRange-cell_at j false false false false joined h = tt

-- What the fields of a word say is in range, where its stamp is.
pub IsCellInRange-cell_fields : (w : ℕ) → has_stamp (cell_fields w) ≡ true → IsCellInRange (cell_fields w)
IsCellInRange-cell_fields w =
    IsCellInRange-cell_at (joined_fields w) (field w 0 3 == 1) (field w 0 3 == 2) (field w 0 3 == 3) (field w 0 3 == 4)
    (λ h. IsJoinedInRange-joined_fields w (leb-true _ _ h))

-- A well-formed word is the word of its value.
pub cell_word-cell_of : (w : ℕ) (c : Cell) → cell_of w ≡ Some c → IsCellInRange c × (w ≡ cell_word c)
unfolding cell_of
cell_word-cell_of w c e =
    let h = cond_some ((cell_word (cell_fields w) == w) && has_stamp (cell_fields w)) (cell_fields w) c e in
    let t = and_parts _ _ h.0 in
    (subst IsCellInRange h.1 (IsCellInRange-cell_fields w t.1), sym (eqb-true _ _ t.0) ∙ ap cell_word h.1)

-- A new table is all zeros.
pub cell_of-zero : cell_of 0 ≡ Some Fresh
unfolding cell_of cell_word
cell_of-zero = refl

-- What agrees with `cell_of` at a word is the value whose word it is.
pub cell_of_only : (o : Option Cell) (w : ℕ) → o ≡ cell_of w → (c : Cell) → IsCellInRange c → w ≡ cell_word c → o ≡ Some c
cell_of_only o w e c r h = e ∙ ap cell_of h ∙ cell_of-cell_word c r

-- THE NUMBER OF OFFERS

pub count-count_of : (w n : ℕ) → count_of w ≡ Some n → (n ≤ 8) × (w ≡ n)
unfolding count_of
count-count_of w n e =
    let h = cond_some (nat_le w 8) w n e in
    (omega (arith, leb-true _ _ h.0, h.1), h.1)

pub count_of-zero : count_of 0 ≡ Some 0
unfolding count_of
count_of-zero = refl

-- THE HEAD OF AN OFFER

direction_fields-direction_bits : (d : Direction) (scopes : ℕ) → IsDirectionInRange d → scopes < 16 →
    direction_fields (direction_bits d + scopes * 2 ^ 25) ≡ d
direction_fields-direction_bits Never scopes r h =
    let w : ℕ = 0 + scopes * 2 ^ 25 in
    let state : field w 0 3 ≡ 0 = omega arith in
    simp state
direction_fields-direction_bits (Send chan atoms) scopes r h =
    let w : ℕ = 1 + chan * 2 ^ 3 + atoms * 2 ^ 23 + scopes * 2 ^ 25 in
    let chan_low : chan < 256 = r.0 in
    let atoms_low : atoms < 4 = r.1 in
    let e₁ : field w 0 3 ≡ 1 = omega arith in
    let e₂ : field w 3 8 ≡ chan = omega arith in
    let e₃ : field w 23 2 ≡ atoms = omega arith in
    simp (e₁, e₂, e₃)
direction_fields-direction_bits (Recv chan) scopes r h =
    let w : ℕ = 2 + chan * 2 ^ 3 + scopes * 2 ^ 25 in
    let e₁ : field w 0 3 ≡ 2 = omega arith in
    let e₂ : field w 3 8 ≡ chan = omega arith in
    simp (e₁, e₂)
direction_fields-direction_bits (Always atoms) scopes r h =
    let w : ℕ = 3 + atoms * 2 ^ 23 + scopes * 2 ^ 25 in
    let e₁ : field w 0 3 ≡ 3 = omega arith in
    let e₂ : field w 23 2 ≡ atoms = omega arith in
    simp (e₁, e₂)
direction_fields-direction_bits (OnNack n) scopes r h =
    let w : ℕ = 4 + n.thread * 2 ^ 11 + n.k * 2 ^ 17 + scopes * 2 ^ 25 in
    let thread : n.thread < 64 = r.thread in
    let k : n.k < 64 = r.k in
    let e₁ : field w 0 3 ≡ 4 = omega arith in
    let e₂ : field w 11 6 ≡ n.thread = omega arith in
    let e₃ : field w 17 6 ≡ n.k = omega arith in
    simp (e₁, e₂, e₃)
direction_fields-direction_bits (OnEnd thread) scopes r h =
    let w : ℕ = 5 + thread * 2 ^ 11 + scopes * 2 ^ 25 in
    let e₁ : field w 0 3 ≡ 5 = omega arith in
    let e₂ : field w 11 6 ≡ thread = omega arith in
    simp (e₁, e₂)

scopes_of_direction : (d : Direction) (scopes : ℕ) → IsDirectionInRange d → scopes < 16 →
    field (direction_bits d + scopes * 2 ^ 25) 25 4 ≡ scopes
scopes_of_direction Never scopes r h = omega arith
scopes_of_direction (Send chan atoms) scopes r h =
    let chan_low : chan < 256 = r.0 in
    let atoms_low : atoms < 4 = r.1 in
    omega arith
scopes_of_direction (Recv chan) scopes r h = omega arith
scopes_of_direction (Always atoms) scopes r h = omega arith
scopes_of_direction (OnNack n) scopes r h =
    let thread : n.thread < 64 = r.thread in
    let k : n.k < 64 = r.k in
    omega arith
scopes_of_direction (OnEnd thread) scopes r h = omega arith

pub head_fields-head_word : (h : Head) → IsHeadInRange h → head_fields (head_word h) ≡ h
unfolding head_word
head_fields-head_word h r =
    simp (direction_fields-direction_bits h.direction h.scopes r.direction r.scopes, scopes_of_direction h.direction h.scopes r.direction r.scopes)

pub head_of-head_word : (h : Head) → IsHeadInRange h → head_of (head_word h) ≡ Some h
unfolding head_of
head_of-head_word h r = of_word head_word head_fields h (head_fields-head_word h r)

abbrev direction_at : Direction → Direction → Direction → Direction → Direction → Bool → Bool → Bool → Bool → Bool → Direction
direction_at p q r s t a b c d e = if a then p else (if b then q else (if c then r else (if d then s else (if e then t else Never))))

IsDirectionInRange-at : (p q r s t : Direction) (a b c d e : Bool) → IsDirectionInRange p → IsDirectionInRange q →
    IsDirectionInRange r → IsDirectionInRange s → IsDirectionInRange t → IsDirectionInRange (direction_at p q r s t a b c d e)
IsDirectionInRange-at p q r s t true b c d e hp hq hr hs ht = hp
IsDirectionInRange-at p q r s t false true c d e hp hq hr hs ht = hq
IsDirectionInRange-at p q r s t false false true d e hp hq hr hs ht = hr
IsDirectionInRange-at p q r s t false false false true e hp hq hr hs ht = hs
IsDirectionInRange-at p q r s t false false false false true hp hq hr hs ht = ht
IsDirectionInRange-at p q r s t false false false false false hp hq hr hs ht = tt

IsNackInRange-at : (thread k : ℕ) → thread < 64 → k < 64 → IsNackInRange (record { thread = thread; k = k })
IsNackInRange-at thread k h g = record { thread = h; k = g }

pub IsHeadInRange-head_fields : (w : ℕ) → IsHeadInRange (head_fields w)
IsHeadInRange-head_fields w = record {
  direction = IsDirectionInRange-at (Send (field w 3 8) (field w 23 2)) (Recv (field w 3 8)) (Always (field w 23 2))
      (OnNack (record { thread = field w 11 6; k = field w 17 6 })) (OnEnd (field w 11 6))
      (field w 0 3 == 1) (field w 0 3 == 2) (field w 0 3 == 3) (field w 0 3 == 4) (field w 0 3 == 5)
      (omega arith, omega arith) (omega arith) (omega arith) (IsNackInRange-at (field w 11 6) (field w 17 6) (omega arith) (omega arith)) (omega arith);
  scopes = omega arith;
}

pub head_word-head_of : (w : ℕ) (h : Head) → head_of w ≡ Some h → IsHeadInRange h × (w ≡ head_word h)
unfolding head_of
head_word-head_of w h e =
    let s = word_of_same head_word head_fields w h e in
    (subst IsHeadInRange s.0 (IsHeadInRange-head_fields w), s.1)

pub head_of-zero : head_of 0 ≡ Some (record { direction = Never; scopes = 0 })
unfolding head_of head_word
head_of-zero = refl

pub head_of_only : (o : Option Head) (w : ℕ) → o ≡ head_of w → (h : Head) → IsHeadInRange h → w ≡ head_word h → o ≡ Some h
head_of_only o w e h r same = e ∙ ap head_of same ∙ head_of-head_word h r

-- AN ATOM

pub atom_fields-atom_word : (a : Atom) → IsAtomInRange a → atom_fields (atom_word a) ≡ a
unfolding atom_word
atom_fields-atom_word (Num n) r =
    let e₁ : field (n * 2 ^ 2) 0 2 ≡ 0 = omega arith in
    let e₂ : field (n * 2 ^ 2) 2 32 ≡ n = omega arith in
    simp (e₁, e₂)
atom_fields-atom_word (Chan c) r =
    let e₁ : field (1 + c * 2 ^ 2) 0 2 ≡ 1 = omega arith in
    let e₂ : field (1 + c * 2 ^ 2) 2 8 ≡ c = omega arith in
    simp (e₁, e₂)
atom_fields-atom_word (Nack n) r =
    let w : ℕ = 2 + (n.thread * 64 + n.k) * 2 ^ 2 in
    let thread : n.thread < 64 = r.thread in
    let k : n.k < 64 = r.k in
    let e₁ : field w 0 2 ≡ 2 = omega arith in
    let e₂ : field w 8 6 ≡ n.thread = omega arith in
    let e₃ : field w 2 6 ≡ n.k = omega arith in
    simp (e₁, e₂, e₃)

pub atom_of-atom_word : (a : Atom) → IsAtomInRange a → atom_of (atom_word a) ≡ Some a
unfolding atom_of
atom_of-atom_word a r = of_word atom_word atom_fields a (atom_fields-atom_word a r)

IsAtomInRange-at : (p q r : Atom) (a b : Bool) → IsAtomInRange p → IsAtomInRange q → IsAtomInRange r →
    IsAtomInRange (if a then p else (if b then q else r))
IsAtomInRange-at p q r true b hp hq hr = hp
IsAtomInRange-at p q r false true hp hq hr = hq
IsAtomInRange-at p q r false false hp hq hr = hr

pub IsAtomInRange-atom_fields : (w : ℕ) → IsAtomInRange (atom_fields w)
IsAtomInRange-atom_fields w =
    IsAtomInRange-at (Chan (field w 2 8)) (Nack (record { thread = field w 8 6; k = field w 2 6 })) (Num (field w 2 32))
    (field w 0 2 == 1) (field w 0 2 == 2) (omega arith) (IsNackInRange-at (field w 8 6) (field w 2 6) (omega arith) (omega arith))
    (omega arith)

pub atom_word-atom_of : (w : ℕ) (a : Atom) → atom_of w ≡ Some a → IsAtomInRange a × (w ≡ atom_word a)
unfolding atom_of
atom_word-atom_of w a e =
    let s = word_of_same atom_word atom_fields w a e in
    (subst IsAtomInRange s.0 (IsAtomInRange-atom_fields w), s.1)

pub atom_of-zero : atom_of 0 ≡ Some (Num 0)
unfolding atom_of atom_word
atom_of-zero = refl

pub atom_of_only : (o : Option Atom) (w : ℕ) → o ≡ atom_of w → (a : Atom) → IsAtomInRange a → w ≡ atom_word a → o ≡ Some a
atom_of_only o w e a r h = e ∙ ap atom_of h ∙ atom_of-atom_word a r

-- A NACK

pub nack_fields-nack_word : (n : NackWord) → IsNackWordInRange n → nack_fields (nack_word n) ≡ n
unfolding nack_word
nack_fields-nack_word Unbound r = refl
nack_fields-nack_word (Bound b) r =
    let w : ℕ = 1 + b.sync * 2 + b.scope * 2 ^ 11 in
    let sync : b.sync < 1024 = r.sync in
    let scope : b.scope < 4 = r.scope in
    let e₁ : field w 0 1 ≡ 1 = omega arith in
    let e₂ : field w 13 1 ≡ 0 = omega arith in
    let e₃ : field w 1 10 ≡ b.sync = omega arith in
    let e₄ : field w 11 2 ≡ b.scope = omega arith in
    simp (e₁, e₂, e₃, e₄)
nack_fields-nack_word (Carried stamp) r =
    let w : ℕ = 1 + 2 ^ 13 + stamp * 2 ^ 14 in
    let e₁ : field w 0 1 ≡ 1 = omega arith in
    let e₂ : field w 13 1 ≡ 1 = omega arith in
    let e₃ : field w 14 32 ≡ stamp = omega arith in
    simp (e₁, e₂, e₃)

pub nack_of-nack_word : (n : NackWord) → IsNackWordInRange n → nack_of (nack_word n) ≡ Some n
unfolding nack_of
nack_of-nack_word n r = of_word nack_word nack_fields n (nack_fields-nack_word n r)

abbrev nack_at : Binding → ℕ → Bool → Bool → NackWord
nack_at binding stamp a b = if a then (if b then Carried stamp else Bound binding) else Unbound

IsNackWordInRange-at : (binding : Binding) (stamp : ℕ) (a b : Bool) → IsBindingInRange binding → stamp < 2 ^ 32 → IsNackWordInRange (nack_at binding stamp a b)
IsNackWordInRange-at binding stamp true true r low = low
IsNackWordInRange-at binding stamp true false r low = r
IsNackWordInRange-at binding stamp false b r low = tt

pub IsNackWordInRange-nack_fields : (w : ℕ) → IsNackWordInRange (nack_fields w)
IsNackWordInRange-nack_fields w =
    IsNackWordInRange-at (record { sync = field w 1 10; scope = field w 11 2 }) (field w 14 32) (field w 0 1 == 1) (field w 13 1 == 1)
    (record { sync = omega arith; scope = omega arith }) (omega arith)

pub nack_word-nack_of : (w : ℕ) (n : NackWord) → nack_of w ≡ Some n → IsNackWordInRange n × (w ≡ nack_word n)
unfolding nack_of
nack_word-nack_of w n e =
    let s = word_of_same nack_word nack_fields w n e in
    (subst IsNackWordInRange s.0 (IsNackWordInRange-nack_fields w), s.1)

pub nack_of-zero : nack_of 0 ≡ Some Unbound
unfolding nack_of nack_word
nack_of-zero = refl

pub nack_of_only : (o : Option NackWord) (w : ℕ) → o ≡ nack_of w → (n : NackWord) → IsNackWordInRange n → w ≡ nack_word n → o ≡ Some n
nack_of_only o w e n r h = e ∙ ap nack_of h ∙ nack_of-nack_word n r

-- A LIFE

pub course_fields-course_word : (c : Course) → IsCourseInRange c → course_fields (course_word c) ≡ c
unfolding course_word
course_fields-course_word Unstarted r = refl
course_fields-course_word (Running start) r =
    let w : ℕ = 1 + start * 2 in
    let low : start < 2 ^ 32 = r in
    let e₁ : field w 0 1 ≡ 1 = omega arith in
    let e₂ : field w 33 1 ≡ 0 = omega arith in
    let e₃ : field w 1 32 ≡ start = omega arith in
    simp (e₁, e₂, e₃)
course_fields-course_word (Ended start sync) r =
    let w : ℕ = 1 + start * 2 + 2 ^ 33 + sync * 2 ^ 34 in
    let low : start < 2 ^ 32 = r.0 in
    let last : sync ≤ 1024 = r.1 in
    let e₁ : field w 0 1 ≡ 1 = omega arith in
    let e₂ : field w 33 1 ≡ 1 = omega arith in
    let e₃ : field w 1 32 ≡ start = omega arith in
    let e₄ : field w 34 11 ≡ sync = omega arith in
    simp (e₁, e₂, e₃, e₄)

ends_in_range : (c : Course) → IsCourseInRange c → ends_in_a_table c ≡ true
ends_in_range Unstarted r = refl
ends_in_range (Running start) r = refl
ends_in_range (Ended start sync) r = le-leb _ _ r.1

pub course_of-course_word : (c : Course) → IsCourseInRange c → course_of (course_word c) ≡ Some c
unfolding course_of
course_of-course_word c r =
    rw (course_fields-course_word c r)
    (cond-true _ _ _ (and_from (course_word c == course_word c) (ends_in_a_table c) (eq-eqb _ _ refl) (ends_in_range c r)))

abbrev course_at : ℕ → ℕ → Bool → Bool → Course
course_at start sync a b = if a then (if b then Ended start sync else Running start) else Unstarted

IsCourseInRange-at : (start sync : ℕ) (a b : Bool) → start < 2 ^ 32 → ends_in_a_table (course_at start sync a b) ≡ true →
    IsCourseInRange (course_at start sync a b)
IsCourseInRange-at start sync true true low h = (low, leb-true _ _ h)
IsCourseInRange-at start sync true false low h = low
IsCourseInRange-at start sync false b low h = tt

pub IsCourseInRange-course_fields : (w : ℕ) → ends_in_a_table (course_fields w) ≡ true → IsCourseInRange (course_fields w)
IsCourseInRange-course_fields w =
    IsCourseInRange-at (field w 1 32) (field w 34 11) (field w 0 1 == 1) (field w 33 1 == 1) (omega arith)

pub course_word-course_of : (w : ℕ) (c : Course) → course_of w ≡ Some c → IsCourseInRange c × (w ≡ course_word c)
unfolding course_of
course_word-course_of w c e =
    let h = cond_some ((course_word (course_fields w) == w) && ends_in_a_table (course_fields w)) (course_fields w) c e in
    let t = and_parts _ _ h.0 in
    (subst IsCourseInRange h.1 (IsCourseInRange-course_fields w t.1), sym (eqb-true _ _ t.0) ∙ ap course_word h.1)

pub course_of_only : (o : Option Course) (w : ℕ) → o ≡ course_of w → (c : Course) → IsCourseInRange c → w ≡ course_word c → o ≡ Some c
course_of_only o w e c r h = e ∙ ap course_of h ∙ course_of-course_word c r

pub course_of-fields : (w : ℕ) → is_some (course_of w) ≡ true → course_of w ≡ Some (course_fields w)
unfolding course_of
course_of-fields w h = fields_of_some ((course_word (course_fields w) == w) && ends_in_a_table (course_fields w)) (course_fields w) h

-- A WHOLE OFFER

-- the atoms of a message, and the number 0 past the last
abbrev first_atom : Message → Atom
first_atom Empty = Num 0
first_atom (One a) = a
first_atom (Two a b) = a
first_atom (Three a b c) = a

abbrev second_atom : Message → Atom
second_atom Empty = Num 0
second_atom (One a) = Num 0
second_atom (Two a b) = b
second_atom (Three a b c) = b

abbrev third_atom : Message → Atom
third_atom Empty = Num 0
third_atom (One a) = Num 0
third_atom (Two a b) = Num 0
third_atom (Three a b c) = c

atom_of-first_word : (m : Message) → IsMessageInRange m → atom_of (first_word m) ≡ Some (first_atom m)
atom_of-first_word Empty r = atom_of-zero
atom_of-first_word (One a) r = atom_of-atom_word a r
atom_of-first_word (Two a b) r = atom_of-atom_word a r.0
atom_of-first_word (Three a b c) r = atom_of-atom_word a r.0

atom_of-second_word : (m : Message) → IsMessageInRange m → atom_of (second_word m) ≡ Some (second_atom m)
atom_of-second_word Empty r = atom_of-zero
atom_of-second_word (One a) r = atom_of-zero
atom_of-second_word (Two a b) r = atom_of-atom_word b r.1
atom_of-second_word (Three a b c) r = atom_of-atom_word b r.1

atom_of-third_word : (m : Message) → IsMessageInRange m → atom_of (third_word m) ≡ Some (third_atom m)
atom_of-third_word Empty r = atom_of-zero
atom_of-third_word (One a) r = atom_of-zero
atom_of-third_word (Two a b) r = atom_of-zero
atom_of-third_word (Three a b c) r = atom_of-atom_word c r.2

message_of-atoms : (m : Message) → message_of (atom_count m) (first_atom m) (second_atom m) (third_atom m) ≡ m
message_of-atoms Empty = refl
message_of-atoms (One a) = refl
message_of-atoms (Two a b) = refl
message_of-atoms (Three a b c) = refl

base_of-atoms : (b : Base) → base_of (direction_in b) (first_atom (message_in b)) (second_atom (message_in b)) (third_atom (message_in b)) ≡ b
base_of-atoms (base.Send chan m) = ap (base.Send chan) (message_of-atoms m)
base_of-atoms (base.Recv chan) = refl
base_of-atoms (base.Always m) = ap base.Always (message_of-atoms m)
base_of-atoms (base.OnNack n) = refl
base_of-atoms (base.OnEnd thread) = refl
base_of-atoms base.Never = refl

IsMessageInRange-message_in : (b : Base) → IsBaseInRange b → IsMessageInRange (message_in b)
IsMessageInRange-message_in (base.Send chan m) r = r.1
IsMessageInRange-message_in (base.Recv chan) r = tt
IsMessageInRange-message_in (base.Always m) r = r
IsMessageInRange-message_in (base.OnNack n) r = tt
IsMessageInRange-message_in (base.OnEnd thread) r = tt
IsMessageInRange-message_in base.Never r = tt

atom_count_low : (m : Message) → atom_count m < 4
atom_count_low Empty = omega arith
atom_count_low (One a) = omega arith
atom_count_low (Two a b) = omega arith
atom_count_low (Three a b c) = omega arith

IsDirectionInRange-direction_in : (b : Base) → IsBaseInRange b → IsDirectionInRange (direction_in b)
IsDirectionInRange-direction_in (base.Send chan m) r = (r.0, atom_count_low m)
IsDirectionInRange-direction_in (base.Recv chan) r = r
IsDirectionInRange-direction_in (base.Always m) r = atom_count_low m
IsDirectionInRange-direction_in (base.OnNack n) r = r
IsDirectionInRange-direction_in (base.OnEnd thread) r = r
IsDirectionInRange-direction_in base.Never r = tt

pub IsHeadInRange-head_in : (o : Offer) → IsOfferInRange o → IsHeadInRange (head_in o)
IsHeadInRange-head_in o r = record { direction = IsDirectionInRange-direction_in o.base r.base; scopes = r.scopes }

-- What four words that stand for a head and three atoms say.
pub offer_of-parts : (w x y z : ℕ) (h : Head) (a b c : Atom) → head_of w ≡ Some h → atom_of x ≡ Some a →
    atom_of y ≡ Some b → atom_of z ≡ Some c →
    offer_of w x y z ≡ Some (record { base = base_of h.direction a b c; scopes = h.scopes })
unfolding offer_of
offer_of-parts w x y z h a b c p q r s = simp (p, q, r, s)

-- The four words of an offer say that offer.
pub offer_of-offer_words : (o : Offer) → IsOfferInRange o →
    offer_of (head_word (head_in o)) (first_word (message_in o.base)) (second_word (message_in o.base)) (third_word (message_in o.base)) ≡ Some o
offer_of-offer_words o r =
    let m : Message = message_in o.base in
    let within : IsMessageInRange m = IsMessageInRange-message_in o.base r.base in
    offer_of-parts _ _ _ _ (head_in o) (first_atom m) (second_atom m) (third_atom m)
    (head_of-head_word (head_in o) (IsHeadInRange-head_in o r)) (atom_of-first_word m within) (atom_of-second_word m within)
    (atom_of-third_word m within)
    ∙ ap (λ (b : Base). Some (record { base = b; scopes = o.scopes })) (base_of-atoms o.base)

message_at : (p q r : Bool) (a b c : Atom) → IsAtomInRange a → IsAtomInRange b → IsAtomInRange c →
    IsMessageInRange (if p then Empty else (if q then One a else (if r then Two a b else Three a b c)))
message_at true q r a b c ha hb hc = tt
message_at false true r a b c ha hb hc = ha
message_at false false true a b c ha hb hc = (ha, hb)
message_at false false false a b c ha hb hc = (ha, hb, hc)

IsMessageInRange-message_of : (n : ℕ) (a b c : Atom) → IsAtomInRange a → IsAtomInRange b → IsAtomInRange c →
    IsMessageInRange (message_of n a b c)
IsMessageInRange-message_of n a b c = message_at (n == 0) (n == 1) (n == 2) a b c

pub IsBaseInRange-base_of : (d : Direction) (a b c : Atom) → IsDirectionInRange d → IsAtomInRange a → IsAtomInRange b →
    IsAtomInRange c → IsBaseInRange (base_of d a b c)
IsBaseInRange-base_of Never a b c r ha hb hc = tt
IsBaseInRange-base_of (Send chan atoms) a b c r ha hb hc = (r.0, IsMessageInRange-message_of atoms a b c ha hb hc)
IsBaseInRange-base_of (Recv chan) a b c r ha hb hc = r
IsBaseInRange-base_of (Always atoms) a b c r ha hb hc = IsMessageInRange-message_of atoms a b c ha hb hc
IsBaseInRange-base_of (OnNack n) a b c r ha hb hc = r
IsBaseInRange-base_of (OnEnd thread) a b c r ha hb hc = r

-- an offer that was put together from a head and three atoms
pub record OfferParts (p : Option Head) (q r s : Option Atom) (o : Offer) : Type 0 where
  pub head : Head
  pub first : Atom
  pub second : Atom
  pub third : Atom
  pub head_is : p ≡ Some head
  pub first_is : q ≡ Some first
  pub second_is : r ≡ Some second
  pub third_is : s ≡ Some third
  pub offer_is : o ≡ record { base = base_of head.direction first second third; scopes = head.scopes }

offer_parts : (p : Option Head) (q r s : Option Atom) (o : Offer) →
    option_and_then (λ h. option_and_then (λ a. option_and_then (λ b. option_and_then (λ c.
    Some (record { base = base_of h.direction a b c; scopes = h.scopes })) s) r) q) p ≡ Some o → OfferParts p q r s o
offer_parts None q r s o e = absurd (none-some o e)
offer_parts (Some h) None r s o e = absurd (none-some o e)
offer_parts (Some h) (Some a) None s o e = absurd (none-some o e)
offer_parts (Some h) (Some a) (Some b) None o e = absurd (none-some o e)
offer_parts (Some h) (Some a) (Some b) (Some c) o e =
    record { head = h; first = a; second = b; third = c; head_is = refl; first_is = refl; second_is = refl; third_is = refl; offer_is = sym (same_Some _ _ e) }

-- Words that stand for an offer stand for a head and three atoms.
pub parts_of_offer : (w x y z : ℕ) (o : Offer) → offer_of w x y z ≡ Some o →
    OfferParts (head_of w) (atom_of x) (atom_of y) (atom_of z) o
unfolding offer_of
parts_of_offer w x y z o e = offer_parts (head_of w) (atom_of x) (atom_of y) (atom_of z) o e

pub IsOfferInRange-offer_of : (w x y z : ℕ) (o : Offer) → offer_of w x y z ≡ Some o → IsOfferInRange o
IsOfferInRange-offer_of w x y z o e =
    let p = parts_of_offer w x y z o e in
    let h = (head_word-head_of w p.head p.head_is).0 in
    let a = (atom_word-atom_of x p.first p.first_is).0 in
    let b = (atom_word-atom_of y p.second p.second_is).0 in
    let c = (atom_word-atom_of z p.third p.third_is).0 in
    subst IsOfferInRange (sym p.offer_is)
    (record { base = IsBaseInRange-base_of p.head.direction p.first p.second p.third h.direction a b c; scopes = h.scopes })

-- THE PLACES

-- The place of a cell takes just the words of cells.
pub cell_is_word : (w : ℕ) → is_word_for 0 w ≡ is_some (cell_of w)
unfolding is_word_for
cell_is_word w = refl

some_at : (a b c : Bool) (p q r s : Bool) → p ≡ true → q ≡ true → r ≡ true → s ≡ true →
    (if a then p else (if b then q else (if c then r else s))) ≡ true
some_at true b c p q r s hp hq hr hs = hp
some_at false true c p q r s hp hq hr hs = hq
some_at false false true p q r s hp hq hr hs = hr
some_at false false false p q r s hp hq hr hs = hs

-- A word of zero is well-formed at every place.
pub is_word_for-zero : (place : ℕ) → is_word_for place 0 ≡ true
unfolding is_word_for
is_word_for-zero place =
    some_at (place == 0) (place == 1) ((place - 2) % 4 == 0) _ _ _ _ (ap is_some cell_of-zero) (ap is_some count_of-zero)
    (ap is_some head_of-zero) (ap is_some atom_of-zero)

-- A WORD THAT IS KNOWN to be well-formed is what its fields say

pub cell_of-fields : (w : ℕ) → is_some (cell_of w) ≡ true → cell_of w ≡ Some (cell_fields w)
unfolding cell_of
cell_of-fields w h = fields_of_some ((cell_word (cell_fields w) == w) && has_stamp (cell_fields w)) (cell_fields w) h

pub head_of-fields : (w : ℕ) → is_some (head_of w) ≡ true → head_of w ≡ Some (head_fields w)
unfolding head_of
head_of-fields w h = fields_of_some (head_word (head_fields w) == w) (head_fields w) h

atom_of-fields : (w : ℕ) (a : Atom) → atom_of w ≡ Some a → atom_of w ≡ Some (atom_fields w)
unfolding atom_of
atom_of-fields w a e = fields_of_some (atom_word (atom_fields w) == w) (atom_fields w) (ap is_some e)

pub offer_of-fields : (w x y z : ℕ) → is_some (offer_of w x y z) ≡ true →
    offer_of w x y z ≡ Some (record { base = base_of (direction_fields w) (atom_fields x) (atom_fields y) (atom_fields z); scopes = field w 25 4 })
offer_of-fields w x y z h =
    let o = some_value (offer_of w x y z) h in
    let p = parts_of_offer w x y z o.0 o.1 in
    offer_of-parts w x y z (head_fields w) (atom_fields x) (atom_fields y) (atom_fields z) (head_of-fields w (ap is_some p.head_is))
    (atom_of-fields x p.first p.first_is) (atom_of-fields y p.second p.second_is) (atom_of-fields z p.third p.third_is)

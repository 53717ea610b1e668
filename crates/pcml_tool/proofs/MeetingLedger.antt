-- A lawful ledger of two rows, of which one sends a number and the other receives it, has that pair as its one commit, or none.
use Rattle.std.proofs.Common.{◌≡◌, ℕ, zero, suc, ◌+◌, ◌<◌, ◌≤◌, Bool, true, false, cond, List, [], ◌∷◌, ◌++◌, sym, refl, ap, ◌∙◌, subst, inl, inr, ◌⊎◌, ⊎_elim, arith, Option, Some, None, is_some, is_none, option_to_list, slice_index_or, length, append_assoc}
use Rattle.std.proofs.lemmas.Bool.{false≢true, and_parts, ltb-true}
use Rattle.protocol_values.specs.declared.Atom.TheVariants.{Num}
use Rattle.protocol_values.specs.declared.Base.{Base}
use Rattle.protocol_values.specs.declared.Base.TheVariants.{Send, Recv, Always, OnNack, OnEnd, Never}
use Rattle.protocol_values.specs.declared.Cause.TheVariants as cause
use Rattle.protocol_values.specs.declared.Commit.{Commit}
use Rattle.protocol_values.specs.declared.Commit.TheVariants.{Pair, Alone}
use Rattle.protocol_values.specs.declared.Joined.{Joined}
use Rattle.protocol_values.specs.declared.Message.{Message}
use Rattle.protocol_values.specs.declared.Message.TheVariants.{One}
use Rattle.protocol_values.specs.declared.Offer.{Offer}
use Rattle.protocol_values.specs.declared.Row.{Row}
use Rattle.protocol_values.specs.Commits.{stamp_of}
use Rattle.protocol_ledger.specs.Ledgers.{Ledger, HasCommit, Offers, CountsFor, CountsThread, commits_in, course_in, commits_of, commit_by, commit_named, pair_by, told_at, told_by, tells, sends, joined_in, marks_in, offer_in, has_row, no_entry}
use Rattle.std.specs.Prelude.{IsPermutation}
use Rattle.std.specs.Fmt.{digits}
use Rattle.std.specs.List.{All}
use Rattle.std.proofs.lemmas.List.Elements.{All-cons, All-nil}
use Rattle.std.proofs.lemmas.List.Sorted.{length_permutation, All-permutation}
use Rattle.protocol_ledger.specs.Tables.{all_rows, start_of}
use Rattle.journal_text.specs.Names.{numbers}
use Rattle.journal_text.specs.Texts.{commits_text}
use Rattle.protocol_ledger.specs.declared.opening.Life.{Life}
use Rattle.protocol_ledger.specs.declared.opening.Life.TheVariants.{Running, Unstarted}
use Rattle.protocol_ledger.specs.Openings.{HadStarted, start_opening, thread_in}
use Rattle.protocol_ledger.proofs.LedgerLemmas.{first_thread, nobody_waits}
use Rattle.protocol_ledger.proofs.RowLemmas.{same_row}
use Rattle.protocol_ledger.proofs.Linking.{some_inj}
use Rattle.pcml_tool.specs.Meet.{first_row, meeting_of, meeting_line, send_of, receive_offer, HasTwoOffers, PrintsMeeting}

-- both threads start at once
pub both_start : (t : ℕ) → t < 2 → HadStarted (start_opening 2 0) t 0
both_start t h =
    let is : thread_in (start_opening 2 0) t ≡ (Running, 0) = first_thread 2 0 t h ∙ ap (λ (b : Bool). (cond b Unstarted Running, 0)) (nobody_waits t) in (
      (λ e. let bad : Running ≡ Unstarted = sym (ap (λ (x : Life × ℕ). x.0) is) ∙ e in cc),
      ap (λ (x : Life × ℕ). x.1) is,
    )

-- an offer is the first of one of the two rows
abbrev IsOneOf : ℕ → Row → ℕ → Offer → Type 0
IsOneOf value r n o = ((r ≡ first_row 0) × (n ≡ 0) × (o ≡ send_of value)) ⊎ ((r ≡ first_row 1) × (n ≡ 0) × (o ≡ receive_offer))

zero_case : (k : ℕ) → (k ≡ 0) ⊎ (0 < k)
zero_case zero = inl refl
zero_case (suc k) = inr (omega arith)

module _ (value : ℕ) (l : Ledger) (h : HasTwoOffers value l) where
  row_there : (r : Row) (n : ℕ) (o : Offer) → offer_in l r n ≡ Some o → (r.thread < 2) × (r.sync < 1)
  unfolding offer_in
  row_there r n o e = by_case (has_row l r) refl
    where
      by_case : (b : Bool) → has_row l r ≡ b → (r.thread < 2) × (r.sync < 1)
      by_case true f =
          let a = and_parts _ _ f in
          (subst (λ (k : ℕ). r.thread < k) h.threads (ltb-true r.thread l.threads a.0), subst (λ (k : ℕ). r.sync < k) h.rows (ltb-true r.sync l.rows a.1))
      by_case false f =
          let none : None ≡ Some o = sym (ap (λ (b : Bool). slice_index_or (cond b (slice_index_or l.entries (Rattle.protocol_ledger.specs.Tables.number_of l.rows r) no_entry) no_entry).offers n None) f) ∙ e in
          cc

  one_of : (r : Row) (n : ℕ) (o : Offer) → offer_in l r n ≡ Some o → IsOneOf value r n o
  one_of r n o e =
      let i = row_there r n o e in
      ⊎_elim
      (λ (z : r.thread ≡ 0). inl (first z))
      (λ (z : r.thread ≡ 1). inr (second z))
      (two r.thread i.0)
    where
      two : (t : ℕ) → t < 2 → (t ≡ 0) ⊎ (t ≡ 1)
      two t b = ⊎_elim (λ (e : t ≡ 1). inr e) (λ (e : t < 1). inl (omega arith)) (Rattle.std.proofs.Math.Nat.eq-or-lt_of_le (let q : t ≤ 1 = omega arith in q))

      is_row : (t : ℕ) → r.thread ≡ t → r ≡ first_row t
      is_row t z = same_row r (first_row t) z (let i = (row_there r n o e).1 in omega arith)

      none : (q : Row) → r ≡ q → ((k : ℕ) → 1 ≤ k → offer_in l q k ≡ None) → 1 ≤ n → ⊥
      none q same lacks low = let bad : None ≡ Some o = sym (lacks n low) ∙ ap (λ (z : Row). offer_in l z n) (sym same) ∙ e in cc

      zero_or : (q : Row) → r ≡ q → ((k : ℕ) → 1 ≤ k → offer_in l q k ≡ None) → n ≡ 0
      zero_or q same lacks = ⊎_elim (λ (z : n ≡ 0). z) (λ (z : 0 < n). absurd (none q same lacks (omega arith))) (zero_case n)

      the_offer : (q : Row) (p : Offer) → r ≡ q → n ≡ 0 → offer_in l q 0 ≡ Some p → o ≡ p
      the_offer q p same z is = some_inj o p (sym e ∙ (λ i. offer_in l (same i) (z i)) ∙ is)

      first : r.thread ≡ 0 → (r ≡ first_row 0) × (n ≡ 0) × (o ≡ send_of value)
      first z = let same = is_row 0 z in let none_before = zero_or (first_row 0) same h.sends_alone in (same, none_before, the_offer (first_row 0) (send_of value) same none_before h.sends)

      second : r.thread ≡ 1 → (r ≡ first_row 1) × (n ≡ 0) × (o ≡ receive_offer)
      second z = let same = is_row 1 z in let none_before = zero_or (first_row 1) same h.receives_alone in (same, none_before, the_offer (first_row 1) receive_offer same none_before h.receives)

  -- the row and the number that offer a send, and a receive
  sender_is : (at : Row × ℕ) (chan : ℕ) (m : Message) → Offers (offer_in l) at (Send chan m) → (at ≡ (first_row 0, 0)) × (chan ≡ 0) × (m ≡ One (Num value))
  sender_is at chan m (o, e, b) = ⊎_elim
      (λ (i : (at.0 ≡ first_row 0) × (at.1 ≡ 0) × (o ≡ send_of value)).
      let base : Send 0 (One (Num value)) ≡ Send chan m = ap (λ (z : Offer). z.base) (sym i.2) ∙ b in
      ((λ k. (i.0 k, i.1 k)), ap chan_in (sym base), ap message_of_send (sym base)))
      (λ (i : (at.0 ≡ first_row 1) × (at.1 ≡ 0) × (o ≡ receive_offer)).
      let bad : Recv 0 ≡ Send chan m = ap (λ (z : Offer). z.base) (sym i.2) ∙ b in cc)
      (one_of at.0 at.1 o e)
    where
      chan_in : Base → ℕ
      chan_in (Send c x) = c
      chan_in (Recv c) = c
      chan_in (Always x) = 0
      chan_in (OnNack x) = 0
      chan_in (OnEnd x) = 0
      chan_in Never = 0

      message_of_send : Base → Message
      message_of_send (Send c x) = x
      message_of_send (Recv c) = One (Num value)
      message_of_send (Always x) = One (Num value)
      message_of_send (OnNack x) = One (Num value)
      message_of_send (OnEnd x) = One (Num value)
      message_of_send Never = One (Num value)

  receiver_is : (at : Row × ℕ) (chan : ℕ) → Offers (offer_in l) at (Recv chan) → at ≡ (first_row 1, 0)
  receiver_is at chan (o, e, b) = ⊎_elim
      (λ (i : (at.0 ≡ first_row 0) × (at.1 ≡ 0) × (o ≡ send_of value)). let bad : Send 0 (One (Num value)) ≡ Recv chan = ap (λ (z : Offer). z.base) (sym i.2) ∙ b in cc)
      (λ (i : (at.0 ≡ first_row 1) × (at.1 ≡ 0) × (o ≡ receive_offer)). (λ k. (i.0 k, i.1 k)))
      (one_of at.0 at.1 o e)

  -- no row stands alone
  pub not_alone : (at : Row × ℕ) (b : Base) → Offers (offer_in l) at b → (b ≡ Send 0 (One (Num value))) ⊎ (b ≡ Recv 0)
  not_alone at b (o, e, is) = ⊎_elim
      (λ (i : (at.0 ≡ first_row 0) × (at.1 ≡ 0) × (o ≡ send_of value)). inl (sym is ∙ ap (λ (z : Offer). z.base) i.2))
      (λ (i : (at.0 ≡ first_row 1) × (at.1 ≡ 0) × (o ≡ receive_offer)). inr (sym is ∙ ap (λ (z : Offer). z.base) i.2))
      (one_of at.0 at.1 o e)

  -- any commit is that pair
  pub one_commit : (c : Commit) → HasCommit l c → c ≡ meeting_of value
  one_commit (Pair sender receiver chan m s) c =
      let f = h.lawful.fits (Pair sender receiver chan m s) c in
      let a = sender_is sender chan m f.1 in
      let b = receiver_is receiver chan f.2 in
      let stamp : s ≡ 1 = ⊎_elim
      (λ (e : s ≡ 1). e)
      (λ other. ⊎_elim
      (λ (d : (d : Commit) × HasCommit l d × CountsFor (marks_in l) d (Pair sender receiver chan m s) × (s ≡ stamp_of d + 1)). absurd (first sender receiver chan m s d.0 a.0 b d.2))
      (λ later. ⊎_elim
      (λ (t : (t : ℕ) × CountsThread (Pair sender receiver chan m s) t × (s ≡ start_of (course_in l t) + 1)). t.2 ∙ ap (λ (n : ℕ). n + 1) (h.starts t.0 (below_two sender receiver chan m s t.0 a.0 b t.1)))
      (λ (k : (stamp : ℕ) × ⊥ × (s ≡ stamp + 1)). absurd k.1)
      later)
      other)
      (h.lawful.stamps (Pair sender receiver chan m s) c).next in
      (λ i. Pair (a.0 i) (b i) (a.1 i) (a.2 i) (stamp i))
    where
      -- it counts for the two threads alone
      below_two : (sender receiver : Row × ℕ) (chan : ℕ) (m : Message) (s t : ℕ) → sender ≡ (first_row 0, 0) → receiver ≡ (first_row 1, 0) → CountsThread (Pair sender receiver chan m s) t → t < 2
      below_two sender receiver chan m s t a b (inl e) = let is : t ≡ 0 = sym e ∙ ap (λ (z : Row × ℕ). z.0.thread) a in omega arith
      below_two sender receiver chan m s t a b (inr e) = let is : t ≡ 1 = sym e ∙ ap (λ (z : Row × ℕ). z.0.thread) b in omega arith

      -- no commit counts for it: it has no earlier row, and no nack
      first : (sender receiver : Row × ℕ) (chan : ℕ) (m : Message) (s : ℕ) (d : Commit) → sender ≡ (first_row 0, 0) → receiver ≡ (first_row 1, 0) → CountsFor (marks_in l) d (Pair sender receiver chan m s) → ⊥
      first sender receiver chan m s d a b (inl (thread, g, k, low, before, (n, inl e))) =
          let sync : g ≡ 0 = ap (λ (z : Row × ℕ). z.0.sync) (sym e ∙ a) in omega arith
      first sender receiver chan m s d a b (inl (thread, g, k, low, before, (n, inr e))) =
          let sync : g ≡ 0 = ap (λ (z : Row × ℕ). z.0.sync) (sym e ∙ b) in omega arith
      first sender receiver chan m s d a b (inr none) = none
  one_commit (Alone at (cause.Always m) s) c = absurd (neither (not_alone at (Always m) (h.lawful.fits (Alone at (cause.Always m) s) c)))
    where
      neither : (Always m ≡ Send 0 (One (Num value))) ⊎ (Always m ≡ Recv 0) → ⊥
      neither (inl e) = let bad : Always m ≡ Send 0 (One (Num value)) = e in cc
      neither (inr e) = let bad : Always m ≡ Recv 0 = e in cc
  one_commit (Alone at (cause.Nack n) s) c = absurd (neither (not_alone at (OnNack n) (h.lawful.fits (Alone at (cause.Nack n) s) c).0))
    where
      neither : (OnNack n ≡ Send 0 (One (Num value))) ⊎ (OnNack n ≡ Recv 0) → ⊥
      neither (inl e) = let bad : OnNack n ≡ Send 0 (One (Num value)) = e in cc
      neither (inr e) = let bad : OnNack n ≡ Recv 0 = e in cc
  one_commit (Alone at (cause.End t) s) c = absurd (neither (not_alone at (OnEnd t) (h.lawful.fits (Alone at (cause.End t) s) c).0))
    where
      neither : (OnEnd t ≡ Send 0 (One (Num value))) ⊎ (OnEnd t ≡ Recv 0) → ⊥
      neither (inl e) = let bad : OnEnd t ≡ Send 0 (One (Num value)) = e in cc
      neither (inr e) = let bad : OnEnd t ≡ Recv 0 = e in cc

  -- a row that tells a commit is committed, and tells that pair
  told : (r : Row) (c : Commit) → told_at (joined_in l) (offer_in l) r ≡ Some c → (c ≡ meeting_of value) × (is_some (joined_in l r) ≡ true)
  unfolding told_at
  told r c e = by_joined (joined_in l r) refl e
    where
      by_tells : (j : Joined) (b : Bool) → joined_in l r ≡ Some j → cond b (commit_named (offer_in l) r j) None ≡ Some c → c ≡ meeting_of value
      by_tells j true f g = one_commit c (record { row = r; way = j; is_joined = f; is_named = g })
      by_tells j false f g = let bad : None ≡ Some c = g in cc

      by_joined : (o : Option Joined) → joined_in l r ≡ o → told_by (joined_in l) (offer_in l) r o ≡ Some c → (c ≡ meeting_of value) × (is_some (joined_in l r) ≡ true)
      by_joined None f g = let bad : None ≡ Some c = g in cc
      by_joined (Some j) f g = (by_tells j (tells (joined_in l) (offer_in l r j.own) j.partner) f g, ap (λ (o : Option Joined). is_some o) f)

  -- the receiver tells nothing once the sender is committed
  pub receiver_quiet : (c : Commit) → told_at (joined_in l) (offer_in l) (first_row 1) ≡ Some c → is_some (joined_in l (first_row 0)) ≡ true → ⊥
  unfolding told_at commit_named
  receiver_quiet c e sender = by_joined (joined_in l (first_row 1)) e
    where
      own_is : (n : ℕ) (o : Offer) → offer_in l (first_row 1) n ≡ Some o → o ≡ receive_offer
      own_is n o f = ⊎_elim
          (λ (i : (first_row 1 ≡ first_row 0) × (n ≡ 0) × (o ≡ send_of value)). let bad : 1 ≡ 0 = ap (λ (r : Row). r.thread) i.0 in absurd (omega arith))
          (λ (i : (first_row 1 ≡ first_row 1) × (n ≡ 0) × (o ≡ receive_offer)). i.2)
          (one_of (first_row 1) n o f)

      taken : (o : Option Joined) → is_some o ≡ true → is_none o ≡ false
      taken None e = absurd (false≢true e)
      taken (Some j) e = refl

      -- its partner is the sender, or else it names no commit
      quiet : (j : Joined) (q : Row × ℕ) (x : Option Offer) → offer_in l q.0 q.1 ≡ x → cond (is_none (joined_in l q.0)) (pair_by (first_row 1) j q (Recv 0) x) None ≡ Some c → ⊥
      quiet j q None e g = nothing (is_none (joined_in l q.0)) g
        where
          nothing : (b : Bool) → cond b None None ≡ Some c → ⊥
          nothing true e = let bad : None ≡ Some c = e in cc
          nothing false e = let bad : None ≡ Some c = e in cc
      quiet j q (Some o) e g = ⊎_elim
          (λ (i : (q.0 ≡ first_row 0) × (q.1 ≡ 0) × (o ≡ send_of value)).
          let none : is_none (joined_in l q.0) ≡ false = taken (joined_in l q.0) (ap (λ (r : Row). is_some (joined_in l r)) i.0 ∙ sender) in
          let bad : None ≡ Some c = sym (ap (λ (b : Bool). cond b (pair_by (first_row 1) j q (Recv 0) (Some o)) None) none) ∙ g in cc)
          (λ (i : (q.0 ≡ first_row 1) × (q.1 ≡ 0) × (o ≡ receive_offer)).
          let bad : cond (is_none (joined_in l q.0)) None None ≡ Some c = subst (λ (z : Offer). cond (is_none (joined_in l q.0)) (pair_by (first_row 1) j q (Recv 0) (Some z)) None ≡ Some c) i.2 g in
          nothing (is_none (joined_in l q.0)) bad)
          (one_of q.0 q.1 o e)
        where
          nothing : (b : Bool) → cond b None None ≡ Some c → ⊥
          nothing true e = let bad : None ≡ Some c = e in cc
          nothing false e = let bad : None ≡ Some c = e in cc

      by_partner : (j : Joined) (partner : Option (Row × ℕ)) (own : Option Offer) → offer_in l (first_row 1) j.own ≡ own → j.partner ≡ partner
          → cond (tells (joined_in l) own partner) (commit_by (offer_in l) (first_row 1) j partner own) None ≡ Some c → ⊥
      by_partner j None None f p g = let bad : None ≡ Some c = g in cc
      by_partner j None (Some o) f p g =
          let bad : None ≡ Some c = sym (ap (λ (z : Offer). Rattle.protocol_ledger.specs.Ledgers.alone_by (first_row 1) j z.base) (own_is j.own o f)) ∙ g in cc
      by_partner j (Some q) None f p g = nothing (tells (joined_in l) None (Some q)) g
        where
          nothing : (b : Bool) → cond b None None ≡ Some c → ⊥
          nothing true e = let bad : None ≡ Some c = e in cc
          nothing false e = let bad : None ≡ Some c = e in cc
      by_partner j (Some q) (Some o) f p g =
          quiet j q (offer_in l q.0 q.1) refl
          (subst (λ (z : Offer). cond (tells (joined_in l) (Some z) (Some q)) (commit_by (offer_in l) (first_row 1) j (Some q) (Some z)) None ≡ Some c) (own_is j.own o f) g)

      by_joined : (o : Option Joined) → told_by (joined_in l) (offer_in l) (first_row 1) o ≡ Some c → ⊥
      by_joined None g = let bad : None ≡ Some c = g in cc
      by_joined (Some j) g = by_partner j j.partner (offer_in l (first_row 1) j.own) refl refl g

  -- the commits, row by row
  listed : (x y : Option Commit) → told_at (joined_in l) (offer_in l) (first_row 0) ≡ x → told_at (joined_in l) (offer_in l) (first_row 1) ≡ y
      → (option_to_list x ++ (option_to_list y ++ []) ≡ []) ⊎ (option_to_list x ++ (option_to_list y ++ []) ≡ meeting_of value ∷ [])
  listed None None e f = inl refl
  listed None (Some d) e f = inr (ap (λ (z : Commit). z ∷ []) (told (first_row 1) d f).0)
  listed (Some c) None e f = inr (ap (λ (z : Commit). z ∷ []) (told (first_row 0) c e).0)
  listed (Some c) (Some d) e f = absurd (receiver_quiet d f (told (first_row 0) c e).1)

  pub one_or_none : (commits_in l ≡ []) ⊎ (commits_in l ≡ meeting_of value ∷ [])
  one_or_none =
      subst (λ (z : ℕ × ℕ). (commits_of (all_rows z.0 z.1) (joined_in l) (offer_in l) ≡ []) ⊎ (commits_of (all_rows z.0 z.1) (joined_in l) (offer_in l) ≡ meeting_of value ∷ []))
      (λ i. (sym h.threads i, sym h.rows i))
      (listed (told_at (joined_in l) (offer_in l) (first_row 0)) (told_at (joined_in l) (offer_in l) (first_row 1)) refl refl)

-- A LIST of the commits, in any order
only_one : {X : Type 0} (x : X) (ys : List X) → IsPermutation (x ∷ []) ys → ys ≡ x ∷ []
only_one {X} x ys h =
    let len : length ys ≡ 1 = length_permutation (x ∷ []) ys h in
    let all : All (λ y. y ≡ x) ys = All-permutation (λ y. y ≡ x) (x ∷ []) ys h (All-cons (λ y. y ≡ x) x [] refl (All-nil (λ y. y ≡ x))) in
    single ys len all
  where
    single : (ys : List X) → length ys ≡ 1 → All (λ y. y ≡ x) ys → ys ≡ x ∷ []
    single [] len all = absurd (omega arith)
    single (y ∷ []) len all = ap (λ (z : X). z ∷ []) (all 0 x (omega arith))
    single (y ∷ z ∷ zs) len all = absurd (omega arith)

none_at_all : {X : Type 0} (ys : List X) → IsPermutation {X = X} [] ys → ys ≡ []
none_at_all [] h = refl
none_at_all (y ∷ ys) h = let len : length (y ∷ ys) ≡ 0 = length_permutation [] (y ∷ ys) h in absurd (omega arith)

meeting_text : (value : ℕ) → commits_text numbers (meeting_of value ∷ []) ≡ meeting_line value
unfolding digits
meeting_text value = simp append_assoc

pub prints_meeting : (value : ℕ) (l : Ledger) (cs : List Commit) (text : List ℕ) → HasTwoOffers value l → IsPermutation (commits_in l) cs → text ≡ commits_text numbers cs → PrintsMeeting value text
prints_meeting value l cs text h all is = ⊎_elim
    (λ (none : commits_in l ≡ []). inr (is ∙ ap (commits_text numbers) (none_at_all cs (subst (λ (ds : List Commit). IsPermutation ds cs) none all))))
    (λ (one : commits_in l ≡ meeting_of value ∷ []). inl (is ∙ ap (commits_text numbers) (only_one (meeting_of value) cs (subst (λ (ds : List Commit). IsPermutation ds cs) one all)) ∙ meeting_text value))
    (one_or_none value l h)

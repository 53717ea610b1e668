-- The results of a thread, by the commits of a lawful ledger.
use Rattle.std.proofs.Common.{◌≡◌, ◌≢◌, ◌⊎◌, ℕ, zero, suc, ◌+◌, List, [], ◌∷◌, ◌++◌, length, slice_get, Option, Some, None, refl, sym, ap, ◌∙◌, subst, arith, inl, inr, ⊎_elim}
use Rattle.std.specs.Prelude.{⊤}
use Rattle.std.proofs.lemmas.List.{length-append}
use Rattle.std.proofs.lemmas.Option.{none-some, same_Some}
use Rattle.protocol_values.specs.declared.Base.{Base}
use Rattle.protocol_values.specs.declared.Base.TheVariants.{Send, Recv, Always, OnNack, OnEnd, Never}
use Rattle.protocol_values.specs.declared.Cause.TheVariants as cause
use Rattle.protocol_values.specs.declared.Commit.{Commit}
use Rattle.protocol_values.specs.declared.Commit.TheVariants.{Pair, Alone}
use Rattle.protocol_values.specs.declared.Message.{Message}
use Rattle.protocol_values.specs.declared.Message.TheVariants.{Empty}
use Rattle.protocol_values.specs.declared.Offer.{Offer}
use Rattle.protocol_values.specs.declared.Row.{Row}
use Rattle.protocol_values.specs.declared.Joined.{Joined}
use Rattle.protocol_ledger.specs.Ledgers.{Ledger, HasCommit, Involves, IsLawful, Takes, alone_by, commit_by, commit_named, joined_in, offer_in, pair_by, received_by}
use Rattle.protocol_ledger.proofs.CommitLemmas.{named_rows}
use Rattle.protocol_ledger.proofs.Linking.{some_parts}
use Rattle.protocol_ledger.specs.Standing.{AreResults, HaveResults, OneResults, Receives, Result}
use Rattle.protocol_values.specs.Commits.{Gives}

abbrev row : ℕ → ℕ → Row
row t g = record { thread = t; sync = g }

-- WHAT A COMMIT GIVES

-- a pair is of two threads
abbrev pub Apart : Commit → Type 0
Apart (Pair sender receiver chan msg stamp) = sender.0.thread ≢ receiver.0.thread
Apart (Alone at why stamp) = ⊤

pub record Gift (c : Commit) (r : Row) (n : ℕ) : Type 0 where
  pub result : Result
  pub gives : Gives c r result
  pub number : result.0 ≡ n

pub gift : (c : Commit) (r : Row) (n : ℕ) → Takes c r n → Gift c r n
gift (Pair sender receiver chan msg stamp) r n (inl e) = record { result = (sender.1, Empty); gives = inl (ap (λ (z : Row × ℕ). z.0) e, refl); number = ap (λ (z : Row × ℕ). z.1) e }
gift (Pair sender receiver chan msg stamp) r n (inr e) = record { result = (receiver.1, msg); gives = inr (ap (λ (z : Row × ℕ). z.0) e, refl); number = ap (λ (z : Row × ℕ). z.1) e }
gift (Alone at (cause.Always m) stamp) r n e = record { result = (at.1, m); gives = (ap (λ (z : Row × ℕ). z.0) e, refl); number = ap (λ (z : Row × ℕ). z.1) e }
gift (Alone at (cause.Nack k) stamp) r n e = record { result = (at.1, Empty); gives = (ap (λ (z : Row × ℕ). z.0) e, refl); number = ap (λ (z : Row × ℕ). z.1) e }
gift (Alone at (cause.End k) stamp) r n e = record { result = (at.1, Empty); gives = (ap (λ (z : Row × ℕ). z.0) e, refl); number = ap (λ (z : Row × ℕ). z.1) e }

pub gives-takes : (c : Commit) (r : Row) (x : Result) → Gives c r x → Takes c r x.0
gives-takes (Pair sender receiver chan msg stamp) r x (inl h) = inl (λ i. (h.0 i, ap (λ (z : Result). z.0) (sym h.1) i))
gives-takes (Pair sender receiver chan msg stamp) r x (inr h) = inr (λ i. (h.0 i, ap (λ (z : Result). z.0) (sym h.1) i))
gives-takes (Alone at (cause.Always m) stamp) r x h = λ i. (h.0 i, ap (λ (z : Result). z.0) (sym h.1) i)
gives-takes (Alone at (cause.Nack k) stamp) r x h = λ i. (h.0 i, ap (λ (z : Result). z.0) (sym h.1) i)
gives-takes (Alone at (cause.End k) stamp) r x h = λ i. (h.0 i, ap (λ (z : Result). z.0) (sym h.1) i)

pub gives-involves : (c : Commit) (r : Row) (x : Result) → Gives c r x → Involves c r
gives-involves c r x h = (x.0, gives-takes c r x h)

one-gift : (c : Commit) (r : Row) (x y : Result) → Apart c → Gives c r x → Gives c r y → x ≡ y
one-gift (Pair sender receiver chan msg stamp) r x y apart (inl h) (inl k) = h.1 ∙ sym k.1
one-gift (Pair sender receiver chan msg stamp) r x y apart (inl h) (inr k) = absurd (apart (ap (λ (q : Row). q.thread) (h.0 ∙ sym k.0)))
one-gift (Pair sender receiver chan msg stamp) r x y apart (inr h) (inl k) = absurd (apart (ap (λ (q : Row). q.thread) (k.0 ∙ sym h.0)))
one-gift (Pair sender receiver chan msg stamp) r x y apart (inr h) (inr k) = h.1 ∙ sym k.1
one-gift (Alone at (cause.Always m) stamp) r x y apart h k = h.1 ∙ sym k.1
one-gift (Alone at (cause.Nack n) stamp) r x y apart h k = h.1 ∙ sym k.1
one-gift (Alone at (cause.End n) stamp) r x y apart h k = h.1 ∙ sym k.1

-- LISTS

same-list : (xs ys : List Result) → length xs ≡ length ys → ((g : ℕ) (x y : Result) → slice_get xs g ≡ Some x → slice_get ys g ≡ Some y → x ≡ y) → xs ≡ ys
same-list [] [] e h = refl
same-list [] (y ∷ ys) e h = absurd (omega (arith, e))
same-list (x ∷ xs) [] e h = absurd (omega (arith, e))
same-list (x ∷ xs) (y ∷ ys) e h = λ i. h zero x y refl refl i ∷ same-list xs ys (omega (arith, e)) (λ g. h (suc g)) i

get-more : (xs : List Result) (y z : Result) (k : ℕ) → slice_get (xs ++ y ∷ []) k ≡ Some z → (slice_get xs k ≡ Some z) ⊎ ((k ≡ length xs) × (y ≡ z))
get-more [] y z zero e = inr (refl, same_Some y z e)
get-more [] y z (suc k) e = absurd (none-some z e)
get-more (x ∷ xs) y z zero e = inl e
get-more (x ∷ xs) y z (suc k) e = ⊎_elim (λ old. inl old) (λ new. inr (ap suc new.0, new.1)) (get-more xs y z k e)

-- A LAWFUL LEDGER
module _ (l : Ledger) (law : IsLawful l) where
  apart : (c : Commit) → HasCommit l c → Apart c
  apart (Pair sender receiver chan msg stamp) h = (law.fits (Pair sender receiver chan msg stamp) h).0
  apart (Alone at why stamp) h = tt

  pub one-result : (c d : Commit) (r : Row) (x y : Result) → HasCommit l c → HasCommit l d → Gives c r x → Gives d r y → x ≡ y
  one-result c d r x y in_c in_d h k =
      let same : d ≡ c = law.once r d c in_d in_c (gives-involves d r y k) (gives-involves c r x h) in
      one-gift c r x y (apart c in_c) h (subst (λ (z : Commit). Gives z r y) same k)

  pub one-list : (t : ℕ) (xs ys : List Result) → length xs ≡ length ys → AreResults l t xs → AreResults l t ys → xs ≡ ys
  one-list t xs ys size a b = same-list xs ys size (λ g x y h k.
      let c = a g x h in
      let d = b g y k in
      one-result c.0 d.0 (row t g) x y c.1 d.1 c.2 d.2)

  -- one more
  more-results : (t : ℕ) (xs : List Result) (c : Commit) (x : Result) → AreResults l t xs → HasCommit l c → Gives c (row t (length xs)) x → AreResults l t (xs ++ x ∷ [])
  more-results t xs c x are in_c gives g y e = ⊎_elim
      (λ old. are g y old)
      (λ new. (c, in_c, subst (λ (z : ℕ × Result). Gives c (row t z.0) z.1) (λ i. (sym new.0 i, new.1 i)) gives))
      (get-more xs x y g e)

  there : (t g : ℕ) (c : Commit) → HasCommit l c → Involves c (row t g) → (xs : List Result) × (length xs ≡ g + 1) × AreResults l t xs
  there t zero c in_c has =
      let x = gift c (row t zero) has.0 has.1 in
      (x.result ∷ [], refl, more-results t [] c x.result (λ g y e. absurd (none-some y e)) in_c x.gives)
  there t (suc g) c in_c has =
      let d = law.in_turn c t (suc g) g in_c has (omega arith) in
      let before = there t g d.0 d.1 d.2 in
      let x = gift c (row t (suc g)) has.0 has.1 in
      let at : suc g ≡ length before.0 = omega (arith, before.1) in (
        before.0 ++ x.result ∷ [],
        length-append before.0 (x.result ∷ []) ∙ ap (λ n. n + 1) (sym at),
        more-results t before.0 c x.result before.2 in_c (subst (λ (n : ℕ). Gives c (row t n) x.result) at x.gives),
      )

-- WHAT A JOINED ROW GIVES ITS THREAD

alone-gives : (offer : Row → ℕ → Option Offer) (r : Row) (j : Joined) (b : Base) (c : Commit) (got : Message) → alone_by r j b ≡ Some c → Receives offer None b got → Gives c r (j.own, got)
alone-gives offer r j (Send d m) c got e h = absurd (none-some c e)
alone-gives offer r j (Recv d) c got e h = absurd (none-some c e)
alone-gives offer r j (Always m) c got e h = subst (λ (z : Commit). Gives z r (j.own, got)) (same_Some _ c e) (refl, λ i. (j.own, h i))
alone-gives offer r j (OnNack n) c got e h = subst (λ (z : Commit). Gives z r (j.own, got)) (same_Some _ c e) (refl, λ i. (j.own, h i))
alone-gives offer r j (OnEnd n) c got e h = subst (λ (z : Commit). Gives z r (j.own, got)) (same_Some _ c e) (refl, λ i. (j.own, h i))
alone-gives offer r j Never c got e h = absurd (none-some c e)

pair-gives : (offer : Row → ℕ → Option Offer) (r : Row) (j : Joined) (p : Row × ℕ) (b : Base) (other : Option Offer) (c : Commit) (got : Message) → offer p.0 p.1 ≡ other → pair_by r j p b other ≡ Some c → Receives offer (Some p) b got → Gives c r (j.own, got)
pair-gives offer r j p (Send d m) other c got is e h = subst (λ (z : Commit). Gives z r (j.own, got)) (same_Some _ c e) (inl (refl, λ i. (j.own, h i)))
pair-gives offer r j p (Recv d) None c got is e h = absurd (none-some c e)
pair-gives offer r j p (Recv d) (Some o) c got is e (q, d', o', partner, offered, sends) =
    let same : p ≡ q = same_Some p q partner in
    let one : o ≡ o' = same_Some o o' (sym is ∙ ap (λ (z : Row × ℕ). offer z.0 z.1) same ∙ offered) in
    let named : received_by r j p (Send d' got) ≡ Some c = ap (received_by r j p) (sym (ap (λ (z : Offer). z.base) one ∙ sends)) ∙ e in
    subst (λ (z : Commit). Gives z r (j.own, got)) (same_Some _ c named) (inr (refl, refl))
pair-gives offer r j p (Always m) other c got is e h = absurd (none-some c e)
pair-gives offer r j p (OnNack n) other c got is e h = absurd (none-some c e)
pair-gives offer r j p (OnEnd x) other c got is e h = absurd (none-some c e)
pair-gives offer r j p Never other c got is e h = absurd (none-some c e)

named-gives : (offer : Row → ℕ → Option Offer) (r : Row) (j : Joined) (partner : Option (Row × ℕ)) (own : Offer) (c : Commit) (got : Message) → commit_by offer r j partner (Some own) ≡ Some c → Receives offer partner own.base got → Gives c r (j.own, got)
named-gives offer r j None own c got e h = alone-gives offer r j own.base c got e h
named-gives offer r j (Some p) own c got e h = pair-gives offer r j p own.base (offer p.0 p.1) c got refl e h

last-split : (xs : List Result) (n : ℕ) → length xs ≡ n + 1 → (ys : List Result) × (y : Result) × (xs ≡ ys ++ y ∷ []) × (length ys ≡ n)
last-split [] n e = absurd (omega (arith, e))
last-split (x ∷ []) n e = ([], x, refl, omega (arith, e))
last-split (x ∷ y ∷ xs) zero e = absurd (omega (arith, e))
last-split (x ∷ y ∷ xs) (suc n) e =
    let rest = last-split (y ∷ xs) n (omega (arith, e)) in
    (x ∷ rest.0, rest.1, (λ i. x ∷ rest.2 i), ap suc rest.3)

get-at-end : (xs : List Result) (y : Result) → slice_get (xs ++ y ∷ []) (length xs) ≡ Some y
get-at-end [] y = refl
get-at-end (x ∷ xs) y = get-at-end xs y

get-before : (xs : List Result) (y z : Result) (k : ℕ) → slice_get xs k ≡ Some z → slice_get (xs ++ y ∷ []) k ≡ Some z
get-before [] y z k e = absurd (none-some z e)
get-before (x ∷ xs) y z zero e = e
get-before (x ∷ xs) y z (suc k) e = get-before xs y z k e

-- of the results of a row's thread up to the row, the last is that of the row
pub record Ends (l : Ledger) (r : Row) (j : Joined) (results : List Result) : Type 0 where
  pub earlier : List Result
  pub count : length earlier ≡ r.sync
  pub are : AreResults l r.thread earlier
  pub got : Message
  pub whole : results ≡ earlier ++ (j.own, got) ∷ []
  -- and its message is what the row gets
  pub message : (own : Offer) (m : Message) → offer_in l r j.own ≡ Some own → Receives (offer_in l) j.partner own.base m → m ≡ got

pub results-end : (l : Ledger) (r : Row) (j : Joined) (results : List Result) → IsLawful l → joined_in l r ≡ Some j → length results ≡ r.sync + 1 → AreResults l r.thread results → Ends l r j results
unfolding commit_named
results-end l r j results law is size are =
    let split = last-split results r.sync size in
    let c = some_parts (commit_named (offer_in l) r j) (law.named r j is) in
    let in_c : HasCommit l c.0 = record { row = r; way = j; is_joined = is; is_named = c.1 } in
    let x = gift c.0 r j.own (named_rows (offer_in l) r j c.0 c.1).own in
    let there : slice_get results r.sync ≡ Some split.1 = ap (λ (zs : List Result). slice_get zs r.sync) split.2 ∙ ap (slice_get (split.0 ++ split.1 ∷ [])) (sym split.3) ∙ get-at-end split.0 split.1 in
    let d = are r.sync split.1 there in
    let one : (y : Result) → Gives c.0 r y → y ≡ split.1 = λ y h. one-result l law c.0 d.0 r y split.1 in_c d.1 h d.2 in
    let own : split.1.0 ≡ j.own = ap (λ (y : Result). y.0) (sym (one x.result x.gives)) ∙ x.number in
    let last : split.1 ≡ (j.own, split.1.1) = λ i. (own i, split.1.1) in
    record {
      earlier = split.0;
      count = split.3;
      are = λ g y e. are g y (ap (λ (zs : List Result). slice_get zs g) split.2 ∙ get-before split.0 split.1 y g e);
      got = split.1.1;
      whole = split.2 ∙ ap (λ (y : Result). split.0 ++ y ∷ []) last;
      message = λ o m offered receives.
          let named : commit_by (offer_in l) r j j.partner (Some o) ≡ Some c.0 = ap (commit_by (offer_in l) r j j.partner) (sym offered) ∙ c.1 in
          ap (λ (y : Result). y.1) (one (j.own, m) (named-gives (offer_in l) r j j.partner o c.0 m named receives));
    }

pub have-results : HaveResults
have-results l c t g law in_c has = there l law t g c in_c has

pub one-results : OneResults
one-results l t first second law size a b = one-list l law t first second size a b

-- a committed row has results
pub joined-results : (l : Ledger) (r : Row) (j : Joined) → IsLawful l → joined_in l r ≡ Some j → (results : List Result) × (length results ≡ r.sync + 1) × AreResults l r.thread results
joined-results l r j law is =
    let c = some_parts (commit_named (offer_in l) r j) (law.named r j is) in
    have-results l c.0 r.thread r.sync law (record { row = r; way = j; is_joined = is; is_named = c.1 }) (j.own, (named_rows (offer_in l) r j c.0 c.1).own)

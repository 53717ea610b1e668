-- What stands for a thread when its row is opened, when a nack is found bound, and when the row is taken.
use Rattle.std.proofs.Common.{◌⊎◌, ◌≡◌, ◌<◌, ◌≤◌, ℕ, false, zero, suc, ◌+◌, get_or, unwrap_or, List, [], ◌∷◌, ◌++◌, length, take, Option, Some, None, slice_get, sym, refl, ap, ◌∙◌, subst, inl, inr, ⊎_elim, arith}
use Rattle.std.proofs.lemmas.Option.{none-some, same_Some, slice_get_cases, slice_get_within}
use Rattle.std.proofs.lemmas.Bool.{cases_lt}
use lib.Seq.{length-take-le}
use Rattle.protocol_values.specs.Words.{count_of}
use Rattle.protocol_values.specs.declared.Base.{Base}
use Rattle.protocol_values.specs.declared.Base.TheVariants.{Send, Recv, Always, OnNack, OnEnd, Never}
use Rattle.protocol_values.specs.declared.Binding.{Binding}
use Rattle.protocol_values.specs.declared.Joined.{Joined}
use Rattle.protocol_values.specs.declared.Message.{Message}
use Rattle.protocol_values.specs.declared.NackName.{NackName}
use Rattle.protocol_values.specs.declared.Offer.{Offer}
use Rattle.protocol_values.specs.declared.Row.{Row}
use Rattle.protocol_ledger.specs.Kept.{Kept}
use Rattle.protocol_ledger.specs.Ledgers.{IsLawful, Ledger, binding_in, joined_in, ledger_of, offer_in}
use Rattle.protocol_ledger.specs.Standing.{AreResults, EachStands, IsLeft, OffersAs, Receives, Result, SomeStands, Stands, binding_of}
use Rattle.protocol_ledger.specs.Tables.{Table, binding_at, bound_row, cell_at, is_fresh, joined_at, offer_at}
use Rattle.protocol_ledger.specs.Worlds.{World, nack_of_row}
use Rattle.protocol_ledger.proofs.Chosen.{chosen}
use Rattle.protocol_ledger.proofs.LedgerLemmas.{binding_in_ledger, joined_in_ledger, lawful_ledger, offer_in_ledger}
use Rattle.protocol_ledger.proofs.Linking.{some_parts}
use Rattle.protocol_ledger.proofs.Results.{one-results, results-end}
use Rattle.cell_table.specs.declared.view.Seen.{Seen}
use Rattle.cell_table.specs.declared.view.View.{View}
use Rattle.cell_table.specs.Rule.{IsReady}
use Rattle.cell_table.specs.Sight.{Gets, Has, IsResult, Learns, SeesOffer}
use Rattle.cell_table.specs.Told.{ComesOut, IsEarlier}
use Rattle.cell_table.specs.Views.{Knows}
use Rattle.cell_table.proofs.Results.{result_more}
use Rattle.cell_table.proofs.Truths.{few_counted, lacks_known, sees_known}

offers-of : (t : Table) (r : Row) (n : ℕ) → offer_in (ledger_of t) r n ≡ offer_at t r n
offers-of t r n = ap (λ (f : Row → ℕ → Option Offer). f r n) (offer_in_ledger t)

binding-of : (t : Table) (n : NackName) → binding_in (ledger_of t) n ≡ binding_at t n
binding-of t n = ap (λ (f : NackName → Option Binding). f n) (binding_in_ledger t)

joined-of : (t : Table) (r : Row) → joined_in (ledger_of t) r ≡ joined_at t r
joined-of t r = ap (λ (f : Row → Option Joined). f r) (joined_in_ledger t)

-- the first of some results
take-get : (xs : List Result) (n k : ℕ) (y : Result) → slice_get (take n xs) k ≡ Some y → slice_get xs k ≡ Some y
take-get [] zero k y e = e
take-get [] (suc n) k y e = e
take-get (x ∷ xs) zero k y e = absurd (none-some y e)
take-get (x ∷ xs) (suc n) zero y e = e
take-get (x ∷ xs) (suc n) (suc k) y e = take-get xs n k y e

take-size : (xs : List Result) (n : ℕ) → n ≤ length xs → length (take n xs) ≡ n
take-size xs n h = length-take-le n xs h

-- the last of two equal lists
last-same : (xs ys : List Result) (x y : Result) → length xs ≡ length ys → xs ++ x ∷ [] ≡ ys ++ y ∷ [] → x ≡ y
last-same xs ys x y size same =
    same_Some x y (sym (last-get xs x) ∙ (λ i. slice_get (same i) (size i)) ∙ last-get ys y)
  where
    last-get : (l : List Result) (z : Result) → slice_get (l ++ z ∷ []) (length l) ≡ Some z
    last-get [] z = refl
    last-get (a ∷ l) z = last-get l z

module _ {M : Type 0} (stands : Stands M) (first : List (Option M)) where
  -- WHAT COMES OUT with a taken row
  module _ (w : World) (owner : Row → ℕ) (id : ℕ) (v : View M) (known : Knows w owner id v) (k : Kept w) where
    law : IsLawful (ledger_of w.table)
    law = lawful_ledger w.table k.linked

    receives : (r : Row) (j : Joined) (b : Base) (got : Message) → Gets v.seen j b got → Receives (offer_in (ledger_of w.table)) j.partner b got
    receives r j (Send c m) got g = g
    receives r j (Recv c) got (p, d, o, partner, sees, is) = (p, d, o, partner, offers-of w.table p.0 p.1 ∙ sees_known w owner id v p.0 p.1 o known k sees, is)
    receives r j (Always m) got g = g
    receives r j (OnNack n) got g = g
    receives r j (OnEnd p) got g = g
    receives r j Never got g = g

    pub comes_out : (r : Row) (j : Joined) (results : List Result) (value : M) → joined_at w.table r ≡ Some j → length results ≡ r.sync + 1 → AreResults (ledger_of w.table) r.thread results → OffersAs (stands.offers first value) (ledger_of w.table) r
        → (got : Message) × IsLeft stands first value r j.own results got × ((m : Message) → IsResult v.seen r m → m ≡ got)
    comes_out r j results value is size are o =
        let l : Ledger = ledger_of w.table in
        let joined : joined_in l r ≡ Some j = joined-of w.table r ∙ is in
        let ends = results-end l r j results law joined size are in
        let same : o.results ≡ ends.earlier = one-results l r.thread o.results ends.earlier law (o.count ∙ sym ends.count) o.are ends.are in
        let own = some_parts (offer_at w.table r j.own) (chosen w.table r j law is) in
        let there : slice_get o.offers j.own ≡ Some own.0 = o.offered j.own own.0 (offers-of w.table r j.own ∙ own.1) in (
          ends.got,
          record {
            earlier = ends.earlier;
            whole = ends.whole;
            count = ends.count;
            offers = o.offers;
            nacks = o.nacks;
            standing = subst (λ (rs : List Result). stands.offers first value r.thread rs o.offers o.nacks) same o.standing;
            below = slice_get_within o.offers j.own own.0 there;
          },
          λ m (i, p, has, sees, gets).
              let one : i ≡ j = same_Some i j (sym (known.joined r i has) ∙ is) in
              ends.message p m (offers-of w.table r j.own ∙ sees_known w owner id v r j.own p known k (subst (λ (z : Joined). SeesOffer v.seen r z.own p) one sees)) (receives r j p.base m (subst (λ (z : Joined). Gets v.seen z p.base m) one gets)),
        )

    -- and what the pass sees of it then is the last of the results
    pub sees_last : (r : Row) (j : Joined) (results earlier : List Result) (got : Message) → joined_at w.table r ≡ Some j → length results ≡ r.sync + 1 → AreResults (ledger_of w.table) r.thread results
        → results ≡ earlier ++ (j.own, got) ∷ [] → length earlier ≡ r.sync → (m : Message) → IsResult v.seen r m → m ≡ got
    sees_last r j results earlier got is size are whole count m (i, p, has, sees, gets) =
        let l : Ledger = ledger_of w.table in
        let ends = results-end l r j results law (joined-of w.table r ∙ is) size are in
        let one : i ≡ j = same_Some i j (sym (known.joined r i has) ∙ is) in
        let last : (j.own, ends.got) ≡ (j.own, got) = last-same ends.earlier earlier (j.own, ends.got) (j.own, got) (ends.count ∙ sym count) (sym ends.whole ∙ whole) in
        ends.message p m (offers-of w.table r j.own ∙ sees_known w owner id v r j.own p known k (subst (λ (z : Joined). SeesOffer v.seen r z.own p) one sees)) (receives r j p.base m (subst (λ (z : Joined). Gets v.seen z p.base m) one gets))
        ∙ ap (λ (x : Result). x.1) last

    -- WHERE A NACK IS BOUND to an opened row
    pub is_earlier : (n : NackName) (b : Binding) → EachStands (SomeStands stands first) w.table → ((t : ℕ) (rs : List Result) → Has v.results (t, rs) → AreResults (ledger_of w.table) t rs)
        → is_fresh (cell_at w.table (bound_row n b)) ≡ false → binding_at w.table n ≡ Some b → IsEarlier stands first v.results n b
    is_earlier n b rows results open_row is =
        let o = rows (bound_row n b) open_row in
        record {
          results = o.results;
          count = o.count;
          value = o.standing.0;
          offers = o.offers;
          nacks = o.nacks;
          standing = o.standing.1;
          scope = o.no_others b.scope n.k (binding-of w.table n ∙ is);
          begins = λ longer has far.
              let are = results n.thread longer has in
              one-results (ledger_of w.table) n.thread o.results (take b.sync longer) law (o.count ∙ sym (take-size longer b.sync far)) o.are
              (λ g y e. are g y (take-get longer b.sync g y e));
        }

    -- WHAT GOES HOME with an opened row
    pub goes_home : (r : Row) (value : M) → Has v.seen.opened r → Has v.seen.held r → IsReady stands first v.results v.seen r value → ((t : ℕ) (rs : List Result) → Has v.results (t, rs) → AreResults (ledger_of w.table) t rs) → OffersAs (stands.offers first value) (ledger_of w.table) r
    goes_home r value opened held ready results = record {
      results = ready.earlier;
      count = ready.count;
      are = ⊎_elim
          (λ (none : ready.earlier ≡ []). λ g y e. absurd (none-some y (ap (λ (xs : List Result). slice_get xs g) (sym none) ∙ e)))
          (λ (has : Has v.results (r.thread, ready.earlier)). results r.thread ready.earlier has)
          ready.seen;
      offers = ready.offers;
      nacks = ready.nacks;
      standing = ready.standing;
      offered = λ n o e. offered n o (sym (offers-of w.table r n) ∙ e) (cases_lt n (length ready.offers));
      whole = λ n o e. offers-of w.table r n ∙ sees_known w owner id v r n o known k (inr (opened, ready.drafted.1 n o e));
      bound = λ scope number e. binding-of w.table (nack_of_row r number) ∙ known.bound (nack_of_row r number) (binding_of r scope) (ready.bound scope number e);
      no_others = λ scope number e. ready.no_others scope number (known.binds (nack_of_row r number) (binding_of r scope) (sym (binding-of w.table (nack_of_row r number)) ∙ e) held);
    }
      where
        there_by : (n : ℕ) → ((o : Offer) × (n < length ready.offers) × (slice_get ready.offers n ≡ Some o) × (get_or ready.offers n o ≡ o)) ⊎ ((length ready.offers ≤ n) × (slice_get ready.offers n ≡ None)) → n < length ready.offers → (o : Offer) × (slice_get ready.offers n ≡ Some o)
        there_by n (inl h) below = (h.0, h.2)
        there_by n (inr h) below = absurd (omega (arith, h.0))

        there_is : (n : ℕ) → n < length ready.offers → (o : Offer) × (slice_get ready.offers n ≡ Some o)
        there_is n below = there_by n (slice_get_cases ready.offers n).1 below

        lacks : (n : ℕ) → length ready.offers ≤ n → unwrap_or (count_of (length ready.offers)) 0 ≤ n
        lacks n past = ⊎_elim
            (λ (h : n < unwrap_or (count_of (length ready.offers)) 0). let low = few_counted (length ready.offers) n h in absurd (omega arith))
            (λ (h : unwrap_or (count_of (length ready.offers)) 0 ≤ n). h)
            (cases_lt n (unwrap_or (count_of (length ready.offers)) 0))

        offered : (n : ℕ) (o : Offer) → offer_at w.table r n ≡ Some o → (n < length ready.offers) ⊎ (length ready.offers ≤ n) → slice_get ready.offers n ≡ Some o
        offered n o e (inl below) =
            let there = there_is n below in
            let drafted : offer_at w.table r n ≡ Some there.0 = sees_known w owner id v r n there.0 known k (inr (opened, ready.drafted.1 n there.0 there.1)) in
            there.1 ∙ sym drafted ∙ e
        offered n o e (inr past) = absurd (none-some o (sym (lacks_known w owner id v r n known (inr (opened, (length ready.offers, ready.drafted.0, lacks n past)))) ∙ e))

  -- what a pass saw before it looked at the row once more
  pub comes_from : (s t u : Seen) (r : Row) (own : ℕ) (results : List Result) (b b' a : List (ℕ × Option M)) → Learns (λ q. q ≡ r) s t → b ≡ b' → ComesOut stands first t u r own results b a → ComesOut stands first s u r own results b' a
  comes_from s t u r own results b b' a learns same out = (
    λ empty. out.0 empty ∙ same,
    λ filled.
        let o = out.1 filled in
        (o.0, o.1, o.2 ∙ ap (λ (l : List (ℕ × Option M)). (r.thread, Some o.0) ∷ l) same, o.3, λ m is. o.4 m (result_more (λ q. q ≡ r) s t r m learns is), o.5),
  )

-- What the law of a table's ledger says of its rows: the offer that a committed row chose is there, and no row behind
-- a Fresh one is committed.
use Rattle.std.proofs.Common.{◌≡◌, ℕ, suc, zero, ◌≤◌, Bool, true, false, cond, ◌||◌, ◌++◌, sym, refl, ap, ◌∙◌, subst, ⊎_elim, arith, Option, Some, None, is_some}
use Rattle.std.specs.Prelude.{is_none, option_and_then, option_to_list}
use Rattle.std.proofs.lemmas.Bool.{cases_eq, cases_Bool, true≢false}
use Rattle.std.proofs.lemmas.List.{append-nil}
use Rattle.protocol_values.specs.declared.Base.{Base}
use Rattle.protocol_values.specs.declared.Base.TheVariants.{Send, Recv, Always, OnNack, OnEnd}
use Rattle.protocol_values.specs.declared.Cause.{Cause}
use Rattle.protocol_values.specs.declared.Cause.TheVariants as cause
use Rattle.protocol_values.specs.declared.Row.{Row}
use Rattle.protocol_values.specs.declared.Joined.{Joined}
use Rattle.protocol_values.specs.declared.Offer.{Offer}
use Rattle.protocol_values.specs.declared.Commit.{Commit}
use Rattle.protocol_values.specs.declared.Commit.TheVariants.{Pair, Alone}
use Rattle.protocol_ledger.specs.Tables.{Table, Marks, marks_at, all_rows, rows_below, cell_at, is_fresh, joined_at, offer_at, names, namer_of}
use Rattle.protocol_ledger.specs.Ledgers.{ledger_of, Lawful, IsLawful, IsIn, Takes, Offers, IsCaused, Fits, commit_named, commit_by, named_at, is_send, tells, told_at, told_by, commits_of, pending_of, is_pending}
use Rattle.protocol_ledger.proofs.Linking.{cases_Option, none_from, some_parts, fresh_not_joined, naming}
use Rattle.protocol_ledger.proofs.Readings.{offer_counted, open_of_count}
use Rattle.protocol_ledger.proofs.CommitLemmas.{named_rows}
use Rattle.protocol_ledger.proofs.Loops.{commits_push, namer_push, pending_push}
use Rattle.protocol_ledger.proofs.LedgerLemmas.{joined_in_ledger, offer_in_ledger, marks_in_ledger}

-- the law, of what the table reads as
pub law_at : (t : Table) → IsLawful (ledger_of t) → Lawful (all_rows t.threads t.rows) (joined_at t) (offer_at t) (marks_at t)
unfolding ledger_of
law_at t law =
    subst (λ (z : (Row → Option Joined) × (Row → ℕ → Option Offer) × Marks). Lawful (all_rows t.threads t.rows) z.0 z.1 z.2)
    (λ i. (joined_in_ledger t i, offer_in_ledger t i, marks_in_ledger t i))
    law

-- THE OFFER THAT A COMMITTED ROW CHOSE

pub chosen : (t : Table) (r : Row) (j : Joined) → IsLawful (ledger_of t) → joined_at t r ≡ Some j → is_some (offer_at t r j.own) ≡ true
unfolding commit_named
chosen t r j law h = by j.partner (offer_at t r j.own) ((law_at t law).named r j h)
  where
    by : (partner : Option (Row × ℕ)) (own : Option Offer) → is_some (commit_by (offer_at t) r j partner own) ≡ true → is_some own ≡ true
    by None None k = k
    by (Some p) None k = k
    by None (Some o) k = refl
    by (Some p) (Some o) k = refl

pub chosen_names : (t : Table) (r : Row) (j : Joined) (own : Offer) → IsLawful (ledger_of t) → joined_at t r ≡ Some j → offer_at t r j.own ≡ Some own → is_some (commit_by (offer_at t) r j j.partner (Some own)) ≡ true
unfolding commit_named
chosen_names t r j own law h e = ap (λ (o : Option Offer). is_some (commit_by (offer_at t) r j j.partner o)) (sym e) ∙ (law_at t law).named r j h

-- what a row tells that is committed
pub told_joined : (joined : Row → Option Joined) (offer : Row → ℕ → Option Offer) (r : Row) (j : Joined) → joined r ≡ Some j → told_at joined offer r ≡ cond (tells joined (offer r j.own) j.partner) (commit_named offer r j) None
unfolding told_at
told_joined joined offer r j e = ap (told_by joined offer r) e

-- one of a pair tells what it names, where it sends or its partner is not committed yet
pub told_paired : (joined : Row → Option Joined) (offer : Row → ℕ → Option Offer) (r : Row) (j : Joined) (p : Row × ℕ) (sends waits : Bool) → joined r ≡ Some j → j.partner ≡ Some p → is_send (offer r j.own) ≡ sends → is_none (joined p.0) ≡ waits → told_at joined offer r ≡ cond (sends || waits) (commit_named offer r j) None
told_paired joined offer r j p sends waits e partner f g =
    told_joined joined offer r j e
    ∙ (λ i. cond (tells joined (offer r j.own) (partner i)) (commit_named offer r j) None)
    ∙ (λ i. cond (f i || g i) (commit_named offer r j) None)

-- a row that is not committed tells none
pub told_unjoined : (joined : Row → Option Joined) (offer : Row → ℕ → Option Offer) (r : Row) → joined r ≡ None → told_at joined offer r ≡ None
unfolding told_at
told_unjoined joined offer r e = ap (told_by joined offer r) e

-- and one that has no partner tells what it names
pub told_single : (joined : Row → Option Joined) (offer : Row → ℕ → Option Offer) (r : Row) → is_some (option_and_then (λ (k : Joined). k.partner) (joined r)) ≡ false → told_at joined offer r ≡ named_at joined offer r
told_single joined offer r alone = ⊎_elim
    (λ (e : joined r ≡ None). told_unjoined joined offer r e ∙ sym (ap (option_and_then (commit_named offer r)) e))
    (λ (j : (j : Joined) × (joined r ≡ Some j)).
    let none : j.0.partner ≡ None = none_from j.0.partner (sym (ap (λ (o : Option Joined). is_some (option_and_then (λ (k : Joined). k.partner) o)) j.1) ∙ alone) in
    told_joined joined offer r j.0 j.1
    ∙ (λ i. cond (tells joined (offer r j.0.own) (none i)) (commit_named offer r j.0) None)
    ∙ sym (ap (option_and_then (commit_named offer r)) j.1))
    (cases_Option (joined r))

-- a row that a commit takes is opened
taken_open : (t : Table) (r : Row) (c : Commit) (n : ℕ) → IsLawful (ledger_of t) → IsIn (joined_at t) (offer_at t) c → Takes c r n → is_fresh (cell_at t r) ≡ false
taken_open t r c n law h k = open_of_count t r n (offer_counted t r n (by_commit c ((law_at t law).fits c h) k))
  where
    there : (at : Row × ℕ) (b : Base) → Offers (offer_at t) at b → at ≡ (r, n) → is_some (offer_at t r n) ≡ true
    there at b o e = sym (ap (λ (z : Row × ℕ). is_some (offer_at t z.0 z.1)) e) ∙ ap (λ (x : Option Offer). is_some x) o.1

    by_cause : (at : Row × ℕ) (k : Cause) → IsCaused (joined_at t) (offer_at t) (marks_at t) at k → at ≡ (r, n) → is_some (offer_at t r n) ≡ true
    by_cause at (cause.Always m) o e = there at (Always m) o e
    by_cause at (cause.Nack x) o e = there at (OnNack x) o.0 e
    by_cause at (cause.End x) o e = there at (OnEnd x) o.0 e

    by_commit : (c : Commit) → Fits (joined_at t) (offer_at t) (marks_at t) c → Takes c r n → is_some (offer_at t r n) ≡ true
    by_commit (Pair s v chan m stamp) f k = ⊎_elim
        (λ (e : s ≡ (r, n)). there s (Send chan m) f.1 e)
        (λ (e : v ≡ (r, n)). there v (Recv chan) f.2 e)
        k
    by_commit (Alone at why stamp) f k = by_cause at why f k

-- the partner of a committed row is opened
pub partner_is_open : (t : Table) (r : Row) (j : Joined) (p : Row × ℕ) → IsLawful (ledger_of t) → joined_at t r ≡ Some j → j.partner ≡ Some p → is_fresh (cell_at t p.0) ≡ false
partner_is_open t r j p law is e =
    let c = some_parts (commit_named (offer_at t) r j) ((law_at t law).named r j is) in
    let member : IsIn (joined_at t) (offer_at t) c.0 = record { row = r; way = j; is_joined = is; is_named = c.1 } in
    taken_open t p.0 c.0 p.1 law member ((named_rows (offer_at t) r j c.0 c.1).other p e)

-- no row names a Fresh one
pub fresh_unnamed : (t : Table) (r : Row) → IsLawful (ledger_of t) → is_fresh (cell_at t r) ≡ true → (q : Row) → names (joined_at t q) r ≡ false
fresh_unnamed t r law fresh q = ⊎_elim
    (λ (h : names (joined_at t q) r ≡ true).
    let m = naming (joined_at t q) r h in
    let c = some_parts (commit_named (offer_at t) q m.way) ((law_at t law).named q m.way m.is) in
    let member : IsIn (joined_at t) (offer_at t) c.0 = record { row = q; way = m.way; is_joined = m.is; is_named = c.1 } in
    let takes : Takes c.0 r m.place.1 = subst (λ (x : Row). Takes c.0 x m.place.1) m.row ((named_rows (offer_at t) q m.way c.0 c.1).other m.place m.partner) in
    absurd (true≢false (sym fresh ∙ taken_open t r c.0 m.place.1 law member takes)))
    (λ (h : names (joined_at t q) r ≡ false). h)
    (cases_Bool (names (joined_at t q) r))

-- BEHIND A FRESH ROW

none_behind : (t : Table) (thread sync n : ℕ) → IsLawful (ledger_of t) → is_fresh (cell_at t (record { thread = thread; sync = sync })) ≡ true → sync ≤ n → joined_at t (record { thread = thread; sync = n }) ≡ None
none_behind t thread sync n law fresh b = ⊎_elim
    (λ (e : joined_at t (record { thread = thread; sync = n }) ≡ None). e)
    (λ (j : (j : Joined) × (joined_at t (record { thread = thread; sync = n }) ≡ Some j)). absurd (true≢false (sym fresh ∙ opened j.0 j.1)))
    (cases_Option (joined_at t (record { thread = thread; sync = n })))
  where
    opened : (j : Joined) → joined_at t (record { thread = thread; sync = n }) ≡ Some j → is_fresh (cell_at t (record { thread = thread; sync = sync })) ≡ false
    opened j h = ⊎_elim
        (λ (e : sync ≡ n). ap (λ k. is_fresh (cell_at t (record { thread = thread; sync = k }))) e ∙ fresh_not_joined (cell_at t (record { thread = thread; sync = n })) j h)
        (λ (e : sync ≡ n → ⊥).
        let c = some_parts (commit_named (offer_at t) (record { thread = thread; sync = n }) j) ((law_at t law).named (record { thread = thread; sync = n }) j h) in
        let member : IsIn (joined_at t) (offer_at t) c.0 = record { row = record { thread = thread; sync = n }; way = j; is_joined = h; is_named = c.1 } in
        let before = (law_at t law).in_turn c.0 thread n sync member (j.own, (named_rows (offer_at t) (record { thread = thread; sync = n }) j c.0 c.1).own) (omega (arith, e)) in
        taken_open t (record { thread = thread; sync = sync }) before.0 before.2.0 law before.1 before.2.1)
        (cases_eq sync n)

-- no row from a Fresh one on tells a commit
pub commits_end : (t : Table) (thread sync n : ℕ) → IsLawful (ledger_of t) → is_fresh (cell_at t (record { thread = thread; sync = sync })) ≡ true → sync ≤ n → commits_of (rows_below thread n) (joined_at t) (offer_at t) ≡ commits_of (rows_below thread sync) (joined_at t) (offer_at t)
unfolding told_at
commits_end t thread sync zero law fresh b = ap (λ k. commits_of (rows_below thread k) (joined_at t) (offer_at t)) (let e : zero ≡ sync = omega arith in e)
commits_end t thread sync (suc n) law fresh b = ⊎_elim
    (λ (e : sync ≡ suc n). ap (λ k. commits_of (rows_below thread k) (joined_at t) (offer_at t)) (sym e))
    (λ (e : sync ≡ suc n → ⊥).
    let before : sync ≤ n = omega (arith, e) in
    commits_push (rows_below thread n) (record { thread = thread; sync = n }) (joined_at t) (offer_at t)
    ∙ ap (λ (o : Option Joined). commits_of (rows_below thread n) (joined_at t) (offer_at t) ++ option_to_list (told_by (joined_at t) (offer_at t) (record { thread = thread; sync = n }) o)) (none_behind t thread sync n law fresh before)
    ∙ append-nil (commits_of (rows_below thread n) (joined_at t) (offer_at t))
    ∙ commits_end t thread sync n law fresh before)
    (cases_eq sync (suc n))

-- nor names a row
pub namer_end : (t : Table) (thread sync n : ℕ) (x : Row) → IsLawful (ledger_of t) → is_fresh (cell_at t (record { thread = thread; sync = sync })) ≡ true → sync ≤ n → namer_of (rows_below thread sync) (joined_at t) x ≡ None → namer_of (rows_below thread n) (joined_at t) x ≡ None
namer_end t thread sync zero x law fresh b none = ap (λ k. namer_of (rows_below thread k) (joined_at t) x) (let e : zero ≡ sync = omega arith in e) ∙ none
namer_end t thread sync (suc n) x law fresh b none = ⊎_elim
    (λ (e : sync ≡ suc n). ap (λ k. namer_of (rows_below thread k) (joined_at t) x) (sym e) ∙ none)
    (λ (e : sync ≡ suc n → ⊥).
    let before : sync ≤ n = omega (arith, e) in
    namer_push (rows_below thread n) (record { thread = thread; sync = n }) x (joined_at t)
    (namer_end t thread sync n x law fresh before none)
    (ap (λ (o : Option Joined). names o x) (none_behind t thread sync n law fresh before)))
    (cases_eq sync (suc n))

-- nor is pending
pub pending_end : (t : Table) (thread sync n : ℕ) → IsLawful (ledger_of t) → is_fresh (cell_at t (record { thread = thread; sync = sync })) ≡ true → sync ≤ n → pending_of (rows_below thread n) (joined_at t) ≡ pending_of (rows_below thread sync) (joined_at t)
pending_end t thread sync zero law fresh b = ap (λ k. pending_of (rows_below thread k) (joined_at t)) (let e : zero ≡ sync = omega arith in e)
pending_end t thread sync (suc n) law fresh b = ⊎_elim
    (λ (e : sync ≡ suc n). ap (λ k. pending_of (rows_below thread k) (joined_at t)) (sym e))
    (λ (e : sync ≡ suc n → ⊥).
    let before : sync ≤ n = omega (arith, e) in
    let none : ◌≡◌ {A = ℕ} (cond (is_pending (joined_at t) (joined_at t (record { thread = thread; sync = n }))) 1 0) 0 =
    ap (λ (o : Option Joined). cond (is_pending (joined_at t) o) 1 0) (none_behind t thread sync n law fresh before) in
    let push = pending_push (rows_below thread n) (record { thread = thread; sync = n }) (joined_at t) in
    let rest = pending_end t thread sync n law fresh before in
    omega arith)
    (cases_eq sync (suc n))

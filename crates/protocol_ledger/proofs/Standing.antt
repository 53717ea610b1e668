-- An opened row offers what it was opened with, and the results before it stay: so it stands as it was opened.
use Rattle.std.proofs.Common.{◌≡◌, ℕ, ◌≤◌, true, false, List, [], ◌∷◌, Option, is_some, sym, ap, ◌∙◌, subst, ⊎_elim}
use Rattle.std.proofs.lemmas.Bool.{true≢false}
use Rattle.protocol_values.specs.declared.Binding.{Binding}
use Rattle.protocol_values.specs.declared.NackName.{NackName}
use Rattle.protocol_values.specs.declared.Offer.{Offer}
use Rattle.protocol_values.specs.declared.Row.{Row}
use Rattle.protocol_values.specs.declared.Seat.{Seat}
use Rattle.protocol_values.specs.declared.Step.{Step}
use Rattle.protocol_values.specs.declared.Step.TheVariants.{Open}
use Rattle.protocol_ledger.specs.Growing.{GrowsTo}
use Rattle.protocol_ledger.specs.Kept.{Kept}
use Rattle.protocol_ledger.specs.Ledgers.{binding_in, ledger_of, offer_in}
use Rattle.protocol_ledger.specs.Standing.{AreResults, EachOffersAs, EachOpenedAs, EachStands, OffersAs, OpenedAs, Result, binding_of}
use Rattle.protocol_ledger.specs.Tables.{Table, binding_at, cell_at, is_fresh, offer_at}
use Rattle.protocol_ledger.specs.Worlds.{Allowed, Plays, World, after_step, nack_of_row, start_world}
use Rattle.protocol_ledger.proofs.Keeping.{kept_step}
use Rattle.protocol_ledger.proofs.LedgerLemmas.{binding_in_ledger, kept_start, offer_in_ledger, start_cell}
use Rattle.protocol_ledger.proofs.Onward.{commit-stays, grows-step, opens-step}
use Rattle.protocol_ledger.proofs.Readings.{offer_counted, open_of_count}

offers-of : (t : Table) (r : Row) (n : ℕ) → offer_in (ledger_of t) r n ≡ offer_at t r n
offers-of t r n = ap (λ (f : Row → ℕ → Option Offer). f r n) (offer_in_ledger t)

binding-of : (t : Table) (n : NackName) → binding_in (ledger_of t) n ≡ binding_at t n
binding-of t n = ap (λ (f : NackName → Option Binding). f n) (binding_in_ledger t)

pub results-stay : (w : World) (u : Table) (t : ℕ) (results : List Result) → Kept w → GrowsTo w.table u → AreResults (ledger_of w.table) t results → AreResults (ledger_of u) t results
results-stay w u t results k g are n x h = let c = are n x h in (c.0, commit-stays w u c.0 k g c.1, c.2)

module _ (stands : ℕ → List Result → List Offer → List ℕ → Type 0) where
  pub offers-stay : (w : World) (u : Table) (r : Row) → Kept w → GrowsTo w.table u → is_fresh (cell_at w.table r) ≡ false → OffersAs stands (ledger_of w.table) r → OffersAs stands (ledger_of u) r
  offers-stay w u r k g open_r o = record {
    results = o.results;
    count = o.count;
    are = results-stay w u r.thread o.results k g o.are;
    offers = o.offers;
    nacks = o.nacks;
    standing = o.standing;
    offered = λ n x h. o.offered n x (offers-of w.table r n ∙ sym (g.offers r n open_r) ∙ sym (offers-of u r n) ∙ h);
    whole = λ n x h. offers-of u r n ∙ g.offers r n open_r ∙ sym (offers-of w.table r n) ∙ o.whole n x h;
    bound = λ scope n h. binding-of u (nack_of_row r n) ∙ g.bound (nack_of_row r n) (binding_of r scope) (sym (binding-of w.table (nack_of_row r n)) ∙ o.bound scope n h);
    no_others = λ scope n h. o.no_others scope n (binding-of w.table (nack_of_row r n) ∙ g.unbound (nack_of_row r n) (binding_of r scope) open_r (sym (binding-of u (nack_of_row r n)) ∙ h));
  }

  -- a step keeps it, where the row that it opens stands
  pub stands-step : (w : World) (seat : Seat) (step : Step) → Kept w → Allowed w seat step → EachStands stands w.table → OpenedAs stands (after_step w seat step).table step → EachStands stands (after_step w seat step).table
  stands-step w seat step k allowed old new r h = ⊎_elim
      (λ (was : is_fresh (cell_at w.table r) ≡ false). offers-stay w (after_step w seat step).table r k (grows-step w seat step k allowed) was (old r was))
      (λ (e : step ≡ Open r). subst (λ (z : Step). OpenedAs stands (after_step w seat step).table z) e new)
      (opens-step w seat step k allowed r h)

  stands-along : (w v : World) (steps : List (Seat × Step)) → Kept w → EachStands stands w.table → Plays w steps v → EachOpenedAs stands w steps → EachStands stands v.table
  stands-along w v [] k all plays opens = subst (λ (z : World). EachStands stands z.table) (sym plays) all
  stands-along w v (s ∷ steps) k all plays opens =
      stands-along (after_step w s.0 s.1) v steps (kept_step w s.0 s.1 k plays.0) (stands-step w s.0 s.1 k plays.0 all opens.0) plays.1 opens.1

  pub stands-start : (threads rows seats later : ℕ) → EachStands stands (start_world threads rows seats later).table
  unfolding start_world
  stands-start threads rows seats later r h = absurd (true≢false (sym (ap is_fresh (start_cell threads rows later r)) ∙ h))

  -- a row that has an offer is opened
  pub stands-ledger : (t : Table) → EachStands stands t → EachOffersAs stands (ledger_of t)
  stands-ledger t all r n o h =
      let there : is_some (offer_at t r n) ≡ true = ap (λ (x : Option Offer). is_some x) (sym (offers-of t r n) ∙ h) in
      all r (open_of_count t r n (offer_counted t r n there))

  -- so they stand at any moment of a schedule whose rows are opened so
  pub rows-stand : (threads rows seats later : ℕ) (steps : List (Seat × Step)) (w : World) → threads ≤ 64 → rows ≤ 1024 → Plays (start_world threads rows seats later) steps w → EachOpenedAs stands (start_world threads rows seats later) steps → EachStands stands w.table
  rows-stand threads rows seats later steps w few_threads few_rows plays opens =
      stands-along (start_world threads rows seats later) w steps (kept_start threads rows seats later few_threads few_rows) (stands-start threads rows seats later) plays opens

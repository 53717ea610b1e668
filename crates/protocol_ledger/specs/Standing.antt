-- What rows offer by the results of their threads: whoever stands for a thread offers something after these results.
use Rattle.std.specs.Prelude.{◌≡◌, ℕ, ◌+◌, ◌<◌, ⊤, false, Option, Some, List, [], ◌∷◌, ◌++◌, length, slice_get}
use Rattle.protocol_values.specs.declared.Base.{Base}
use Rattle.protocol_values.specs.declared.Base.TheVariants.{Send, Recv, Always, OnNack, OnEnd, Never}
use Rattle.protocol_values.specs.declared.Binding.{Binding}
use Rattle.protocol_values.specs.declared.Commit.{Commit}
use Rattle.protocol_values.specs.declared.Message.{Message}
use Rattle.protocol_values.specs.declared.Message.TheVariants.{Empty}
use Rattle.protocol_values.specs.declared.Offer.{Offer}
use Rattle.protocol_values.specs.declared.Row.{Row}
use Rattle.protocol_values.specs.declared.Seat.{Seat}
use Rattle.protocol_values.specs.declared.Step.{Step}
use Rattle.protocol_values.specs.declared.Step.TheVariants.{Open}
use Rattle.protocol_values.specs.Commits.{Gives}
use Rattle.protocol_ledger.specs.Ledgers.{Ledger, HasCommit, Involves, IsLawful, binding_in, ledger_of, offer_in}
use Rattle.protocol_ledger.specs.Tables.{Table, cell_at, is_fresh}
use Rattle.protocol_ledger.specs.Worlds.{World, after_step, nack_of_row}

-- RESULTS

-- the number of the offer that was taken, and a message
abbrev pub Result : Type 0
Result = ℕ × Message

-- these are the results of the first syncs of a thread, by the commits of the ledger
abbrev pub AreResults : Ledger → ℕ → List Result → Type 0
AreResults l t results =
    (g : ℕ) (result : Result) → slice_get results g ≡ Some result → (c : Commit) × HasCommit l c × Gives c (record { thread = t; sync = g }) result

-- what a row that is committed with this partner gets, by the base event that it chose: the message that it received, or that
-- of its own always, else none
abbrev pub Receives : (Row → ℕ → Option Offer) → Option (Row × ℕ) → Base → Message → Type 0
Receives offer partner (Send c m) got = got ≡ Empty
Receives offer partner (Recv c) got = (p : Row × ℕ) × (d : ℕ) × (o : Offer) × (partner ≡ Some p) × (offer p.0 p.1 ≡ Some o) × (o.base ≡ Send d got)
Receives offer partner (Always m) got = got ≡ m
Receives offer partner (OnNack n) got = got ≡ Empty
Receives offer partner (OnEnd p) got = got ≡ Empty
Receives offer partner Never got = got ≡ Empty

-- OFFERS. `stands t results offers nacks` says: after these results thread t offers these, with these nacks of their scopes.

-- where the nack of a scope of the row is bound
abbrev pub binding_of : Row → ℕ → Binding
binding_of r scope = record { sync = r.sync; scope = scope }

-- The row's offers are what its thread offers after the results of the rows before it, no others and no fewer, and the nacks that
-- are bound to it are those of their scopes.
pub record OffersAs (stands : ℕ → List Result → List Offer → List ℕ → Type 0) (l : Ledger) (r : Row) : Type 0 where
  pub results : List Result
  pub count : length results ≡ r.sync
  pub are : AreResults l r.thread results
  pub offers : List Offer
  pub nacks : List ℕ
  pub standing : stands r.thread results offers nacks
  pub offered : (n : ℕ) (o : Offer) → offer_in l r n ≡ Some o → slice_get offers n ≡ Some o
  pub whole : (n : ℕ) (o : Offer) → slice_get offers n ≡ Some o → offer_in l r n ≡ Some o
  pub bound : (scope k : ℕ) → slice_get nacks scope ≡ Some k → binding_in l (nack_of_row r k) ≡ Some (binding_of r scope)
  pub no_others : (scope k : ℕ) → binding_in l (nack_of_row r k) ≡ Some (binding_of r scope) → slice_get nacks scope ≡ Some k

-- each row that offers something does so
abbrev pub EachOffersAs : (ℕ → List Result → List Offer → List ℕ → Type 0) → Ledger → Type 0
EachOffersAs stands l = (r : Row) (n : ℕ) (o : Offer) → offer_in l r n ≡ Some o → OffersAs stands l r

-- each opened row of a table does so
abbrev pub EachStands : (ℕ → List Result → List Offer → List ℕ → Type 0) → Table → Type 0
EachStands stands t = (r : Row) → is_fresh (cell_at t r) ≡ false → OffersAs stands (ledger_of t) r

-- VALUES THAT STAND FOR THREADS. Where the values `first` stood for them at first, thread by thread, and None for one that had
-- ended, this value stands for the thread after these results,
pub record Stands (M : Type 0) : Type 1 where
  -- whatever it does there,
  pub follows : List (Option M) → M → ℕ → List Result → Type 0
  -- and offers these, with these nacks of its scopes,
  pub offers : List (Option M) → M → ℕ → List Result → List Offer → List ℕ → Type 0
  -- and has started the other thread behind the last of them, and not before,
  pub starts : List (Option M) → M → ℕ → List Result → ℕ → Type 0
  -- and has ended
  pub ends : List (Option M) → M → ℕ → List Result → Type 0

module _ {M : Type 0} (stands : Stands M) where
  -- some value stands so
  abbrev pub SomeStands : List (Option M) → ℕ → List Result → List Offer → List ℕ → Type 0
  SomeStands first t results offers nacks = (value : M) × stands.offers first value t results offers nacks

  -- what the value that comes out with a taken row, joined as j, is still to be given: it stands after the earlier results of
  -- the row's thread, of which the last one is left, and offered what the row took
  pub record IsLeft (first : List (Option M)) (value : M) (r : Row) (own : ℕ) (results : List Result) (got : Message) : Type 0 where
    pub earlier : List Result
    pub whole : results ≡ earlier ++ (own, got) ∷ []
    pub count : length earlier ≡ r.sync
    pub offers : List Offer
    pub nacks : List ℕ
    pub standing : stands.offers first value r.thread earlier offers nacks
    pub below : own < length offers

-- SCHEDULES

-- of a step that led to this table
abbrev pub OpenedAs : (ℕ → List Result → List Offer → List ℕ → Type 0) → Table → Step → Type 0
OpenedAs stands t (Open row) = OffersAs stands (ledger_of t) row
OpenedAs stands t step = ⊤

-- each row is opened so
abbrev pub EachOpenedAs : (ℕ → List Result → List Offer → List ℕ → Type 0) → World → List (Seat × Step) → Type 0
EachOpenedAs stands w [] = ⊤
EachOpenedAs stands w (s ∷ steps) = OpenedAs stands (after_step w s.0 s.1).table s.1 × EachOpenedAs stands (after_step w s.0 s.1) steps

-- RESULTS of a lawful ledger: where a row is in a commit, its thread has one result for each row up to it
abbrev pub HaveResults : Type 0
HaveResults =
    (l : Ledger) (c : Commit) (t g : ℕ) → IsLawful l → HasCommit l c → Involves c (record { thread = t; sync = g }) →
    (results : List Result) × (length results ≡ g + 1) × AreResults l t results

-- and as many results of a thread are the same
abbrev pub OneResults : Type 0
OneResults = (l : Ledger) (t : ℕ) (first second : List Result) → IsLawful l → length first ≡ length second → AreResults l t first → AreResults l t second → first ≡ second

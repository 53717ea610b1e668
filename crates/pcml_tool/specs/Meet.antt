-- The one pair in which a number is sent, and its line.
use Rattle.std.specs.Prelude.{◌≡◌, ◌⊎◌, ℕ, ◌<◌, ◌≤◌, ◌++◌, None, Some, List, [], ◌∷◌, codes}
use Rattle.std.specs.Fmt.{decimal}
use Rattle.protocol_values.specs.declared.Row.{Row}
use Rattle.protocol_values.specs.declared.Atom.TheVariants.{Num}
use Rattle.protocol_values.specs.declared.Message.TheVariants.{One}
use Rattle.protocol_values.specs.declared.Base.TheVariants.{Send, Recv}
use Rattle.protocol_values.specs.declared.Offer.{Offer}
use Rattle.protocol_values.specs.declared.Commit.{Commit}
use Rattle.protocol_values.specs.declared.Commit.TheVariants.{Pair}
use Rattle.protocol_ledger.specs.Ledgers.{Ledger, IsLawful, course_in, offer_in}
use Rattle.protocol_ledger.specs.Tables.{start_of}
use Rattle.cell.specs.Calls.{Grid, PassView, IsPassOf, IsRowOf}
use Rattle.cell_table.specs.Rule.{seen_nothing}
use Rattle.cell_table.specs.Sight.{Has, IsDraft}

-- the first row of a thread
abbrev pub first_row : ℕ → Row
first_row thread = record { thread = thread; sync = 0 }

-- offer 0 of thread 0 met offer 0 of thread 1 on channel 0, as the first commit
abbrev pub meeting_of : ℕ → Commit
meeting_of value = Pair (first_row 0, 0) (first_row 1, 0) 0 (One (Num value)) 1

-- its line
abbrev pub meeting_line : ℕ → List ℕ
meeting_line value = codes "1 0.0.0 -> 1.0.0 0 (" ++ decimal value ++ codes ")" ++ 10 ∷ []

-- the offer of either thread
abbrev pub send_of : ℕ → Offer
send_of value = record { base = Send 0 (One (Num value)); scopes = 0 }

abbrev pub receive_offer : Offer
receive_offer = record { base = Recv 0; scopes = 0 }

-- the pass holds this row, which has room for an offer, and has seen nothing
abbrev pub IsReady : Grid → PassView → Row → Type 0
IsReady cells pass row = IsPassOf cells pass × IsRowOf cells row × (pass.seen ≡ seen_nothing (row ∷ [])) × (1 ≤ cells.layout.offers)

-- the pass has opened its row with this one offer
abbrev pub HasTakenPart : Grid → PassView → Row → Offer → Type 0
HasTakenPart cells pass row offer = IsPassOf cells pass × Has pass.seen.held row × Has pass.seen.opened row × IsDraft pass.seen row (offer ∷ [])

-- the ledger of a table of two rows, with one offer each, whose threads started with stamp 0
pub record HasTwoOffers (value : ℕ) (l : Ledger) : Type 0 where
  pub threads : l.threads ≡ 2
  pub rows : l.rows ≡ 1
  pub lawful : IsLawful l
  pub starts : (t : ℕ) → t < 2 → start_of (course_in l t) ≡ 0
  pub sends : offer_in l (first_row 0) 0 ≡ Some (send_of value)
  pub sends_alone : (n : ℕ) → 1 ≤ n → offer_in l (first_row 0) n ≡ None
  pub receives : offer_in l (first_row 1) 0 ≡ Some receive_offer
  pub receives_alone : (n : ℕ) → 1 ≤ n → offer_in l (first_row 1) n ≡ None

-- what `meet` may print: the line of the pair, or nothing where the two did not meet
abbrev pub PrintsMeeting : ℕ → List ℕ → Type 0
PrintsMeeting value text = (text ≡ meeting_line value) ⊎ (text ≡ [])

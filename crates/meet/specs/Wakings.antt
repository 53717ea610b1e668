-- What a waking comes to, and which steps of the protocol it makes.
use Rattle.std.specs.Prelude.{◌≡◌, ◌≢◌, ℕ, List, [], ◌∷◌, None, All}
use Rattle.std.specs.List.{AllPairs}
use Rattle.protocol_values.specs.declared.Base.{Base}
use Rattle.protocol_values.specs.declared.Joined.{Joined}
use Rattle.protocol_values.specs.declared.Offer.{Offer}
use Rattle.protocol_values.specs.declared.Row.{Row}
use Rattle.protocol_values.specs.declared.Step.{Step}
use Rattle.protocol_values.specs.declared.Step.TheVariants.{Grant}
use Rattle.cell_table.specs.declared.view.Seen.{Seen}
use Rattle.cell_table.specs.Nacks.{IsReadyAlone}
use Rattle.cell_table.specs.Sight.{Has, SawCommitted, SeesOffer}
use Rattle.cell.specs.Calls.{PassOf}

-- the base event of offer n of the row, as the offer was seen
abbrev pub IsBaseOf : Seen → Row → ℕ → Base → Type 0
IsBaseOf s r n base = (o : Offer) × SeesOffer s r n o × (o.base ≡ base)

-- the row was seen committed alone by an offer that was seen to be this base event, and what lets that do so was seen: a nack
-- enabled, or a thread ended
pub record IsGrantedBy (s : Seen) (base : Base) (r : Row) : Type 0 where
  pub joined : Joined
  pub committed : Has s.joined (r, joined)
  pub alone : joined.partner ≡ None
  pub offer : Offer
  pub chosen : SeesOffer s r joined.own offer
  pub waits : offer.base ≡ base
  pub ready : IsReadyAlone s base

-- the row had not been seen committed, and is now seen granted so
abbrev pub IsWoken : Seen → Seen → Base → Row → Type 0
IsWoken s t base r = (¬ SawCommitted s r) × IsGrantedBy t base r

-- each of the rows was woken between these views, and none is named twice
abbrev pub Names : Seen → Seen → Base → List Row → Type 0
Names s t base rows = All (IsWoken s t base) rows × AllPairs (λ a b. a ≢ b) rows

-- the rows were granted in this order, each once, and nothing else was done
abbrev pub GrantsEach : List Row → List Step → List Step → Type 0
GrantsEach [] before after = after ≡ before
GrantsEach (r ∷ rows) before after = (n : ℕ) × GrantsEach rows (Grant r n ∷ before) after

-- the pass has granted these rows between the two, each by the base event, and nobody else
abbrev pub Wakes : {M : Type 0} → Base → PassOf M → PassOf M → List Row → Type 0
Wakes base before after rows = Names before.seen after.seen base rows × GrantsEach rows before.made after.made

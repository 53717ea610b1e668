-- What one pass has seen, another has seen too, once it was told.
use Rattle.std.specs.Prelude.{◌≡◌, ◌⊎◌, ◌+◌, ℕ, List, length}
use Rattle.protocol_values.specs.declared.Binding.{Binding}
use Rattle.protocol_values.specs.declared.Joined.{Joined}
use Rattle.protocol_values.specs.declared.NackName.{NackName}
use Rattle.protocol_values.specs.declared.Offer.{Offer}
use Rattle.protocol_values.specs.declared.Row.{Row}
use Rattle.protocol_values.specs.declared.Step.{Step}
use Rattle.protocol_ledger.specs.Standing.{Result}
use Rattle.cell_table.specs.Sight.{Has, SeesNoOffer, SeesOffer}
use Rattle.cell.specs.Calls.{GathererOf, HasSteps, PassOf}

pub record HasHeard {M : Type 0} (told p : PassOf M) : Type 0 where
  pub offers : (r : Row) (n : ℕ) (o : Offer) → SeesOffer told.seen r n o → SeesOffer p.seen r n o
  pub lacks : (r : Row) (n : ℕ) → SeesNoOffer told.seen r n → SeesNoOffer p.seen r n
  pub joined : (r : Row) (j : Joined) → Has told.seen.joined (r, j) → Has p.seen.joined (r, j)
  pub bound : (n : NackName) (b : Binding) → Has told.seen.bound (n, b) → Has p.seen.bound (n, b)
  pub carried : (n : NackName) (stamp : ℕ) → Has told.seen.carried (n, stamp) → Has p.seen.carried (n, stamp)
  pub started : (t stamp : ℕ) → Has told.seen.started (t, stamp) → Has p.seen.started (t, stamp)
  pub ended : (t g : ℕ) → Has told.seen.ended (t, g) → Has p.seen.ended (t, g)
  pub results : (t : ℕ) (results : List Result) → Has told.results (t, results) → Has p.results (t, results)

-- Of these passes all but those that are left have left the table to this one, which was one of them. Others had before.
pub record HasGathered {M : Type 0} (passes left : List (PassOf M)) (p : GathererOf M) : Type 0 where
  pub before : List (ℕ × List Step)
  pub count : length p.gathered + 1 + length left ≡ length before + length passes
  pub own : (q : PassOf M) × Has passes q × (q.made ≡ p.pass.made)
  pub from : (seat : ℕ) (steps : List Step) → Has p.gathered (seat, steps) → Has before (seat, steps) ⊎ ((q : PassOf M) × Has passes q × (q.made ≡ steps))
  pub each : (q : PassOf M) → Has passes q → HasSteps p q.made ⊎ Has left q
  pub within : (q : PassOf M) → Has left q → Has passes q
